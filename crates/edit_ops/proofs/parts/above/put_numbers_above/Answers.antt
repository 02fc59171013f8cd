use Rattle.std.proofs.Common.{◌≡◌, ◌∙◌, sym, ap, ℕ, List, ◌++◌, ◌∷◌, [], reverse, append_assoc, arith}
use Rattle.std.proofs.lemmas.List.{reverse-append}
use Rattle.dgn_drawing.specs.Rows.{row_of}
use Rattle.dgn_drawing.specs.Numbering.{headers_of}
use Rattle.nest_tree.proofs.HeaderChains.{climbs, ends_climb}
use Rattle.elem_index.specs.Design.{elements}
use Rattle.edit_ops.specs.Written.{lives_of}
use Rattle.edit_ops.proofs.HeadersFound.{found_above}
use Rattle.edit_ops.proofs.parts.above.put_numbers_above.Goals as goal

-- one header more is found
one_more : (front above new : List ℕ) (q : ℕ) → new ≡ above ++ q ∷ [] → front ++ reverse new ≡ (front ++ q ∷ []) ++ reverse above
one_more front above new q is =
    ap (λ (l : List ℕ). front ++ reverse l) is ∙ ap (λ (l : List ℕ). front ++ l) (reverse-append above (q ∷ []))
    ∙ sym (append_assoc front (q ∷ []) (reverse above))

pub up-smaller : goal.up-smaller
up-smaller c = (climbs row_of (elements c.args.d.now) c.up.i c.in-Some.header c.in-Some.ensures).0

pub up-preserved : goal.up-preserved
up-preserved c =
    let up = climbs row_of (elements c.args.d.now) c.up.i c.in-Some.header c.in-Some.ensures in
    let less = up.0 in
    let within = c.up.invariant.0 in (
      omega arith,
      one_more (headers_of row_of (elements c.args.d.now) c.in-Some.header) c.up.above.items c.push.new.self.items c.in-Some.header c.in_ok-push.ensures.items
          ∙ ap (λ (l : List ℕ). l ++ reverse c.up.above.items) (sym up.1) ∙ c.up.invariant.1,
    )

pub returns : goal.returns
returns c =
    let none = ends_climb row_of (elements c.args.d.now) c.up.i c.in_default.ensures in
    record {
      found = ap (lives_of (elements c.args.d.now))
          (c.reverse.ensures.items ∙ ap (λ (l : List ℕ). l ++ reverse c.up.above.items) (sym none) ∙ c.up.invariant.1)
          ∙ found_above (elements c.args.d.now) c.args.n;
    }
