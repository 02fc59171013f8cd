-- The headers above an element of a drawing are the elements at their numbers.
use Rattle.std.proofs.Common.{◌≡◌, ℕ, zero, suc, ◌+◌, ◌-◌, List, [], ◌∷◌, ◌++◌, length, drop, refl, sym, ap, ◌∙◌, arith, append_assoc, inl, inr}
use Rattle.std.specs.Prelude.{nat_lt}
use Rattle.std.proofs.lemmas.List.{append-nil}
use Rattle.std.proofs.lemmas.Bool.{cases_Bool, cond-true, cond-false}
use Rattle.dgn_drawing.specs.Element.{Element}
use Rattle.dgn_drawing.specs.Spelling.{spelling, size_of}
use Rattle.dgn_drawing.specs.Rows.{row_of}
use Rattle.dgn_drawing.specs.Nesting.{Forest, NoTree, Tree, flat, forest}
use Rattle.dgn_drawing.specs.Numbering.{end_of, headers_in, headers_of}
use Rattle.nest_tree.proofs.NestingSteps.{flat-forest}
use Rattle.elem_index.specs.Offsets.{offset_of}
use Rattle.edit_ops.specs.Trees.{Live, count_in, above_from, above_tree}
use Rattle.edit_ops.specs.Written.{lives_of}
use Rattle.edit_ops.proofs.PartPlace.{first_left, others_left}
use Rattle.dgn_drawing.proofs.ListRests.{drop_front}
use Rattle.edit_ops.proofs.LiveFound.{offset_next, offset_behind, found_first}

-- the headers above an element of trees that stand in a drawing are those at their numbers
found_above_in : (es : List Element) (f : Forest Element) (n first p : ℕ) (behind : List Element) → drop first es ≡ flat f ++ behind → p ≡ offset_of es first
    → lives_of es (headers_in n first f) ≡ above_from n first p f
found_above_in es NoTree n first p behind left at = refl
found_above_in es (Tree knot e below others) zero first p behind left at = refl
found_above_in es (Tree knot e below others) (suc n) first p behind left at =
    let there = first_left es first e ((flat below ++ flat others) ++ behind) left in
    let next : drop (first + 1) es ≡ flat below ++ (flat others ++ behind)
    = others_left es first e ((flat below ++ flat others) ++ behind) left ∙ append_assoc (flat below) (flat others) behind in
    let at_next : p + size_of e ≡ offset_of es (first + 1) = omega (arith, offset_next es first e there) in
    let past : drop (end_of first below) es ≡ flat others ++ behind =
    drop_front es (flat below) (flat others ++ behind) (first + 1) (end_of first below) refl next in
    let at_past : p + (size_of e + length (spelling (flat below))) ≡ offset_of es (end_of first below)
    = omega (arith, offset_behind es (flat below) (flat others ++ behind) (first + 1) (end_of first below) refl next) in
    let here : Live = record { number = first; place = p; element = e } in
    let inner = found_above_in es below n (first + 1) (p + size_of e) (flat others ++ behind) next at_next in
    let outer = found_above_in es others (n - count_in below) (end_of first below) (p + (size_of e + length (spelling (flat below)))) behind past at_past in
    elim (cases_Bool (nat_lt n (count_in below))) [
      | inl within ↦
          ap (lives_of es) (cond-true (nat_lt n (count_in below)) (first ∷ headers_in n (first + 1) below)
          (headers_in (n - count_in below) (end_of first below) others) within)
          ∙ found_first es first p e (headers_in n (first + 1) below) there at
          ∙ ap (λ (vs : List Live). here ∷ vs) inner
          ∙ sym (cond-true (nat_lt n (count_in below)) (here ∷ above_from n (first + 1) (p + size_of e) below)
          (above_from (n - count_in below) (end_of first below) (p + (size_of e + length (spelling (flat below)))) others) within)
      | inr beyond ↦
          ap (lives_of es) (cond-false (nat_lt n (count_in below)) (first ∷ headers_in n (first + 1) below)
          (headers_in (n - count_in below) (end_of first below) others) beyond)
          ∙ outer
          ∙ sym (cond-false (nat_lt n (count_in below)) (here ∷ above_from n (first + 1) (p + size_of e) below)
          (above_from (n - count_in below) (end_of first below) (p + (size_of e + length (spelling (flat below)))) others) beyond)
    ]

-- so are those of an element of a drawing
pub found_above : (es : List Element) (n : ℕ) → lives_of es (headers_of row_of es n) ≡ above_tree es n
found_above es n = found_above_in es (forest row_of es) n 0 0 [] (sym (flat-forest row_of es) ∙ sym (append-nil (flat (forest row_of es)))) refl
