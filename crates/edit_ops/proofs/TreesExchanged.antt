-- Puts that turn the part of one element, and the headers above it, turn all trees.
use Rattle.std.proofs.Common.{◌≡◌, ℕ, zero, suc, ◌+◌, ◌-◌, ◌<◌, ◌≤◌, List, [], ◌∷◌, ◌++◌, length, take, Bool, true, false, refl, sym, ap, ◌∙◌, subst}
use Rattle.std.proofs.Common.{append_assoc, arith, length-append}
use Rattle.std.specs.Prelude.{nat_lt}
use Rattle.std.specs.List.{AllByRecursion, flat_map}
use Rattle.std.proofs.Math.Seq.{take-append-add}
use Rattle.std.proofs.lemmas.Grind.{flat_map-append}
use Rattle.std.proofs.lemmas.List.{append-nil, take-append-le}
use Rattle.std.proofs.lemmas.Bool.{ltb-true, ltb-false}
use Rattle.patch_bytes.specs.Puts.{Put}
use Rattle.dgn_drawing.specs.Element.{Element}
use Rattle.dgn_drawing.specs.Spelling.{spell, spelling, size_of}
use Rattle.dgn_drawing.specs.Nesting.{Knot, Forest, NoTree, Tree, flat}
use Rattle.dgn_drawing.specs.Numbering.{end_of}
use Rattle.edit_ops.specs.Trees.{count_in, tree_at, exchange, Live, above_from}
use Rattle.edit_ops.proofs.PartPlace.{flat-joined}
use Rattle.edit_ops.proofs.TextTurns.{Turns, turns_none, turns_then}
use Rattle.edit_ops.proofs.LivePuts.{spelled_tree, turns_as}
use Rattle.edit_ops.proofs.RowsKept.{above_side, tree_side, exchange_side}

-- the length of the spellings before an element that lies below the first head
pub before_below : (n : ℕ) (h : Element) (below behind : List Element) → n < length below
    → length (spelling (take (suc n) (h ∷ (below ++ behind)))) ≡ size_of h + length (spelling (take n below))
before_below n h below behind early =
    let front : take n (below ++ behind) ≡ take n below = take-append-le n below behind (omega arith) in
    ap (λ (l : List Element). length (spell h ++ spelling l)) front ∙ length-append (spell h) (spelling (take n below))

-- and before one behind the first tree
pub before_behind : (n m : ℕ) (h : Element) (below behind : List Element) → n ≡ length below + m
    → length (spelling (take (suc n) (h ∷ (below ++ behind)))) ≡ (size_of h + length (spelling below)) + length (spelling (take m behind))
before_behind n m h below behind is =
    let front : take n (below ++ behind) ≡ below ++ take m behind = ap (λ (k : ℕ). take k (below ++ behind)) is ∙ take-append-add below behind m in
    let all = ap (λ (l : List Element). length (spell h ++ spelling l)) front in
    let both : spelling (below ++ take m behind) ≡ spelling below ++ spelling (take m behind) = flat_map-append spell below (take m behind) in
    omega (
      arith,
      all,
      length-append (spell h) (spelling (below ++ take m behind)),
      ap (length {A = ℕ}) both,
      length-append (spelling below) (spelling (take m behind)),
    )

module _ (above : Element → Element) (other : Forest Element → Forest Element) (puts : ℕ → Element → List Put) (ps : List Put) where
  -- what is put into a header turns it
  abbrev pub HeaderTurns : Live → Type 0
  HeaderTurns v = Turns v.place (spell v.element) (puts v.place v.element) (spell (above v.element))

  -- what is put into headers
  abbrev pub header_puts : List Live → List Put
  header_puts vs = flat_map (λ v. puts v.place v.element) vs

  -- the part of an element, at place q, is turned, and so are the trees that hold it
  abbrev PartTurns : ℕ → ℕ → ℕ → ℕ → Forest Element → Type 0
  PartTurns n first p q f =
      AllByRecursion HeaderTurns (above_from n first p f)
      → Turns q (spelling (flat (tree_at n f))) ps (spelling (flat (other (tree_at n f))))
      → Turns p (spelling (flat f)) (header_puts (above_from n first p f) ++ ps) (spelling (flat (exchange above other n f)))

  side_turned : (b : Bool) (n first p q : ℕ) (knot : Knot) (h : Element) (below behind : Forest Element)
      → AllByRecursion HeaderTurns (above_side b n first p h below behind)
      → Turns q (spelling (flat (tree_side b n below behind))) ps (spelling (flat (other (tree_side b n below behind))))
      → (b ≡ true → PartTurns n (first + 1) (p + size_of h) q below)
      → (b ≡ false → PartTurns (n - count_in below) (end_of first below) (p + (size_of h + length (spelling (flat below)))) q behind)
      → Turns p (spelling (h ∷ (flat below ++ flat behind))) (header_puts (above_side b n first p h below behind) ++ ps)
      (spelling (flat (exchange_side above other b n knot h below behind)))
  side_turned true n first p q knot h below behind heads part inner outer =
      let deep = inner refl heads.1 part in
      let one = turns_then p (p + size_of h) (spell h) (spelling (flat below)) (spell (above h)) (spelling (flat (exchange above other n below)))
      (puts p h) (header_puts (above_from n (first + 1) (p + size_of h) below) ++ ps) refl heads.0 deep in
      let last = turns_none (p + (size_of h + length (spelling (flat below)))) (spelling (flat behind)) in
      let all = turns_then p (p + (size_of h + length (spelling (flat below)))) _ _ _ _ _ _ (omega (arith, length-append (spell h) (spelling (flat below))))
      one last in
      turns_as p _ _ _ _ _ _ (spelled_tree h (flat below) (flat behind))
      (append-nil (puts p h ++ (header_puts (above_from n (first + 1) (p + size_of h) below) ++ ps))
      ∙ sym (append_assoc (puts p h) (header_puts (above_from n (first + 1) (p + size_of h) below)) ps))
      (spelled_tree (above h) (flat (exchange above other n below)) (flat behind)) all
  side_turned false n first p q knot h below behind heads part inner outer =
      let first_tree = turns_none p (spell h ++ spelling (flat below)) in
      let all = turns_then p (p + (size_of h + length (spelling (flat below)))) _ _ _ _ _ _ (omega (arith, length-append (spell h) (spelling (flat below))))
      first_tree (outer refl heads part) in
      turns_as p _ _ _ _ _ _ (spelled_tree h (flat below) (flat behind)) refl
      (spelled_tree h (flat below) (flat (exchange above other (n - count_in below) behind))) all

  -- puts that turn the part of element n, and each header above it, turn trees that begin at place p
  pub above_turned : (n first p q : ℕ) (f : Forest Element) → n < length (flat f) → q ≡ p + length (spelling (take n (flat f)))
      → AllByRecursion HeaderTurns (above_from n first p f)
      → Turns q (spelling (flat (tree_at n f))) ps (spelling (flat (other (tree_at n f))))
      → Turns p (spelling (flat f)) (header_puts (above_from n first p f) ++ ps) (spelling (flat (exchange above other n f)))
  above_turned n first p q NoTree known at heads part = absurd (omega arith)
  above_turned zero first p q (Tree knot h below behind) known at heads part =
      let here : q ≡ p = omega arith in
      let part_here : Turns p (spelling (h ∷ (flat below ++ []))) ps (spelling (flat (other (Tree knot h below NoTree)))) =
      subst (λ (k : ℕ). Turns k (spelling (h ∷ (flat below ++ []))) ps (spelling (flat (other (Tree knot h below NoTree))))) here part in
      let last = turns_none (p + length (spelling (h ∷ (flat below ++ [])))) (spelling (flat behind)) in
      let all = turns_then p (p + length (spelling (h ∷ (flat below ++ [])))) _ _ _ _ _ _ refl part_here last in
      let first_part : spelling (h ∷ (flat below ++ [])) ++ spelling (flat behind) ≡ spelling (h ∷ (flat below ++ flat behind)) =
      ap (λ (l : List Element). spelling (h ∷ l) ++ spelling (flat behind)) (append-nil (flat below)) ∙ spelled_tree h (flat below) (flat behind) in
      turns_as p _ _ _ _ _ _ first_part (append-nil ps)
      (sym (flat_map-append spell (flat (other (Tree knot h below NoTree))) (flat behind))
      ∙ ap spelling (sym (flat-joined (other (Tree knot h below NoTree)) behind))) all
  above_turned (suc n) first p q (Tree knot h below behind) known at heads part =
      side_turned (nat_lt n (count_in below)) n first p q knot h below behind heads part
      (λ is.
      let early : n < length (flat below) = ltb-true n (length (flat below)) is in
      above_turned n (first + 1) (p + size_of h) q below early (omega (arith, at, before_below n h (flat below) (flat behind) early)))
      (λ is.
      let late : length (flat below) ≤ n = ltb-false n (length (flat below)) is in
      let split : n ≡ length (flat below) + (n - count_in below) = omega arith in
      above_turned (n - count_in below) (end_of first below) (p + (size_of h + length (spelling (flat below)))) q behind
      (omega (arith, known, length-append (flat below) (flat behind)))
      (omega (arith, at, before_behind n (n - count_in below) h (flat below) (flat behind) split)))
