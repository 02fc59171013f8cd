-- The tree of a root that is a leaf shows what the root shows by itself.
use Rattle.std.proofs.Common.{◌≡◌, ℕ, suc, zero, ◌-◌, List, [], sym, ap, ◌∙◌, refl, arith}
use Rattle.std.specs.Prelude.{Option, Some, None, option_map, slice_get, IfSome}
use Rattle.std.proofs.lemmas.List.{append-nil}
use Rattle.dgn_drawing.specs.declared.mask.Mask.{Mask}
use Rattle.dgn_drawing.specs.Element.{Element}
use Rattle.dgn_drawing.specs.Rows.{row_of}
use Rattle.dgn_drawing.specs.Nesting.{Knot, Leaf, Group, Run, Loose, forest}
use Rattle.dgn_drawing.specs.Numbering.{Mark, knot_of}
use Rattle.dgn_drawing.specs.Shown.{tree_shown, shown_alone, IsRoot}
use Rattle.nest_tree.specs.declared.knot.Knot as code
use Rattle.nest_tree.specs.Shapes.{code_knot}
use Rattle.level_view.specs.Back.{with_marked, read_back}
use Rattle.level_view.proofs.TreeItems.{IsTree, root_known, root_found}

-- what is told to be a leaf is one
pub leaf_knot : (o : Option Knot) → Some code.Knot.Leaf ≡ option_map code_knot o → o ≡ Some Leaf
leaf_knot None is = absurd cc
leaf_knot (Some Leaf) is = refl
leaf_knot (Some Group) is = absurd cc
leaf_knot (Some Run) is = absurd cc
leaf_knot (Some Loose) is = absurd cc

same_some : {A : Type 0} (a b : A) → Some a ≡ Some b → a ≡ b
same_some a b e = cc

leaf_marked : (m : Mark) (e : Element) (dim : ℕ) (mask : Mask) (n : ℕ) → m.knot ≡ Leaf → m.depth ≡ 0
    → with_marked dim mask n (Some m) (Some e) [] ≡ shown_alone dim mask n 0 e
leaf_marked m e dim mask n leaf depth = rw (leaf, depth) (append-nil (shown_alone dim mask n 0 e))

module _ (es : List Element) (n : ℕ) (root : IsRoot row_of es n)
    (leaf : knot_of row_of es n ≡ Some Leaf) where
  pub leaf_shown : (e : Element) → slice_get es n ≡ Some e → (dim : ℕ) (mask : Mask) → tree_shown dim mask es n ≡ shown_alone dim mask n 0 e
  leaf_shown e is dim mask =
      let tree : IsTree dim mask es n (forest row_of es) 0 = root_found dim mask es n root (root_known es n root) in
      let knot : tree.mark.knot ≡ Leaf =
      same_some tree.mark.knot Leaf (sym (ap (option_map (λ (m : Mark). m.knot)) tree.marked) ∙ leaf) in
      let one : tree.mark.end - n ≡ suc zero = omega (arith, tree.alone knot) in
      sym tree.found ∙ ap (read_back dim mask es n) one
      ∙ ap (λ (o : Option Mark). with_marked dim mask n o (slice_get es n) []) tree.marked
      ∙ ap (λ (o : Option Element). with_marked dim mask n (Some tree.mark) o []) is
      ∙ leaf_marked tree.mark e dim mask n knot tree.depth

-- what holds of all that is told holds of what is answered
pub if_mapped : {A B : Type 0} (f : A → B) (o : Option B) (r : Option A) (P : B → Type 0) → option_map f r ≡ o → ((x : B) → Some x ≡ o → P x)
    → IfSome r (λ a. P (f a))
if_mapped f o None P is each = tt
if_mapped f o (Some a) P is each = each (f a) is
