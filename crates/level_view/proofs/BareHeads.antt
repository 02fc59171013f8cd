-- Where elements nest, a leaf and a loose header have nothing below them.
use Rattle.std.proofs.Common.{◌≡◌, ℕ, zero, suc, List, [], ◌∷◌, length, take, drop, refl}
use Rattle.std.specs.Prelude.{Option, Some, None, ◌==◌, ◌&&◌}
use Rattle.dgn_layout.specs.Classes.{class_of, is_among}
use Rattle.std.proofs.lemmas.Bool.{cond_both}
use Rattle.dgn_drawing.specs.declared.row.Row.{Row}
use Rattle.dgn_drawing.specs.Nesting.{Scope, Whole, Members, Knot, Leaf, Group, Run, Loose, is_parts, is_all, is_counted, member_count, group_or_loose}
use Rattle.dgn_drawing.specs.Nesting.{Shape, shape, Forest, NoTree, Tree, nest_within, forest}

abbrev pub IsBare : {A : Type 0} → Knot → Forest A → Type 0
IsBare Leaf below = below ≡ NoTree
IsBare Group below = Unit {0}
IsBare Run below = Unit {0}
IsBare Loose below = below ≡ NoTree

abbrev pub AreBare : {A : Type 0} → Forest A → Type 0
AreBare NoTree = Unit {0}
AreBare (Tree knot h below behind) = IsBare knot below × AreBare below × AreBare behind

module _ {A : Type 0} (row : A → Row) where
  none_within : (n : ℕ) (scope : Scope) → nest_within row n scope [] ≡ NoTree
  unfolding nest_within
  none_within zero scope = refl
  none_within (suc n) scope = refl

  group_bare : (n : ℕ) (r : List A) (members : Option ℕ)
      → IsBare (group_or_loose members).knot (nest_within row n (group_or_loose members).inside (take (group_or_loose members).count r))
  group_bare n r None = none_within n Members
  group_bare n r (Some k) = tt

  -- what is below a head of that shape
  abbrev HasBare : ℕ → List A → Shape → Type 0
  HasBare n r s = IsBare s.knot (nest_within row n s.inside (take s.count r))

  head_bare : (n : ℕ) (scope : Scope) (h : A) (r : List A)
      → IsBare (shape row scope h r).knot (nest_within row n (shape row scope h r).inside (take (shape row scope h r).count r))
  head_bare n scope h r =
      cond_both (is_parts scope) _ _ (HasBare n r) (λ _. none_within n Members) (λ _.
      cond_both (is_counted (class_of (row h).kind)) _ _ (HasBare n r) (λ _. group_bare n r (member_count row (row h) r)) (λ _.
      cond_both (is_among (row h).kind (24 ∷ 27 ∷ [])) _ _ (HasBare n r) (λ _. tt) (λ _.
      cond_both ((row h).kind == 34 && is_all scope) _ _ (HasBare n r) (λ _. tt) (λ _. none_within n Members))))

  within_bare : (n : ℕ) (scope : Scope) (l : List A) → AreBare (nest_within row n scope l)
  unfolding nest_within
  within_bare zero scope l = tt
  within_bare (suc n) scope [] = tt
  within_bare (suc n) scope (h ∷ r) = (
    head_bare n scope h r,
    within_bare n (shape row scope h r).inside (take (shape row scope h r).count r),
    within_bare n scope (drop (shape row scope h r).count r),
  )

  pub forest_bare : (es : List A) → AreBare (forest row es)
  forest_bare [] = tt
  forest_bare (e ∷ es) = (refl, tt, within_bare (length es) Whole es)
