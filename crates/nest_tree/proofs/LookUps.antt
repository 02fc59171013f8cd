-- What a look-up tells, from what is kept of an element.
use Rattle.std.proofs.Common.{◌≡◌, ℕ, zero, suc, ◌≤◌, ◌<◌, List, [], ◌∷◌, length, refl, sym, ap, ◌∙◌, subst, arith, true}
use Rattle.std.specs.Prelude.{Option, Some, None, slice_get, option_map, IsNone, ◌↔◌, Bool, ◌||◌, ◌&&◌, ◌==◌, not, is_some}
use Rattle.std.proofs.lemmas.Option.{slice_get_within, slice_get-get_or}
use Rattle.std.proofs.lemmas.Bool.{cases_lt, both_ways}
use Rattle.std.proofs.Common.{inl, inr}
use Rattle.dgn_drawing.specs.declared.row.Row.{Row}
use Rattle.dgn_drawing.specs.Nesting.{itself}
use Rattle.dgn_drawing.specs.Nesting as nesting
use Rattle.dgn_drawing.specs.Numbering.{Mark, mark_of, is_broken_as, is_broken, is_loose}
use Rattle.nest_tree.specs.NestEntries.{NestEntry}
use Rattle.nest_tree.specs.Shapes.{code_knot, defined_knot}
use Rattle.nest_tree.specs.Places.{marks_in, entry_of, broken_by_entry}
use Rattle.nest_tree.proofs.ListStacks.{length-marks_in}
use Rattle.nest_tree.specs.Depths.{IsSized, IsWordTotal}
use Rattle.nest_tree.proofs.OpenLists.{no_mark}
use Rattle.nest_tree.proofs.Depths.{depths_low}
use Rattle.std.specs.List.{AllByRecursion}

pub found_of : {A B : Type 0} (f : A → B) (o : Option A) (b : B) → Some b ≡ option_map f o → (m : A) × (o ≡ Some m) × (b ≡ f m)
found_of f None b is = absurd (let e = is in cc)
found_of f (Some m) b is = (m, refl, cc)

gone_of : {B : Type 0} (f : Mark → B) (o : Option Mark) → None ≡ option_map f o → o ≡ None
gone_of f None is = refl
gone_of f (Some m) is = absurd (let e = is in cc)

module _ (rows : List Row) (n : ℕ) {B : Type 0} (f : Mark → B) where
  pub known : (b : B) → Some b ≡ option_map f (slice_get (marks_in rows) n) → n < length rows
  known b is =
      let m = found_of f (slice_get (marks_in rows) n) b is in
      omega (arith, slice_get_within (marks_in rows) n m.0 m.1, length-marks_in rows)

  pub past : None ≡ option_map f (slice_get (marks_in rows) n) → length rows ≤ n
  past is = elim (cases_lt n (length rows)) [
    | inl within ↦
        let some = slice_get-get_or (marks_in rows) n no_mark (omega (arith, length-marks_in rows)) in
        absurd (let none = gone_of f (slice_get (marks_in rows) n) is in cc)
    | inr beyond ↦ beyond
  ]

  module _ {C : Type 0} (g : Mark → C) where
    pub known_of : (t : B → C) → ((m : Mark) → t (f m) ≡ g m) → (b : B) → Some b ≡ option_map f (slice_get (marks_in rows) n)
        → Some (t b) ≡ option_map g (mark_of itself rows n)
    unfolding marks_in
    known_of t same b is =
        let m = found_of f (slice_get (marks_in rows) n) b is in
        let place : slice_get (marks_in rows) n ≡ Some m.0 = m.1 in
        ap (λ (x : B). Some (t x)) m.2 ∙ ap Some (same m.0) ∙ ap (option_map g) (sym place)

    pub none_found : (r : Option C) → r ≡ None → None ≡ option_map f (slice_get (marks_in rows) n) → r ≡ option_map g (mark_of itself rows n)
    unfolding marks_in
    none_found r none is = none ∙ ap (option_map g) (sym (gone_of f (slice_get (marks_in rows) n) is))

    pub none_past : (r : Option C) → r ≡ None → None ≡ option_map f (slice_get (marks_in rows) n) → IsNone r ↔ (length rows ≤ n)
    none_past r none is = let beyond = past is in subst (λ (x : Option C). IsNone x ↔ (length rows ≤ n)) (sym none) (λ _. beyond, λ _. refl)

    pub none_known : (c : C) (b : B) → Some b ≡ option_map f (slice_get (marks_in rows) n) → IsNone (Some c) ↔ (length rows ≤ n)
    none_known c b is = let within = known b is in (λ never. absurd (both_ways true never refl), λ beyond. absurd (omega arith))

same_loose : (k : nesting.Knot) → is_loose (defined_knot (code_knot k)) ≡ is_loose k
same_loose nesting.Leaf = refl
same_loose nesting.Group = refl
same_loose nesting.Run = refl
same_loose nesting.Loose = refl

-- whether an element is broken
module _ (rows : List Row) (n : ℕ) where
  pub broken_is : (entry : NestEntry) (cbit : Bool) → Some entry ≡ option_map entry_of (slice_get (marks_in rows) n)
      → Some cbit ≡ option_map (λ (r : Row). r.cbit) (slice_get rows n) → broken_by_entry n entry cbit ≡ is_broken itself rows n
  unfolding marks_in
  broken_is entry cbit is here =
      let m = found_of entry_of (slice_get (marks_in rows) n) entry is in
      let r = found_of (λ (r : Row). r.cbit) (slice_get rows n) cbit here in
      let place : mark_of itself rows n ≡ Some m.0 = m.1 in
      ap (λ (l : NestEntry). broken_by_entry n l cbit) m.2
      ∙ ap (λ (b : Bool). b || (not (n == 0) && not (is_some m.0.parent) && cbit)) (same_loose m.0.knot)
      ∙ ap (λ (b : Bool). is_loose m.0.knot || (not (n == 0) && not (is_some m.0.parent) && b)) r.2
      ∙ ap (λ (o : Option Mark). is_broken_as itself n o (Some r.0)) (sym place)
      ∙ ap (is_broken_as itself n (mark_of itself rows n)) (sym r.1)

-- an element doesn't lie deep
low_at : (l : List Mark) (n : ℕ) (m : Mark) → AllByRecursion (λ (x : Mark). x.depth ≤ 3278) l → slice_get l n ≡ Some m → m.depth ≤ 3278
low_at [] n m low is = absurd (let e = is in cc)
low_at (x ∷ l) zero m low is = let same : x ≡ m = cc in subst (λ (y : Mark). y.depth ≤ 3278) same low.0
low_at (x ∷ l) (suc n) m low is = low_at l n m low.1 is

pub low_depth : (rows : List Row) (n : ℕ) → AllByRecursion IsSized rows → AllByRecursion IsWordTotal rows → (entry : NestEntry)
    → Some entry ≡ option_map entry_of (slice_get (marks_in rows) n) → entry.depth ≤ 3278
unfolding marks_in
low_depth rows n sized words entry is =
    let m = found_of entry_of (slice_get (marks_in rows) n) entry is in
    subst (λ (x : NestEntry). x.depth ≤ 3278) (sym m.2) (low_at (marks_in rows) n m.0 (depths_low rows sized words) m.1)
