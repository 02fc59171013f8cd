-- The roots that pass a test, found one behind the other.
use Rattle.std.proofs.Common.{◌≡◌, ℕ, suc, ◌<◌, ◌≤◌, List, [], ◌∷◌, ◌++◌, length, Bool, true, false, sym, ap, ◌∙◌, subst, append_assoc, length-append}
use Rattle.std.proofs.Common.{arith}
use Rattle.std.specs.Prelude.{Some, None, option_map, filter}
use Rattle.std.proofs.lemmas.Bool.{cond-true, cond-false, cond_both}
use Rattle.std.proofs.lemmas.List.{append-nil}
use Rattle.dgn_drawing.specs.Element.{Element}
use Rattle.dgn_drawing.specs.Rows.{row_of}
use Rattle.dgn_drawing.specs.Nesting.{Forest, NoTree, Tree, forest, flat}
use Rattle.dgn_drawing.specs.Numbering.{Mark, end_of, mark_of}
use Rattle.dgn_drawing.specs.Shown.{roots, IsRoot}
use Rattle.nest_tree.proofs.NestingSteps.{flat-forest}
use Rattle.level_view.proofs.TreeItems.{parent_at}
use Rattle.level_view.proofs.Places.{mark_part}
use Rattle.level_view.proofs.RootsOnward.{from_on, GoesOn, root_goes_on, zero_root, from_zero, from_end}

-- the roots from number k on that pass
abbrev pub left_from : List Element → (ℕ → Bool) → ℕ → List ℕ
left_from es test k = filter test (from_on k (roots 0 (forest row_of es)))

-- the walk stands at a root or behind the last element
pub record StandsAt (es : List Element) (test : ℕ → Bool) (k : ℕ) (found : List ℕ) : Type 0 where
  pub within : k ≤ length es
  pub root : k < length es → IsRoot row_of es k
  pub all : found ++ left_from es test k ≡ filter test (roots 0 (forest row_of es))

module _ (es : List Element) (test : ℕ → Bool) where
  pub stands_first : StandsAt es test 0 []
  stands_first = record {
    within = omega arith;
    root = λ some. zero_root es some;
    all = ap (filter test) (from_zero es);
  }

  pub all_found : (k : ℕ) (found : List ℕ) → length es ≤ k → StandsAt es test k found → found ≡ filter test (roots 0 (forest row_of es))
  all_found k found long at = sym (append-nil found) ∙ ap (λ (ns : List ℕ). found ++ filter test ns) (sym (from_end es k long)) ∙ at.all

  stands_on : (k : ℕ) (found : List ℕ) → StandsAt es test k found → k < length es → GoesOn es (forest row_of es) 0 k
  stands_on k found at known = root_goes_on es k known (at.root known)

  -- a root that passes is the first of those that are left
  pub first_passes : (k : ℕ) (found : List ℕ) → StandsAt es test k found → k < length es → test k ≡ true → (rest : List ℕ)
      × (left_from es test k ≡ k ∷ rest)
  first_passes k found at known passes =
      let on : GoesOn es (forest row_of es) 0 k = stands_on k found at known in
      let rest : List ℕ = left_from es test on.mark.end in
      (rest, ap (filter test) on.are ∙ cond-true (test k) (k ∷ rest) rest passes)

  module _ (k end : ℕ) (found : List ℕ) (at : StandsAt es test k found) (known : k < length es)
      (ends : Some end ≡ option_map (λ (m : Mark). m.end) (mark_of row_of es k)) where
    on : GoesOn es (forest row_of es) 0 k
    on = stands_on k found at known

    end_is : end ≡ on.mark.end
    end_is = mark_part (λ (m : Mark). m.end) on.mark (mark_of row_of es k) end ends
        on.marked

    count : length (flat (forest row_of es)) ≡ length es
    count = ap (length {A = Element}) (flat-forest row_of es)

    pub further : k < end
    further = let o = on.ordered in omega (arith, end_is)

    inside : end ≤ length es
    inside = let w = on.within in omega (arith, end_is, count)

    next : end < length es → IsRoot row_of es end
    next more = subst (λ (j : ℕ). parent_at (mark_of row_of es j) ≡ Some None) (sym end_is) (on.next (omega (arith, more, end_is, count)))

    left : left_from es test k ≡ filter test (k ∷ from_on end (roots 0 (forest row_of es)))
    left = ap (filter test) (on.are ∙ ap (λ (j : ℕ). k ∷ from_on j (roots 0 (forest row_of es))) (sym end_is))

    -- it goes on behind a root that passes
    pub stands_taken : test k ≡ true → StandsAt es test end (found ++ k ∷ [])
    stands_taken passes = record {
      within = inside;
      root = next;
      all = append_assoc found (k ∷ []) (left_from es test end)
          ∙ ap (λ (ns : List ℕ). found ++ ns) (sym (left ∙ cond-true (test k) (k ∷ left_from es test end) (left_from es test end) passes))
          ∙ at.all;
    }

    -- and behind one that doesn't
    pub stands_left : test k ≡ false → StandsAt es test end found
    stands_left fails = record {
      within = inside;
      root = next;
      all = ap (λ (ns : List ℕ). found ++ ns) (sym (left ∙ cond-false (test k) (k ∷ left_from es test end) (left_from es test end) fails)) ∙ at.all;
    }

-- no more numbers pass than there are
filter_few : (test : ℕ → Bool) (ns : List ℕ) → length (filter test ns) ≤ length ns
filter_few test [] = omega arith
filter_few test (n ∷ ns) =
    let rest = filter_few test ns in
    cond_both (test n) (n ∷ filter test ns) (filter test ns) (λ (l : List ℕ). length l ≤ suc (length ns)) (λ _. omega arith) (λ _. omega arith)

-- and no more roots than elements
roots_few : {A : Type 0} (f : Forest A) (n : ℕ) → length (roots n f) ≤ length (flat f)
roots_few NoTree n = omega arith
roots_few (Tree knot h below behind) n = omega (arith, roots_few behind (end_of n below), length-append (flat below) (flat behind))

pub chosen_few : (es : List Element) (test : ℕ → Bool) → length (filter test (roots 0 (forest row_of es))) ≤ length es
chosen_few es test = omega
    (arith, filter_few test (roots 0 (forest row_of es)), roots_few (forest row_of es) 0, ap (length {A = Element}) (flat-forest row_of es))
