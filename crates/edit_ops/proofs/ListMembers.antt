-- Numbers that are chosen from a list: those of it that are among the chosen ones.
use Rattle.std.proofs.Common.{◌≡◌, ℕ, ◌==◌, ◌<◌, List, [], ◌∷◌, ◌++◌, Bool, true, false, cond, refl, sym, ap, ◌∙◌, arith, append_assoc, inl, inr}
use Rattle.std.specs.Prelude.{filter, ◌&&◌, ◌||◌}
use Rattle.std.specs.List.{AllByRecursion, list_any}
use Rattle.std.proofs.lemmas.Bool.{cases_Bool, eqb-true, eq-eqb, false_from_ne_true}
use Rattle.dgn_drawing.specs.Element.{Element}
use Rattle.dgn_drawing.specs.Rows.{row_of}
use Rattle.dgn_drawing.specs.Nesting.{forest}
use Rattle.dgn_drawing.specs.Shown.{roots}
use Rattle.edit_ops.specs.Fenced.{AreRoots}

-- a number is one of some
abbrev pub is_one_of : List ℕ → ℕ → Bool
is_one_of ns n = list_any (λ m. m == n) ns

-- what holds of each of some numbers holds of each chosen one
one_chosen : (P : ℕ → Type 0) (b : Bool) (n : ℕ) (ns : List ℕ) → P n → AllByRecursion P ns → AllByRecursion P (cond b (n ∷ ns) ns)
one_chosen P true n ns here more = (here, more)
one_chosen P false n ns here more = more

pub each_chosen : (P : ℕ → Type 0) (chosen : ℕ → Bool) (ns : List ℕ) → AllByRecursion P ns → AllByRecursion P (filter chosen ns)
each_chosen P chosen [] each = tt
each_chosen P chosen (n ∷ ns) each = one_chosen P (chosen n) n (filter chosen ns) each.0 (each_chosen P chosen ns each.1)

-- two tests that agree on each choose the same
filter_same : (p q : ℕ → Bool) (ns : List ℕ) → AllByRecursion (λ n. p n ≡ q n) ns → filter p ns ≡ filter q ns
filter_same p q [] same = refl
filter_same p q (n ∷ ns) same =
    ap (λ (b : Bool). cond b (n ∷ filter p ns) (filter p ns)) same.0
    ∙ ap (λ (l : List ℕ). cond (q n) (n ∷ l) l) (filter_same p q ns same.1)

-- whether a number is among chosen ones of which the first is asked
among_first : (b : Bool) (m : ℕ) (ns : List ℕ) (n : ℕ) → is_one_of (cond b (m ∷ ns) ns) n ≡ ((b && (m == n)) || is_one_of ns n)
among_first true m ns n = refl
among_first false m ns n = refl

never_both : (a b : Bool) → (a ≡ true → b ≡ true → ⊥) → (a && b) ≡ false
never_both true true never = absurd (never refl refl)
never_both true false never = refl
never_both false b never = refl

or_last : (a : Bool) → (a || true) ≡ true
or_last true = refl
or_last false = refl

module _ (chosen : ℕ → Bool) where
  -- a number that isn't chosen is not among the chosen ones
  none_among : (n : ℕ) → chosen n ≡ false → (ns : List ℕ) → is_one_of (filter chosen ns) n ≡ false
  none_among n not [] = refl
  none_among n not (m ∷ ns) =
      among_first (chosen m) m (filter chosen ns) n
      ∙ ap (λ (b : Bool). b || is_one_of (filter chosen ns) n)
      (never_both (chosen m) (m == n) (λ is same. let e : chosen m ≡ chosen n = ap chosen (eqb-true m n same) in cc))
      ∙ none_among n not ns

  -- one that is, is
  some_among : (n : ℕ) → chosen n ≡ true → (front behind : List ℕ) → is_one_of (filter chosen (front ++ n ∷ behind)) n ≡ true
  some_among n is [] behind =
      among_first (chosen n) n (filter chosen behind) n
      ∙ ap (λ (b : Bool). (b && (n == n)) || is_one_of (filter chosen behind) n) is
      ∙ ap (λ (b : Bool). b || is_one_of (filter chosen behind) n) (eq-eqb n n refl)
  some_among n is (m ∷ front) behind =
      among_first (chosen m) m (filter chosen (front ++ n ∷ behind)) n
      ∙ ap (λ (b : Bool). (chosen m && (m == n)) || b) (some_among n is front behind)
      ∙ or_last (chosen m && (m == n))

  among_walk : (ns front behind : List ℕ) → ns ≡ front ++ behind → AllByRecursion (λ n. is_one_of (filter chosen ns) n ≡ chosen n) behind
  among_walk ns front [] whole = tt
  among_walk ns front (n ∷ behind) whole = (
    elim (cases_Bool (chosen n)) [
      | inl is ↦ ap (λ (l : List ℕ). is_one_of (filter chosen l) n) whole ∙ some_among n is front behind ∙ sym is
      | inr not ↦ none_among n not ns ∙ sym not
    ],
    among_walk ns (front ++ n ∷ []) behind (whole ∙ sym (append_assoc front (n ∷ []) behind)),
  )

  -- the chosen numbers of a list are those of it that are among the chosen ones
  members_chosen : (ns : List ℕ) → filter (is_one_of (filter chosen ns)) ns ≡ filter chosen ns
  members_chosen ns = filter_same (is_one_of (filter chosen ns)) chosen ns (among_walk ns [] ns refl)

-- some of the roots of a drawing are those roots that are among them
pub roots_among : (es : List Element) (ns : List ℕ) → AreRoots es ns → ns ≡ filter (is_one_of ns) (roots 0 (forest row_of es))
roots_among es ns some =
    some.1 ∙ sym (members_chosen some.0 (roots 0 (forest row_of es)))
    ∙ ap (λ (l : List ℕ). filter (is_one_of l) (roots 0 (forest row_of es))) (sym some.1)

-- 0 is not among numbers above it
pub zero_apart : (ns : List ℕ) → AllByRecursion (λ n. 0 < n) ns → is_one_of ns 0 ≡ false
zero_apart [] above = refl
zero_apart (n ∷ ns) above =
    ap (λ (b : Bool). b || is_one_of ns 0)
    (false_from_ne_true (n == 0) (λ is. let same : n ≡ 0 = eqb-true n 0 is in let more = above.0 in absurd (omega arith)))
    ∙ zero_apart ns above.1
