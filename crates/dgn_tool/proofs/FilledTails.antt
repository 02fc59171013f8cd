-- A drawing that opens does so with its last block filled.
use Rattle.std.proofs.Common.{◌≡◌, ℕ, ◌+◌, ◌<◌, ◌==◌, ◌%◌, List, [], ◌∷◌, ◌++◌, length, Bool, true, false, refl, sym, ap, ◌∙◌, subst, length-append, arith}
use Rattle.std.specs.Prelude.{◌||◌, ◌&&◌, not}
use Rattle.std.proofs.lemmas.Bool.{cond-false, eq-eqb, ne_eqb}
use Rattle.dgn_drawing.specs.Element.{Element}
use Rattle.dgn_drawing.specs.Spelling.{spell, spelling}
use Rattle.dgn_drawing.specs.WellFormed.{IsDimension, IsWellFormed, begins_with_mark}
use Rattle.dgn_drawing.specs.Opening.{is_tail, BeginsWithTcb, Opens}
use Rattle.dgn_drawing.proofs.FirstElements.{dimension_is}
use Rattle.std.specs.List.{AllByRecursion}
use Rattle.edit_ops.proofs.FirstElement.{tcb_long, same_dimension}
use Rattle.dgn_tool.specs.Filling.{is_blocks, filling}

second_true : (a b : Bool) → b ≡ true → (a || b) ≡ true
second_true true b is = refl
second_true false b is = is

not_first : (a b : Bool) → a ≡ false → (a || b) ≡ true → b ≡ true
not_first true b none is = absurd (cc)
not_first false b none is = is

second_false : (a b : Bool) → b ≡ false → (a && b) ≡ false
second_false true b is = is
second_false false b is = refl

-- behind a tail that isn't empty anything may stand, and behind an empty one nothing
tail_filled : (t z : List ℕ) → (length t ≡ 0 → z ≡ []) → is_tail t ≡ true → is_tail (t ++ z) ≡ true
tail_filled [] z none is = ap is_tail (none refl)
tail_filled (x ∷ []) z none is =
    let some : (length (x ∷ []) == 0) ≡ false = refl in
    absurd (let marked : begins_with_mark (x ∷ []) ≡ true = not_first (length (x ∷ []) == 0) (begins_with_mark (x ∷ [])) some is in
    let unmarked : begins_with_mark (x ∷ []) ≡ false = second_false (x == 255) (0 == 255) refl in
    cc)
tail_filled (x ∷ y ∷ t) z none is =
    let some : (length (x ∷ y ∷ t) == 0) ≡ false = ne_eqb (length (x ∷ y ∷ t)) 0 (omega arith) in
    second_true (length ((x ∷ y ∷ t) ++ z) == 0) (begins_with_mark ((x ∷ y ∷ t) ++ z))
    (not_first (length (x ∷ y ∷ t) == 0) (begins_with_mark (x ∷ y ∷ t)) some is)

-- the TCB holds the byte that says the dimension
tcb_holds : (dim : ℕ) (es : List Element) → IsDimension dim → AllByRecursion (IsWellFormed dim) es → BeginsWithTcb es → 1214 < length (spelling es)
tcb_holds dim [] axes each first = absurd first
tcb_holds dim (e ∷ es) axes each first = omega (arith, tcb_long dim e axes each.0 first, length-append (spell e) (spelling es))

-- so a drawing opens with more behind its tail
pub filled_opens : (dim : ℕ) (es : List Element) (t z : List ℕ) → (length t ≡ 0 → z ≡ []) → Opens (spelling es ++ t) dim es t
    → Opens (spelling es ++ (t ++ z)) dim es (t ++ z)
filled_opens dim es t z none opens =
    let axes : IsDimension dim = subst IsDimension (sym opens.axes) (dimension_is (spelling es ++ t)) in
    record {
      whole = refl;
      each = opens.each;
      first = opens.first;
      tail = tail_filled t z none opens.tail;
      axes = opens.axes ∙ same_dimension (spelling es) t (t ++ z) (tcb_holds dim es axes opens.each opens.first);
    }

-- nothing fills a file without a tail
pub none_fills : (before : ℕ) (t : List ℕ) (now : ℕ) → length t ≡ 0 → filling before t now ≡ []
none_fills before t now none =
    let is : is_blocks before t ≡ false = second_false ((before + length t) % 512 == 0) (not (length t == 0)) (ap not (eq-eqb (length t) 0 none)) in
    cond-false (is_blocks before t) _ [] is
