-- The first element of a drawing is its TCB: it says the dimension, and a change of a later element leaves it.
use Rattle.std.proofs.Common.{◌≡◌, ℕ, zero, suc, ◌-◌, ◌/◌, ◌%◌, ◌<◌, ◌==◌, List, [], ◌∷◌, ◌++◌, get_or, true, false, cond, length, sym, ap, ◌∙◌}
use Rattle.std.proofs.Common.{subst, append_assoc, arith}
use Rattle.std.specs.Prelude.{nat_lt}
use Rattle.std.specs.List.{AllByRecursion}
use Rattle.std.proofs.lemmas.List.{append-nil, get_or_append_left}
use Rattle.std.proofs.lemmas.Bool.{and_parts, cond-false, eqb-true, le-ltb}
use Rattle.elem_head.specs.Head.{size_of as size_said}
use Rattle.dgn_drawing.specs.Element.{Element}
use Rattle.dgn_drawing.specs.Spelling.{spell, spelling, size_of}
use Rattle.dgn_drawing.specs.WellFormed.{IsDimension, IsWellFormed}
use Rattle.dgn_drawing.specs.Rows.{row_of}
use Rattle.dgn_drawing.specs.Nesting.{Leaf, Whole, Forest, NoTree, Tree, flat, nest, forest}
use Rattle.dgn_drawing.specs.Opening.{dimension, is_tcb, IsTcb, BeginsWithTcb}
use Rattle.dgn_drawing.proofs.RecordsRead.{size_said-spell}
use Rattle.edit_ops.specs.Trees.{exchange}

-- bytes 2 and 3 of a TCB
tcb_words : (b : List ℕ) → is_tcb b ≡ true → (get_or b 2 0 ≡ 254) × (get_or b 3 0 ≡ 2)
tcb_words b begins =
    let whole = and_parts _ _ begins in
    let front = and_parts _ _ whole.0 in
    (eqb-true (get_or b 2 0) 254 front.1, eqb-true (get_or b 3 0) 2 whole.1)

-- so a TCB has 1536 bytes
pub tcb_long : (dim : ℕ) (e : Element) → IsDimension dim → IsWellFormed dim e → IsTcb e → size_of e ≡ 1536
tcb_long dim e axes good tcb =
    let said : size_said (spell e) ≡ size_of e = ap size_said (sym (append-nil (spell e))) ∙ size_said-spell dim e axes good [] in
    let words = tcb_words (spell e) tcb.begins in
    omega (arith, said, words.0, words.1)

-- a file that opens has an element
pub some_element : (es : List Element) → BeginsWithTcb es → 0 < length es
some_element [] first = absurd first
some_element (e ∷ es) first = omega arith

-- the dimension stands in the first element
pub same_dimension : (a b c : List ℕ) → 1214 < length a → dimension (a ++ b) ≡ dimension (a ++ c)
same_dimension a b c long =
    let one = get_or_append_left a b 0 1214 long in
    let two = get_or_append_left a c 0 1214 long in
    ap (λ (x : ℕ). cond (x / 64 % 2 == 1) 3 2) (one ∙ sym two)

-- a list of elements that begins with this one
pub record BeginsWith (x : Element) (made : List Element) : Type 0 where
  pub behind : List Element
  pub is : made ≡ x ∷ behind

-- what begins with the TCB of a drawing has its dimension
pub begins_as : (dim : ℕ) (x : Element) (xs made : List Element) (t : List ℕ) → IsDimension dim → IsWellFormed dim x → IsTcb x → BeginsWith x made
    → BeginsWithTcb made × (dimension (spelling made ++ t) ≡ dimension (spelling (x ∷ xs) ++ t))
begins_as dim x xs made t axes good first begins =
    let long : 1214 < length (spell x) = omega (arith, tcb_long dim x axes good first) in (
      subst BeginsWithTcb (sym begins.is) first,
      ap (λ (es : List Element). dimension (spelling es ++ t)) begins.is
          ∙ ap dimension (append_assoc (spell x) (spelling begins.behind) t)
          ∙ same_dimension (spell x) (spelling begins.behind ++ t) (spelling xs ++ t) long
          ∙ ap dimension (sym (append_assoc (spell x) (spelling xs) t)),
    )

-- a change of a later element and of the headers above it leaves the first element
pub first_stays : (x : Element) (xs : List Element) (n : ℕ) (above : Element → Element) (other : Forest Element → Forest Element) → 0 < n
    → BeginsWith x (flat (exchange above other n (forest row_of (x ∷ xs))))
first_stays x xs zero above other later = absurd (omega arith)
first_stays x xs (suc n) above other later =
    let past : nat_lt n 0 ≡ false = le-ltb n 0 (omega arith) in
    record {
      behind = flat (exchange above other (n - 0) (nest row_of Whole xs));
      is = ap flat (cond-false (nat_lt n 0) (Tree Leaf (above x) (exchange above other n NoTree) (nest row_of Whole xs))
          (Tree Leaf x NoTree (exchange above other (n - 0) (nest row_of Whole xs))) past);
    }

-- so the list begins with the TCB, and its dimension stays
pub begins_same : (dim : ℕ) (es : List Element) (n : ℕ) (above : Element → Element) (other : Forest Element → Forest Element) (t : List ℕ) → IsDimension dim
    → AllByRecursion (IsWellFormed dim) es → BeginsWithTcb es → 0 < n
    → BeginsWithTcb (flat (exchange above other n (forest row_of es)))
    × (dimension (spelling (flat (exchange above other n (forest row_of es))) ++ t) ≡ dimension (spelling es ++ t))
begins_same dim [] n above other t axes each first later = absurd first
begins_same dim (x ∷ xs) n above other t axes each first later =
    begins_as dim x xs (flat (exchange above other n (forest row_of (x ∷ xs)))) t axes each.0 first (first_stays x xs n above other later)
