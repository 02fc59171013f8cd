-- The first element of bytes that a spelling begins, runs of elements, and how a file is read element by
-- element.
use Rattle.std.proofs.Common.{◌≡◌, ℕ, zero, suc, ◌/◌, ◌%◌, ◌≤◌, List, [], ◌∷◌, ◌++◌, length, take, drop, get_or, refl, sym, ap, ◌∙◌, arith, Bool, true}
use Rattle.std.proofs.Common.{false, inl, inr, append_assoc, length-append}
use Rattle.std.proofs.lemmas.List.{take_at, drop_at, append_cancel_left, get_or_append_left}
use Rattle.std.proofs.lemmas.Bool.{le-ltb, or_from, ne_eqb}
use Rattle.std.specs.Prelude.{◌==◌, cond, ◌||◌}
use Rattle.std.specs.List.{AllByRecursion}
use Rattle.std.specs.declared.result.Result.TheVariants.{Err}
use Rattle.elem_head.specs.Head.{size_of as size_said}
use Rattle.dgn_drawing.specs.declared.body_fault.BodyFault.{BodyFault}
use Rattle.dgn_drawing.specs.Element.{Element}
use Rattle.dgn_drawing.specs.Spelling.{spell, spelling, size_of}
use Rattle.dgn_drawing.specs.WellFormed.{IsDimension, IsWellFormed}
use Rattle.dgn_drawing.specs.Reading.{element_at}
use Rattle.dgn_drawing.specs.Faults.{element_fault}
use Rattle.dgn_drawing.specs.Opening.{is_tail, dimension, is_cut, first_element, elements_within}
use Rattle.dgn_drawing.proofs.RecordsRead.{no_fault, size-spell, size_said-spell, element_at-spell, element_fault-spell}

-- the dimension of a file is one that a file can have
pub dimension_is : (f : List ℕ) → IsDimension (dimension f)
dimension_is f = two_or_three (get_or f 1214 0 / 64 % 2 == 1)
  where
    two_or_three : (t : Bool) → IsDimension (cond t 3 2)
    two_or_three true = inr refl
    two_or_three false = inl refl

-- bytes that a spelling begins: no tail, not cut, and that spelling is their first element
module _ (dim : ℕ) (e : Element) (axes : IsDimension dim) (good : IsWellFormed dim e) (x : List ℕ) where
  pub not_empty : 4 ≤ size_of e
  not_empty = let size = size-spell dim e axes good in omega arith

  pub not_tail : is_tail (spell e ++ x) ≡ false
  not_tail =
      let long = length-append (spell e) x in
      let four = not_empty in
      let filled : (length (spell e ++ x) == 0) ≡ false = ne_eqb (length (spell e ++ x)) 0 (λ none. omega arith) in
      let b0 : get_or (spell e ++ x) 0 0 ≡ get_or (spell e) 0 0 = get_or_append_left (spell e) x 0 0 (omega arith) in
      let b1 : get_or (spell e ++ x) 1 0 ≡ get_or (spell e) 1 0 = get_or_append_left (spell e) x 0 1 (omega arith) in
      or_from _ _ filled (rw (b0, b1) good.no_mark)

  pub not_cut : is_cut (spell e ++ x) ≡ false
  not_cut =
      let long = length-append (spell e) x in
      let four = not_empty in
      let size = size_said-spell dim e axes good x in
      or_from _ _ (le-ltb (length (spell e ++ x)) 4 (omega arith)) (le-ltb (length (spell e ++ x)) (size_said (spell e ++ x)) (omega arith))

  pub first-spell : first_element (spell e ++ x) ≡ spell e
  first-spell = ap (λ (n : ℕ). take n (spell e ++ x)) (size_said-spell dim e axes good x) ∙ take_at (spell e) x (size_of e) refl

  pub rest-spell : drop (size_said (spell e ++ x)) (spell e ++ x) ≡ x
  rest-spell = ap (λ (n : ℕ). drop n (spell e ++ x)) (size_said-spell dim e axes good x) ∙ drop_at (spell e) x (size_of e) refl

-- no well formed spelling begins x
pub record Stops (dim : ℕ) (x : List ℕ) : Type 0 where
  pub none : (e : Element) → IsWellFormed dim e → (r : List ℕ) → x ≡ spell e ++ r → ⊥

module _ (dim : ℕ) (axes : IsDimension dim) (x : List ℕ) where
  -- a tail stops
  pub tail_stops : is_tail x ≡ true → Stops dim x
  tail_stops tail = record { none = λ e good r is. let f = not_tail dim e axes good r in let g = ap is_tail is in cc }

  -- and so do bytes that are cut
  pub cut_stops : is_cut x ≡ true → Stops dim x
  cut_stops cut = record { none = λ e good r is. let f = not_cut dim e axes good r in let g = ap is_cut is in cc }

  -- and an element with a fault
  pub fault_stops : (fault : BodyFault) → element_fault dim (first_element x) ≡ Err fault → Stops dim x
  fault_stops fault has = record {
    none = λ e good r is.
        let f : element_fault dim (first_element x) ≡ no_fault =
        ap (λ z. element_fault dim (first_element z)) is ∙ ap (element_fault dim) (first-spell dim e axes good r) ∙ element_fault-spell dim e axes good in
        cc;
  }

-- runs of well formed elements with stops behind them and one text are the same
pub runs_same : (dim : ℕ) → IsDimension dim → (es fs : List Element) → AllByRecursion (IsWellFormed dim) es → AllByRecursion (IsWellFormed dim) fs
    → (x y : List ℕ) → Stops dim x → Stops dim y → spelling es ++ x ≡ spelling fs ++ y → (es ≡ fs) × (x ≡ y)
runs_same dim axes [] [] good_e good_f x y stop_x stop_y same = (refl, same)
runs_same dim axes [] (f ∷ fs) good_e good_f x y stop_x stop_y same =
    absurd (stop_x.none f good_f.0 (spelling fs ++ y) (same ∙ append_assoc (spell f) (spelling fs) y))
runs_same dim axes (e ∷ es) [] good_e good_f x y stop_x stop_y same =
    absurd (stop_y.none e good_e.0 (spelling es ++ x) (sym same ∙ append_assoc (spell e) (spelling es) x))
runs_same dim axes (e ∷ es) (f ∷ fs) good_e good_f x y stop_x stop_y same =
    let text : spell e ++ (spelling es ++ x) ≡ spell f ++ (spelling fs ++ y) =
    sym (append_assoc (spell e) (spelling es) x) ∙ same ∙ append_assoc (spell f) (spelling fs) y in
    let first : spell e ≡ spell f =
    sym (first-spell dim e axes good_e.0 (spelling es ++ x)) ∙ ap first_element text ∙ first-spell dim f axes good_f.0 (spelling fs ++ y) in
    let rest : spelling es ++ x ≡ spelling fs ++ y =
    append_cancel_left (spell e) (spelling es ++ x) (spelling fs ++ y) (text ∙ ap (λ z. z ++ (spelling fs ++ y)) (sym first)) in
    let one : e ≡ f = sym (element_at-spell dim e axes good_e.0) ∙ ap (element_at dim) first ∙ element_at-spell dim f axes good_f.0 in
    let more = runs_same dim axes es fs good_e.1 good_f.1 x y stop_x stop_y rest in
    let tails : es ≡ fs = more.0 in
    (cc, more.1)

-- the elements that a plain program reads from the spelling of elements are these
pub within_are : (n dim : ℕ) → IsDimension dim → (es : List Element) → AllByRecursion (IsWellFormed dim) es → (t : List ℕ) → (is_tail t || is_cut t) ≡ true
    → length (spelling es ++ t) ≤ n → elements_within n dim (spelling es ++ t) ≡ es
unfolding elements_within
within_are zero dim axes [] good t stop long = refl
within_are (suc n) dim axes [] good t stop long = rw stop refl
within_are zero dim axes (e ∷ es) good t stop long =
    absurd (omega (arith, not_empty dim e axes good.0 [], length-append {A = ℕ}))
within_are (suc n) dim axes (e ∷ es) good t stop long =
    let text : (spell e ++ spelling es) ++ t ≡ spell e ++ (spelling es ++ t) = append_assoc (spell e) (spelling es) t in
    let more = within_are n dim axes es good.1 t stop (omega (arith, not_empty dim e axes good.0 [], length-append {A = ℕ})) in
    let tail = not_tail dim e axes good.0 (spelling es ++ t) in
    let cut = not_cut dim e axes good.0 (spelling es ++ t) in
    let first = ap (element_at dim) (first-spell dim e axes good.0 (spelling es ++ t)) ∙ element_at-spell dim e axes good.0 in
    let rest = rest-spell dim e axes good.0 (spelling es ++ t) in
    rw (text, tail, cut) (cons_same first (ap (elements_within n dim) rest ∙ more))
  where
    cons_same : {e f : Element} {es fs : List Element} → e ≡ f → es ≡ fs → e ∷ es ≡ f ∷ fs
    cons_same p q = cc
