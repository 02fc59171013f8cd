-- How a file is read, element by element: a front of elements grows by one, and at the end of the
-- elements the file opens.
use Rattle.std.proofs.Common.{◌≡◌, ℕ, ◌+◌, ◌*◌, ◌<◌, ◌≤◌, List, [], ◌∷◌, ◌++◌, length, take, drop, get_or, refl, sym, ap, ◌∙◌, subst, arith, Bool, true}
use Rattle.std.proofs.Common.{false, ◌⊎◌, inl, inr, length-append, length-drop}
use Rattle.std.proofs.lemmas.List.{take-take, drop-take, get_or_past, append-nil, append_cancel_right, take-append-drop, get_or-take, length-take-le}
use Rattle.std.proofs.lemmas.List.Elements.{All-take, All-drop}
use Rattle.std.proofs.lemmas.List.Concat.{flat_map-append}
use Rattle.std.proofs.lemmas.Bool.{ltb-false, or_parts, and_parts, or_cases, eqb-true}
use Rattle.std.specs.Prelude.{◌==◌, cond, ◌||◌}
use Rattle.std.specs.List.{AllByRecursion}
use Rattle.std.specs.declared.result.Result.{Result}
use Rattle.std.specs.declared.result.Result.TheVariants.{Ok, Err}
use Rattle.elem_head.specs.Head.{size_of as size_said, kind_of}
use Rattle.dgn_drawing.specs.declared.form.Form.{Form}
use Rattle.dgn_drawing.specs.declared.body_fault.BodyFault.{BodyFault}
use Rattle.dgn_drawing.specs.Forms.{form_of}
use Rattle.dgn_drawing.specs.Element.{Element}
use Rattle.dgn_drawing.specs.Spelling.{spell, spelling}
use Rattle.dgn_drawing.specs.WellFormed.{IsDimension, IsBytes, IsWellFormed, begins_with_mark}
use Rattle.dgn_drawing.specs.Reading.{element_at}
use Rattle.dgn_drawing.specs.Faults.{IsWhole, is_short, breaks_attribute_rule, element_fault}
use Rattle.dgn_drawing.specs.Opening.{is_tcb, is_tail, dimension, IsTcb, BeginsWithTcb, Opens, MayBeginWithTcb, Front, is_cut, first_element, elements_of}
use Rattle.dgn_drawing.proofs.RecordsRead.{no_fault, form-spell}
use Rattle.dgn_drawing.proofs.BytesSpelled.{spell-element_at, element_at_good}
use Rattle.dgn_drawing.proofs.FirstElements.{dimension_is, not_empty, within_are}

abbrev tested : Bool → Bool → Result (Unit {0}) BodyFault
tested s r = cond s (Err BodyFault.Short) (cond r (Err BodyFault.Attr) (Ok tt))

-- byte 1 of a TCB is 9
tcb_nine : (b : List ℕ) → is_tcb b ≡ true → get_or b 1 0 ≡ 9
tcb_nine b tcb = eqb-true (get_or b 1 0) 9 (and_parts _ _ (and_parts _ _ (and_parts _ _ tcb).0).0).1

-- and of the mark it is 255, so a TCB is no tail
second_of : (f : List ℕ) → begins_with_mark f ≡ true → get_or f 1 0 ≡ 255
second_of f mark = eqb-true (get_or f 1 0) 255 (and_parts _ _ mark).1

tail_or_mark : (f : List ℕ) → get_or f 1 0 ≡ 9 → ((length f == 0) ≡ true) ⊎ (begins_with_mark f ≡ true) → ⊥
tail_or_mark f nine (inl none) =
    let empty : length f ≡ 0 = eqb-true (length f) 0 none in
    let past = get_or_past f 1 0 (omega arith) in
    omega arith
tail_or_mark f nine (inr mark) =
    let second : get_or f 1 0 ≡ 255 = second_of f mark in
    omega arith

-- type 9, that of a TCB, is silent
silent_nine : form_of 9 ≡ Form.Silent
unfolding form_of
silent_nine = refl

-- an element without a fault isn't short and keeps the rule on attribute data
fault_parts : (dim : ℕ) (b : List ℕ) → element_fault dim b ≡ no_fault → (is_short dim b ≡ false) × (breaks_attribute_rule dim b ≡ false)
fault_parts dim b none = parts (is_short dim b) (breaks_attribute_rule dim b) none
  where
    parts : (s r : Bool) → tested s r ≡ no_fault → (s ≡ false) × (r ≡ false)
    parts true r e = cc
    parts false true e = cc
    parts false false e = (refl, refl)

-- the first element of bytes that aren't cut has as many bytes as its size word says
module _ (b : List ℕ) (uncut : is_cut b ≡ false) where
  pub first_long : (4 ≤ length b) × (size_said b ≤ length b)
  first_long =
      let two = or_parts _ _ uncut in
      (ltb-false (length b) 4 two.0, ltb-false (length b) (size_said b) two.1)

  pub length-first : length (first_element b) ≡ size_said b
  length-first = length-take-le (size_said b) b first_long.1

  first_at : (k : ℕ) → k < 4 → get_or (first_element b) k 0 ≡ get_or b k 0
  first_at k small = get_or-take (size_said b) b k 0 (omega arith)

  first_said : size_said (first_element b) ≡ size_said b
  first_said =
      let b2 = first_at 2 (omega arith) in
      let b3 = first_at 3 (omega arith) in
      rw (b2, b3) refl

  pub size-first : length (first_element b) ≡ size_said (first_element b)
  size-first = length-first ∙ sym first_said

-- the element that begins bytes, which is neither cut nor a tail and has no fault
module _ (dim : ℕ) (axes : IsDimension dim) (b : List ℕ) (bytes : IsBytes b) (more : is_tail b ≡ false) (uncut : is_cut b ≡ false)
    (sound : element_fault dim (first_element b) ≡ no_fault) where
  first_whole : IsWhole (first_element b)
  first_whole = record {
    size = size-first b uncut;
    bytes = All-take (λ x. x < 256) (size_said b) b bytes;
  }

  first_unmarked : begins_with_mark (first_element b) ≡ false
  first_unmarked =
      let b0 = first_at b uncut 0 (omega arith) in
      let b1 = first_at b uncut 1 (omega arith) in
      rw (b0, b1) ((or_parts _ _ more).1)

  pub first_good : IsWellFormed dim (element_at dim (first_element b))
  first_good = let two = fault_parts dim (first_element b) sound in element_at_good dim (first_element b) axes first_whole two.0 two.1 first_unmarked

  pub first_spelled : spell (element_at dim (first_element b)) ≡ first_element b
  first_spelled = let two = fault_parts dim (first_element b) sound in spell-element_at dim (first_element b) axes first_whole two.0

  -- and where they begin as a TCB does, it is a TCB
  pub first_tcb : is_tcb b ≡ true → IsTcb (element_at dim (first_element b))
  first_tcb tcb =
      let b0 = first_at b uncut 0 (omega arith) in
      let b1 = first_at b uncut 1 (omega arith) in
      let b2 = first_at b uncut 2 (omega arith) in
      let b3 = first_at b uncut 3 (omega arith) in
      let begins : is_tcb (first_element b) ≡ true = rw (b0, b1, b2, b3) tcb in
      let nine : get_or b 1 0 ≡ 9 = tcb_nine b tcb in
      let kind : kind_of (spell (element_at dim (first_element b))) ≡ 9 = ap kind_of first_spelled ∙ (rw b1 (omega arith)) in
      record {
        silent = sym (form-spell dim (element_at dim (first_element b)) axes first_good) ∙ ap form_of kind ∙ silent_nine;
        begins = rw first_spelled begins;
      }

-- a list of well formed elements and one more
each_more : (dim : ℕ) (es : List Element) (e : Element) → AllByRecursion (IsWellFormed dim) es → IsWellFormed dim e
    → AllByRecursion (IsWellFormed dim) (es ++ e ∷ [])
each_more dim [] e good one = (one, tt)
each_more dim (x ∷ es) e good one = (good.0, each_more dim es e good.1 one)

tcb_more : (es : List Element) (e : Element) → MayBeginWithTcb es → (es ≡ [] → IsTcb e) → MayBeginWithTcb (es ++ e ∷ [])
tcb_more [] e first one = one refl
tcb_more (x ∷ es) e first one = first

-- no elements, no bytes
spelling-none : (es : List Element) (f : List ℕ) (p : ℕ) → take p f ≡ spelling es → p ≤ length f → es ≡ [] → p ≡ 0
spelling-none es f p spelled within none = omega (arith, length-take-le p f within, ap (length {A = ℕ}) (spelled ∙ ap spelling none))

take_more_bytes : (f : List ℕ) (p n : ℕ) → take (p + n) f ≡ take p f ++ take n (drop p f)
take_more_bytes f p n =
    sym (take-append-drop p (take (p + n) f)) ∙ ap (λ z. z ++ drop p (take (p + n) f)) (take-take p (p + n) f (omega arith))
    ∙ ap (λ z. take p f ++ z) (drop-take p n f)

module _ (f : List ℕ) (bytes : IsBytes f) (tcb : is_tcb f ≡ true) (es : List Element) (p : ℕ) (front : Front f es p) where
  -- one more element
  pub front_more : is_tail (drop p f) ≡ false → is_cut (drop p f) ≡ false → element_fault (dimension f) (first_element (drop p f)) ≡ no_fault
      → Front f (es ++ element_at (dimension f) (first_element (drop p f)) ∷ []) (p + size_said (drop p f))
  front_more more uncut sound =
      let axes = dimension_is f in
      let rest : IsBytes (drop p f) = All-drop (λ x. x < 256) p f bytes in
      let e : Element = element_at (dimension f) (first_element (drop p f)) in
      let good : IsWellFormed (dimension f) e = first_good (dimension f) axes (drop p f) rest more uncut sound in
      let spelled : spell e ≡ first_element (drop p f) = first_spelled (dimension f) axes (drop p f) rest more uncut sound in
      let long = first_long (drop p f) uncut in
      let size = length-drop p f in
      let before = front.within in
      record {
        spelled = rw (take_more_bytes f p (size_said (drop p f)), front.spelled, flat_map-append spell es (e ∷ []), append-nil (spell e), spelled);
        each = each_more (dimension f) es e front.each good;
        first = tcb_more es e front.first
            (λ none. first_tcb (dimension f) axes (drop p f) rest more uncut sound (rw (spelling-none es f p front.spelled front.within none) tcb));
        within = omega (arith, long.1);
      }

  -- a file that begins as a TCB does isn't empty, and begins with no mark
  tcb_no_tail : is_tail f ≡ true → ⊥
  tcb_no_tail tail =
      let nine : get_or f 1 0 ≡ 9 = tcb_nine f tcb in
      tail_or_mark f nine (or_cases _ _ tail)

  -- at a tail the file opens
  pub front_ends : is_tail (drop p f) ≡ true → Opens f (dimension f) es (drop p f)
  front_ends tail = record {
    whole = sym (take-append-drop p f) ∙ ap (λ z. z ++ drop p f) front.spelled;
    each = front.each;
    first = begins es front.first
        (λ none. tcb_no_tail (let e = spelling-none es f p front.spelled front.within none in subst (λ (k : ℕ). is_tail (drop k f) ≡ true) e tail));
    tail = tail;
    axes = refl;
  }
    where
      begins : (xs : List Element) → MayBeginWithTcb xs → (xs ≡ [] → ⊥) → BeginsWithTcb xs
      begins [] first some = some refl
      begins (x ∷ xs) first some = first

-- before all elements there are none
pub front_none : (f : List ℕ) → Front f [] 0
front_none f = record { spelled = refl; each = tt; first = tt; within = omega arith }

-- a plain program reads the elements of their spellings, up to a tail or a cut element
pub elements_are : (dim : ℕ) → IsDimension dim → (es : List Element) → AllByRecursion (IsWellFormed dim) es → (t : List ℕ) → (is_tail t || is_cut t) ≡ true
    → elements_of dim (spelling es ++ t) ≡ es
elements_are dim axes es good t stop = within_are (length (spelling es ++ t)) dim axes es good t stop (omega arith)

pub elements-spelling : (dim : ℕ) → IsDimension dim → (es : List Element) → AllByRecursion (IsWellFormed dim) es → elements_of dim (spelling es) ≡ es
elements-spelling dim axes es good = ap (elements_of dim) (sym (append-nil (spelling es))) ∙ elements_are dim axes es good [] refl

-- where the body b and a tail open, the elements are those that the program reads from the body
pub opens_elements : (b t : List ℕ) (dim : ℕ) (es : List Element) → Opens (b ++ t) dim es t → elements_of dim b ≡ es
opens_elements b t dim es opens =
    let axes : IsDimension dim = subst IsDimension (sym opens.axes) (dimension_is (b ++ t)) in
    let body : b ≡ spelling es = append_cancel_right b (spelling es) t opens.whole in
    ap (elements_of dim) body ∙ elements-spelling dim axes es opens.each

-- and their spellings are the body
pub body_spelled : (b t : List ℕ) (dim : ℕ) (es : List Element) → Opens (b ++ t) dim es t → spelling (elements_of dim b) ≡ b
body_spelled b t dim es opens = ap spelling (opens_elements b t dim es opens) ∙ sym (append_cancel_right b (spelling es) t opens.whole)

pub opens_of : (b t : List ℕ) (dim : ℕ) (es : List Element) → Opens (b ++ t) dim es t → Opens (b ++ t) dim (elements_of dim b) t
opens_of b t dim es opens = subst (λ (xs : List Element). Opens (b ++ t) dim xs t) (sym (opens_elements b t dim es opens)) opens

-- each element has four bytes or more
pub four_each : (dim : ℕ) → IsDimension dim → (es : List Element) → AllByRecursion (IsWellFormed dim) es → 4 * length es ≤ length (spelling es)
four_each dim axes [] good = omega arith
four_each dim axes (e ∷ es) good =
    omega (arith, not_empty dim e axes good.0 [], four_each dim axes es good.1, length-append (spell e) (spelling es))
