-- How the walk through a file goes on and ends.
use Rattle.std.proofs.Common.{◌≡◌, ℕ, ◌+◌, ◌*◌, ◌<◌, map, length-append, ◌≤◌, List, [], ◌∷◌, ◌++◌, length, drop, get_or, refl, sym}
use Rattle.std.proofs.Common.{ap, ◌∙◌, subst, arith, true, false}
use Rattle.std.specs.Prelude.{Option, Some, None}
use Rattle.std.specs.Option.{is_some}
use Rattle.std.proofs.lemmas.List.{get_or_default, length-take-le, length-map, take-append-drop}
use Rattle.std.proofs.lemmas.List.Elements.{All-drop}
use Rattle.dgn_layout.specs.Classes.{class_of}
use Rattle.elem_head.specs.Head.{kind_of, size_of as size_said}
use Rattle.std.proofs.lemmas.Bool.{both_ways}
use Rattle.dgn_drawing.specs.Element.{Element}
use Rattle.dgn_drawing.specs.Spelling.{spell, spelling, size_of}
use Rattle.dgn_drawing.specs.Rows.{row_of}
use Rattle.dgn_drawing.specs.Nesting.{is_counted}
use Rattle.dgn_drawing.specs.WellFormed.{IsBytes, IsWellFormed}
use Rattle.dgn_drawing.specs.Reading.{element_at}
use Rattle.dgn_drawing.specs.Opening.{NotDesign, Cut, Short, Attr, is_tcb, dimension, is_tail, Front, first_element, StandsAt, HasFault}
use Rattle.dgn_drawing.proofs.Fronts.{front_none, front_more, front_ends, four_each, first_good, first_spelled}
use Rattle.dgn_drawing.proofs.FirstElements.{dimension_is}
use Rattle.elem_index.specs.declared.open_fault.OpenFault.{OpenFault}
use Rattle.elem_index.specs.Offsets.{offsets_of}
use Rattle.elem_index.specs.Kinds.{Kind}
use Rattle.elem_index.specs.Design.{kind_of_row, kind_at, kinds_in}
use Rattle.elem_index.proofs.KindBytes.{kinds_in-more, kind_at-spell, counted_long}
use Rattle.elem_index.specs.Answers.{HasToldFault, TellsFault, BeginsFaulty, Steps, StandsSound, StandsFaulty, HasCount, IsRun}
use Rattle.elem_index.specs.Opened.{opening}
use Rattle.dgn_drawing.proofs.Offsets.{length-offsets_from, offsets_from-more}
use Rattle.elem_index.proofs.OpeningAnswers.{opening-opens, opening-fault}

-- the bytes of a slice
pub are_bytes : (b : List ℕ) → ((i : ℕ) → get_or b i 0 < 256) → IsBytes b
are_bytes b each k d within = let same = get_or_default b k d 0 within in omega (arith, each k)

-- the fault of a file is the one that the program finds
pub fault_given : (f : List ℕ) → IsBytes f → (x : OpenFault) → HasToldFault f x → TellsFault (opening f) x
fault_given f bytes OpenFault.NotDesign has = opening-fault f NotDesign bytes has
fault_given f bytes (OpenFault.Cut at) has = opening-fault f (Cut at) bytes has
fault_given f bytes (OpenFault.Short at) has = opening-fault f (Short at) bytes has
fault_given f bytes (OpenFault.Attr at) has = opening-fault f (Attr at) bytes has
fault_given f bytes OpenFault.Memory has = tt

-- elements stand before the place, and these are their offsets, and their bytes and totals
pub record Going (f kept : List ℕ) (kinds : List Kind) (p : ℕ) : Type 0 where
  pub elements : List Element
  pub front : Front f elements p
  pub offsets : kept ≡ offsets_of elements
  pub bytes : kinds ≡ kinds_in elements

pub going_start : (f : List ℕ) → Going f [] [] 0
going_start f = record { elements = []; front = front_none f; offsets = refl; bytes = refl }

-- at the place of a sound element stand its bytes, and its byte and total are read there
module _ (f : List ℕ) (bytes : IsBytes f) (p q : ℕ) (stands : StandsSound f p q) where
  abbrev at_hand : Element
  at_hand = element_at (dimension f) (first_element (drop p f))

  rest_bytes : IsBytes (drop p f)
  rest_bytes = All-drop (λ (x : ℕ). x < 256) p f bytes

  hand_good : IsWellFormed (dimension f) at_hand
  hand_good = first_good (dimension f) (dimension_is f) (drop p f) rest_bytes stands.more stands.sound.whole stands.sound.sound

  hand_spelled : drop p f ≡ spell at_hand ++ drop (size_said (drop p f)) (drop p f)
  hand_spelled =
      sym (take-append-drop (size_said (drop p f)) (drop p f))
      ∙ ap (λ (x : List ℕ). x ++ drop (size_said (drop p f)) (drop p f))
      (sym (first_spelled (dimension f) (dimension_is f) (drop p f) rest_bytes stands.more stands.sound.whole stands.sound.sound))

  first_kind : kind_at (drop p f) ≡ kind_of_row (row_of at_hand)
  first_kind =
      ap kind_at hand_spelled ∙ kind_at-spell (dimension f) at_hand (dimension_is f) hand_good (drop (size_said (drop p f)) (drop p f))

  pub counted_here : is_counted (class_of (kind_of (drop p f))) ≡ true → 40 ≤ length (drop p f)
  counted_here = rw hand_spelled (counted_long (dimension f) at_hand (dimension_is f) hand_good (drop (size_said (drop p f)) (drop p f)))

-- a step that gives a place is over an element, and one that gives none is where the elements end
pub steps_over : (f : List ℕ) (p q : ℕ) (at : Option ℕ) → is_some at ≡ true → Steps f p q at → StandsSound f p q
steps_over f p q (Some at) some step = step.1
steps_over f p q None some step = absurd (both_ways false refl some)

pub steps_end : (f : List ℕ) (p q : ℕ) (at : Option ℕ) → is_some at ≡ false → Steps f p q at → (is_tail (drop p f) ≡ true) × (q ≡ p)
steps_end f p q None none step = step
steps_end f p q (Some at) none step = absurd (both_ways true none refl)

module _ (f : List ℕ) (bytes : IsBytes f) (tcb : is_tcb f ≡ true) (kept : List ℕ) (kinds : List Kind) (p : ℕ) (going : Going f kept kinds p) where
  -- behind an element without fault the walk goes on
  pub going_more : (at q : ℕ) → (at ≡ p) × StandsSound f p q → Going f (kept ++ at ∷ []) (kinds ++ kind_at (drop p f) ∷ []) q
  going_more at q step =
      let stands = step.1 in
      let es = going.elements in
      let begins = stands.sound in
      let place : 0 + length (spelling es) ≡ p = omega (arith, ap (length {A = ℕ}) going.front.spelled, length-take-le p f going.front.within) in
      let front = front_more f bytes tcb es p going.front stands.more begins.whole begins.sound in
      record {
        elements = es ++ element_at (dimension f) (first_element (drop p f)) ∷ [];
        front = rw (stands.ends, begins.long) front;
        offsets = rw (going.offsets, step.0, ← place) (sym (offsets_from-more 0 es _));
        bytes = rw (going.bytes, first_kind f bytes p q stands) (sym (kinds_in-more es (element_at (dimension f) (first_element (drop p f)))));
      }

  -- at a tail the elements end
  pub run_ends : (q : ℕ) → (is_tail (drop p f) ≡ true) × (q ≡ p) → IsRun f kept kinds q
  run_ends q ends = subst (IsRun f kept kinds) (sym ends.1) (record {
    elements = going.elements;
    opens = front_ends f bytes tcb going.elements p going.front ends.0;
    front = going.front.spelled;
    offsets = going.offsets;
    bytes = going.bytes;
    within = going.front.within;
    found = opening-opens f (record { dim = dimension f; elements = going.elements; tail = drop p f }) bytes
        (front_ends f bytes tcb going.elements p going.front ends.0);
  })

  -- an element with a fault is the fault of the file
  stands : (Here : List ℕ → Type 0) → is_tail (drop p f) ≡ false → Here (drop p f) → StandsAt f p Here
  stands Here more here = record { tcb = tcb; front = (going.elements, going.front); more = more; here = here }

  run_faulty : (x : OpenFault) → is_tail (drop p f) ≡ false → BeginsFaulty (dimension f) p (drop p f) x → HasToldFault f x
  run_faulty OpenFault.NotDesign more begins = absurd begins
  run_faulty (OpenFault.Cut at) more begins = subst (λ (k : ℕ). HasFault f (Cut k)) (sym begins.0) (stands _ more begins.1)
  run_faulty (OpenFault.Short at) more begins = subst (λ (k : ℕ). HasFault f (Short k)) (sym begins.0) (stands _ more begins.1)
  run_faulty (OpenFault.Attr at) more begins = subst (λ (k : ℕ). HasFault f (Attr k)) (sym begins.0) (stands _ more begins.1)
  run_faulty OpenFault.Memory more begins = absurd begins

  pub faulty_here : (x : OpenFault) → StandsFaulty f p x → HasToldFault f x
  faulty_here x stands = run_faulty x stands.more stands.faulty

  pub fault_here : (x : OpenFault) → StandsFaulty f p x → TellsFault (opening f) x
  fault_here x stands = fault_given f bytes x (faulty_here x stands)

-- so many elements stand before the place
pub record Counted (f : List ℕ) (count p : ℕ) : Type 0 where
  pub kept : List ℕ
  pub kinds : List Kind
  pub going : Going f kept kinds p
  pub all : count ≡ length kept

pub counted_start : (f : List ℕ) → Counted f 0 0
counted_start f = record { kept = []; kinds = []; going = going_start f; all = refl }

-- as many as there are offsets
pub count_ends : (f kept : List ℕ) (kinds : List Kind) (count p : ℕ) → count ≡ length kept → IsRun f kept kinds p → HasCount f count
count_ends f kept kinds count p all run = record {
  opened = record { dim = dimension f; elements = run.elements; tail = drop p f };
  found = run.found;
  counted = all ∙ ap (length {A = ℕ}) run.offsets ∙ length-offsets_from 0 (map size_of run.elements) ∙ length-map run.elements size_of;
}

pub counted_more : (f kept : List ℕ) (kinds : List Kind) (count p q : ℕ) → count ≡ length kept → Going f (kept ++ p ∷ []) kinds q → Counted f (count + 1) q
counted_more f kept kinds count p q all going =
    record { kept = kept ++ p ∷ []; kinds = kinds; going = going; all = omega (arith, all, length-append kept (p ∷ [])) }

-- there are no more elements than bytes before the place
pub counted_small : (f : List ℕ) (count p : ℕ) → Counted f count p → 4 * count ≤ length f
counted_small f count p counted =
    let es = counted.going.elements in
    let front = counted.going.front in
    let four = four_each (dimension f) (dimension_is f) es front.each in
    let offsets : count ≡ length es =
    counted.all ∙ ap (length {A = ℕ}) counted.going.offsets ∙ length-offsets_from 0 (map size_of es) ∙ length-map es size_of in
    let spelled : length (spelling es) ≡ p = sym (ap (length {A = ℕ}) front.spelled) ∙ length-take-le p f front.within in
    omega (arith, four, offsets, spelled, front.within)
