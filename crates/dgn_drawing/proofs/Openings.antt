-- A file opens in exactly one way and has no fault, or has exactly one fault and doesn't open.
use Rattle.std.proofs.Common.{◌≡◌, ℕ, zero, suc, ◌+◌, ◌-◌, ◌≤◌, List, [], ◌∷◌, ◌++◌, length, take, drop, get_or, refl, sym, ap, ◌∙◌, subst, arith, true}
use Rattle.std.proofs.Common.{false, ◌⊎◌, inl, inr, append_assoc, length-append, length-drop}
use Rattle.std.proofs.lemmas.List.{take_at, drop_at, get_or_append_left, take-append-drop, drop-drop, drop_all}
use Rattle.std.proofs.lemmas.Bool.{cases_Bool}
use Rattle.std.specs.List.{AllByRecursion}
use Rattle.std.specs.declared.result.Result.{Result}
use Rattle.std.specs.declared.result.Result.TheVariants.{Ok, Err}
use Rattle.elem_head.specs.Head.{size_of as size_said}
use Rattle.dgn_drawing.specs.declared.body_fault.BodyFault.{BodyFault}
use Rattle.dgn_drawing.specs.Element.{Element}
use Rattle.dgn_drawing.specs.Spelling.{spell, spelling}
use Rattle.dgn_drawing.specs.WellFormed.{IsDimension, IsBytes, IsWellFormed}
use Rattle.dgn_drawing.specs.Reading.{element_at}
use Rattle.dgn_drawing.specs.Faults.{element_fault}
use Rattle.dgn_drawing.specs.Opening.{is_tcb, is_tail, dimension, BeginsWithTcb, Opens, MayBeginWithTcb, Front, is_cut, first_element, StandsAt}
use Rattle.dgn_drawing.specs.Opening.{HasBodyFault, Fault, NotDesign, Cut, Short, Attr, HasFault, fault_at, ending_within, ending_of}
use Rattle.dgn_drawing.proofs.RecordsRead.{no_fault}
use Rattle.dgn_drawing.proofs.FirstElements.{dimension_is, not_empty, Stops, tail_stops, cut_stops, fault_stops, runs_same}
use Rattle.dgn_drawing.proofs.Fronts.{front_none, front_more, front_ends}

-- what stands where elements have ended: a tail, a cut element, or one with a fault
pub data Ends (dim : ℕ) (x : List ℕ) : Type 0 where
  AtTail : is_tail x ≡ true → Ends dim x
  AtCut : is_tail x ≡ false → is_cut x ≡ true → Ends dim x
  AtFault : is_tail x ≡ false → (fault : BodyFault) → HasBodyFault dim fault x → Ends dim x

pub ends_stop : (dim : ℕ) → IsDimension dim → (x : List ℕ) → Ends dim x → Stops dim x
ends_stop dim axes x (AtTail tail) = tail_stops dim axes x tail
ends_stop dim axes x (AtCut more cut) = cut_stops dim axes x cut
ends_stop dim axes x (AtFault more fault has) = fault_stops dim axes x fault has.fault_is

-- two fronts of one file with ends behind them are the same
pub fronts_same : (f : List ℕ) (es fs : List Element) (p q : ℕ) → Front f es p → Front f fs q → Ends (dimension f) (drop p f)
    → Ends (dimension f) (drop q f) → (es ≡ fs) × (p ≡ q)
fronts_same f es fs p q one two end_one end_two =
    let axes = dimension_is f in
    let whole : spelling es ++ drop p f ≡ spelling fs ++ drop q f =
    ap (λ z. z ++ drop p f) (sym one.spelled) ∙ take-append-drop p f ∙ sym (take-append-drop q f) ∙ ap (λ z. z ++ drop q f) two.spelled in
    let same = runs_same (dimension f) axes es fs one.each two.each (drop p f) (drop q f) (ends_stop _ axes _ end_one) (ends_stop _ axes _ end_two) whole in
    let rests = ap (length {A = ℕ}) same.1 in
    let p_in = one.within in
    let q_in = two.within in
    (same.0, omega (arith, length-drop p f, length-drop q f))

-- a file that opens has its elements in front
spelled_front : (f : List ℕ) (es : List Element) (t : List ℕ) → f ≡ spelling es ++ t → (take (length (spelling es)) f ≡ spelling es)
    × (drop (length (spelling es)) f ≡ t) × (length (spelling es) ≤ length f)
spelled_front f es t whole = (
  ap (take (length (spelling es))) whole ∙ take_at (spelling es) t (length (spelling es)) refl,
  ap (drop (length (spelling es))) whole ∙ drop_at (spelling es) t (length (spelling es)) refl,
  omega (arith, ap (length {A = ℕ}) whole, length-append (spelling es) t),
)

may_begin : (es : List Element) → BeginsWithTcb es → MayBeginWithTcb es
may_begin [] first = tt
may_begin (e ∷ es) first = first

pub opens_front : (f : List ℕ) (dim : ℕ) (es : List Element) (t : List ℕ) → Opens f dim es t → Front f es (length (spelling es))
opens_front f dim es t opens =
    let three = spelled_front f es t opens.whole in
    record {
      spelled = three.0;
      each = subst (λ (d : ℕ). AllByRecursion (IsWellFormed d) es) opens.axes opens.each;
      first = may_begin es opens.first;
      within = three.2;
    }

pub opens_rest : (f : List ℕ) (dim : ℕ) (es : List Element) (t : List ℕ) → Opens f dim es t → drop (length (spelling es)) f ≡ t
opens_rest f dim es t opens = (spelled_front f es t opens.whole).1

-- and begins as a TCB does
tcb_same : (x y : List ℕ) → 4 ≤ length x → is_tcb x ≡ true → is_tcb (x ++ y) ≡ true
tcb_same x y long tcb =
    let b0 : get_or (x ++ y) 0 0 ≡ get_or x 0 0 = get_or_append_left x y 0 0 (omega arith) in
    let b1 : get_or (x ++ y) 1 0 ≡ get_or x 1 0 = get_or_append_left x y 0 1 (omega arith) in
    let b2 : get_or (x ++ y) 2 0 ≡ get_or x 2 0 = get_or_append_left x y 0 2 (omega arith) in
    let b3 : get_or (x ++ y) 3 0 ≡ get_or x 3 0 = get_or_append_left x y 0 3 (omega arith) in
    rw (b0, b1, b2, b3) tcb

tcb_first : (dim : ℕ) → IsDimension dim → (es : List Element) (t : List ℕ) → AllByRecursion (IsWellFormed dim) es → BeginsWithTcb es
    → is_tcb (spelling es ++ t) ≡ true
tcb_first dim axes [] t good first = absurd first
tcb_first dim axes (e ∷ es) t good first =
    rw (append_assoc (spell e) (spelling es) t) (tcb_same (spell e) (spelling es ++ t) (not_empty dim e axes good.0 []) first.begins)

pub opens_tcb : (f : List ℕ) (dim : ℕ) (es : List Element) (t : List ℕ) → Opens f dim es t → is_tcb f ≡ true
opens_tcb f dim es t opens =
    ap is_tcb opens.whole ∙ tcb_first dim (subst IsDimension (sym opens.axes) (dimension_is f)) es t opens.each opens.first

opens_ends : (f : List ℕ) (dim : ℕ) (es : List Element) (t : List ℕ) → Opens f dim es t → Ends (dimension f) (drop (length (spelling es)) f)
opens_ends f dim es t opens = AtTail (ap is_tail (opens_rest f dim es t opens) ∙ opens.tail)

-- a file opens in one way
pub opens_once : (f : List ℕ) (dim : ℕ) (es : List Element) (t : List ℕ) (dim' : ℕ) (es' : List Element) (t' : List ℕ) → Opens f dim es t → Opens f dim' es' t'
    → (dim ≡ dim') × (es ≡ es') × (t ≡ t')
opens_once f dim es t dim' es' t' one two =
    let same = fronts_same f es es' _ _ (opens_front f dim es t one) (opens_front f dim' es' t' two) (opens_ends f dim es t one)
    (opens_ends f dim' es' t' two) in (
      one.axes ∙ sym two.axes,
      same.0,
      sym (opens_rest f dim es t one) ∙ ap (λ (k : ℕ). drop k f) same.1 ∙ opens_rest f dim' es' t' two,
    )

-- two places of a file at which no element stands and no tail begins are one
places_same : (f : List ℕ) (p q : ℕ) (P Q : List ℕ → Type 0) → StandsAt f p P → StandsAt f q Q → Ends (dimension f) (drop p f)
    → Ends (dimension f) (drop q f) → p ≡ q
places_same f p q P Q one two end_one end_two = (fronts_same f one.front.0 two.front.0 p q one.front.1 two.front.1 end_one end_two).1

cut_ends : (f : List ℕ) (p : ℕ) → HasFault f (Cut p) → Ends (dimension f) (drop p f)
cut_ends f p h = AtCut h.more h.here

short_ends : (f : List ℕ) (p : ℕ) → HasFault f (Short p) → Ends (dimension f) (drop p f)
short_ends f p h = AtFault h.more BodyFault.Short h.here

attr_ends : (f : List ℕ) (p : ℕ) → HasFault f (Attr p) → Ends (dimension f) (drop p f)
attr_ends f p h = AtFault h.more BodyFault.Attr h.here

-- at one place one thing is wrong
cut_whole : (f : List ℕ) (p q : ℕ) (fault : BodyFault) → p ≡ q → is_cut (drop p f) ≡ true → HasBodyFault (dimension f) fault (drop q f) → ⊥
cut_whole f p q fault same cut has = let e = ap (λ (k : ℕ). is_cut (drop k f)) same in let w = has.whole in cc

short_attr : (f : List ℕ) (p q : ℕ) → p ≡ q → HasBodyFault (dimension f) BodyFault.Short (drop p f) → HasBodyFault (dimension f) BodyFault.Attr (drop q f) → ⊥
short_attr f p q same short attr =
    let e = ap (λ (k : ℕ). element_fault (dimension f) (first_element (drop k f))) same in
    let one = short.fault_is in
    let two = attr.fault_is in
    cc

-- a file has one fault
pub fault_once : (f : List ℕ) (x y : Fault) → HasFault f x → HasFault f y → x ≡ y
fault_once f NotDesign NotDesign h k = refl
fault_once f NotDesign (Cut q) h k = absurd (let t = k.tcb in cc)
fault_once f NotDesign (Short q) h k = absurd (let t = k.tcb in cc)
fault_once f NotDesign (Attr q) h k = absurd (let t = k.tcb in cc)
fault_once f (Cut p) NotDesign h k = absurd (let t = h.tcb in cc)
fault_once f (Short p) NotDesign h k = absurd (let t = h.tcb in cc)
fault_once f (Attr p) NotDesign h k = absurd (let t = h.tcb in cc)
fault_once f (Cut p) (Cut q) h k = ap Cut (places_same f p q _ _ h k (cut_ends f p h) (cut_ends f q k))
fault_once f (Short p) (Short q) h k = ap Short (places_same f p q _ _ h k (short_ends f p h) (short_ends f q k))
fault_once f (Attr p) (Attr q) h k = ap Attr (places_same f p q _ _ h k (attr_ends f p h) (attr_ends f q k))
fault_once f (Cut p) (Short q) h k = absurd (cut_whole f p q _ (places_same f p q _ _ h k (cut_ends f p h) (short_ends f q k)) h.here k.here)
fault_once f (Cut p) (Attr q) h k = absurd (cut_whole f p q _ (places_same f p q _ _ h k (cut_ends f p h) (attr_ends f q k)) h.here k.here)
fault_once f (Short p) (Cut q) h k = absurd (cut_whole f q p _ (places_same f q p _ _ k h (cut_ends f q k) (short_ends f p h)) k.here h.here)
fault_once f (Attr p) (Cut q) h k = absurd (cut_whole f q p _ (places_same f q p _ _ k h (cut_ends f q k) (attr_ends f p h)) k.here h.here)
fault_once f (Short p) (Attr q) h k = absurd (short_attr f p q (places_same f p q _ _ h k (short_ends f p h) (attr_ends f q k)) h.here k.here)
fault_once f (Attr p) (Short q) h k = absurd (short_attr f q p (places_same f q p _ _ k h (short_ends f q k) (attr_ends f p h)) k.here h.here)

-- what stands behind the elements of a file that opens is a tail, and no fault
no_place : (f : List ℕ) (dim : ℕ) (es : List Element) (t : List ℕ) → Opens f dim es t → (p : ℕ) (P : List ℕ → Type 0) → StandsAt f p P
    → Ends (dimension f) (drop p f) → ⊥
no_place f dim es t opens p P stands ends =
    let same = (fronts_same f es stands.front.0 _ p (opens_front f dim es t opens) stands.front.1 (opens_ends f dim es t opens) ends).1 in
    let tail : is_tail (drop p f) ≡ true = ap (λ (k : ℕ). is_tail (drop k f)) (sym same) ∙ ap is_tail (opens_rest f dim es t opens) ∙ opens.tail in
    let more = stands.more in
    cc

pub opens_no_fault : (f : List ℕ) (dim : ℕ) (es : List Element) (t : List ℕ) → Opens f dim es t → (x : Fault) → HasFault f x → ⊥
opens_no_fault f dim es t opens NotDesign has = let tcb = opens_tcb f dim es t opens in cc
opens_no_fault f dim es t opens (Cut p) has = no_place f dim es t opens p _ has (cut_ends f p has)
opens_no_fault f dim es t opens (Short p) has = no_place f dim es t opens p _ has (short_ends f p has)
opens_no_fault f dim es t opens (Attr p) has = no_place f dim es t opens p _ has (attr_ends f p has)

-- what is so where a file comes to that
abbrev pub ComesTo : List ℕ → Result ℕ Fault → Type 0
ComesTo f (Ok p) = (es : List Element) × Front f es p × Opens f (dimension f) es (drop p f)
ComesTo f (Err x) = HasFault f x

fault_comes : (f : List ℕ) (p : ℕ) (x : BodyFault) → StandsAt f p (HasBodyFault (dimension f) x) → ComesTo f (Err (fault_at p x))
fault_comes f p BodyFault.Short h = h
fault_comes f p BodyFault.Attr h = h

cases_fault : (dim : ℕ) (b : List ℕ) → (element_fault dim b ≡ no_fault) ⊎ ((x : BodyFault) × (element_fault dim b ≡ Err x))
cases_fault dim b = each (element_fault dim b)
  where
    each : (r : Result (Unit {0}) BodyFault) → (r ≡ no_fault) ⊎ ((x : BodyFault) × (r ≡ Err x))
    each (Ok u) = inl refl
    each (Err x) = inr (x, refl)

module _ (f : List ℕ) (bytes : IsBytes f) (tcb : is_tcb f ≡ true) where
  comes_within : (n : ℕ) (es : List Element) (p : ℕ) → Front f es p → length f - p ≤ n → ComesTo f (ending_within n (dimension f) (drop p f) p)
  unfolding ending_within
  comes_within zero es p front left =
      let none : drop p f ≡ [] = drop_all p f (omega arith) in
      (es, front, front_ends f bytes tcb es p front (ap is_tail none))
  comes_within (suc n) es p front left =
      elim (cases_Bool (is_tail (drop p f))) [
        | inl tail ↦ rw tail (es, front, front_ends f bytes tcb es p front tail)
        | inr more ↦ elim (cases_Bool (is_cut (drop p f))) [
          | inl cut ↦ rw (more, cut) (record { tcb = tcb; front = (es, front); more = more; here = cut })
          | inr uncut ↦ elim (cases_fault (dimension f) (first_element (drop p f))) [
            | inl sound ↦
                let on = comes_within n (es ++ element_at (dimension f) (first_element (drop p f)) ∷ []) (p + size_said (drop p f))
                (front_more f bytes tcb es p front more uncut sound) (omega arith) in
                rw (more, uncut, sound, drop-drop (size_said (drop p f)) p f) on
            | inr fault ↦ rw (more, uncut, fault.1)
                (fault_comes f p fault.0 (record { tcb = tcb; front = (es, front); more = more; here = record { whole = uncut; fault_is = fault.1 } }))
          ]
        ]
      ]

-- a file comes to what the plain program says: it opens with its tail at the place, or it has the fault
pub comes_to : (f : List ℕ) → IsBytes f → ComesTo f (ending_of f)
comes_to f bytes =
    elim (cases_Bool (is_tcb f)) [
      | inl tcb ↦ rw tcb (comes_within f bytes tcb (length f) [] 0 (front_none f) (omega arith))
      | inr other ↦ rw other other
    ]
