-- What a design file is: elements from its first byte on, the first of them the TCB, and a tail. And what
-- keeps bytes from being one: the first place at which no element stands and no tail begins.
use Rattle.std.specs.Prelude.{ℕ, zero, suc, ◌≡◌, ◌+◌, ◌/◌, ◌%◌, ◌≤◌, ◌==◌, ◌&&◌, ◌||◌, nat_lt, IsTrue, IsFalse, Bool, if◌then◌else◌, List, [], ◌∷◌, ◌++◌}
use Rattle.std.specs.Prelude.{length, take, drop, slice_index}
use Rattle.std.specs.List.{AllByRecursion}
use Rattle.std.specs.declared.result.Result.{Result}
use Rattle.std.specs.declared.result.Result.TheVariants.{Ok, Err}
use Rattle.elem_head.specs.Head.{size_of as size_said}
use Rattle.dgn_drawing.specs.declared.form.Form.{Form}
use Rattle.dgn_drawing.specs.declared.body_fault.BodyFault.{BodyFault}
use Rattle.dgn_drawing.specs.Element.{Element, form_of_body}
use Rattle.dgn_drawing.specs.Spelling.{spell, spelling}
use Rattle.dgn_drawing.specs.WellFormed.{IsWellFormed, begins_with_mark}
use Rattle.dgn_drawing.specs.Reading.{element_at}
use Rattle.dgn_drawing.specs.Faults.{element_fault}

-- whether bytes begin as a TCB does: 08 09 FE 02 or C8 09 FE 02
abbrev pub is_tcb : List ℕ → Bool
is_tcb b = (slice_index b 0 == 0x08 || slice_index b 0 == 0xC8) && slice_index b 1 == 0x09 && slice_index b 2 == 0xFE && slice_index b 3 == 0x02

-- whether bytes are a tail: there are none, or they begin with FF FF
abbrev pub is_tail : List ℕ → Bool
is_tail b = length b == 0 || begins_with_mark b

-- the dimension of a file: 3 where bit 0x40 of byte 1214 is set, else 2
abbrev pub dimension : List ℕ → ℕ
dimension f = if slice_index f 1214 / 64 % 2 == 1 then 3 else 2

-- an element is a TCB: it is silent, and its spelling begins as one
pub record IsTcb (e : Element) : Type 0 where
  pub silent : form_of_body e.body ≡ Form.Silent
  pub begins : IsTrue (is_tcb (spell e))

-- the first of the elements, which there is, is a TCB
abbrev pub BeginsWithTcb : List Element → Type 0
BeginsWithTcb [] = ⊥
BeginsWithTcb (e ∷ es) = IsTcb e

-- the file f opens: it is the spellings of well formed elements, the first a TCB, and a tail, in the
-- dimension that its byte 1214 gives
pub record Opens (f : List ℕ) (dim : ℕ) (es : List Element) (t : List ℕ) : Type 0 where
  pub whole : f ≡ spelling es ++ t
  pub each : AllByRecursion (IsWellFormed dim) es
  pub first : BeginsWithTcb es
  pub tail : IsTrue (is_tail t)
  pub axes : dim ≡ dimension f

-- the first of the elements, where there is one, is a TCB
abbrev pub MayBeginWithTcb : List Element → Type 0
MayBeginWithTcb [] = Unit {0}
MayBeginWithTcb (e ∷ es) = IsTcb e

-- the first p bytes of f are the spellings of well formed elements, the first a TCB
pub record Front (f : List ℕ) (es : List Element) (p : ℕ) : Type 0 where
  pub spelled : take p f ≡ spelling es
  pub each : AllByRecursion (IsWellFormed (dimension f)) es
  pub first : MayBeginWithTcb es
  pub within : p ≤ length f

-- whether bytes are too few for the element that begins them, or for its first four bytes
abbrev pub is_cut : List ℕ → Bool
is_cut b = nat_lt (length b) 4 || nat_lt (length b) (size_said b)

-- the bytes of the element that begins them
abbrev pub first_element : List ℕ → List ℕ
first_element b = take (size_said b) b

-- f begins as a TCB does, elements stand before p, and what is left at p is no tail and is as said
pub record StandsAt (f : List ℕ) (p : ℕ) (Here : List ℕ → Type 0) : Type 0 where
  pub tcb : IsTrue (is_tcb f)
  pub front : (es : List Element) × Front f es p
  pub more : IsFalse (is_tail (drop p f))
  pub here : Here (drop p f)

-- the element is whole and has the fault
pub record HasBodyFault (dim : ℕ) (fault : BodyFault) (b : List ℕ) : Type 0 where
  pub whole : IsFalse (is_cut b)
  pub fault_is : element_fault dim (first_element b) ≡ Err fault

-- what is wrong with a file, and at which byte
pub data Fault : Type 0 where
  NotDesign : Fault
  Cut : ℕ → Fault
  Short : ℕ → Fault
  Attr : ℕ → Fault

-- the file f has the fault
abbrev pub HasFault : List ℕ → Fault → Type 0
HasFault f NotDesign = IsFalse (is_tcb f)
HasFault f (Cut p) = StandsAt f p (λ b. IsTrue (is_cut b))
HasFault f (Short p) = StandsAt f p (HasBodyFault (dimension f) BodyFault.Short)
HasFault f (Attr p) = StandsAt f p (HasBodyFault (dimension f) BodyFault.Attr)

-- the elements of bytes, one after the other up to a tail or a cut one, at most n of them
unfoldable pub elements_within : ℕ → ℕ → List ℕ → List Element
elements_within zero dim b = []
elements_within (suc n) dim b =
    if is_tail b || is_cut b then []
    else element_at dim (first_element b) ∷ elements_within n dim (drop (size_said b) b)

-- the elements of bytes
abbrev pub elements_of : ℕ → List ℕ → List Element
elements_of dim b = elements_within (length b) dim b

-- where pieces of these sizes begin, the first at place p
abbrev pub offsets_from : ℕ → List ℕ → List ℕ
offsets_from p [] = []
offsets_from p (size ∷ sizes) = p ∷ offsets_from (p + size) sizes

-- a fault of the element at place p
abbrev pub fault_at : ℕ → BodyFault → Fault
fault_at p BodyFault.Short = Short p
fault_at p BodyFault.Attr = Attr p

-- what a file comes to that has an element at place p and behind it comes to what is given
abbrev pub ending_behind : Result (Unit {0}) BodyFault → ℕ → Result ℕ Fault → Result ℕ Fault
ending_behind (Ok sound) p behind = behind
ending_behind (Err fault) p behind = Err (fault_at p fault)

-- what a file comes to that has the bytes b from place p on: the place of its tail, or its fault. At most
-- n elements are read
unfoldable pub ending_within : ℕ → ℕ → List ℕ → ℕ → Result ℕ Fault
ending_within zero dim b p = Ok p
ending_within (suc n) dim b p =
    if is_tail b then Ok p
    else if is_cut b then Err (Cut p)
    else ending_behind (element_fault dim (first_element b)) p (ending_within n dim (drop (size_said b) b) (p + size_said b))

-- what a file comes to
abbrev pub ending_of : List ℕ → Result ℕ Fault
ending_of f = if is_tcb f then ending_within (length f) (dimension f) f 0 else Err NotDesign
