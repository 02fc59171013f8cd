-- What the answers of opening a file say.
use Rattle.std.specs.Prelude.{ℕ, ◌≡◌, ◌+◌, ◌≤◌, IsTrue, IsFalse, Option, Some, None, List, length, take, drop}
use Rattle.std.specs.declared.result.Result.{Result}
use Rattle.std.specs.declared.result.Result.TheVariants.{Ok, Err}
use Rattle.dgn_layout.specs.Classes.{class_of, is_silent}
use Rattle.elem_head.specs.Head.{kind_of, words_after, size_of as size_said}
use Rattle.dgn_drawing.specs.declared.body_fault.BodyFault.{BodyFault}
use Rattle.dgn_drawing.specs.Element.{Element}
use Rattle.dgn_drawing.specs.Spelling.{spelling}
use Rattle.dgn_drawing.specs.WellFormed.{begins_with_mark}
use Rattle.dgn_drawing.specs.Faults.{element_fault}
use Rattle.dgn_drawing.specs.Opening.{Fault, NotDesign, Cut, Short, Attr, HasFault, HasBodyFault, Opens, is_tail, is_cut, first_element, dimension}
use Rattle.elem_index.specs.declared.design.Design.{Design}
use Rattle.elem_index.specs.declared.open_fault.OpenFault.{OpenFault}
use Rattle.elem_index.specs.Offsets.{offsets_of}
use Rattle.elem_index.specs.Opened.{Opened, opening}
use Rattle.elem_index.specs.Kinds.{Kind}
use Rattle.elem_index.specs.Design.{elements, kinds_in}

-- the file has the fault that is told; want of memory says nothing of the file
abbrev pub HasToldFault : List ℕ → OpenFault → Type 0
HasToldFault f OpenFault.NotDesign = HasFault f NotDesign
HasToldFault f (OpenFault.Cut at) = HasFault f (Cut at)
HasToldFault f (OpenFault.Short at) = HasFault f (Short at)
HasToldFault f (OpenFault.Attr at) = HasFault f (Attr at)
HasToldFault f OpenFault.Memory = Unit {0}

-- what a design is opened as
abbrev pub opened_of : Design → Opened
opened_of d = record { dim = d.dim; elements = elements d; tail = d.tail.items }

-- the fault that is told is the one that is found
abbrev pub TellsFault : Result Opened Fault → OpenFault → Type 0
TellsFault found OpenFault.NotDesign = found ≡ Err NotDesign
TellsFault found (OpenFault.Cut at) = found ≡ Err (Cut at)
TellsFault found (OpenFault.Short at) = found ≡ Err (Short at)
TellsFault found (OpenFault.Attr at) = found ≡ Err (Attr at)
TellsFault found OpenFault.Memory = Unit {0}

-- the answer tells what is found, but for want of memory
abbrev pub TellsOpening : Result Opened Fault → Result Design OpenFault → Type 0
TellsOpening found (Ok d) = found ≡ Ok (opened_of d)
TellsOpening found (Err fault) = TellsFault found fault

-- bytes begin with an element without fault, of that size
pub record BeginsSound (dim : ℕ) (b : List ℕ) (size : ℕ) : Type 0 where
  pub whole : IsFalse (is_cut b)
  pub sound : element_fault dim (first_element b) ≡ Ok tt
  pub long : size ≡ size_said b

-- bytes begin with four that say that nothing follows, of a type of which nothing is read
pub record BeginsBare (b : List ℕ) : Type 0 where
  pub long : 4 ≤ length b
  pub words : words_after b ≡ 0
  pub silent : IsTrue (is_silent (class_of (kind_of b)))

-- bytes begin with the mark, or with an element without fault, of that size
abbrev pub BeginsNext : ℕ → List ℕ → Option ℕ → Type 0
BeginsNext dim b None = IsTrue (begins_with_mark b)
BeginsNext dim b (Some size) = IsFalse (begins_with_mark b) × BeginsSound dim b size

-- the file opens, and has so many elements
pub record HasCount (f : List ℕ) (count : ℕ) : Type 0 where
  pub opened : Opened
  pub found : opening f ≡ Ok opened
  pub counted : count ≡ length opened.elements

-- the element that begins the bytes at place p has the fault that is told
abbrev pub BeginsFaulty : ℕ → ℕ → List ℕ → OpenFault → Type 0
BeginsFaulty dim p b OpenFault.NotDesign = ⊥
BeginsFaulty dim p b (OpenFault.Cut at) = (at ≡ p) × IsTrue (is_cut b)
BeginsFaulty dim p b (OpenFault.Short at) = (at ≡ p) × HasBodyFault dim BodyFault.Short b
BeginsFaulty dim p b (OpenFault.Attr at) = (at ≡ p) × HasBodyFault dim BodyFault.Attr b
BeginsFaulty dim p b OpenFault.Memory = ⊥

-- at place p of a file an element without fault begins, and at place q it ends
pub record StandsSound (f : List ℕ) (p q : ℕ) : Type 0 where
  pub more : IsFalse (is_tail (drop p f))
  pub size : ℕ
  pub sound : BeginsSound (dimension f) (drop p f) size
  pub ends : q ≡ p + size

-- a walk that is at place p of a file comes to place q: it gives p and is behind the element there, or gives none, since
-- the elements end at p
abbrev pub Steps : List ℕ → ℕ → ℕ → Option ℕ → Type 0
Steps f p q None = IsTrue (is_tail (drop p f)) × (q ≡ p)
Steps f p q (Some at) = (at ≡ p) × StandsSound f p q

-- at place p of a file an element begins that has the fault that is told
pub record StandsFaulty (f : List ℕ) (p : ℕ) (told : OpenFault) : Type 0 where
  pub more : IsFalse (is_tail (drop p f))
  pub faulty : BeginsFaulty (dimension f) p (drop p f) told

-- the file opens, its elements end at place p, and these are their offsets, and their bytes and totals
pub record IsRun (f kept : List ℕ) (kinds : List Kind) (p : ℕ) : Type 0 where
  pub elements : List Element
  pub opens : Opens f (dimension f) elements (drop p f)
  pub front : take p f ≡ spelling elements
  pub offsets : kept ≡ offsets_of elements
  pub bytes : kinds ≡ kinds_in elements
  pub within : p ≤ length f
  pub found : opening f ≡ Ok (record { dim = dimension f; elements = elements; tail = drop p f })
