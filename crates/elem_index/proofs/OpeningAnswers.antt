-- The function that opens files gives what the definitions say, and the definitions what it gives.
use Rattle.std.proofs.Common.{◌≡◌, ℕ, List, take, drop, refl, sym, ap, ◌∙◌, subst, false, ◌⊎◌, inl, inr}
use Rattle.std.specs.declared.result.Result.{Result}
use Rattle.std.specs.declared.result.Result.TheVariants.{Ok, Err}
use Rattle.dgn_drawing.specs.Element.{Element}
use Rattle.dgn_drawing.specs.WellFormed.{IsBytes}
use Rattle.dgn_drawing.specs.Opening.{is_tcb, dimension, Opens, Fault, NotDesign, HasFault, elements_of, ending_of}
use Rattle.dgn_drawing.proofs.FirstElements.{dimension_is}
use Rattle.dgn_drawing.proofs.Fronts.{elements-spelling}
use Rattle.dgn_drawing.proofs.Openings.{ComesTo, comes_to, opens_once, fault_once, opens_no_fault}
use Rattle.elem_index.specs.Opened.{Opened, opened_or, opening}
use Rattle.elem_index.specs.Laws.{OpensAs, OpensAlone, FaultsAlone}

-- what the program gives is so
abbrev pub IsSo : List ℕ → Result Opened Fault → Type 0
IsSo f (Ok o) = OpensAs f o
IsSo f (Err fault) = HasFault f fault

so_from : (f : List ℕ) (r : Result ℕ Fault) → ComesTo f r → IsSo f (opened_or f r)
so_from f (Ok p) comes =
    let read : elements_of (dimension f) (take p f) ≡ comes.0 =
    ap (elements_of (dimension f)) comes.1.spelled ∙ elements-spelling (dimension f) (dimension_is f) comes.0 comes.1.each in
    subst (λ (es : List Element). Opens f (dimension f) es (drop p f)) (sym read) comes.2
so_from f (Err fault) comes = comes

pub opening_so : (f : List ℕ) → IsBytes f → IsSo f (opening f)
unfolding opening
opening_so f bytes = so_from f (ending_of f) (comes_to f bytes)

-- bytes that don't begin as a TCB does are none
pub opening-other : (f : List ℕ) → is_tcb f ≡ false → opening f ≡ Err NotDesign
unfolding opening
opening-other f other = rw other refl

-- a file opens as one thing
abbrev opened_with : ℕ → List Element → List ℕ → Opened
opened_with d es t = record { dim = d; elements = es; tail = t }

same_opened : (x y : Opened) → x.dim ≡ y.dim → x.elements ≡ y.elements → x.tail ≡ y.tail → x ≡ y
same_opened x y dim elements tail = let e : opened_with x.dim x.elements x.tail ≡ opened_with y.dim y.elements y.tail = cc in e

pub opens_as_once : (f : List ℕ) (x y : Opened) → OpensAs f x → OpensAs f y → x ≡ y
opens_as_once f x y one two =
    let same = opens_once f x.dim x.elements x.tail y.dim y.elements y.tail one two in
    same_opened x y same.0 same.1 same.2

-- so the program gives it
only_opened : (f : List ℕ) (r : Result Opened Fault) (o : Opened) → IsSo f r → OpensAs f o → r ≡ Ok o
only_opened f (Ok x) o is opens = ap Ok (opens_as_once f x o is opens)
only_opened f (Err fault) o is opens = absurd (opens_no_fault f o.dim o.elements o.tail opens fault is)

only_fault : (f : List ℕ) (r : Result Opened Fault) (fault : Fault) → IsSo f r → HasFault f fault → r ≡ Err fault
only_fault f (Ok x) fault is has = absurd (opens_no_fault f x.dim x.elements x.tail is fault has)
only_fault f (Err x) fault is has = ap Err (fault_once f x fault is has)

pub opening-opens : (f : List ℕ) (o : Opened) → IsBytes f → OpensAs f o → opening f ≡ Ok o
opening-opens f o bytes opens = only_opened f (opening f) o (opening_so f bytes) opens

pub opening-fault : (f : List ℕ) (fault : Fault) → IsBytes f → HasFault f fault → opening f ≡ Err fault
opening-fault f fault bytes has = only_fault f (opening f) fault (opening_so f bytes) has

pub opens-opening : (f : List ℕ) (o : Opened) → IsBytes f → opening f ≡ Ok o → OpensAs f o
opens-opening f o bytes is = subst (IsSo f) is (opening_so f bytes)

pub fault-opening : (f : List ℕ) (fault : Fault) → IsBytes f → opening f ≡ Err fault → HasFault f fault
fault-opening f fault bytes is = subst (IsSo f) is (opening_so f bytes)

-- each file opens or has one fault
alone : (f : List ℕ) (r : Result Opened Fault) → IsSo f r → OpensAlone f ⊎ FaultsAlone f
alone f (Ok o) is = inl (record {
  opened = o;
  opens = is;
  only = λ other opens. opens_as_once f other o opens is;
  no_fault = λ fault has. opens_no_fault f o.dim o.elements o.tail is fault has;
})
alone f (Err fault) is = inr (record {
  fault = fault;
  has = is;
  only = λ other has. fault_once f other fault has is;
  not_open = λ o opens. opens_no_fault f o.dim o.elements o.tail opens fault is;
})

pub opens_or_faults : (f : List ℕ) → IsBytes f → OpensAlone f ⊎ FaultsAlone f
opens_or_faults f bytes = alone f (opening f) (opening_so f bytes)
