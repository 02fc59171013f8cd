-- The causes of an edit in its place: those that are asked before its sums are made, and what the sums tell behind them.
use Rattle.std.proofs.Common.{◌≡◌, ℕ, List, [], ◌∷◌, Option, Some, None, sym, ap, ◌∙◌, subst}
use Rattle.std.specs.Prelude.{slice_get, option_map, IfSome}
use Rattle.std.specs.List.{AllByRecursion}
use Rattle.std.specs.Option.{option_or, option_to_list}
use Rattle.dgn_layout.specs.Classes.{class_of}
use Rattle.dgn_drawing.specs.declared.edit.Edit.{Edit}
use Rattle.dgn_drawing.specs.declared.edit.Edit.TheVariants as edit
use Rattle.dgn_drawing.specs.Element.{Element}
use Rattle.elem_index.specs.Offsets.{offset_of}
use Rattle.edit_ops.specs.declared.causes.cause.Cause.{Cause}
use Rattle.edit_ops.specs.declared.causes.edit_fault.EditFault.{EditFault}
use Rattle.edit_ops.specs.declared.causes.test.Test.TheVariants as tests
use Rattle.edit_ops.specs.Trees.{Live, live_tree, above_tree, found_at}
use Rattle.edit_ops.specs.Causes.{unwidened, cause_at, first_of, target_of}
use Rattle.edit_ops.specs.Applying.{ChangesInPlace}
use Rattle.edit_ops.specs.Written.{MayWiden}
use Rattle.edit_ops.proofs.AcceptedEdit.{IsKept, none_of, none_first, movable, looks, markable}
use Rattle.edit_ops.proofs.EditedBytes.{all_so}
use Rattle.edit_ops.proofs.HeaderClasses.{headers_head, all_spotted}
use Rattle.edit_ops.specs.Copying.{IsStopped}
use Rattle.edit_ops.specs.Putting.{MayBePut, leaving}
use Rattle.edit_ops.proofs.LeavingElements.{leaving_both, stopped_first}
use Rattle.edit_ops.specs.Asked.{causes_asked}

-- the element that an edit names
same_some : (m n : ℕ) → Some m ≡ Some n → m ≡ n
same_some m n is = cc

-- where nothing that is asked stands against a move, each header above its element has a range that can be made wider
pub headers_widen : (dim : ℕ) (es : List Element) (e : Edit) (n : ℕ) → target_of e ≡ Some n → first_of (causes_asked dim es e) ≡ None
    → MayWiden e (above_tree es n)
headers_widen dim es (edit.Move m by) n named none =
    let each = none_of (causes_asked dim es (edit.Move m by)) none in
    let wide : AllByRecursion (λ v. unwidened v.number (class_of v.element.kind) ≡ None) (above_tree es n) =
    subst (λ (k : ℕ). AllByRecursion (λ v. unwidened v.number (class_of v.element.kind) ≡ None) (above_tree es k)) (same_some m n named)
    (none_first dim tests.Widens (above_tree es m) each.1.1.0) in
    all_spotted (above_tree es n) (headers_head es n) wide
headers_widen dim es (edit.Copy m by) n named none = tt
headers_widen dim es (edit.Sym m change) n named none = tt
headers_widen dim es (edit.Delete m) n named none = tt
headers_widen dim es (edit.Append new) n named none = tt

-- and of each edit, what it changes of the live elements of its part is read
pub live_readable : (dim : ℕ) (es : List Element) (e : Edit) (n : ℕ) → target_of e ≡ Some n → ChangesInPlace e
    → first_of (causes_asked dim es e) ≡ None → AllByRecursion (λ v. MayBePut e v.element) (live_tree es n)
live_readable dim es (edit.Move m by) n named here none =
    let each = none_of (causes_asked dim es (edit.Move m by)) none in
    subst (λ (k : ℕ). AllByRecursion (λ v. MayBePut (edit.Move m by) v.element) (live_tree es k)) (same_some m n named)
    (all_so (λ v. cause_at dim tests.Moves v.number v.element ≡ None) (λ v. MayBePut (edit.Move m by) v.element)
    (λ v has. movable v.number (class_of v.element.kind) has) (live_tree es m) (none_first dim tests.Moves (live_tree es m) each.1.1.1.0))
live_readable dim es (edit.Copy m by) n named here none = absurd here
live_readable dim es (edit.Sym m change) n named here none =
    let each = none_of (causes_asked dim es (edit.Sym m change)) none in
    subst (λ (k : ℕ). AllByRecursion (λ v. MayBePut (edit.Sym m change) v.element) (live_tree es k)) (same_some m n named)
    (all_so (λ v. cause_at dim tests.Looks v.number v.element ≡ None) (λ v. MayBePut (edit.Sym m change) v.element)
    (λ v has. looks v.number (class_of v.element.kind) has) (live_tree es m) (none_first dim tests.Looks (live_tree es m) each.1.0))
live_readable dim es (edit.Delete m) n named here none =
    let each = none_of (causes_asked dim es (edit.Delete m)) none in
    subst (λ (k : ℕ). AllByRecursion (λ v. MayBePut (edit.Delete m) v.element) (live_tree es k)) (same_some m n named)
    (all_so (λ v. cause_at dim tests.Marks v.number v.element ≡ None) (λ v. MayBePut (edit.Delete m) v.element)
    (λ v has. markable v.number v.element.kind has) (live_tree es m) (none_first dim tests.Marks (live_tree es m) each.1.1.0))
live_readable dim es (edit.Append new) n named here none = absurd here

-- the head of a live part is its first live element: an edit that may be put into all may be put into it
pub head_readable : (es : List Element) (e : Edit) (n : ℕ) → AllByRecursion (λ v. MayBePut e v.element) (live_tree es n) → IsKept es n
    → IfSome (slice_get es n) (MayBePut e)
head_readable es e n able k =
    subst (λ (o : Option Element). IfSome o (MayBePut e)) (sym k.there) (subst (AllByRecursion (λ v. MayBePut e v.element)) k.first.1 able).0

-- and where it leaves the plane, it is the first that does
pub head_leaves : (dim : ℕ) (es : List Element) (e : Edit) (n : ℕ) (fault : EditFault) → IsKept es n
    → IsStopped (leaving dim e (option_to_list (found_at es n))) fault → IsStopped (leaving dim e (live_tree es n)) fault
head_leaves dim es e n fault k is =
    let one : List Live → List Live = λ vs. record { number = n; place = offset_of es n; element = k.head } ∷ vs in
    let there : option_to_list (found_at es n) ≡ one [] =
    ap (λ (o : Option Element). option_to_list (option_map (λ (x : Element). record { number = n; place = offset_of es n; element = x }) o)) k.there in
    let first : leaving dim e (live_tree es n) ≡ option_or (leaving dim e (option_to_list (found_at es n))) (leaving dim e k.first.0) =
    ap (leaving dim e) k.first.1 ∙ leaving_both dim e (one []) k.first.0
    ∙ ap (λ (vs : List Live). option_or (leaving dim e vs) (leaving dim e k.first.0)) (sym there) in
    subst (λ (o : Option Cause). IsStopped o fault) (sym first)
    (stopped_first (leaving dim e (option_to_list (found_at es n))) (leaving dim e k.first.0) fault is)
