-- Whether an edit is refused, in the order in which its causes are asked.
use Rattle.std.proofs.Common.{◌≡◌, ℕ, ◌<◌, List, [], length, Bool, cond, Option, Some, None, Result, Ok, Err, refl, sym, ap, ◌∙◌, subst}
use Rattle.std.specs.Prelude.{nat_lt, ◌++◌, IfSome}
use Rattle.std.specs.Option.{option_or}
use Rattle.std.proofs.lemmas.Bool.{ltb-true, lt-ltb}
use Rattle.dgn_drawing.specs.declared.edit.Edit.{Edit}
use Rattle.dgn_drawing.specs.declared.edit.Edit.TheVariants as edit
use Rattle.dgn_drawing.specs.Values.{Displacement}
use Rattle.dgn_drawing.specs.Element.{Element}
use Rattle.dgn_drawing.specs.Nesting.{flat}
use Rattle.edit_ops.specs.declared.causes.cause.Cause.{Cause}
use Rattle.edit_ops.specs.declared.causes.cause.Cause.TheVariants as causes
use Rattle.edit_ops.specs.declared.causes.edit_fault.EditFault.{EditFault}
use Rattle.edit_ops.specs.declared.causes.edit_fault.EditFault.TheVariants as faults
use Rattle.edit_ops.specs.declared.types.plan.Plan.{Plan}
use Rattle.edit_ops.specs.Causes.{unknown, part_cause, causes_of, first_of, target_of, target_cause, cause_of}
use Rattle.edit_ops.specs.Applying.{Done, Refused, applied_unless, apply, changed_forest, ChangesInPlace}
use Rattle.edit_ops.specs.Rules.{rule_of}
use Rattle.edit_ops.specs.Written.{part_puts}
use Rattle.edit_ops.specs.Copying.{AddsUnless}
use Rattle.edit_ops.specs.Planned.{IsPlanBehind, PlansUnless}
use Rattle.edit_ops.proofs.ListedLive.{or_assoc}
use Rattle.edit_ops.proofs.AcceptedEdit.{met, named_cause, done_is}
use Rattle.edit_ops.proofs.EditsLeft.{own_puts, own_bytes}

-- the element is there where it isn't unknown
pub known_is : (n : ℕ) (es : List Element) → unknown n es ≡ None → n < length es
known_is n es is = ltb-true n (length es) (met (nat_lt n (length es)) (causes.Unknown n) is)

-- and then it isn't unknown
not_unknown : (n : ℕ) (es : List Element) → n < length es → unknown n es ≡ None
not_unknown n es known = ap (λ (t : Bool). cond t None (Some (causes.Unknown n))) (lt-ltb n (length es) known)

-- so the element that an edit names is there, where the edit is done
some_known : (es : List Element) (o : Option ℕ) → ((n : ℕ) → o ≡ Some n → n < length es) → IfSome o (λ n. n < length es)
some_known es None each = tt
some_known es (Some n) each = each n refl

pub target_known : (dim : ℕ) (es : List Element) (rest : ℕ) (e : Edit) (made : List Element) → apply dim es rest e ≡ Done made
    → IfSome (target_of e) (λ n. n < length es)
target_known dim es rest e made done =
    some_known es (target_of e) (λ n named. known_is n es (named_cause dim es rest e n named (done_is dim es rest e made done).0).0)

-- the first cause of an edit of a part: there is no such element, or one of the later causes
named_first : (dim : ℕ) (es : List Element) (rest : ℕ) (e : Edit) (n : ℕ) → target_of e ≡ Some n
    → cause_of dim es rest e ≡ option_or (unknown n es) (option_or (part_cause dim es n) (first_of (causes_of dim es rest e)))
named_first dim es rest e n named =
    ap (λ (t : Option ℕ). option_or (target_cause dim es t) (first_of (causes_of dim es rest e))) named
    ∙ or_assoc (unknown n es) (part_cause dim es n) (first_of (causes_of dim es rest e))

-- with a cause it is refused
with_cause : (dim : ℕ) (es : List Element) (rest : ℕ) (e : Edit) (c : Cause) → cause_of dim es rest e ≡ Some c → apply dim es rest e ≡ Refused c
with_cause dim es rest e c is = ap (λ (o : Option Cause). applied_unless o (flat (changed_forest dim es e))) is

-- the first cause of an edit of a part of a known element
pub later_first : (dim : ℕ) (es : List Element) (rest : ℕ) (e : Edit) (n : ℕ) → target_of e ≡ Some n → n < length es
    → cause_of dim es rest e ≡ option_or (part_cause dim es n) (first_of (causes_of dim es rest e))
later_first dim es rest e n named known =
    named_first dim es rest e n named
    ∙ ap (λ (o : Option Cause). option_or o (option_or (part_cause dim es n) (first_of (causes_of dim es rest e)))) (not_unknown n es known)

-- an edit of a part is refused with a later cause
pub later_refused : (dim : ℕ) (es : List Element) (rest : ℕ) (e : Edit) (n : ℕ) (c : Cause) → target_of e ≡ Some n → n < length es
    → option_or (part_cause dim es n) (first_of (causes_of dim es rest e)) ≡ Some c → apply dim es rest e ≡ Refused c
later_refused dim es rest e n c named known is = with_cause dim es rest e c (later_first dim es rest e n named known ∙ is)

-- the element that a copy names
same_some : (n m : ℕ) → Some n ≡ Some m → n ≡ m
same_some n m is = cc

-- so it is the copy of that element
pub copy_named : (e : Edit) (m n : ℕ) (by : Displacement) → e ≡ edit.Copy m by → target_of e ≡ Some n → e ≡ edit.Copy n by
copy_named e m n by is named = is ∙ ap (λ (k : ℕ). edit.Copy k by) (same_some m n (sym (ap target_of is) ∙ named))

-- an edit that changes elements where they stand puts what its row puts into the part and the headers above it
pub puts_in_place : (dim : ℕ) (es : List Element) (e : Edit) (n : ℕ) → target_of e ≡ Some n → ChangesInPlace e
    → (own_puts dim es e ≡ part_puts (rule_of dim e) es n) × (own_bytes dim es e ≡ [])
puts_in_place dim es (edit.Move m by) n named here = (ap (part_puts (rule_of dim (edit.Move m by)) es) (same_some m n named), refl)
puts_in_place dim es (edit.Copy m by) n named here = absurd here
puts_in_place dim es (edit.Sym m change) n named here = (ap (part_puts (rule_of dim (edit.Sym m change)) es) (same_some m n named), refl)
puts_in_place dim es (edit.Delete m) n named here = (ap (part_puts (rule_of dim (edit.Delete m)) es) (same_some m n named), refl)
puts_in_place dim es (edit.Append new) n named here = absurd here

-- an edit that changes elements where they stand has the same causes, whatever else the file has
pub causes_in_place : (dim : ℕ) (es : List Element) (rest : ℕ) (e : Edit) → ChangesInPlace e
    → first_of (causes_of dim es rest e) ≡ first_of (causes_of dim es 0 e)
causes_in_place dim es rest (edit.Move n by) here = refl
causes_in_place dim es rest (edit.Copy n by) here = absurd here
causes_in_place dim es rest (edit.Sym n change) here = refl
causes_in_place dim es rest (edit.Delete n) here = refl
causes_in_place dim es rest (edit.Append new) here = absurd here

-- an edit of a part is one, where it isn't a copy
pub is_in_place : (e : Edit) (n : ℕ) → target_of e ≡ Some n → ((m : ℕ) (by : Displacement) → e ≡ edit.Copy m by → ⊥) → ChangesInPlace e
is_in_place (edit.Move m by) n named other = tt
is_in_place (edit.Copy m by) n named other = other m by refl
is_in_place (edit.Sym m change) n named other = tt
is_in_place (edit.Delete m) n named other = tt
is_in_place (edit.Append new) n named other = let x = named in cc

-- what was added unless a later cause stood makes the plan of a part's edit, or refuses it
pub planned_unless : {A : Type 0} (added old new : List A) (dim : ℕ) (es : List Element) (rest : ℕ) (e : Edit) (n : ℕ) {o : Option Cause}
    (r : Result (Unit {0}) EditFault) (before after : Plan) → target_of e ≡ Some n → n < length es
    → option_or (part_cause dim es n) (first_of (causes_of dim es rest e)) ≡ o → AddsUnless o added r old new
    → (new ≡ old ++ added → o ≡ None → IsPlanBehind dim es rest e before after) → PlansUnless dim es rest e r before after
planned_unless added old new dim es rest e n (Ok x) before after named known is adds plan = plan adds.0 adds.1
planned_unless added old new dim es rest e n (Err (faults.Refused c)) before after named known is adds plan = later_refused dim es rest e n c named known
    (is ∙ adds)
planned_unless added old new dim es rest e n (Err faults.Memory) before after named known is adds plan = tt
