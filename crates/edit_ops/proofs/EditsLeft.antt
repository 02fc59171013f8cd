-- What each edit puts and appends, and what it leaves where nothing refuses it.
use Rattle.std.proofs.Common.{◌≡◌, ℕ, ◌+◌, ◌≤◌, List, [], ◌∷◌, length, refl, sym, ap, ◌∙◌, subst, arith}
use Rattle.std.specs.Prelude.{Some, None}
use Rattle.std.specs.List.{AllByRecursion}
use Rattle.std.proofs.lemmas.List.{append-nil}
use Rattle.patch_bytes.specs.Puts.{Put}
use Rattle.dgn_drawing.specs.declared.edit.Edit.{Edit}
use Rattle.dgn_drawing.specs.declared.edit.Edit.TheVariants as edit
use Rattle.dgn_drawing.specs.Element.{Element}
use Rattle.dgn_drawing.specs.Spelling.{spell, spelling}
use Rattle.dgn_drawing.specs.WellFormed.{IsDimension, IsWellFormed}
use Rattle.dgn_drawing.specs.NewElements.{element_made}
use Rattle.dgn_drawing.specs.Nesting.{flat}
use Rattle.dgn_drawing.specs.Opening.{BeginsWithTcb}
use Rattle.edit_ops.specs.Trees.{Reach, reached}
use Rattle.edit_ops.specs.Causes.{target_of, cause_of, bytes_appended}
use Rattle.edit_ops.specs.Applying.{altered, copied, changed_forest, IsEdit}
use Rattle.edit_ops.specs.EditedFields.{part_fields, edited_fields}
use Rattle.edit_ops.specs.Rules.{rule_of, displacing}
use Rattle.edit_ops.specs.Written.{part_puts, IsReady}
use Rattle.edit_ops.proofs.KeptRules.{edit_keeps, edit_reach}
use Rattle.edit_ops.proofs.EditedBytes.{IsWritten}
use Rattle.edit_ops.proofs.AcceptedEdit.{accepted}
use Rattle.edit_ops.proofs.WhatIsLeft.{IsLeft}
use Rattle.edit_ops.proofs.PartChanged.{IsTarget, part_written, part_left}
use Rattle.edit_ops.proofs.AppendedElements.{short_left, append_causes, append_left}
use Rattle.edit_ops.proofs.CopyEdits.{copy_short, copy_long, copy_left}
use Rattle.dgn_drawing.specs.declared.limits.TheConstants.{MOST_DESIGN}

-- what an edit puts into the drawing, and what it appends
abbrev pub own_puts : ℕ → List Element → Edit → List Put
own_puts dim es (edit.Move n by) = part_puts (rule_of dim (edit.Move n by)) es n
own_puts dim es (edit.Copy n by) = []
own_puts dim es (edit.Sym n change) = part_puts (rule_of dim (edit.Sym n change)) es n
own_puts dim es (edit.Delete n) = part_puts (rule_of dim (edit.Delete n)) es n
own_puts dim es (edit.Append new) = []

abbrev pub own_bytes : ℕ → List Element → Edit → List ℕ
own_bytes dim es (edit.Move n by) = []
own_bytes dim es (edit.Copy n by) = spelling (flat (copied (displacing dim by) es n))
own_bytes dim es (edit.Sym n change) = []
own_bytes dim es (edit.Delete n) = []
own_bytes dim es (edit.Append new) = spell (element_made new)

-- what is left with an edit, where `more` is the elements that it appends
pub record IsEdited (dim : ℕ) (es : List Element) (e : Edit) : Type 0 where
  pub more : List Element
  pub left : IsLeft dim es (own_puts dim es e) (edited_fields dim es e) more (changed_forest dim es e)
  pub bytes : spelling more ≡ own_bytes dim es e
  pub long : length (spelling more) ≡ bytes_appended es e

module _ (dim : ℕ) (axes : IsDimension dim) (es : List Element) (each : AllByRecursion (IsWellFormed dim) es) (first : BeginsWithTcb es) (rest : ℕ) (e : Edit)
    (fits : IsEdit e) (none : cause_of dim es rest e ≡ None) (n : ℕ) (named : target_of e ≡ Some n) where
  -- nothing stands against the element that it names
  pub named_target : IsTarget es (rule_of dim e) (IsReady dim e) n
  named_target =
      let able = accepted dim es rest e n named each first none in
      record {
        known = able.known;
        later = able.later;
        head = able.head;
        there = able.there;
        head_able = able.head_able;
        able = subst (λ (reach : Reach). AllByRecursion (λ v. IsReady dim e v.element) (reached reach es n)) (sym (edit_reach dim e)) able.able;
      }

  -- so its row puts what it should, also where its part is copied
  pub named_written : IsWritten dim es (rule_of dim e) n
  named_written = part_written dim axes es each first (rule_of dim e) (IsReady dim e) (edit_keeps dim axes e fits) n named_target

  -- and leaves what it should
  pub named_left : IsLeft dim es (part_puts (rule_of dim e) es n) (part_fields (rule_of dim e) es n) [] (altered (rule_of dim e) es n)
  named_left = part_left dim axes es each first (rule_of dim e) (IsReady dim e) (edit_keeps dim axes e fits) n named_target

-- what an edit leaves that isn't refused
pub edited : (dim : ℕ) → IsDimension dim → (es : List Element) → AllByRecursion (IsWellFormed dim) es → BeginsWithTcb es → (rest : ℕ) (e : Edit) → IsEdit e
    → cause_of dim es rest e ≡ None → IsEdited dim es e
edited dim axes es each first rest (edit.Move n by) fits none = record {
  more = [];
  left = named_left dim axes es each first rest (edit.Move n by) fits none n refl;
  bytes = refl;
  long = refl;
}
edited dim axes es each first rest (edit.Copy n by) fits none = record {
  more = flat (copied (displacing dim by) es n);
  left = copy_left dim axes es each first rest n by fits none;
  bytes = refl;
  long = copy_long dim axes es each first rest n by fits none;
}
edited dim axes es each first rest (edit.Sym n change) fits none = record {
  more = [];
  left = named_left dim axes es each first rest (edit.Sym n change) fits none n refl;
  bytes = refl;
  long = refl;
}
edited dim axes es each first rest (edit.Delete n) fits none = record {
  more = [];
  left = named_left dim axes es each first rest (edit.Delete n) fits none n refl;
  bytes = refl;
  long = refl;
}
edited dim axes es each first rest (edit.Append new) fits none = record {
  more = element_made new ∷ [];
  left = append_left dim es rest new each first fits none;
  bytes = append-nil (spell (element_made new));
  long = ap (length {A = ℕ}) (append-nil (spell (element_made new)));
}

-- one that isn't refused leaves a file that isn't too long
pub edit_short : (dim : ℕ) (es : List Element) (rest : ℕ) (e : Edit) → cause_of dim es rest e ≡ None → length (spelling es) + rest ≤ MOST_DESIGN
    → length (spelling es) + (rest + bytes_appended es e) ≤ MOST_DESIGN
edit_short dim es rest (edit.Move n by) none few = omega arith
edit_short dim es rest (edit.Copy n by) none few =
    short_left (length (spelling es)) rest (bytes_appended es (edit.Copy n by)) (copy_short dim es rest n by none)
edit_short dim es rest (edit.Sym n change) none few = omega arith
edit_short dim es rest (edit.Delete n) none few = omega arith
edit_short dim es rest (edit.Append new) none few =
    short_left (length (spelling es)) rest (bytes_appended es (edit.Append new)) (append_causes dim es rest new none).1
