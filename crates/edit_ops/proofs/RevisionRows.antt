-- The rows of revisions keep what a row has to: what is put into an element, and into a header above one, is right.
use Rattle.std.proofs.Common.{◌≡◌, ℕ, ℤ, ◌+◌, ◌<◌, ◌≤◌, List, [], ◌∷◌, length, map, Bool, true, false, refl, sym, ap, ◌∙◌, subst, arith}
use Rattle.std.specs.Prelude.{if◌then◌else◌, Option, Some}
use Rattle.dgn_layout.specs.declared.types.Class.{Class}
use Rattle.dgn_layout.specs.Classes.{class_of}
use Rattle.dgn_layout.specs.declared.TheConstants.{END_MARK}
use Rattle.patch_bytes.specs.Puts.{Put}
use Rattle.dgn_drawing.specs.declared.edit.Edit.TheVariants as edit
use Rattle.dgn_drawing.specs.Element.{Element}
use Rattle.dgn_drawing.specs.Spelling.{spell}
use Rattle.dgn_drawing.specs.WellFormed.{IsDimension, IsWellFormed}
use Rattle.dgn_revision.specs.Revisions.{IsName, AreCharacters, IsVertex}
use Rattle.dgn_revision.specs.Stretches.{Stretch, stretch_of}
use Rattle.dgn_revision.specs.Revising.{relevelled, locked, unmarked, renamed, retexted, room, row_of_points, range_at_point, with_vertex}
use Rattle.dgn_revision.specs.RevisionPuts.{level_fields, level_puts, lock_fields, lock_puts, mark_fields, unmark_puts, name_fields, name_puts}
use Rattle.dgn_revision.specs.RevisionPuts.{text_fields, text_puts, vertex_fields, vertex_puts}
use Rattle.dgn_revision.specs.Laws.{IsRevised}
use Rattle.dgn_revision.proofs.FirstBytes.{level_put, unmark_put}
use Rattle.dgn_revision.proofs.Locks.{lock_put}
use Rattle.dgn_revision.proofs.Names.{name_put}
use Rattle.dgn_revision.proofs.TextsInPlace.{text_put}
use Rattle.dgn_revision.proofs.Vertices.{vertex_put}
use Rattle.edit_ops.specs.Fields.{Field}
use Rattle.edit_ops.specs.Trees.{Reach, Living, Head}
use Rattle.edit_ops.specs.RevisionRules.{placed_fields, placed_puts, revising, relevelling, locking, marked_fields, marked_puts, undeleting, renaming, retexting}
use Rattle.edit_ops.specs.RevisionRules.{replacing, pointing}
use Rattle.edit_ops.proofs.ReadableElements.{IsShown}
use Rattle.edit_ops.proofs.TextTurns.{Turns, turns_none, turns_inside}
use Rattle.edit_ops.proofs.LivePuts.{field_of, IsPut, element_put}
use Rattle.edit_ops.proofs.HeaderPuts.{IsAbovePut, widened}
use Rattle.edit_ops.proofs.KeptRules.{Keeps}

-- what is put at places of an element is laid over its stretches
placed_over : (p : ℕ) (puts : List Put) → map field_of (placed_puts p puts) ≡ placed_fields p (map stretch_of puts)
placed_over p [] = refl
placed_over p (q ∷ puts) = ap (λ (fs : List Field). record { at = p + q.at; len = length q.bytes } ∷ fs) (placed_over p puts)

-- a revised element, by its puts
revised_turned : (dim : ℕ) (e new : Element) (puts : List Put) (fields : List Stretch) → IsRevised dim e new puts fields → (p : ℕ)
    → Turns p (spell e) (placed_puts p puts) (spell new)
revised_turned dim e new puts fields is p = turns_inside p (spell e) (spell new) puts is.rises is.spelled

revised_over : (dim : ℕ) (e new : Element) (puts : List Put) (fields : List Stretch) → IsRevised dim e new puts fields → (p : ℕ)
    → map field_of (placed_puts p puts) ≡ placed_fields p fields
revised_over dim e new puts fields is p = placed_over p puts ∙ ap (placed_fields p) is.over

-- so a row that revises elements puts what it should
pub revised_put : (dim : ℕ) (reach : Reach) (made : Element → Element) (fields : Element → List Stretch) (puts : Element → List Put) (v : Element)
    → IsRevised dim v (made v) (puts v) (fields v) → IsPut dim (revising reach made fields puts) v
revised_put dim reach made fields puts v is = record {
  turned = revised_turned dim v (made v) (puts v) (fields v) is;
  good = is.good;
  row = is.row;
  fields = revised_over dim v (made v) (puts v) (fields v) is;
}

-- and leaves a header above
pub header_left : (dim : ℕ) (reach : Reach) (made : Element → Element) (fields : Element → List Stretch) (puts : Element → List Put) (head : Option Element)
    (h : Element) → IsWellFormed dim h → IsAbovePut dim (revising reach made fields puts) head h
header_left dim reach made fields puts head h good = record { turned = λ p. turns_none p (spell h); good = good; row = refl; fields = λ p. refl }

-- another level of elements that aren't marked deleted
pub level_keeps : (dim level : ℕ) → level < 64 → Keeps dim (relevelling level) (λ e. e.deleted ≡ false)
level_keeps dim level few = record {
  live = λ v good alive. revised_put dim Living (relevelled level) (λ e. level_fields) (level_puts level) v (level_put dim level v (omega arith) good alive);
  over = λ v h good alive well shown. header_left dim Living (relevelled level) (λ e. level_fields) (level_puts level) (Some v) h well;
}

-- a lock set or cleared
pub lock_keeps : (dim : ℕ) (lock : Bool) → Keeps dim (locking lock) (λ e. e.deleted ≡ false)
lock_keeps dim lock = record {
  live = λ v good alive. revised_put dim Living (locked lock) (λ e. lock_fields e.body) (λ e. lock_puts lock e.body) v (lock_put dim lock v good);
  over = λ v h good alive well shown. header_left dim Living (locked lock) (λ e. lock_fields e.body) (λ e. lock_puts lock e.body) (Some v) h well;
}

-- a mark cleared, where there is one
unmarked_as : (dim : ℕ) (e : Element) (marked : Bool) → e.deleted ≡ marked → IsWellFormed dim e
    → IsRevised dim e (unmarked e) (if marked then unmark_puts e else []) (if marked then mark_fields else [])
unmarked_as dim e true is good = unmark_put dim e good
unmarked_as dim e false is good =
    let same : unmarked e ≡ e = ap (λ (b : Bool). record e { deleted = b }) (sym is) in
    subst (λ (x : Element). IsRevised dim e x [] []) (sym same) (record { spelled = refl; rises = omega arith; over = refl; good = good; row = refl })

unmarked_put : (dim : ℕ) (e : Element) → IsWellFormed dim e → IsRevised dim e (unmarked e) (marked_puts e) (marked_fields e)
unmarked_put dim e good = unmarked_as dim e e.deleted refl good

pub undelete_keeps : (dim : ℕ) → Keeps dim undeleting (λ e. Unit {0})
undelete_keeps dim = record {
  live = λ v good any.
      let is = unmarked_put dim v good in
      record {
        turned = revised_turned dim v (unmarked v) (marked_puts v) (marked_fields v) is;
        good = is.good;
        row = is.row;
        fields = revised_over dim v (unmarked v) (marked_puts v) (marked_fields v) is;
      };
  over = λ v h good any well shown.
      let is = unmarked_put dim h well in
      record {
        turned = revised_turned dim h (unmarked h) (marked_puts h) (marked_fields h) is;
        good = is.good;
        row = is.row;
        fields = revised_over dim h (unmarked h) (marked_puts h) (marked_fields h) is;
      };
}

-- another name of a cell
pub name_keeps : (dim : ℕ) (name : List ℕ) → IsName name → Keeps dim (renaming name) (λ e. e.kind ≡ 2)
name_keeps dim name fits = record {
  live = λ v good cell. revised_put dim Head (renamed name) (λ e. name_fields) (λ e. name_puts name) v (name_put dim name v fits good cell);
  over = λ v h good cell well shown. header_left dim Head (renamed name) (λ e. name_fields) (λ e. name_puts name) (Some v) h well;
}

-- other characters in the room of a text
pub text_keeps : (dim : ℕ) (chars : List ℕ) → IsDimension dim → AreCharacters chars
    → Keeps dim (retexting dim chars) (λ e. (class_of e.kind ≡ Class.Words) × (length chars ≤ room dim e))
text_keeps dim chars axes fits = record {
  live = λ v good text. revised_put dim Head (retexted chars) (λ e. text_fields dim chars) (λ e. text_puts dim chars) v (text_put dim chars v axes fits good text.0 text.1);
  over = λ v h good text well shown. header_left dim Head (retexted chars) (λ e. text_fields dim chars) (λ e. text_puts dim chars) (Some v) h well;
}

-- a text marked deleted
pub replace_keeps : (dim : ℕ) → IsDimension dim → Keeps dim replacing (λ e. ¬ (e.kind ≡ END_MARK))
replace_keeps dim axes = record {
  live = λ v good other.
      let s = element_put dim axes (edit.Delete 0) tt v good other in
      record { turned = s.turned; good = s.good; row = s.row; fields = s.fields };
  over = λ v h good other well shown. record { turned = λ p. turns_none p (spell h); good = well; row = refl; fields = λ p. refl };
}

-- a point for a vertex that an element has; the ranges of the headers above hold it too
pub vertex_keeps : (dim index : ℕ) (point : List ℤ) → IsVertex index point dim
    → Keeps dim (pointing dim index point) (λ e. index ≤ length (row_of_points e.body))
vertex_keeps dim index point fits = record {
  live = λ v good within.
      let is = vertex_put dim index point v fits good within in
      record {
        turned = revised_turned dim v (with_vertex dim index point v) (vertex_puts dim index point v) (vertex_fields dim index v) is;
        good = is.good;
        row = is.row;
        fields = revised_over dim v (with_vertex dim index point v) (vertex_puts dim index point v) (vertex_fields dim index v) is;
      };
  over = λ v h good within well shown.
      let wide = widened dim (range_at_point point) h fits.dimension fits.numbers.numbers fits.numbers.numbers well shown in
      record { turned = wide.turned; good = wide.good; row = wide.row; fields = wide.fields };
}
