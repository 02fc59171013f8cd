-- The edits that commands leave, each made on what those before it made of a drawing that opens.
use Rattle.std.proofs.Common.{◌≡◌, ℕ, ◌+◌, ◌<◌, ◌≤◌, Bool, true, false, List, [], ◌∷◌, ◌++◌, length, drop, get_or, refl, sym, ap, ◌∙◌, subst, arith}
use Rattle.std.specs.Prelude.{All, Option, Some, None, option_map}
use Rattle.std.proofs.lemmas.Bool.{cond_both}
use Rattle.std.proofs.lemmas.List.{append-nil, drop_all}
use Rattle.std.proofs.lemmas.List.Elements.{All-head, All-tail}
use Rattle.patch_bytes.specs.Puts.{write}
use Rattle.dgn_drawing.specs.Element.{Element}
use Rattle.dgn_drawing.specs.Spelling.{spelling}
use Rattle.dgn_drawing.specs.Opening.{Opens, elements_of}
use Rattle.dgn_drawing.specs.Values.{Displacement}
use Rattle.dgn_import.specs.Seconds.{SecondValue}
use Rattle.dgn_import.specs.Gathering.{AreTrees}
use Rattle.plane_geom.specs.declared.pt.Pt.{Pt}
use Rattle.dgn_drawing.specs.declared.edit.Edit.{Edit}
use Rattle.dgn_drawing.specs.declared.fence_edit.FenceEdit.{FenceEdit}
use Rattle.dgn_drawing.specs.declared.mode.Mode.{Mode}
use Rattle.dgn_drawing.specs.declared.mask.Mask.{Mask}
use Rattle.dgn_drawing.specs.Shown.{tree_shown}
use Rattle.dgn_drawing.specs.declared.limits.TheConstants.{MOST_DESIGN}
use Rattle.dgn_fence.specs.Taken.{takes}
use Rattle.dgn_fence.specs.Selected.{selected}
use Rattle.dgn_session.specs.State.{State, edit_applied, push_made, push_if_made, with_stack, fence_applied, drop_top, with_fence, with_mask, undo_refused}
use Rattle.edit_ops.specs.Applying.{Applied, Done, Refused, apply, IsEdit}
use Rattle.edit_ops.specs.Fields.{Rise, filled}
use Rattle.edit_ops.specs.Fenced.{apply_all, AreRoots, IsFenceEdit}
use Rattle.edit_ops.proofs.FieldsRise.{fields_apart}
use Rattle.edit_ops.proofs.EditLaws.{edited_opens, edited_fits, changes_fields}
use Rattle.edit_ops.proofs.FenceLaws.{fenced_opens, fenced_fits, fenced_changes, fenced_apart}
use Rattle.dgn_audit.specs.Fitting.{apply_fit, fit_fields}
use Rattle.dgn_audit.proofs.FitKeepsRows.{fitted_opens, fits_change}
use Rattle.dgn_session.specs.Fits.{fit_applied}
use Rattle.dgn_drawing.specs.declared.command.Command.{Command}
use Rattle.dgn_drawing.specs.declared.command.Command.TheVariants as command
use Rattle.dgn_answers.specs.Texts.{fence_refused}
use Rattle.dgn_answers.specs.Imports.{Importing, Appends, Declines, importing_of, import_left}
use Rattle.dgn_answers.specs.Remaining.{RemainingEdit, Alone, Fenced, Fitted, Imported, fields_made, with_edit, with_fence_edit, without_newest, with_import}
use Rattle.dgn_answers.specs.Commands.{answer_of}
use Rattle.dgn_answers.specs.Steps.{Step, Plain, Import, after_all, step_answer, with_steps}
use Rattle.dgn_tool.specs.Laws.{IsOutside, IsEditIn}
use Rattle.dgn_tool.proofs.OpenSeconds.{IsStep, import_behind, appended}
use Rattle.dgn_tool.proofs.StackedEdits.{IsStacked, step_stacks}

-- an edit made elements of others: they open with the tail, have no fewer bytes, the same ones at each place that it
-- doesn't write, and there what it writes; its fields rise; and they keep the limit of a design file where those did
pub record IsLink (dim rest : ℕ) (t : List ℕ) (m : RemainingEdit) : Type 0 where
  pub opens : Opens (spelling m.made ++ t) dim m.made t
  pub long : length (spelling m.on) ≤ length (spelling m.made)
  pub same : (p : ℕ) → p < length (spelling m.on) → IsOutside dim p m → get_or (spelling m.made) p 0 ≡ get_or (spelling m.on) p 0
  pub rise : Rise 0 (fields_made dim m.on m.kind) (length (spelling m.on))
  pub written : spelling m.made ≡ write (spelling m.on) (filled (spelling m.made) (fields_made dim m.on m.kind))
      ++ drop (length (spelling m.on)) (spelling m.made)
  pub fits : length (spelling m.on) + rest ≤ MOST_DESIGN → length (spelling m.made) + rest ≤ MOST_DESIGN

-- nothing stands behind what is as long
as_long : (written on made : List ℕ) → length made ≡ length on → written ≡ written ++ drop (length on) made
as_long written on made long = sym (append-nil written) ∙ ap (λ (b : List ℕ). written ++ b) (sym (drop_all (length on) made (omega (arith, long))))

-- what the edits, which stand the newest first, made of the lowest elements
abbrev pub top_of : List Element → List RemainingEdit → List Element
top_of base [] = base
top_of base (m ∷ left) = m.made

-- each was made on what those before it made, and the lowest elements open with the tail
abbrev pub AreLinked : ℕ → ℕ → List ℕ → List Element → List RemainingEdit → Type 0
AreLinked dim rest t base [] = Opens (spelling base ++ t) dim base t
AreLinked dim rest t base (m ∷ left) = IsLink dim rest t m × (m.on ≡ top_of base left) × AreLinked dim rest t base left

pub top_opens : (dim rest : ℕ) (t : List ℕ) (base : List Element) (left : List RemainingEdit) → AreLinked dim rest t base left
    → Opens (spelling (top_of base left) ++ t) dim (top_of base left) t
top_opens dim rest t base [] linked = linked
top_opens dim rest t base (m ∷ left) linked = linked.0.opens

-- a stack's top is what they made
pub stack_top : (base : List Element) (s : State) (left : List RemainingEdit) → IsStacked base s left → s.top ≡ top_of base left
stack_top base s [] stacked = let x = stacked in cc
stack_top base s (m ∷ left) stacked = let x = stacked in cc

module _ (dim rest : ℕ) (t : List ℕ) (base : List Element) where
  -- what stands on top opens
  opens_on : (on : List Element) (left : List RemainingEdit) → on ≡ top_of base left → AreLinked dim rest t base left → Opens (spelling on ++ t) dim on t
  opens_on on left is linked = subst (λ (es : List Element). Opens (spelling es ++ t) dim es t) (sym is) (top_opens dim rest t base left linked)

  -- an edit that is done is one more
  edit_links : (on : List Element) (left : List RemainingEdit) (e : Edit) (came : Applied) → IsEdit e → apply dim on rest e ≡ came → on ≡ top_of base left
      → AreLinked dim rest t base left → AreLinked dim rest t base (with_edit came on (Alone e) left)
  edit_links on left e (Refused cause) fits is top linked = linked
  edit_links on left e (Done made) fits is top linked =
      let opens = opens_on on left top linked in
      let changed = changes_fields (spelling on ++ t) dim on t rest e made fits opens is in (
        record {
          opens = edited_opens (spelling on ++ t) dim on t rest e made fits opens is;
          long = omega (arith, changed.long);
          same = changed.stays;
          rise = (fields_apart (spelling on ++ t) dim on t rest e made fits opens is).rise;
          written = changed.written;
          fits = edited_fits (spelling on ++ t) dim on t rest e made fits opens is;
        },
        top,
        linked,
      )

  -- and so is one of all that a fence chose
  roots_link : (on : List Element) (left : List RemainingEdit) (e : FenceEdit) (ns : List ℕ) (came : Applied) → IsFenceEdit e → AreRoots on ns
      → apply_all dim on rest e ns ≡ came → on ≡ top_of base left → AreLinked dim rest t base left
      → AreLinked dim rest t base (with_edit came on (Fenced e ns) left)
  roots_link on left e ns (Refused cause) fits roots is top linked = linked
  roots_link on left e ns (Done made) fits roots is top linked =
      let opens = opens_on on left top linked in
      let changed = fenced_changes (spelling on ++ t) dim on t rest e ns made fits roots opens is in (
        record {
          opens = fenced_opens (spelling on ++ t) dim on t rest e ns made fits roots opens is;
          long = omega (arith, changed.long);
          same = changed.stays;
          rise = (fenced_apart (spelling on ++ t) dim on t rest e ns made fits roots opens is).rise;
          written = changed.written;
          fits = fenced_fits (spelling on ++ t) dim on t rest e ns made fits roots opens is;
        },
        top,
        linked,
      )

  fence_links : (on : List Element) (left : List RemainingEdit) (mask : Mask) (mode : Mode) (e : FenceEdit) (fence : Option (List Pt)) → IsFenceEdit e
      → on ≡ top_of base left → AreLinked dim rest t base left
      → AreLinked dim rest t base
      (with_fence_edit (option_map (apply_all dim on rest e) (option_map (λ corners. selected dim mask corners mode on) fence))
      (option_map (λ corners. selected dim mask corners mode on) fence) on e left)
  fence_links on left mask mode e None fits top linked = linked
  fence_links on left mask mode e (Some corners) fits top linked =
      roots_link on left e (selected dim mask corners mode on) (apply_all dim on rest e (selected dim mask corners mode on)) fits
      ((λ n. takes mode corners (tree_shown dim mask on n)), refl) refl top linked

  -- an import puts trees behind
  import_links : (on : List Element) (left : List RemainingEdit) (b : List ℕ) → AreTrees dim b → length (spelling on) + rest + length b ≤ MOST_DESIGN
      → on ≡ top_of base left → AreLinked dim rest t base left
      → AreLinked dim rest t base (record { on = on; kind = Imported (elements_of dim b); made = on ++ elements_of dim b } ∷ left)
  import_links on left b trees few top linked =
      let behind = import_behind dim t on b trees (opens_on on left top linked) in (
        record {
          opens = behind.opens;
          long = omega (arith, behind.long);
          same = λ p below _. behind.same p below;
          rise = omega arith;
          written = behind.written;
          fits = λ _. omega (arith, behind.long, few);
        },
        top,
        linked,
      )

  -- and so is a fit
  fit_links : (on : List Element) (left : List RemainingEdit) (n : ℕ) (came : Applied) → apply_fit dim on n ≡ came → on ≡ top_of base left
      → AreLinked dim rest t base left → AreLinked dim rest t base (with_edit came on (Fitted n) left)
  fit_links on left n (Refused cause) is top linked = linked
  fit_links on left n (Done made) is top linked =
      let opens = opens_on on left top linked in
      let changed = fits_change (spelling on ++ t) dim on t n made opens is in
      let long : length (spelling made) ≡ length (spelling on) = changed.long in (
        record {
          opens = fitted_opens (spelling on ++ t) dim on t n made opens is;
          long = omega (arith, long);
          same = changed.stays;
          rise = changed.rise;
          written = changed.written ∙ as_long (write (spelling on) (filled (spelling made) (fit_fields dim on n))) (spelling on) (spelling made) long;
          fits = λ few. omega (arith, long, few);
        },
        top,
        linked,
      )

  -- an undo takes the newest away
  undo_links : (refused : Bool) (left : List RemainingEdit) → AreLinked dim rest t base left → AreLinked dim rest t base (without_newest refused left)
  undo_links true left linked = linked
  undo_links false [] linked = linked
  undo_links false (m ∷ left) linked = linked.2

-- a command leaves such edits
command_links : (t : List ℕ) (base : List Element) (s : State) (left : List RemainingEdit) (c : Command) → IsEditIn c → IsStacked base s left
    → AreLinked s.dim s.rest t base left → AreLinked s.dim s.rest t base ((answer_of s c).left left)
command_links t base s left (command.Edit e) fits stacked linked =
    edit_links s.dim s.rest t base s.top left e (edit_applied e s) fits refl (stack_top base s left stacked) linked
command_links t base s left (command.Fenced mode e) fits stacked linked =
    fence_links s.dim s.rest t base s.top left s.mask mode e s.fence fits (stack_top base s left stacked) linked
command_links t base s left command.Undo fits stacked linked = undo_links s.dim s.rest t base (undo_refused s) left linked
command_links t base s left (command.Fit n) fits stacked linked =
    fit_links s.dim s.rest t base s.top left n (apply_fit s.dim s.top n) refl (stack_top base s left stacked) linked
command_links t base s left _ fits stacked linked = linked

-- a step leaves such edits
import_leaves : (t : List ℕ) (base : List Element) (s : State) (left : List RemainingEdit) (v : SecondValue) (by : Option Displacement) (came : Importing)
    → importing_of s v by ≡ came → IsStep (Import v by)
    → IsStacked base s left → AreLinked s.dim s.rest t base left → AreLinked s.dim s.rest t base (with_import came s left)
import_leaves t base s left v by (Appends b count) is fits stacked linked =
    let so = appended s v by b count is fits in
    import_links s.dim s.rest t base s.top left b so.0 so.1 (stack_top base s left stacked) linked
import_leaves t base s left v by (Declines line) is fits stacked linked = linked

step_links : (t : List ℕ) (base : List Element) (s : State) (left : List RemainingEdit) (g : Step) → IsStep g → IsStacked base s left
    → AreLinked s.dim s.rest t base left → AreLinked s.dim s.rest t base ((step_answer s g).left left)
step_links t base s left (Plain c) fits stacked linked = command_links t base s left c fits stacked linked
step_links t base s left (Import v by) fits stacked linked = import_leaves t base s left v by (importing_of s v by) refl fits stacked linked

-- What no command changes of a state.
module _ {X : Type 0} (part : State → X) (stack : (top : List Element) (earlier : List (List Element)) (s : State) → part (with_stack top earlier s) ≡ part s)
    (mask : (m : Mask) (s : State) → part (with_mask m s) ≡ part s) (fence : (f : Option (List Pt)) (s : State) → part (with_fence f s) ≡ part s) where
  pushed_keeps : (came : Applied) (s : State) → part (push_made came s) ≡ part s
  pushed_keeps (Done made) s = stack made (s.top ∷ s.earlier) s
  pushed_keeps (Refused cause) s = refl

  pushed_if_keeps : (came : Option Applied) (s : State) → part (push_if_made came s) ≡ part s
  pushed_if_keeps None s = refl
  pushed_if_keeps (Some came) s = pushed_keeps came s

  dropped_keeps : (earlier : List (List Element)) (s : State) → part (drop_top earlier s) ≡ part s
  dropped_keeps [] s = refl
  dropped_keeps (es ∷ earlier) s = stack es earlier s

  command_keeps : (s : State) (c : Command) → part (answer_of s c).state ≡ part s
  command_keeps s (command.Edit e) = pushed_keeps (edit_applied e s) s
  command_keeps s (command.Fenced mode e) = pushed_if_keeps (fence_applied mode e s) s
  command_keeps s command.Undo = dropped_keeps s.earlier s
  command_keeps s (command.Levels m) = mask m s
  command_keeps s (command.Fence corners) =
      cond_both (fence_refused corners) s (with_fence (Some corners) s) (λ (after : State). part after ≡ part s) (λ _. refl) (λ _. fence (Some corners) s)
  command_keeps s command.NoFence = fence None s
  command_keeps s (command.Fit n) = pushed_keeps (fit_applied n s) s
  command_keeps s _ = refl

  import_keeps : (came : Importing) (s : State) → part (import_left came s) ≡ part s
  import_keeps (Appends b count) s = stack (s.top ++ elements_of s.dim b) (s.top ∷ s.earlier) s
  import_keeps (Declines line) s = refl

  step_keeps : (s : State) (g : Step) → part (step_answer s g).state ≡ part s
  step_keeps s (Plain c) = command_keeps s c
  step_keeps s (Import v by) = import_keeps (importing_of s v by) s

  steps_keep : (gs : List Step) (s : State) → part (after_all gs s) ≡ part s
  steps_keep [] s = refl
  steps_keep (g ∷ gs) s = steps_keep gs (step_answer s g).state ∙ step_keeps s g

-- the dimension, and the length of the tail
step_dim : (s : State) (g : Step) → (step_answer s g).state.dim ≡ s.dim
step_dim s g = step_keeps (λ (x : State). x.dim) (λ _ _ _. refl) (λ _ _. refl) (λ _ _. refl) s g

step_rest : (s : State) (g : Step) → (step_answer s g).state.rest ≡ s.rest
step_rest s g = step_keeps (λ (x : State). x.rest) (λ _ _ _. refl) (λ _ _. refl) (λ _ _. refl) s g

pub steps_dim : (gs : List Step) (s : State) → (after_all gs s).dim ≡ s.dim
steps_dim gs s = steps_keep (λ (x : State). x.dim) (λ _ _ _. refl) (λ _ _. refl) (λ _ _. refl) gs s

-- steps leave such edits
pub steps_link : (t : List ℕ) (base : List Element) (gs : List Step) (s : State) (left : List RemainingEdit) → All IsStep gs → IsStacked base s left
    → AreLinked s.dim s.rest t base left → AreLinked s.dim s.rest t base (with_steps gs s left)
steps_link t base [] s left fits stacked linked = linked
steps_link t base (g ∷ gs) s left fits stacked linked =
    let next : State = (step_answer s g).state in
    let more : List RemainingEdit = (step_answer s g).left left in
    let one = step_links t base s left g (All-head IsStep g gs fits) stacked linked in
    let here = subst (λ (n : ℕ). AreLinked n next.rest t base more) (sym (step_dim s g))
    (subst (λ (n : ℕ). AreLinked s.dim n t base more) (sym (step_rest s g)) one) in
    let all = steps_link t base gs next more (All-tail IsStep g gs fits) (step_stacks base s left g stacked) here in
    subst (λ (n : ℕ). AreLinked s.dim n t base (with_steps gs next more)) (step_rest s g)
    (subst (λ (n : ℕ). AreLinked n next.rest t base (with_steps gs next more)) (step_dim s g) all)

-- they have no fewer bytes than the lowest
pub linked_long : (dim rest : ℕ) (t : List ℕ) (base : List Element) (left : List RemainingEdit) → AreLinked dim rest t base left
    → length (spelling base) ≤ length (spelling (top_of base left))
linked_long dim rest t base [] linked = omega arith
linked_long dim rest t base (m ∷ left) linked =
    let below = linked_long dim rest t base left linked.2 in
    let grown = linked.0.long in
    let same : length (spelling m.on) ≡ length (spelling (top_of base left)) = ap (λ (es : List Element). length (spelling es)) linked.1 in
    omega arith

-- and the same byte at each place that none of the edits writes
pub linked_same : (dim rest : ℕ) (t : List ℕ) (base : List Element) (left : List RemainingEdit) (p : ℕ) → AreLinked dim rest t base left
    → p < length (spelling base)
    → All (IsOutside dim p) left → get_or (spelling (top_of base left)) p 0 ≡ get_or (spelling base) p 0
linked_same dim rest t base [] p linked below all = refl
linked_same dim rest t base (m ∷ left) p linked below all =
    let long = linked_long dim rest t base left linked.2 in
    let same : length (spelling m.on) ≡ length (spelling (top_of base left)) = ap (λ (es : List Element). length (spelling es)) linked.1 in
    linked.0.same p (omega arith) (All-head (IsOutside dim p) m left all)
    ∙ ap (λ (es : List Element). get_or (spelling es) p 0) linked.1
    ∙ linked_same dim rest t base left p linked.2 below (All-tail (IsOutside dim p) m left all)

-- and they keep the limit of a design file where the lowest do
pub linked_fits : (dim rest : ℕ) (t : List ℕ) (base : List Element) (left : List RemainingEdit) → AreLinked dim rest t base left
    → length (spelling base) + rest ≤ MOST_DESIGN → length (spelling (top_of base left)) + rest ≤ MOST_DESIGN
linked_fits dim rest t base [] linked few = few
linked_fits dim rest t base (m ∷ left) linked few =
    linked.0.fits (subst (λ (es : List Element). length (spelling es) + rest ≤ MOST_DESIGN) (sym linked.1) (linked_fits dim rest t base left linked.2 few))
