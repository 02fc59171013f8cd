-- What `audit` says behind a fit in a run.
use Rattle.std.proofs.Common.{◌≡◌, ℕ, false, List, [], ◌∷◌, ◌++◌, refl, sym, ap, subst}
use Rattle.std.specs.Prelude.{All, Some, filter}
use Rattle.dgn_drawing.specs.Element.{Element}
use Rattle.dgn_drawing.specs.Spelling.{spelling}
use Rattle.dgn_drawing.specs.Opening.{Opens}
use Rattle.dgn_drawing.specs.Rows.{row_of}
use Rattle.dgn_drawing.specs.Numbering.{root_of, span_of}
use Rattle.dgn_audit.specs.Findings.{findings}
use Rattle.edit_ops.specs.Applying.{Applied, Done, Refused}
use Rattle.dgn_audit.specs.Fitting.{apply_fit}
use Rattle.dgn_audit.specs.Laws.{is_outside}
use Rattle.dgn_audit.proofs.FindingsEnd.{ends_findings}
use Rattle.dgn_listing.specs.FindingTexts.{findings_text}
use Rattle.dgn_session.specs.State as machine
use Rattle.dgn_session.specs.State.{State, push_made}
use Rattle.dgn_drawing.specs.declared.command.Command.TheVariants as command
use Rattle.dgn_answers.specs.Remaining.{RemainingEdit}
use Rattle.dgn_answers.specs.Commands.{first_state, answer_of}
use Rattle.dgn_answers.specs.Steps.{Step, after_all, with_steps}
use Rattle.dgn_tool.specs.Laws.{steps_of_files}
use Rattle.dgn_laws.specs.FitLaws.{FitsEndFindings}
use Rattle.dgn_tool.proofs.OpenSeconds.{IsStep, steps_given}
use Rattle.dgn_tool.proofs.StackedEdits.{IsStacked, steps_stack}
use Rattle.dgn_tool.proofs.LinkedEdits.{top_of, top_opens, stack_top, steps_link, steps_dim}

-- a fit that is done ends the findings of its tree
fit_ends : (s : State) (t : List ℕ) (n root end : ℕ) (came : Applied) → apply_fit s.dim s.top n ≡ came → Opens (spelling s.top ++ t) s.dim s.top t
    → machine.is_refused came ≡ false → root_of row_of s.top n ≡ Some root → span_of row_of s.top root ≡ Some (root, end)
    → (answer_of (push_made came s) command.Audit).text ≡ findings_text (filter (is_outside root end) (findings s.dim s.top))
fit_ends s t n root end (Refused cause) is opens done at spanned = absurd (let x = done in cc)
fit_ends s t n root end (Done made) is opens done at spanned =
    ap findings_text (ends_findings (spelling s.top ++ t) s.dim s.top t n made root end opens is at spanned)

-- what steps make opens
pub opens_after : (t : List ℕ) (gs : List Step) (s : State) → s.earlier ≡ [] → All IsStep gs → Opens (spelling s.top ++ t) s.dim s.top t
    → Opens (spelling (after_all gs s).top ++ t) (after_all gs s).dim (after_all gs s).top t
opens_after t gs s none fits opens =
    let left : List RemainingEdit = with_steps gs s [] in
    let end : State = after_all gs s in
    let start : IsStacked s.top s [] = ap (λ (earlier : List (List Element)). s.top ∷ earlier) none in
    let linked = steps_link t s.top gs s [] fits start opens in
    let top : end.top ≡ top_of s.top left = stack_top s.top end left (steps_stack s.top gs s [] start) in
    subst (λ (k : ℕ). Opens (spelling end.top ++ t) k end.top t) (sym (steps_dim gs s))
    (subst (λ (es : List Element). Opens (spelling es ++ t) s.dim es t) (sym top) (top_opens s.dim s.rest t s.top left linked))

pub fits_end_findings : FitsEndFindings
fits_end_findings f d cs files opens fits bytes n root end done at spanned =
    let gs : List Step = steps_of_files cs files in
    let s : State = after_all gs (first_state d) in
    let here = subst (λ (g : List ℕ). Opens g d.dim d.elements d.tail) opens.whole opens in
    fit_ends s d.tail n root end (apply_fit s.dim s.top n) refl (opens_after d.tail gs (first_state d) refl
    (steps_given cs files fits bytes) here) done at spanned
