-- What holds of every fit in a run, the contract of a function in `laws`.
use Rattle.std.specs.Prelude.{ℕ, ◌≡◌, false, Some, List, filter, All}
use Rattle.dgn_drawing.specs.Rows.{row_of}
use Rattle.dgn_drawing.specs.Numbering.{root_of, span_of}
use Rattle.dgn_drawing.specs.Opening.{Opens}
use Rattle.dgn_drawing.specs.WellFormed.{IsBytes}
use Rattle.dgn_audit.specs.Findings.{findings}
use Rattle.dgn_audit.specs.Laws.{is_outside}
use Rattle.dgn_listing.specs.FindingTexts.{findings_text}
use Rattle.dgn_session.specs.State.{State}
use Rattle.dgn_drawing.specs.declared.command.Command.{Command}
use Rattle.dgn_drawing.specs.declared.command.Command.TheVariants as command
use Rattle.elem_index.specs.Opened.{Opened}
use Rattle.dgn_answers.specs.Commands.{first_state, answer_of}
use Rattle.dgn_answers.specs.Steps.{after_all}
use Rattle.dgn_tool.specs.Laws.{IsEditIn, steps_of_files}

-- where a fit is done in a state, `audit` says behind it the findings before it without those of the tree that it fitted
abbrev pub FitEndsFindings : State → Type 0
FitEndsFindings s =
    (n root end : ℕ)
    → (answer_of s (command.Fit n)).refused ≡ false → root_of row_of s.top n ≡ Some root → span_of row_of s.top root ≡ Some (root, end)
    → (answer_of (answer_of s (command.Fit n)).state command.Audit).text ≡ findings_text (filter (is_outside root end) (findings s.dim s.top))

-- so it is behind all commands of a script, with any second files
abbrev pub FitsEndFindings : Type 0
FitsEndFindings =
    (f : List ℕ) (d : Opened) (cs : List Command) (files : List (List ℕ))
    → Opens f d.dim d.elements d.tail → All IsEditIn cs → All IsBytes files → FitEndsFindings (after_all (steps_of_files cs files) (first_state d))
