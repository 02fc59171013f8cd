use Rattle.std.proofs.Common.{List, ℕ, Ok, Err, ap, sym, subst}
use Rattle.std.specs.Prelude.{codes}
use Rattle.dgn_desk.specs.Content.{Files}
use Rattle.dgn_desk.specs.Seen.{Seen, seen}
use Rattle.elem_index.specs.Answers.{HasCount, TellsFault}
use Rattle.elem_index.specs.Opened.{Opened, opening}
use Rattle.dgn_listing.specs.NumberedLines.{numbered}
use Rattle.dgn_tool.specs.Ended.{Outcome, ended}
use Rattle.dgn_tool.specs.Ends.{ComesTo}
use Rattle.dgn_tool.specs.Inputs.{design_in, drawing_opened, drawing_in}
use Rattle.dgn_tool.specs.Outcome.{checked}
use Rattle.dgn_tool.specs.Readings.{Reading, at_once, ◌>>=◌, ending_of}
use Rattle.dgn_tool.specs.declared.end.End.{End}
use Rattle.dgn_tool.specs.declared.status.Status.TheVariants as statuses
use Rattle.dgn_tool.proofs.FilesRead.{counts}
use Rattle.dgn_tool.proofs.ReadingsInTurn.{same_reading, reads_on, run_ends_first, run_then_ends, comes_so}
use Rattle.dgn_tool.proofs.check.check.Goals as goal

-- what the run comes to on the drawing
abbrev behind_drawing : Opened → Reading Outcome
behind_drawing d = at_once (Ok (checked d))

-- and by the bytes of IN
abbrev behind_bytes : Files → List ℕ → Reading Outcome
behind_bytes files bytes = at_once (drawing_opened (opening bytes)) >>= behind_drawing

-- it is read in this order
in_order : (input : List ℕ) (end : End) (old new : Seen) → ComesTo (λ files. ending_of (design_in files input >>= behind_bytes files)) (Err end) old new
    → ComesTo (λ files. ending_of (drawing_in files input >>= behind_drawing)) (Err end) old new
in_order input end old new comes =
    same_reading (λ files. ending_of (drawing_in files input >>= behind_drawing)) (λ files. ending_of (design_in files input >>= behind_bytes files))
    (Err end) old new
    (λ files. ap ending_of (reads_on (design_in files input).sources (design_in files input).answer (λ bytes. at_once (drawing_opened (opening bytes)))
    behind_drawing)) comes

pub returns-in-Err : goal.returns-in-Err
returns-in-Err g c =
    let input = c.args.input.now in
    in_order input c.in-Err.end _ _ (run_ends_first (λ files. design_in files input) behind_bytes c.in-Err.end _ _ c.in-Err.ensures.read)

pub returns-in-Ok-count_elements : goal.returns-in-Ok-count_elements
returns-in-Ok-count_elements g c =
    let input = c.args.input.now in
    let bytes = c.in-Ok.bytes.items in
    let count = c.in-Ok-count_elements.count in
    in_order input c.of.result _ _ (run_then_ends (λ files. design_in files input) behind_bytes bytes c.of.result _ _ _ c.in-Ok.ensures.read
    (comes_so (λ files. ending_of (behind_bytes files bytes)) (ended statuses.Done (numbered (codes "elements ") count)) c.end_numbered.result c.of.result _ _
    (λ _. ap ending_of (counts bytes count (subst (λ (b : List ℕ). HasCount b count) c.deref.ensures.value c.in-Ok-count_elements.ensures.count)))
    c.of.ensures c.end_numbered.ensures))

pub returns : goal.returns
returns g c =
    let input = c.args.input.now in
    let bytes = c.in-Ok.bytes.items in
    let end = c.of-in-Err-count_elements.result in
    let tells = subst (λ (b : List ℕ). TellsFault (opening b) c.in-Err-count_elements.fault) c.deref.ensures.value
    c.in-Err-count_elements.ensures.first_fault in
    let opens : Files → Reading Opened = λ _. at_once (drawing_opened (opening bytes)) in
    in_order input end _ _ (run_then_ends (λ files. design_in files input) behind_bytes bytes end _ _ _ c.in-Ok.ensures.read
    (run_ends_first opens (λ _. behind_drawing) end _ _
    (subst (λ (e : End). ComesTo opens (Err e) (seen g.D.Desk c.read_input.new.desk) (seen g.D.Desk c.end_bad_design.new.desk))
    (sym c.of-in-Err-count_elements.ensures) (c.end_bad_design.ensures (opening bytes) tells))))
