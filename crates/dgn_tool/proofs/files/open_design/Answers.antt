use Rattle.std.proofs.Common.{List, ℕ, Err, sym, subst}
use Rattle.std.proofs.lemmas.Result.{err_from_is_err_and}
use Rattle.dgn_desk.specs.Content.{Files}
use Rattle.dgn_desk.specs.Seen.{seen}
use Rattle.elem_index.specs.Opened.{Opened, opening}
use Rattle.dgn_tool.specs.Ends.{ComesTo}
use Rattle.dgn_tool.specs.Inputs.{design_in, drawing_opened}
use Rattle.dgn_tool.specs.Readings.{Reading, at_once}
use Rattle.dgn_tool.specs.declared.end.End.{End}
use Rattle.dgn_tool.proofs.ReadingsInTurn.{ends_first, then_comes}
use Rattle.dgn_tool.proofs.files.open_design.Goals as goal

-- what is read behind the bytes of IN
abbrev behind : Files → List ℕ → Reading Opened
behind files bytes = at_once (drawing_opened (opening bytes))

pub returns-in_err-bytes-clause-read : goal.returns-in_err-bytes-clause-read
returns-in_err-bytes-clause-read g c =
    let p = err_from_is_err_and c.from_residual.result c.from_residual.ensures.1 in
    rw (p.1, p.2) (ends_first (λ files. design_in files c.args.input.now) behind c.in_err-bytes.field-0.0 _ _ c.in_err-bytes.ensures.read)

pub returns-in-Err-clause-read : goal.returns-in-Err-clause-read
returns-in-Err-clause-read g c =
    let bytes = c.in_ok-bytes.bytes.items in
    then_comes (λ files. design_in files c.args.input.now) behind bytes (Err c.of.result) _ _ _ c.in_ok-bytes.ensures.read
    (subst (λ (e : End). ComesTo (λ files. behind files bytes) (Err e) (seen g.D.Desk c.read_input.new.desk) (seen g.D.Desk c.end_bad_design.new.desk))
    (sym c.of.ensures) (c.end_bad_design.ensures (opening bytes) c.in-Err.ensures.opening))
