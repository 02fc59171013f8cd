use Rattle.std.proofs.Common.{List, ℕ, Ok}
use Rattle.std.specs.Prelude.{codes}
use Rattle.std.proofs.lemmas.Result.{err_from_is_err_and}
use Rattle.dgn_desk.specs.Content.{Files}
use Rattle.dgn_drawing.specs.declared.limits.TheConstants.{MOST_DESIGN}
use Rattle.dgn_import.specs.Seconds.{SecondValue, second_of}
use Rattle.dgn_tool.specs.Inputs.{second_in}
use Rattle.dgn_tool.specs.Readings.{Reading, at_once, file_in}
use Rattle.dgn_tool.proofs.ReadingsInTurn.{ends_first, wants_more}
use Rattle.dgn_tool.proofs.seconds.read_named.Goals as goal

-- the bytes of the file
abbrev bytes_in : List ℕ → Files → Reading (List ℕ)
bytes_in name files = file_in files name MOST_DESIGN (codes "too long import\n")

-- and what is read behind them
abbrev behind : Files → List ℕ → Reading SecondValue
behind files bytes = at_once (Ok (second_of bytes))

pub returns-in_err-bytes-clause-read : goal.returns-in_err-bytes-clause-read
returns-in_err-bytes-clause-read g c =
    let p = err_from_is_err_and c.from_residual.result c.from_residual.ensures.1 in
    rw (p.1, p.2) (ends_first (bytes_in c.args.name.now) behind c.in_err-bytes.field-0.0 _ _ c.in_err-bytes.ensures.read)

pub returns-in_err-second-clause-read : goal.returns-in_err-second-clause-read
returns-in_err-second-clause-read g c =
    let p = err_from_is_err_and c.from_residual-in_err-second.result c.from_residual-in_err-second.ensures.1 in
    rw (p.1, p.2) (wants_more (λ files. second_in files c.args.name.now) _ _ c.in_ok-bytes.ensures.read.reads)
