use Rattle.std.proofs.Common.{List, ℕ, [], ◌∷◌, ◌<◌, length, Err, refl, arith}
use Rattle.dgn_desk.specs.Content.{Files, bytes_of}
use Rattle.dgn_desk.specs.Seen.{seen, OnlyReads}
use Rattle.dgn_tool.specs.Ended.{ended}
use Rattle.dgn_tool.specs.Readings.{Reading, file_in, at_once}
use Rattle.dgn_tool.specs.declared.status.Status.TheVariants as statuses
use Rattle.dgn_tool.proofs.FilesRead.{file_overruns, file_read, with_found}
use Rattle.dgn_tool.proofs.ReadingsInTurn.{Goes, continues, comes_so, wants_more}
use Rattle.dgn_tool.proofs.ToldContents.{where_told}
use Rattle.dgn_tool.proofs.files.read_file.Goals as goal

pub returns-in-Err-TooLong-clause-read : goal.returns-in-Err-TooLong-clause-read
returns-in-Err-TooLong-clause-read g c =
    let read = rw c.in-Err-TooLong.field-0-is at c.in-Err-TooLong.ensures in
    let name = c.args.name.now in
    let limit = c.args.limit in
    let line = c.args.line.now in
    let reads : OnlyReads (seen g.D.Desk c.args.desk.now) (seen g.D.Desk c.read_all.new.desk) =
    record { changes = read.changes; calm = read.cause; quiet = read.other; stays_willing = read.stays_willing; as_strict = refl } in
    let rest : Files → Reading (List ℕ) = λ _. at_once (Err (ended statuses.TooLong line)) in
    continues (λ files. file_in files name limit line) rest (Err c.of.result) _ _ _ reads
    (where_told _ (λ k. Goes g.D.Desk.strict k.files (file_in k.files name limit line) (rest k.files)) _
    (with_found (λ k. limit < length (bytes_of k.files name)) g.D.Desk.strict name (g.D.Desk.content c.args.desk.now) (read.too_long refl) (read.found tt))
    (λ k long. record {
      before = record { name = name; limit = limit } ∷ [];
      sources = refl;
      answer = file_overruns k.files name limit line long.0;
      given = ((λ few. absurd (let over = long.0 in omega (arith, over, few)), long.1), tt);
    }))
    (comes_so rest (ended statuses.TooLong line) c.end_with.result c.of.result _ _ (λ _. refl) c.of.ensures c.end_with.ensures)

pub returns-in-Err-Memory-clause-read : goal.returns-in-Err-Memory-clause-read
returns-in-Err-Memory-clause-read g c =
    let read = rw c.in-Err-Memory.field-0-is at c.in-Err-Memory.ensures in
    wants_more (λ files. file_in files c.args.name.now c.args.limit c.args.line.now) _ _
    (record { changes = read.changes; calm = read.cause; quiet = read.other; stays_willing = read.stays_willing; as_strict = refl })
