use Rattle.std.proofs.Common.{◌≡◌, drop}
use Rattle.std.specs.FinMap as maps
use Rattle.dgn_desk.specs.LentDesk.{lent_files}
use Rattle.dgn_desk.proofs.lent_desk.find.Given as goal

-- what was passed over has other names
abbrev pub invariant-loop-file : goal.invariant-loop-file
invariant-loop-file l = maps.get (lent_files l.lent) l.name ≡ maps.get (lent_files (drop l.file-index l.lent)) l.name
