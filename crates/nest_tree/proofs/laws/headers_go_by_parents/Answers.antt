use Rattle.std.proofs.Common.{sym}
use Rattle.dgn_drawing.specs.Rows.{row_of}
use Rattle.nest_tree.proofs.HeaderChains.{climbs, ends_climb}
use Rattle.nest_tree.proofs.laws.headers_go_by_parents.Goals as goal

pub returns : goal.returns
returns c = λ es n. record { header = λ q is. climbs row_of es n q (sym is); root = λ is. ends_climb row_of es n (sym is) }
