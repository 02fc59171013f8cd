use Rattle.std.proofs.Common.{List, ℕ, length, refl, subst}
use Rattle.dgn_desk.specs.Desk.{FilesAll}
use Rattle.dgn_desk.specs.Seen.{DeskWrites}
use Rattle.dgn_tool.proofs.BlocksFilled.{filled_so}
use Rattle.dgn_tool.proofs.output.write_filled.Goals as goal

pub returns : goal.returns
returns g c =
    subst (λ (b : List ℕ). DeskWrites g.D.Desk c.write_file.result (FilesAll c.write_file.result c.args.output.now b) c.args.desk.now c.write_file.new.desk)
    (filled_so c.args.before c.filling_len-count.result (length c.args.body.now)
    c.args.body.now c.args.tail.now c.args.tail.now _ refl refl c.filling_len-count.ensures.bounded c.filling_len-count.ensures.exact refl)
    c.write_file.ensures
