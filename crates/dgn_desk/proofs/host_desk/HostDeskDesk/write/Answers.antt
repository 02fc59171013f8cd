use Rattle.std.proofs.Common.{IfSome, subst, sym}
use Rattle.std.specs.Io.KnownBytes.{WriteAppends}
use Rattle.dgn_desk.proofs.Moving.{moved_through}
use Rattle.dgn_desk.proofs.host_desk.HostDeskDesk.write.Goals as goal

pub returns-clause-moved : goal.returns-clause-moved
returns-clause-moved g c =
    subst (λ w. IfSome w (λ old. WriteAppends (g.R.File.Write.contents old) (g.R.File.Write.contents c.write-given.new.self) c.taken.result c.args.bytes.now))
    (sym c.in-Some.is)
    (moved_through _ _ c.write-given.result c.taken.result c.args.bytes.now c.write-given.ensures.bytes c.taken.ensures.as_given c.taken.ensures.only
    c.taken.ensures.failed)
