use Rattle.std.proofs.Common.{ap, sym, ◌∙◌}
use Rattle.std.specs.FinMap as maps
use Rattle.dgn_desk.proofs.LentFiles.{get_written, get_lent}
use Rattle.dgn_desk.proofs.lent_desk.LentDesk.file.Goals as goal

pub returns-in-Some : goal.returns-in-Some
returns-in-Some c =
    sym (get_written _ _ _ _ c.in-Some.ensures) ∙ ap (λ d. maps.get d.content.files c.args.name.now) c.self.view_is

pub returns-in-None : goal.returns-in-None
returns-in-None c =
    c.find.ensures
    ∙ ap (maps.get _) c.as_bytes.ensures.value
    ∙ sym (get_lent _ _ _ c.in-None.ensures)
    ∙ ap (λ d. maps.get d.content.files c.args.name.now) c.self.view_is
