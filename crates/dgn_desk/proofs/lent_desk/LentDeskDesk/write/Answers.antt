use Rattle.std.proofs.Common.{ap, sym, ◌∙◌, Some, string_bytes, option_map, length, take}
use Rattle.dgn_desk.specs.Content.{written}
use Rattle.dgn_desk.proofs.LentFiles.{written_over}
use Rattle.dgn_desk.proofs.lent_desk.LentDeskDesk.write.Goals as goal

pub returns-in_ok-append-clause-changes : goal.returns-in_ok-append-clause-changes
returns-in_ok-append-clause-changes c =
    written_over c.self.inside.written c.append.new.self c.self.inside.lent.now c.as_str.result.now c.args.bytes.now _ _ _ _
    (ap (option_map string_bytes) c.in-Some.is ∙ ap Some (sym c.as_str.ensures.value)) c.self.invariant.1 c.in_ok-append.ensures.ok
    ∙ ap (λ d. Some (written (take (length c.args.bytes.now) c.args.bytes.now) d.content)) c.self.view_is
