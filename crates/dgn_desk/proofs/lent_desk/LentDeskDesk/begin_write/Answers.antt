use Rattle.std.proofs.Common.{[], Some, option_map, string_bytes, ap, ◌∙◌}
use Rattle.dgn_desk.specs.Content.{with_file, filed}
use Rattle.dgn_desk.proofs.LentFiles.{filed_over}
use Rattle.dgn_desk.proofs.lent_desk.LentDeskDesk.begin_write.Goals as goal

pub returns-clause-changes : goal.returns-clause-changes
returns-clause-changes c =
    filed_over c.self.inside.written c.set.new.self c.self.inside.lent.now c.args.name.now _ _ c.self.inside.said.items
    c.len-self-inside.result c.self.inside.settled (option_map string_bytes c.self.inside.target)
    (c.in_ok-set.ensures.ok ∙ ap (λ b. with_file c.args.name.now b c.self.inside.written) c.new.ensures.items) c.in_ok-target.ensures.ok
    (c.len-self-inside.ensures ∙ c.self.inside.said.ok.0)
    ∙ ap (λ d. Some (filed c.args.name.now [] d.content)) c.self.view_is
