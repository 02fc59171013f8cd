use Rattle.std.proofs.Common.{sym, ◌∙◌}
use Rattle.dgn_tool.proofs.NameTexts.{name_is_text}
use Rattle.dgn_tool.proofs.seconds.second_name.Goals as goal

pub returns-in_default : goal.returns-in_default
returns-in_default c =
    absurd (c.in_default.ensures.cases.0 (name_is_text c.as_slice-bytes.result.now (sym c.is_name.ensures ∙ c.if-not-is_name.false)))
