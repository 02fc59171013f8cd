use Rattle.std.proofs.Common.{◌∷◌, ◌++◌, [], ap, sym, ◌∙◌}
use Rattle.dgn_desk.specs.declared.act.Act.TheVariants.{BeginWrite}
use Rattle.dgn_desk.proofs.Numbered.{stays_ahead, unfailing}
use Rattle.dgn_desk.proofs.mem_desk.MemDeskDesk.begin_write.Goals as goal

pub returns-clause-stays_willing : goal.returns-clause-stays_willing
returns-clause-stays_willing c =
    stays_ahead _ _ _ _ BeginWrite (ap (λ d. d.fails) c.self.view_is)
    (c.push_reserved-2.ensures.items ∙ ap (λ acts. acts ++ BeginWrite ∷ []) (c.reserve.ensures.items ∙ ap (λ d. d.acts) c.self.view_is))

pub returns-then-is_listed-clause-stays_willing : goal.returns-then-is_listed-clause-stays_willing
returns-then-is_listed-clause-stays_willing c =
    stays_ahead _ _ _ _ BeginWrite (ap (λ d. d.fails) c.self.view_is)
    (c.push_reserved.ensures.items ∙ ap (λ acts. acts ++ BeginWrite ∷ []) (c.reserve.ensures.items ∙ ap (λ d. d.acts) c.self.view_is))

pub returns-then-is_listed-clause-never_fails : goal.returns-then-is_listed-clause-never_fails
returns-then-is_listed-clause-never_fails c =
    λ willing. absurd (unfailing c.args.self.now _ _ (ap (λ d. d.fails) c.self.view_is) (c.reserve.ensures.items ∙ ap (λ d. d.acts) c.self.view_is) willing
    (sym c.is_listed.ensures ∙ c.if-is_listed.true))
