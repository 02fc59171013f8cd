use Rattle.std.proofs.Common.{◌∷◌, ◌++◌, [], ap, sym, ◌∙◌, arith}
use Rattle.std.proofs.lemmas.Grind.{common_steps}
use Rattle.dgn_desk.specs.declared.act.Act.TheVariants.{Write}
use Rattle.dgn_desk.proofs.Numbered.{stays_ahead, unfailing}
use Rattle.dgn_desk.proofs.mem_desk.MemDeskDesk.write.Goals as goal
use Rattle.dgn_desk.proofs.mem_desk.MemDeskDesk.write.Goals.{then-is_listed-via-then-is_listed, then-is_listed-via-else-is_listed+then-not-self}

pub returns-then-is_listed-clause-stays_willing : goal.returns-then-is_listed-clause-stays_willing
returns-then-is_listed-clause-stays_willing c =
    stays_ahead _ _ _ _ Write (ap (λ d. d.fails) c.self.view_is)
    (c.push_reserved.ensures.items ∙ ap (λ acts. acts ++ Write ∷ []) (c.reserve.ensures.items ∙ ap (λ d. d.acts) c.self.view_is))

pub returns-clause-stays_willing : goal.returns-clause-stays_willing
returns-clause-stays_willing c =
    stays_ahead _ _ _ _ Write (ap (λ d. d.fails) c.self.view_is)
    (c.push_reserved-2.ensures.items ∙ ap (λ acts. acts ++ Write ∷ []) (c.reserve.ensures.items ∙ ap (λ d. d.acts) c.self.view_is))

pub returns-then-is_listed-clause-never_fails : goal.returns-then-is_listed-clause-never_fails
returns-then-is_listed-clause-never_fails c = λ willing has. elim c.then-is_listed.branch [
  | then-is_listed-via-then-is_listed w ↦
      absurd (unfailing c.args.self.now _ _ (ap (λ d. d.fails) c.self.view_is) (c.reserve.ensures.items ∙ ap (λ d. d.acts) c.self.view_is) willing
      (sym c.is_listed.ensures ∙ w.if-is_listed.true))
  | then-is_listed-via-else-is_listed+then-not-self w ↦ grind (arith, common_steps)
]
