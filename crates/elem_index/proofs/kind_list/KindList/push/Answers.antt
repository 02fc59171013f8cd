use Rattle.std.proofs.Common.{◌≡◌, ◌++◌, ◌∷◌, [], false, ap, ◌∙◌, subst, arith}
use Rattle.elem_index.specs.Kinds.{Kinds, has_total, SaysTotal}
use Rattle.elem_index.proofs.KindLists.{kinds_by-more, count-more}
use Rattle.elem_index.proofs.kind_list.KindList.push.Goals as goal

pub invariant_of-self-in-None : goal.invariant_of-self-in-None
invariant_of-self-in-None c =
    let none : has_total c.args.byte ≡ false = subst (SaysTotal c.args.byte) c.in-None.is c.requires in
    let one : c.push.new.self.items ≡ c.self.inside.kinds.items ++ c.args.byte ∷ [] = c.in_ok-push-in-None.ensures.items in
    rw one (omega (arith, c.self.invariant, count-more c.self.inside.kinds.items c.args.byte false none))

pub returns-in_ok-push-in-None-clause-ok : goal.returns-in_ok-push-in-None-clause-ok
returns-in_ok-push-in-None-clause-ok c =
    let none : has_total c.args.byte ≡ false = subst (SaysTotal c.args.byte) c.in-None.is c.requires in
    rw (c.in_ok-push-in-None.ensures.items, c.in-None.is) (kinds_by-more c.self.inside.kinds.items c.self.inside.totals.items c.args.byte c.self.invariant none
    ∙ ap (λ (kinds : Kinds). kinds.items ++ record { byte = c.args.byte; total = 0 } ∷ []) c.self.view_is)
