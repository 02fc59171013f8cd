use Rattle.std.proofs.Common.{◌++◌, ◌∷◌, [], true, ap, ◌∙◌, arith, length-append}
use Rattle.elem_index.specs.Kinds.{Kinds}
use Rattle.elem_index.proofs.KindLists.{kinds_by-counted, count-more}
use Rattle.elem_index.proofs.kind_list.KindList.push_counted.Goals as goal

pub invariant_of-self-2 : goal.invariant_of-self-2
invariant_of-self-2 c =
    rw (c.in_ok-push.ensures.items, c.push_reserved.ensures.items, c.in_ok-reserve.ensures.items)
    (omega (
      arith,
      length-append c.self.inside.totals.items (c.args.total ∷ []),
      c.self.invariant,
      count-more c.self.inside.kinds.items c.args.byte true c.requires,
    ))

pub returns-clause-ok : goal.returns-clause-ok
returns-clause-ok c =
    rw (c.in_ok-push.ensures.items, c.push_reserved.ensures.items, c.in_ok-reserve.ensures.items)
    (kinds_by-counted c.self.inside.kinds.items c.self.inside.totals.items c.args.byte c.args.total c.self.invariant c.requires
    ∙ ap (λ (kinds : Kinds). kinds.items ++ record { byte = c.args.byte; total = c.args.total } ∷ []) c.self.view_is)
