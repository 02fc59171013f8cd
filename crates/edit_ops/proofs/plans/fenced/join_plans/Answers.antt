use Rattle.std.proofs.Common.{rules, ◌++◌, length, refl}
use Rattle.elem_index.specs.Design.{elements}
use Rattle.edit_ops.specs.Planned.{IsRefused}
use Rattle.edit_ops.specs.Fenced.{apply_all}
use Rattle.edit_ops.proofs.JoinedPlans.{next_planned, next_refused, all_planned}
use Rattle.edit_ops.proofs.plans.fenced.join_plans.Goals as goal

pub returns-in_err-join_root-clause-refused : goal.returns-in_err-join_root-clause-refused
returns-in_err-join_root-clause-refused c =
    let d = c.args.d.now in
    let is : IsRefused (apply_all d.dim (elements d) (length d.tail.items) c.args.edit.now c.args.roots.now) c.in_err-join_root.field-0.0 =
    next_refused d.dim (elements d) (length d.tail.items)
    c.args.edit.now c.args.roots.now c.roots.n-index c.roots.all.patches c.roots.all.append c.roots-test.true
    (length c.roots.all.append) c.in_err-join_root.field-0.0 refl c.roots.invariant c.in_err-join_root.ensures in
    search rules

pub roots-preserved : goal.roots-preserved
roots-preserved c =
    let d = c.args.d.now in
    let next = c.in_ok-join_root.ensures in
    next_planned d.dim (elements d) (length d.tail.items) c.args.edit.now c.args.roots.now (d.body.items ++ d.tail.items)
    d.tail.items c.is_whole.ensures.is_open.opens c.requires.fits
    c.roots.n-index c.roots.all.patches c.roots.all.append c.roots-test.true (length c.roots.all.append)
    next.own c.join_root.new.all.patches c.join_root.new.all.append
    refl c.roots.invariant next.is next.patches next.append

pub returns-clause-planned : goal.returns-clause-planned
returns-clause-planned c =
    let d = c.args.d.now in
    all_planned d.dim (elements d) (length d.tail.items) c.args.edit.now c.args.roots.now (d.body.items ++ d.tail.items)
    d.tail.items c.is_whole.ensures.is_open.opens c.requires.fits
    c.roots.n-index c.roots.all c.requires.roots c.roots-test.false c.roots.invariant
