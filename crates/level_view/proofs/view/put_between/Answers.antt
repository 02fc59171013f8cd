use Rattle.std.proofs.Common.{◌≡◌, ℕ, ◌-◌, ap, ◌∙◌, arith, reverse}
use Rattle.elem_index.specs.Design.{elements}
use Rattle.level_view.specs.Back.{read_back}
use Rattle.level_view.proofs.Places.{back_step}
use Rattle.level_view.proofs.view.put_between.Goals as goal

pub loop-n-preserved : goal.loop-n-preserved
loop-n-preserved c = record {
  after = omega (arith, c.loop-n-test.true);
  found =
      c.in_ok-add.ensures
      ∙ back_step c.args.d.now.dim c.args.mask (elements c.args.d.now) (c.loop-n.n - 1) c.place_of.result c.place_of.ensures
      c.loop-n.n c.args.end
      (reverse c.loop-n.items.items) (omega (arith, c.loop-n-test.true)) c.loop-n.auto.n c.loop-n.invariant.found;
}

pub returns : goal.returns
returns c =
    let first : c.loop-n.n ≡ c.args.first = omega (arith, c.loop-n-test.false, c.loop-n.invariant.after) in
    c.reverse.ensures.items ∙ c.loop-n.invariant.found
    ∙ ap (λ (n : ℕ). read_back c.args.d.now.dim c.args.mask (elements c.args.d.now) n (c.args.end - n)) first
