use Rattle.std.proofs.Common.{◌++◌, length, sym, ap, ◌∙◌, subst, arith}
use Rattle.std.specs.List.{AllByRecursion}
use Rattle.patch_bytes.specs.Puts.{write}
use Rattle.edit_ops.proofs.LoweredPuts.{LiesFrom, lies_from, others_lie, others_give}
use Rattle.edit_ops.proofs.copies.tree.lay_all.Goals as goal

pub patches-init : goal.patches-init
patches-init c = record {
  lie = subst (AllByRecursion (LiesFrom c.args.start (length c.args.bytes.now))) (sym c.as_slice-list.ensures)
      (lies_from c.args.start (length c.args.bytes.now) c.args.start c.args.patches.now (omega arith) c.requires);
  same = λ a long. ap (write (a ++ c.args.bytes.now)) c.as_slice-list.ensures;
}

pub patches-preserved : goal.patches-preserved
patches-preserved c = record {
  lie = others_lie c.args.start c.as_slice-list.result.now c.patches.patch-index c.patch-item.result c.patches-test.true c.patch-item.is c.patches.bytes
      c.swap_in.new.buf c.patches.invariant.lie
      c.swap_in.ensures.written;
  same = λ a long.
      others_give c.args.start c.as_slice-list.result.now c.patches.patch-index c.patch-item.result c.patches-test.true c.patch-item.is c.patches.bytes
      c.swap_in.new.buf c.patches.invariant.lie
      c.swap_in.ensures.written a long
      ∙ c.patches.invariant.same a long;
}
