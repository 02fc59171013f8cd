use Rattle.std.proofs.Common.{◌≡◌, drop}
use Rattle.elem_index.specs.Design.{elements}
use Rattle.edit_ops.specs.Causes.{first_cause}
use Rattle.edit_ops.specs.Asking.{MayBeAsked}
use Rattle.edit_ops.specs.Written.{lives_of}
use Rattle.edit_ops.proofs.causes.first.first_cause.Given as goal

-- the first cause is that of those that are left
abbrev pub invariant-live : goal.invariant-live
invariant-live l = record {
  asked : MayBeAsked l.d.dim l.test (lives_of (elements l.d) (drop l.m-index l.live));
  same : first_cause l.d.dim l.test (lives_of (elements l.d) (drop l.m-index l.live)) ≡ first_cause l.d.dim l.test (lives_of (elements l.d) l.live);
}
