use Rattle.std.proofs.Common.{◌≡◌, ◌++◌, drop}
use Rattle.std.specs.List.{AllByRecursion}
use Rattle.elem_index.specs.Design.{elements}
use Rattle.edit_ops.specs.Rules.{rule_of}
use Rattle.edit_ops.specs.Written.{lives_of, live_puts}
use Rattle.edit_ops.specs.Putting.{MayBePut, leaving}
use Rattle.edit_ops.proofs.changes.live.push_live.Given as goal

-- what is put so far and what is put into those that are left are all, and the first that leaves is among those
abbrev pub invariant-live : goal.invariant-live
invariant-live l = record {
  readable : AllByRecursion (λ v. MayBePut l.edit v.element) (lives_of (elements l.d) (drop l.m-index l.live));
  all : l.patches ++ live_puts (rule_of l.d.dim l.edit) (lives_of (elements l.d) (drop l.m-index l.live)) ≡ l.fn.patches
      ++ live_puts (rule_of l.d.dim l.edit) (lives_of (elements l.d) l.live);
  same : leaving l.d.dim l.edit (lives_of (elements l.d) (drop l.m-index l.live)) ≡ leaving l.d.dim l.edit (lives_of (elements l.d) l.live);
}
