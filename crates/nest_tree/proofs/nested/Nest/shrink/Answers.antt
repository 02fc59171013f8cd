use Rattle.std.proofs.Common.{subst, sym, drop}
use Rattle.dgn_drawing.specs.Nesting.{BeginsFree, itself}
use Rattle.nest_tree.specs.Nested.{Nested}
use Rattle.nest_tree.proofs.GrownNestings.{left, kept_parted}
use Rattle.nest_tree.proofs.nested.Nest.shrink.Goals as goal

pub cut_broken-requires : goal.cut_broken-requires
cut_broken-requires c =
    kept_parted c.self.inside.seen.list c.self.inside.placed.ends.items c.self.inside.placed.entries.items c.self.inside.placed.broken.items
    c.self.invariant c.args.count
    c.requires.positive
    (subst (λ (t : Nested). BeginsFree itself (drop c.args.count t.rows)) (sym c.self.view_is) c.requires.free)

pub invariant_of-self : goal.invariant_of-self
invariant_of-self c =
    rw (c.then-self-inside.ensures, c.truncate.ensures.items, c.truncate-2.ensures.items, c.cut_broken.ensures)
    (left c.self.inside.seen.list c.self.inside.placed.ends.items c.self.inside.placed.entries.items c.self.inside.placed.broken.items c.self.invariant
    c.args.count
    c.requires.positive
    (subst (λ (t : Nested). BeginsFree itself (drop c.args.count t.rows)) (sym c.self.view_is) c.requires.free))
