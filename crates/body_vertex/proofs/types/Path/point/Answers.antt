use Rattle.std.proofs.Common.{arith, ap, sym, ◌∙◌, Some}
use Rattle.body_vertex.proofs.Points.{point_is, point_within}
use Rattle.body_vertex.proofs.types.Path.point.Goals as goal

pub overflow_mul-i : goal.overflow_mul-i
overflow_mul-i g c =
    let fit = point_within _ _ _ _ c.self.view_is _ c.requires c.self.invariant in omega arith

pub overflow_add-self-inside : goal.overflow_add-self-inside
overflow_add-self-inside g c =
    let fit = point_within _ _ _ _ c.self.view_is _ c.requires c.self.invariant in omega arith

pub longs-requires : goal.longs-requires
longs-requires g c =
    let fit = point_within _ _ _ _ c.self.view_is _ c.requires c.self.invariant in (omega arith, fit)

pub returns : goal.returns
returns g c = point_is _ _ _ _ c.self.view_is _ c.requires ∙ ap Some (sym c.longs.ensures)
