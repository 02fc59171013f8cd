-- The greatest low end is at most the least high end.
use Rattle.std.proofs.Common.{◌≡◌, ap₂, ◌∙◌, SFits, w32, to_z-of_z}
use Rattle.std.specs.Int.{int_min, int_max}
use Rattle.plane_geom.proofs.Axes.{at_most}
use Rattle.plane_geom.proofs.segments.overlap.Goals as goal

pub returns : goal.returns
returns c =
    let p = c.args.p in
    let q = c.args.q in
    let r = c.args.r in
    let s = c.args.s in
    let fits_p : SFits w32 p = c.ranges.p in
    let fits_q : SFits w32 q = c.ranges.q in
    let fits_r : SFits w32 r = c.ranges.r in
    let fits_s : SFits w32 s = c.ranges.s in
    let fits_low : SFits w32 c.max-low.result = record { sfits = c.max-low.type_inv } in
    let fits_high : SFits w32 c.min-high.result = record { sfits = c.min-high.type_inv } in
    let fits_first : SFits w32 c.min.result = record { sfits = c.min.type_inv } in
    let fits_second : SFits w32 c.min-2.result = record { sfits = c.min-2.type_inv } in
    let fits_third : SFits w32 c.max.result = record { sfits = c.max.type_inv } in
    let fits_fourth : SFits w32 c.max-2.result = record { sfits = c.max-2.type_inv } in
    let first : c.min.result ≡ int_min p q = simp to_z-of_z at c.min.ensures.value in
    let second : c.min-2.result ≡ int_min r s = simp to_z-of_z at c.min-2.ensures.value in
    let third : c.max.result ≡ int_max p q = simp to_z-of_z at c.max.ensures.value in
    let fourth : c.max-2.result ≡ int_max r s = simp to_z-of_z at c.max-2.ensures.value in
    let low : c.max-low.result ≡ int_max c.min.result c.min-2.result = simp to_z-of_z at c.max-low.ensures.value in
    let high : c.min-high.result ≡ int_min c.max.result c.max-2.result = simp to_z-of_z at c.min-high.ensures.value in
    at_most c.max-low.result c.min-high.result _ _ fits_low fits_high (low ∙ ap₂ int_max first second) (high ∙ ap₂ int_min third fourth)
