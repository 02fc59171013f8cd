use Rattle.std.proofs.Common.{List, ℕ, ◌++◌, map, sym, ap, ◌∙◌}
use Rattle.dgn_layout.specs.Spots.{spots_of}
use Rattle.patch_bytes.specs.Puts.{write}
use Rattle.edit_ops.specs.Rules.{sum_put}
use Rattle.edit_ops.proofs.LoneCopy.{points_held, alone_copied}
use Rattle.edit_ops.proofs.copies.lone.lay_copy.Goals as goal

pub lay_sums-stays-requires-clause-holds : goal.lay_sums-stays-requires-clause-holds
lay_sums-stays-requires-clause-holds c =
    points_held c.args.d.now c.is_whole.ensures c.args.n c.args.found c.requires.found c.requires.live c.args.by.now c.requires.movable

pub returns-clause-copied : goal.returns-clause-copied
returns-clause-copied c all =
    c.free_first.ensures
    ∙ alone_copied c.args.d.now c.is_whole.ensures c.args.n c.args.found c.requires.found c.requires.live c.args.by.now c.requires.movable c.requires.fits
    c.requires.part (sym c.lay_sums-stays.ensures.on_plane ∙ all)
    c.lay_sums-stays.new.copy
    (λ a long.
    ap (λ (z : List ℕ). write (a ++ z)
    (map (sum_put c.args.by.now c.args.found.place c.args.found.bytes.now) (spots_of c.args.d.now.dim c.args.found.kind c.args.found.bytes.now)))
    (sym c.requires.same)
    ∙ c.lay_sums-stays.ensures.laid all a long)
