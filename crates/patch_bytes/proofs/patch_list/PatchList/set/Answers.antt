use Rattle.std.proofs.Common.{ap, ◌∙◌, slice_set}
use Rattle.std.proofs.lemmas.List.{map-set}
use Rattle.patch_bytes.specs.PatchView.{put_of}
use Rattle.patch_bytes.proofs.patch_list.PatchList.set.Goals as goal

-- the view of the list with one patch set is the view with what that patch puts set
pub returns : goal.returns
returns c =
    map-set put_of c.self.inside.kept.items c.args.i c.args.p
    ∙ ap (λ l. slice_set l c.args.i (put_of c.args.p)) c.self.view_is
