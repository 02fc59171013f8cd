use Rattle.elem_index.proofs.Places.{sound_here}
use Rattle.tests_edit.proofs.listings.listings.linked.Goals as goal

pub write_links-requires : goal.write_links-requires
write_links-requires c = sound_here c.args.d.now c.requires c.args.n c.in-Some.bytes.now c.in-Some.ensures.bytes
