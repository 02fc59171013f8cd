use Rattle.std.proofs.Common.{[], ◌∷◌, replicate}
use Rattle.sample_elements.specs.Samples.{tcb}
use Rattle.sample_elements.proofs.Pieces.{from_the_left}
use Rattle.sample_elements.proofs.making.push_tcb.Goals as goal

pub returns : goal.returns
unfolding tcb
returns c =
    from_the_left c.args.bytes.now.items (c.args.first ∷ 9 ∷ 254 ∷ 2 ∷ []) (replicate 1210 0) (c.args.mark ∷ []) (replicate 321 0)
    c.extend_from_slice.new.self.items c.extend_from_slice-2.new.self.items c.push.new.self.items c.extend_from_slice-3.new.self.items
    c.in_ok-extend_from_slice.ensures.items c.in_ok-extend_from_slice-2.ensures.items c.in_ok-push.ensures.items c.in_ok-extend_from_slice-3.ensures.items
