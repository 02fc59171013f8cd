use Rattle.dgn_generator.proofs.TreeBytes.{tcb_pushed}
use Rattle.dgn_generator.proofs.push_tcb.Goals as goal

pub returns : goal.returns
returns c =
    tcb_pushed c.args.bytes.now.items c.extend_from_slice.new.self.items c.extend_from_slice-2.new.self.items
    c.in_ok-extend_from_slice.ensures.items c.in_ok-extend_from_slice-2.ensures.items
