use Rattle.dgn_generator.proofs.TreeBytes.{header_spelled, two_pushed}
use Rattle.dgn_generator.proofs.trees.push_cell_header.Goals as goal

pub returns : goal.returns
returns c =
    two_pushed c.args.bytes.now.items c.extend_from_slice.new.self.items c.extend_from_slice-2.new.self.items c.front.result c.header_rest.result _ _ _
    c.in_ok-extend_from_slice.ensures.items c.in_ok-extend_from_slice-2.ensures.items c.front.ensures c.header_rest.ensures
    (header_spelled c.args.at.before c.args.at.x c.args.at.y)
