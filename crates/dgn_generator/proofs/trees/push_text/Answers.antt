use Rattle.dgn_generator.proofs.TreeBytes.{text_spelled, two_pushed}
use Rattle.dgn_generator.proofs.trees.push_text.Goals as goal

pub returns : goal.returns
returns c =
    two_pushed c.args.bytes.now.items c.extend_from_slice.new.self.items c.extend_from_slice-2.new.self.items c.front.result c.text_rest.result _ _ _
    c.in_ok-extend_from_slice.ensures.items c.in_ok-extend_from_slice-2.ensures.items c.front.ensures c.text_rest.ensures
    (text_spelled c.args.at.before c.args.at.x c.args.at.y)
