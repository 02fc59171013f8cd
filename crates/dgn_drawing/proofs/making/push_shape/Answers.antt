use Rattle.std.proofs.Common.{rules, append_assoc}
use Rattle.std.specs.Prelude.{FitsSigned}
use Rattle.std.specs.Int.{w32}
use Rattle.std.proofs.lemmas.Int.{to_z-of_z}
use Rattle.std.proofs.lemmas.Result.{on_ok_weaker}
use Rattle.dgn_drawing.specs.Spelling.{parts_bytes}
use Rattle.dgn_drawing.proofs.MadeBytes.{row_pushed, text_pushed}
use Rattle.dgn_drawing.proofs.making.push_shape.Goals as goal

pub returns-in-Line : goal.returns-in-Line
unfolding parts_bytes
returns-in-Line c = search (rules, append_assoc)

pub returns-in_ok-push_word-in-Chain : goal.returns-in_ok-push_word-in-Chain
returns-in_ok-push_word-in-Chain c =
    on_ok_weaker c.push_points-in-Chain.result
    (row_pushed c.args.axes c.args.bytes.now.items c.in-Chain.is c.len.ensures c.as_slice-in-Chain.ensures c.in_ok-push_word-in-Chain.ensures)
    c.push_points-in-Chain.ensures

pub returns-in_ok-push_point-in-Text : goal.returns-in_ok-push_point-in-Text
returns-in_ok-push_point-in-Text c =
    let length : FitsSigned w32 c.in-Text.length = search rules in
    let height : FitsSigned w32 c.in-Text.height = search rules in
    on_ok_weaker c.push_chars.result
    (text_pushed c.args.axes c.args.bytes.now.items c.in-Text.is (to_z-of_z w32 c.in-Text.length length) (to_z-of_z w32 c.in-Text.height height)
    c.as_slice-in-Text.ensures c.in_ok-push_run-in-Text.ensures c.in_ok-push_point-in-Text.ensures)
    c.push_chars.ensures
