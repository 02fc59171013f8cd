use Rattle.std.proofs.Common.{◌≡◌, ◌∙◌, arith}
use Rattle.dgn_words.specs.Numbers.{put}
use Rattle.dgn_drawing.specs.SpotNumbers.{number_bytes}
use Rattle.dgn_drawing.proofs.WrittenNumbers.{put_laid}
use Rattle.dgn_drawing.proofs.sums.put_number.Goals as goal

pub returns-then-spot : goal.returns-then-spot
returns-then-spot c =
    let over : c.put_range_long.new.b ≡ put c.args.b.now c.args.spot.at (number_bytes c.args.spot c.args.number) = search arith in
    over ∙ put_laid c.args.b.now (number_bytes c.args.spot c.args.number) c.args.spot.at

pub returns-else-spot : goal.returns-else-spot
returns-else-spot c =
    let over : c.put_long.new.b ≡ put c.args.b.now c.args.spot.at (number_bytes c.args.spot c.args.number) = search arith in
    over ∙ put_laid c.args.b.now (number_bytes c.args.spot c.args.number) c.args.spot.at
