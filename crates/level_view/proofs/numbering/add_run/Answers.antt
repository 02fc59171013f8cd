use Rattle.std.proofs.Common.{◌++◌, List, ℕ, Bool, reverse, ap, ◌∙◌}
use Rattle.dgn_drawing.specs.Reading.{element_at}
use Rattle.level_view.specs.Numbers.{alone_if, is_alone}
use Rattle.level_view.proofs.Results.{ok_same}
use Rattle.level_view.proofs.numbering.add_run.Goals as goal

pub returns : goal.returns
returns c =
    ok_same c.put_number.result _ _ _ c.put_number.ensures
    (ap (λ (t : Bool). alone_if t c.args.place.number ++ reverse c.cut_below.new.numbers.items) c.is_alone.ensures
    ∙ ap (λ (ns : List ℕ). alone_if (is_alone c.args.mask (element_at c.args._dim c.args.place.bytes.now)) c.args.place.number ++ ns) c.cut_below.ensures)
