use Rattle.dgn_drawing.proofs.Rows.{record-read}
use Rattle.dgn_drawing.proofs.BytesSpelled.{spell-element_at, element_at_good}
use Rattle.dgn_drawing.proofs.laws.bytes_are_records.Goals as goal

pub returns-clause-spelled : goal.returns-clause-spelled
returns-clause-spelled c = λ dim b axes whole long kept no_mark.
    (spell-element_at dim b axes whole long, element_at_good dim b axes whole long kept no_mark)

pub returns-clause-read : goal.returns-clause-read
returns-clause-read c = record-read
