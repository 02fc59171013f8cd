use Rattle.std.proofs.Common.{[], ◌∙◌}
use Rattle.std.proofs.lemmas.List.{append-nil}
use Rattle.dgn_drawing.specs.Spelling.{spell}
use Rattle.dgn_drawing.proofs.RecordsRead.{one_spelling}
use Rattle.dgn_drawing.proofs.laws.one_spelling_one_record.Goals as goal

pub returns-clause-unique : goal.returns-clause-unique
returns-clause-unique c = λ dim e f axes good_e good_f same. (one_spelling dim e f axes good_e good_f [] (append-nil (spell e) ∙ same)).0

pub returns-clause-no_prefix : goal.returns-clause-no_prefix
returns-clause-no_prefix c = λ dim e f axes good_e good_f more same. (one_spelling dim e f axes good_e good_f more same).1
