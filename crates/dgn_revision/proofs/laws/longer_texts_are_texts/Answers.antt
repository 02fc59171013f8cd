use Rattle.dgn_revision.proofs.LongerTexts.{longer_put}
use Rattle.dgn_revision.proofs.laws.longer_texts_are_texts.Goals as goal

pub returns : goal.returns
returns c = longer_put
