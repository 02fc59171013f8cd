use Rattle.dgn_revision.proofs.TextsInPlace.{text_put}
use Rattle.dgn_revision.proofs.laws.texts_keep_their_room.Goals as goal

pub returns : goal.returns
returns c = text_put
