use Rattle.dgn_mend.proofs.DrawingsMended.{mended_opens}
use Rattle.dgn_mend.proofs.laws.a_mended_drawing_opens.Goals as goal

pub returns : goal.returns
returns c = mended_opens
