-- Either end of a segment may be read first.
use Rattle.plane_geom.proofs.CommonPoints.{turned, turned_second}
use Rattle.plane_geom.proofs.laws.ends_exchange.Goals as goal

pub returns : goal.returns
returns c = λ p q r s. ((turned p q r s, turned q p r s), (turned_second p q r s, turned_second p q s r))
