use Rattle.dgn_drawing.proofs.FieldPlaces.{all-sits}
use Rattle.dgn_drawing.proofs.SpotValues.{spots_sit}
use Rattle.dgn_drawing.proofs.laws.records_sit_at_their_places.Goals as goal

pub returns-clause-fields : goal.returns-clause-fields
returns-clause-fields c = all-sits

pub returns-clause-spots : goal.returns-clause-spots
returns-clause-spots c = spots_sit
