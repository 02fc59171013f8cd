-- The test says what touching is.
use Rattle.std.proofs.lemmas.Bool.{both_ways}
use Rattle.plane_geom.proofs.TestOfTouch.{tells}
use Rattle.plane_geom.proofs.BoxesBeside.{apart_untouched}
use Rattle.plane_geom.proofs.laws.apart_is_untouched.Goals as goal

pub returns : goal.returns
returns c = λ low high l h p q r s e i j k m t. both_ways _ (apart_untouched low high l h p q r s e i j k m) ((tells p q r s).1 t)
