-- The test says what touching is.
use Rattle.std.proofs.lemmas.Bool.{both_ways}
use Rattle.plane_geom.proofs.TestOfTouch.{tells}
use Rattle.plane_geom.proofs.BoxesBeside.{beside_untouched}
use Rattle.plane_geom.proofs.laws.beside_is_untouched.Goals as goal

pub returns : goal.returns
returns c = λ low high r s p q e i j t. both_ways _ (beside_untouched low high r s p q e i j) ((tells p q r s).1 t)
