-- What the iterator over the spots of an element still gives.
use Rattle.std.specs.Prelude.{◌++◌, false, List}
use Rattle.dgn_layout.specs.declared.spot.Spot.{Spot}
use Rattle.dgn_layout.specs.declared.types.spots.Spots.{Spots}
use Rattle.dgn_layout.specs.Spots.{fields_from, points_spots}

-- the spots that are left: those at fixed places, those of the point that is begun, and those of the other points
abbrev pub spots_left : Spots → List Spot
spots_left s = s.fixed.now ++ (fields_from false s.left s.axis s.at ++ points_spots s.points.count s.points.axes s.points.start)
