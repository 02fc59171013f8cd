use Rattle.std.proofs.Common.{◌≡◌, length}
use Rattle.std.specs.List.{AllByRecursion}
use Rattle.dgn_drawing.specs.NewElements.{IsPointFor}
use Rattle.edit_script.specs.Words.{words_of}
use Rattle.edit_script.specs.Points.{points_named}
use Rattle.edit_script.proofs.NamedValues.{behind_all}
use Rattle.edit_script.proofs.points.read_points.Given as goal

abbrev pub invariant-words : goal.invariant-words
invariant-words l = record {
  reads : behind_all l.points (points_named l.axes (words_of l.left)) ≡ points_named l.axes (words_of l.words);
  fits : AllByRecursion (IsPointFor l.axes) l.points;
}

abbrev pub decreases-words : goal.decreases-words
decreases-words l = length (words_of l.left)
