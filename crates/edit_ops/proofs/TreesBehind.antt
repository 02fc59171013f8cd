-- Trees behind other trees: their bytes, and that they are told apart.
use Rattle.std.proofs.Common.{◌≡◌, List, [], ◌∷◌, ◌++◌, ap, ◌∙◌}
use Rattle.std.proofs.lemmas.Grind.{flat_map-append}
use Rattle.dgn_drawing.specs.Element.{Element}
use Rattle.dgn_drawing.specs.Spelling.{spell, spelling}
use Rattle.dgn_drawing.specs.Rows.{row_of}
use Rattle.dgn_drawing.specs.Nesting.{Forest, NoTree, Tree, flat, joined, BeginsFree}
use Rattle.edit_ops.proofs.PartPlace.{flat-joined}

-- a tree and those behind it have the bytes of both
pub first_spelled : (f g : Forest Element) → spelling (flat (joined f g)) ≡ spelling (flat f) ++ spelling (flat g)
first_spelled f g = ap spelling (flat-joined f g) ∙ flat_map-append spell (flat f) (flat g)

-- where trees are the same behind the same trees, they are the same
pub joined_left : {A : Type 0} (f a b : Forest A) → joined f a ≡ joined f b → a ≡ b
joined_left NoTree a b is = is
joined_left (Tree knot h below behind) a b is = joined_left behind a b (let e = is in cc)

-- what begins without bit C, and behind it too
pub free_both : (xs ys : List Element) → BeginsFree row_of xs → BeginsFree row_of ys → BeginsFree row_of (xs ++ ys)
free_both [] ys first last = last
free_both (x ∷ xs) ys first last = first
