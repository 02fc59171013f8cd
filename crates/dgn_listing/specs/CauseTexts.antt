-- What an edit says that is refused: one line with the cause.
use Rattle.std.specs.Prelude.{ℕ, List, ◌++◌, codes, decimal}
use Rattle.edit_ops.specs.declared.causes.cause.Cause.{Cause}
use Rattle.edit_ops.specs.declared.causes.cause.Cause.TheVariants as causes
use Rattle.dgn_listing.specs.Lines.{line_feed}

-- words, the number of an element and the end of the line
abbrev pub refused_text : List ℕ → ℕ → List ℕ
refused_text words n = words ++ (decimal n ++ line_feed)

-- the line of a cause
abbrev pub cause_text : Cause → List ℕ
cause_text (causes.Unknown n) = refused_text (codes "refused unknown ") n
cause_text (causes.Broken m) = refused_text (codes "refused broken ") m
cause_text (causes.Deleted m) = refused_text (codes "refused deleted ") m
cause_text (causes.Locked m) = refused_text (codes "refused locked ") m
cause_text causes.Dimension = codes "refused dimension\n"
cause_text (causes.Floating m) = refused_text (codes "refused floating ") m
cause_text (causes.Opaque m) = refused_text (codes "refused opaque ") m
cause_text (causes.OffPlane m) = refused_text (codes "refused off-plane ") m
cause_text causes.TooLong = codes "refused too-long\n"
