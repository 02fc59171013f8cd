-- The lines that end a run with a number.
use Rattle.std.specs.Prelude.{ℕ, List, ◌++◌, codes}
use Rattle.std.specs.Fmt.{decimal}

-- words, a number and the end of the line
abbrev pub numbered : List ℕ → ℕ → List ℕ
numbered words n = words ++ decimal n ++ codes "\n"
