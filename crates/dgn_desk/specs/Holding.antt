-- A desk over another one, that holds back some of what is said.
use Rattle.std.specs.Prelude.{ℕ, List, Option, Some, None, IsSome, option_map}
use Rattle.dgn_desk.specs.Content.{Content, spoken}

-- what it tells, where it holds these bytes back and that desk tells this: they count as said
abbrev pub with_held : List ℕ → Option Content → Option Content
with_held held c = option_map (spoken held) c

-- so it tells what it holds where that desk does
pub held_tells : (held : List ℕ) (c : Option Content) → IsSome c → IsSome (with_held held c)
held_tells held None some = some
held_tells held (Some c) some = some
