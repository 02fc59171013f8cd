-- What the words of the command line ask for.
use Rattle.std.specs.Prelude.{ℕ, ◌&&◌, nat_le, not, if◌then◌else◌, List, [], ◌∷◌, codes, Option, Some, None}
use Rattle.std.specs.Str.{bytes_eq}
use Rattle.edit_script.specs.Numbers.{number_within}

-- to edit IN by SCRIPT into OUT, to check IN, to generate the drawing of a seed and a count into OUT, to pack what SCRIPT
-- does to IN into PATCH, or to apply PATCH to IN into OUT; each file by its name
pub data Request : Type 0 where
  Edit : List ℕ → List ℕ → List ℕ → Request
  Check : List ℕ → Request
  Gen : ℕ → ℕ → List ℕ → Request
  Pack : List ℕ → List ℕ → List ℕ → Request
  Apply : List ℕ → List ℕ → List ℕ → Request

-- `check IN`
abbrev pub check_of : List ℕ → List ℕ → Option Request
check_of command input = if bytes_eq command (codes "check") then Some (Check input) else None

-- `edit IN SCRIPT OUT`, where IN and OUT are different
abbrev pub edit_of : List ℕ → List ℕ → List ℕ → List ℕ → Option Request
edit_of command input script output =
    if bytes_eq command (codes "edit") && not (bytes_eq input output) then Some (Edit input script output) else None

-- `pack IN SCRIPT PATCH`, where IN and PATCH are different
abbrev pub pack_of : List ℕ → List ℕ → List ℕ → Option Request
pack_of input script patch = if bytes_eq input patch then None else Some (Pack input script patch)

-- a seed and a count of elements that are given, of which there are 1 to 200000
abbrev pub generation_of : Option ℕ → Option ℕ → List ℕ → Option Request
generation_of None count output = None
generation_of (Some seed) None output = None
generation_of (Some seed) (Some count) output = if nat_le 1 count && nat_le count 200000 then Some (Gen seed count output) else None

-- `gen SEED COUNT OUT`
abbrev pub gen_of : List ℕ → List ℕ → List ℕ → List ℕ → Option Request
gen_of command seed count output =
    if bytes_eq command (codes "gen") then generation_of (number_within 4294967295 seed) (number_within 4294967295 count) output else None

-- `apply IN PATCH OUT`, where IN and OUT are different
abbrev pub apply_of : List ℕ → List ℕ → List ℕ → Option Request
apply_of input patch output = if bytes_eq input output then None else Some (Apply input patch output)

-- what four words ask for
abbrev pub four_words : List ℕ → List ℕ → List ℕ → List ℕ → Option Request
four_words command second third fourth =
    if bytes_eq command (codes "edit") then edit_of command second third fourth
    else if bytes_eq command (codes "pack") then pack_of second third fourth
    else if bytes_eq command (codes "apply") then apply_of second third fourth
    else gen_of command second third fourth

-- what the words ask for, where they are of a form
abbrev pub request_of : List (List ℕ) → Option Request
request_of (command ∷ input ∷ []) = check_of command input
request_of (command ∷ second ∷ third ∷ fourth ∷ []) = four_words command second third fourth
request_of _ = None
