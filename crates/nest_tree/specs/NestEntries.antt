-- What is kept of an element beside the number behind its span, as contracts see it.
use Rattle.std.specs.Prelude.{◌≡◌, ℕ, ◌==◌, Option, Some, None, if◌then◌else◌, List}
use Rattle.std.proofs.Common.{sym, ◌∙◌, ap, inl, inr}
use Rattle.std.proofs.lemmas.Bool.{cases_Bool, cond-true, cond-false, eqb-true}
use Rattle.nest_tree.specs.declared.knot.Knot.{Knot}

pub record NestEntry : Type 0 where
  pub parent : Option ℕ
  pub depth : ℕ
  pub knot : Knot

-- that of a root with nothing below it
abbrev pub plain_entry : NestEntry
plain_entry = record { parent = None; depth = 0; knot = Knot.Leaf }

-- what is kept of elements, and for how many more there is room
pub record KeptEntries : Type 0 where
  pub items : List NestEntry
  pub spare : ℕ

-- a kept number stands for a header, unless it is one that no element has
abbrev pub header_of : ℕ → Option ℕ
header_of n = if n == 4294967295 then None else Some n

abbrev pub number_of : Option ℕ → ℕ
number_of None = 4294967295
number_of (Some n) = n

pub number_kept : (n : ℕ) → number_of (header_of n) ≡ n
number_kept n = elim (cases_Bool (n == 4294967295)) [
  | inl same ↦ ap number_of (cond-true (n == 4294967295) None (Some n) same) ∙ sym (eqb-true n 4294967295 same)
  | inr other ↦ ap number_of (cond-false (n == 4294967295) None (Some n) other)
]
