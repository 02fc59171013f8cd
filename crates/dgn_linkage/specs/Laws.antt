-- What the list of linkages is, in words of the rules and of the bytes alone.
use Rattle.std.specs.Prelude.{ℕ, ◌≡◌, ◌+◌, ◌<◌, ◌↔◌, List, [], ◌∷◌, length, drop}
use Rattle.dgn_linkage.specs.declared.types.link.Link.{Link}
use Rattle.dgn_linkage.specs.Linkages.{first_link_of, linkages_of}

-- these are linkages by the rules, from place `at` on, where `rest` is the data from there on
abbrev pub ByRules : ℕ → List ℕ → List Link → Type 0
ByRules at rest [] = rest ≡ []
ByRules at rest (link ∷ links) =
    (0 < length rest)
    × (link ≡ first_link_of at rest)
    × ByRules (at + link.len) (drop link.len rest) links

-- the linkages of data are the one list by the rules
abbrev pub FollowsRules : Type 0
FollowsRules = (b : List ℕ) (links : List Link) → ByRules 0 b links ↔ (links ≡ linkages_of b)

-- these linkages stand side by side from place `at` up to place `end`, and none is empty
abbrev pub Fill : ℕ → ℕ → List Link → Type 0
Fill at end [] = at ≡ end
Fill at end (link ∷ links) = (link.at ≡ at) × (0 < link.len) × Fill (at + link.len) end links

-- the linkages of data fill it
abbrev pub AddsUp : Type 0
AddsUp = (b : List ℕ) → Fill 0 (length b) (linkages_of b)
