-- The number of bytes is enough to come to the end, so the linkages go by the rules alone.
use Rattle.std.proofs.Common.{◌≡◌, ℕ, zero, suc, ◌+◌, ◌-◌, ◌<◌, ◌≤◌, List, [], ◌∷◌, length, drop, refl, sym, ap, ◌∙◌, subst, arith, take, take_all}
use Rattle.std.proofs.Common.{length-drop, drop-drop}
use Rattle.dgn_linkage.specs.declared.types.link.Link.{Link}
use Rattle.dgn_linkage.specs.Linkages.{first_link_of, linkages_within, linkages_from}
use Rattle.dgn_linkage.specs.Laws.{ByRules, Fill}
use Rattle.dgn_linkage.proofs.FirstLinkage.{Fits, first_fits}

-- what is left behind a first linkage is shorter
shorter : (at : ℕ) (b : ℕ) (bs : List ℕ) → length (drop (first_link_of at (b ∷ bs)).len (b ∷ bs)) ≤ length bs
shorter at b bs =
    let fits = first_fits at (b ∷ bs) (omega arith) in
    let some : 0 < (first_link_of at (b ∷ bs)).len = fits.some in
    omega (arith, length-drop (first_link_of at (b ∷ bs)).len (b ∷ bs))

-- more than enough gives the same
enough : (n m at : ℕ) (rest : List ℕ) → length rest ≤ n → length rest ≤ m → linkages_within n at rest ≡ linkages_within m at rest
unfolding linkages_within
enough zero zero at rest h g = refl
enough zero (suc m) at [] h g = refl
enough zero (suc m) at (b ∷ bs) h g = absurd (omega arith)
enough (suc n) zero at [] h g = refl
enough (suc n) zero at (b ∷ bs) h g = absurd (omega arith)
enough (suc n) (suc m) at [] h g = refl
enough (suc n) (suc m) at (b ∷ bs) h g =
    let link = first_link_of at (b ∷ bs) in
    let less = shorter at b bs in
    ap (λ (links : List Link). link ∷ links) (enough n m (at + link.len) (drop link.len (b ∷ bs)) (omega arith) (omega arith))

pub linkages-none : (at : ℕ) → linkages_from at [] ≡ []
unfolding linkages_within
linkages-none at = refl

-- the first by the rules, then those of what is left
pub linkages-next : (at b : ℕ) (bs : List ℕ)
    → linkages_from at (b ∷ bs)
    ≡ first_link_of at (b ∷ bs) ∷ linkages_from (at + (first_link_of at (b ∷ bs)).len) (drop (first_link_of at (b ∷ bs)).len (b ∷ bs))
unfolding linkages_within
linkages-next at b bs =
    let link = first_link_of at (b ∷ bs) in
    let less = shorter at b bs in
    ap (λ (links : List Link). link ∷ links)
    (enough (length bs) (length (drop link.len (b ∷ bs))) (at + link.len) (drop link.len (b ∷ bs)) (omega arith) (omega arith))

next_of : (at : ℕ) (rest : List ℕ) (link : Link) → 0 < length rest → link ≡ first_link_of at rest
    → linkages_from at rest ≡ link ∷ linkages_from (at + link.len) (drop link.len rest)
next_of at [] link h e = absurd (omega arith)
next_of at (b ∷ bs) link h e =
    linkages-next at b bs
    ∙ ap (λ (l : Link). l ∷ linkages_from (at + l.len) (drop l.len (b ∷ bs))) (sym e)

-- one linkage is given, and the others are left
pub left-next : (at : ℕ) (bytes : List ℕ) (link : Link) → 0 < length (drop at bytes) → link ≡ first_link_of at (drop at bytes)
    → linkages_from at (drop at bytes) ≡ link ∷ linkages_from (at + link.len) (drop (at + link.len) bytes)
left-next at bytes link h e =
    next_of at (drop at bytes) link h e
    ∙ ap (λ (rest : List ℕ). link ∷ linkages_from (at + link.len) rest) (drop-drop link.len at bytes)

-- nothing is left of no bytes
pub left-none : (at : ℕ) (rest : List ℕ) → rest ≡ [] → linkages_from at rest ≡ []
left-none at rest e = ap (linkages_from at) e ∙ linkages-none at

-- a list by the rules is that of the linkages
pub by_rules : (at : ℕ) (rest : List ℕ) (links : List Link) → ByRules at rest links → links ≡ linkages_from at rest
by_rules at rest [] e = sym (left-none at rest e)
by_rules at rest (link ∷ links) h =
    ap (λ (ls : List Link). link ∷ ls) (by_rules (at + link.len) (drop link.len rest) links h.2)
    ∙ sym (next_of at rest link h.0 h.1)

-- and that of the linkages is by the rules
pub rules_of : (n at : ℕ) (rest : List ℕ) → length rest ≤ n → ByRules at rest (linkages_from at rest)
rules_of n at [] h = subst (ByRules at []) (sym (linkages-none at)) refl
rules_of zero at (b ∷ bs) h = absurd (omega arith)
rules_of (suc n) at (b ∷ bs) h =
    let link = first_link_of at (b ∷ bs) in
    let less = shorter at b bs in
    subst (ByRules at (b ∷ bs)) (sym (linkages-next at b bs)) (omega arith, refl, rules_of n (at + link.len) (drop link.len (b ∷ bs)) (omega arith))

-- linkages by the rules fill the data
pub fills : (at end : ℕ) (rest : List ℕ) (links : List Link) → ByRules at rest links → at + length rest ≡ end → Fill at end links
fills at end rest [] h e = omega (arith, ap length h)
fills at end rest (link ∷ links) h e =
    let fits : Fits at (length rest) link = subst (Fits at (length rest)) (sym h.1) (first_fits at rest h.0) in
    (fits.place, fits.some, fills (at + link.len) end (drop link.len rest) links h.2 (omega (arith, length-drop link.len rest)))

-- the same of the data as a slice has it
sliced : (at : ℕ) (bytes : List ℕ) → take (length bytes - at) (drop at bytes) ≡ drop at bytes
sliced at bytes = take_all (length bytes - at) (drop at bytes) (omega (arith, length-drop at bytes))

abbrev pub slice_from : ℕ → List ℕ → List ℕ
slice_from at bytes = take (length bytes - at) (drop at bytes)

pub slice-next : (at : ℕ) (bytes : List ℕ) (link : Link) → 0 < link.len → link.len ≤ length (slice_from at bytes)
    → link ≡ first_link_of at (slice_from at bytes) → linkages_from at (drop at bytes) ≡ link ∷ linkages_from (at + link.len) (drop (at + link.len) bytes)
slice-next at bytes link some within e =
    left-next at bytes link
    (omega (arith, ap (length {A = ℕ}) (sliced at bytes)))
    (e ∙ ap (first_link_of at) (sliced at bytes))

pub slice-none : (at : ℕ) (bytes : List ℕ) → length (slice_from at bytes) ≡ 0 → linkages_from at (drop at bytes) ≡ []
slice-none at bytes e = none (drop at bytes) (omega (arith, ap (length {A = ℕ}) (sliced at bytes)))
  where
    none : (rest : List ℕ) → length rest ≡ 0 → linkages_from at rest ≡ []
    none [] e = linkages-none at
    none (b ∷ bs) e = absurd (omega arith)
