-- A cell's origin as the longs that stand side by side at its place.
use Rattle.std.proofs.Common.{◌≡◌, ℕ, ◌==◌, if◌then◌else◌, ◌⊎◌, inl, inr, List, refl}
use Rattle.dgn_words.specs.Numbers.{longs_at}
use Rattle.group_head.specs.Headers.{origin_at}

pub longs-origin_at : (dim at : ℕ) (b : List ℕ) → (dim ≡ 2) ⊎ (dim ≡ 3) → at ≡ (if dim == 2 then 84 else 112) → longs_at dim b at ≡ origin_at dim b
longs-origin_at dim at b (inl two) place = rw (place, two) refl
longs-origin_at dim at b (inr three) place = rw (place, three) refl
