-- The design plane, in which every coordinate of a design file lies, and the displacements that can
-- carry one of its coordinates to another.
use Rattle.std.specs.Prelude.{Bool, ◌&&◌, ℤ, pos, neg_ℤ, ◌≤ℤ◌, int_le}

-- whether v is a coordinate of the design plane
abbrev pub is_on_plane : ℤ → Bool
is_on_plane v = int_le (neg_ℤ (pos 2147483648)) v && int_le v (pos 2147483647)

-- d is the difference of two coordinates of the design plane
abbrev pub IsDisplacement : ℤ → Type 0
IsDisplacement d = (neg_ℤ (pos 4294967295) ≤ℤ d) × (d ≤ℤ pos 4294967295)
