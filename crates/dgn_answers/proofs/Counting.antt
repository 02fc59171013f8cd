-- What a step adds: at most one refusal.
use Rattle.std.proofs.Common.{ℕ, ◌+◌, ◌≤◌, Bool, true, false, arith}
use Rattle.std.specs.Int.{from_bool}

-- at most one more is refused with each command
pub refused_few : (refused i : ℕ) (was : Bool) → refused ≤ i → refused + from_bool was ≤ i + 1
refused_few refused i true few = omega (arith, few)
refused_few refused i false few = omega (arith, few)
