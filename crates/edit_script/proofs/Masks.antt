-- Levels that are added to a mask one by one.
use Rattle.std.proofs.Common.{◌≡◌, ℕ, suc, ◌+◌, ◌-◌, ◌*◌, ◌%◌, ◌^◌, ◌<◌, ap, sym, ◌∙◌, arith}
use Rattle.std.specs.Prelude.{bit_or}
use Rattle.std.proofs.lemmas.Nat.{one_shl}
use Rattle.edit_script.specs.Levels.{with_levels}

-- one level more, as a shift computes it
pub one_more : (mask level last : ℕ) → level < last + 1 → last < 64
    → with_levels (bit_or mask (1 * 2 ^ level % 18446744073709551616)) (level + 1) (last + 1 - (level + 1)) ≡ with_levels mask level (last + 1 - level)
one_more mask level last within small =
    let bit : 1 * 2 ^ level % 2 ^ 64 ≡ 2 ^ level = one_shl level 64 (omega arith) in
    let count : last + 1 - level ≡ suc (last + 1 - (level + 1)) = omega arith in
    ap (λ (b : ℕ). with_levels (bit_or mask b) (level + 1) (last + 1 - (level + 1))) bit
    ∙ sym (ap (with_levels mask level) count)
