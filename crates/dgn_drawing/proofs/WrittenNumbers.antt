-- Bytes that are written over others.
use Rattle.std.proofs.Common.{◌≡◌, ℕ, List, refl}
use Rattle.dgn_words.specs.Numbers.{put}
use Rattle.patch_bytes.specs.Puts.{lay}

pub put_laid : (b x : List ℕ) (p : ℕ) → put b p x ≡ lay b (record { at = p; bytes = x })
unfolding lay
put_laid b x p = refl
