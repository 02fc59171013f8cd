-- The linkage that data begins with has at least one byte, lies in the data and stands where it is asked
-- for.
use Rattle.std.proofs.Common.{◌≡◌, ℕ, ◌+◌, ◌*◌, ◌<◌, ◌≤◌, Bool, true, false, nat_lt, nat_le, ◌==◌, ◌&&◌, ◌||◌, ◌/◌, ◌%◌, if◌then◌else◌, List, length}
use Rattle.std.proofs.Common.{slice_index, Some, None, IfSome, refl, arith, leb-true}
use Rattle.std.specs.Prelude.{Option}
use Rattle.dgn_linkage.specs.declared.types.form.Form.{Form}
use Rattle.dgn_linkage.specs.declared.types.form.Form.TheVariants.{Dmrs, User, Rest}
use Rattle.dgn_linkage.specs.declared.types.link.Link.{Link}
use Rattle.dgn_linkage.specs.Linkages.{announced, taken, first_link_of}

-- a linkage at this place, of at least one byte and at most r
pub record Fits (at r : ℕ) (link : Link) : Type 0 where
  pub place : link.at ≡ at
  pub some : 0 < link.len
  pub within : link.len ≤ r

chosen : (at r n : ℕ) (f : Form) (t : Bool) → nat_le n r ≡ t → 0 < r → 0 < n
    → Fits at r (if t then record { at = at; len = n; form = f } else record { at = at; len = r; form = Rest })
chosen at r n f true e h k = record { place = refl; some = k; within = leb-true n r e }
chosen at r n f false e h k = record { place = refl; some = h; within = omega arith }

taken_fits : (at r : ℕ) (what : Option (Form × ℕ)) → 0 < r → IfSome what (λ w. 0 < w.1) → Fits at r (taken at r what)
taken_fits at r None h k = record { place = refl; some = h; within = omega arith }
taken_fits at r (Some what) h k = chosen at r what.1 what.0 (nat_le what.1 r) refl h k

some_by : (t u : Bool) (n : ℕ) → IfSome {T = Form × ℕ} (if t then Some (Dmrs, 8) else (if u then Some (User, 2 + n) else None)) (λ w. 0 < w.1)
some_by true u n = omega arith
some_by false true n = omega arith
some_by false false n = tt

announced_some : (b0 b1 : ℕ) → IfSome (announced b0 b1) (λ w. 0 < w.1)
announced_some b0 b1 = some_by (b0 == 0 && (b1 == 0 || b1 == 128)) (b1 / 16 % 2 == 1) (2 * b0)

by_length : (t : Bool) (at r b0 b1 : ℕ) → 0 < r → Fits at r (if t then taken at r None else taken at r (announced b0 b1))
by_length true at r b0 b1 h = taken_fits at r None h tt
by_length false at r b0 b1 h = taken_fits at r (announced b0 b1) h (announced_some b0 b1)

pub first_fits : (at : ℕ) (rest : List ℕ) → 0 < length rest → Fits at (length rest) (first_link_of at rest)
first_fits at rest h = by_length (nat_lt (length rest) 4) at (length rest) (slice_index rest 0) (slice_index rest 1) h
