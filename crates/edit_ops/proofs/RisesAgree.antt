-- Spots, fields and patches rise alike.
use Rattle.std.proofs.Common.{◌≡◌, ℕ, ◌+◌, ◌≤◌, List, [], ◌∷◌, length, take, drop, sym, subst, arith}
use Rattle.std.proofs.lemmas.List.{length-take-le, length-drop}
use Rattle.dgn_layout.specs.declared.spot.Spot.{Spot}
use Rattle.dgn_layout.specs.Spots.{Rise as SpotsRise}
use Rattle.patch_bytes.specs.Puts.{Span}
use Rattle.edit_ops.specs.Fields.{Field, Rise, spot_fields, filled}
use Rattle.edit_ops.specs.WalkLaws.{FieldsRiseAsPatches, SpotsRiseAsFields}

-- ---- fields, and the patches that have a text's bytes there

-- a field in the text is as long as what stands there
bytes_there : (text : List ℕ) (f : Field) → f.at + f.len ≤ length text → length (take f.len (drop f.at text)) ≡ f.len
bytes_there text f within = length-take-le f.len (drop f.at text) (omega (arith, length-drop f.at text))

pub fields_rise_as_patches : FieldsRiseAsPatches
fields_rise_as_patches text [] p end within = (λ rise. rise, λ span. span)
fields_rise_as_patches text (f ∷ fs) p end within =
    let long = bytes_there text f within.0 in
    let more = fields_rise_as_patches text fs (f.at + f.len) end within.1 in (
      λ rise. (rise.0, subst (λ (k : ℕ). Span (f.at + k) (filled text fs) end) (sym long) (more.0 rise.1)),
      λ span. (span.0, more.1 (subst (λ (k : ℕ). Span (f.at + k) (filled text fs) end) long span.1)),
    )

-- ---- spots, and their fields

spots_give : (ss : List Spot) (p start end : ℕ) → SpotsRise p ss end → Rise (start + p) (spot_fields start ss) (start + end)
spots_give [] p start end rise = omega arith
spots_give (s ∷ ss) p start end rise =
    let first = rise.0 in
    let next : start + (s.at + 4) ≡ start + s.at + 4 = omega arith in
    (omega arith, subst (λ (k : ℕ). Rise k (spot_fields start ss) (start + end)) next (spots_give ss (s.at + 4) start end rise.1))

spots_given : (ss : List Spot) (p start end : ℕ) → Rise (start + p) (spot_fields start ss) (start + end) → SpotsRise p ss end
spots_given [] p start end rise = omega (arith, rise)
spots_given (s ∷ ss) p start end rise =
    let first = rise.0 in
    let next : start + s.at + 4 ≡ start + (s.at + 4) = omega arith in
    (omega arith, spots_given ss (s.at + 4) start end (subst (λ (k : ℕ). Rise k (spot_fields start ss) (start + end)) next rise.1))

pub spots_rise_as_fields : SpotsRiseAsFields
spots_rise_as_fields ss p start end = (spots_give ss p start end, spots_given ss p start end)
