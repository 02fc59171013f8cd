-- Fields that rise, filled from a text that is long enough, are puts that rise.
use Rattle.std.proofs.Common.{◌≡◌, ℕ, ◌+◌, ◌≤◌, List, [], ◌∷◌, length, take, drop, map, refl, sym, ap, ◌∙◌, subst, arith}
use Rattle.std.proofs.lemmas.List.{length-take-le, length-drop}
use Rattle.patch_bytes.specs.Puts.{Put, old_of, Span}
use Rattle.edit_ops.specs.Fields.{Field, Rise, filled}

-- fields that rise begin before they end
pub rise_long : (m : ℕ) (fs : List Field) (n : ℕ) → Rise n fs m → n ≤ m
rise_long m [] n rise = rise
rise_long m (f ∷ fs) n rise = let from = rise.0 in let more = rise_long m fs (f.at + f.len) rise.1 in omega arith

-- a field within a text has its bytes there
field_long : (text : List ℕ) (f : Field) → f.at + f.len ≤ length text → length (take f.len (drop f.at text)) ≡ f.len
field_long text f within = length-take-le f.len (drop f.at text) (omega (arith, length-drop f.at text))

-- the puts of fields that rise do so
pub filled_rise : (text : List ℕ) (m : ℕ) (fs : List Field) (n : ℕ) → m ≤ length text → Rise n fs m → Span n (filled text fs) m
filled_rise text m [] n long rise = rise
filled_rise text m (f ∷ fs) n long rise =
    let ends = rise_long m fs (f.at + f.len) rise.1 in
    let same : length (take f.len (drop f.at text)) ≡ f.len = field_long text f (omega arith) in
    (rise.0, subst (λ (k : ℕ). Span (f.at + k) (filled text fs) m) (sym same) (filled_rise text m fs (f.at + f.len) long rise.1))

-- so many bytes of b from a place on
abbrev put_at : ℕ → ℕ → List ℕ → Put
put_at at k b = record { at = at; bytes = take k (drop at b) }

-- what stands in b where fields are filled from a text is these fields of b
pub olds_filled : (b text : List ℕ) (m : ℕ) (fs : List Field) (n : ℕ) → m ≤ length text → Rise n fs m → map (old_of b) (filled text fs) ≡ filled b fs
unfolding old_of
olds_filled b text m [] n long rise = refl
olds_filled b text m (f ∷ fs) n long rise =
    let ends = rise_long m fs (f.at + f.len) rise.1 in
    let same : length (take f.len (drop f.at text)) ≡ f.len = field_long text f (omega arith) in
    ap (λ (k : ℕ). put_at f.at k b ∷ map (old_of b) (filled text fs)) same
    ∙ ap (λ (l : List Put). put_at f.at f.len b ∷ l) (olds_filled b text m fs (f.at + f.len) long rise.1)
