-- Patches that rise in a body: they may be committed with what is put behind it, their entry leads back, and they rise
-- with what stood there.
use Rattle.std.proofs.Common.{◌≡◌, ℕ, ◌+◌, ◌≤◌, List, [], ◌∷◌, ◌++◌, length, take, drop, map, sym, subst, arith}
use Rattle.std.proofs.lemmas.List.{length-take-le, length-drop}
use Rattle.patch_bytes.specs.Puts.{Put, write, old_of, AreWithin, AreApart, Span}
use Rattle.patch_bytes.proofs.RisingPuts.{span_within, span_apart, span_long}
use Rattle.undo_log.specs.Entries.{entry_of, back}
use Rattle.undo_log.specs.Commits.{MayCommit}
use Rattle.undo_log.proofs.EntriesBack.{entry_restores}

module _ (b : List ℕ) (ps : List Put) (append : List ℕ) (rise : Span 0 ps (length b)) where
  pub patches_within : AreWithin (length b) ps
  patches_within = span_within (length b) ps 0 rise

  pub patches_apart : AreApart ps
  patches_apart = span_apart (length b) ps 0 rise

  pub may_commit : MayCommit b (record { patches = ps; append = append })
  may_commit = record { within = patches_within; apart = patches_apart }

  -- its entry leads back
  pub leads_back : back (write b ps ++ append) (entry_of b ps) ≡ b
  leads_back = entry_restores b (record { patches = ps; append = append }) may_commit

-- puts that rise do so with what stood there
pub olds_rise : (b : List ℕ) (m : ℕ) (ps : List Put) (n : ℕ) → m ≤ length b → Span n ps m → Span n (map (old_of b) ps) m
unfolding old_of
olds_rise b m [] n long rise = rise
olds_rise b m (p ∷ ps) n long rise =
    let ends = span_long m ps (p.at + length p.bytes) rise.1 in
    let same : length (take (length p.bytes) (drop p.at b)) ≡ length p.bytes =
    length-take-le (length p.bytes) (drop p.at b) (omega (arith, length-drop p.at b)) in
    (rise.0, subst (λ (k : ℕ). Span (p.at + k) (map (old_of b) ps) m) (sym same) (olds_rise b m ps (p.at + length p.bytes) long rise.1))
