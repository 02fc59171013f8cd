-- A name is two words of a cell, and another one leaves it well formed.
use Rattle.std.proofs.Common.{◌≡◌, ℕ, List, [], ◌∷◌, ◌++◌, length, refl, sym, subst, append_assoc, arith, length-append}
use Rattle.std.specs.Prelude.{ℤ}
use Rattle.std.specs.List.{flat_map}
use Rattle.dgn_words.specs.Numbers.{word_bytes}
use Rattle.dgn_drawing.specs.Element.{Display, Cell, Body, Shown, Element}
use Rattle.dgn_drawing.specs.Spelling.{point_bytes, display_bytes, parts_bytes, body_bytes}
use Rattle.dgn_drawing.specs.WellFormed.{IsWellFormed}
use Rattle.dgn_drawing.proofs.Displays.{length-display}
use Rattle.dgn_drawing.proofs.Looks.{with_body}
use Rattle.dgn_revision.specs.Revisions.{IsName}
use Rattle.dgn_revision.specs.Revising.{renamed_body}
use Rattle.dgn_revision.specs.RevisionPuts.{name_puts, name_fields}
use Rattle.dgn_revision.specs.Laws.{IsRevised, NamesAreTwoWords}
use Rattle.dgn_revision.proofs.PiecesWritten.{Writes, writes_one, writes_then, writes_before, writes_behind, writes_as}
use Rattle.dgn_revision.proofs.RevisedBodies.{TurnsBody, revised_body}
use Rattle.dgn_revision.proofs.BodiesByType.{cell_body}

-- two words over two words
words_written : (old new : List ℕ) → length old ≡ 2 → length new ≡ 2
    → Writes 38 (flat_map word_bytes old) (name_puts new) (flat_map word_bytes new)
words_written (a ∷ b ∷ []) (c ∷ d ∷ []) one two =
    writes_then 38 40 (word_bytes a) (word_bytes b ++ []) (word_bytes c) (word_bytes d ++ []) (record { at = 38; bytes = word_bytes c } ∷ [])
    (record { at = 40; bytes = word_bytes d } ∷ []) refl (writes_one 38 (word_bytes a) (word_bytes c) refl) (writes_one 40 (word_bytes b) (word_bytes d) refl)
words_written [] new one two = absurd (omega arith)
words_written (a ∷ []) new one two = absurd (omega arith)
words_written (a ∷ b ∷ x ∷ more) new one two = absurd (omega arith)
words_written (a ∷ b ∷ []) [] one two = absurd (omega arith)
words_written (a ∷ b ∷ []) (c ∷ []) one two = absurd (omega arith)
words_written (a ∷ b ∷ []) (c ∷ d ∷ x ∷ more) one two = absurd (omega arith)

module _ (dim : ℕ) (e : Element) (d : Display) (total : ℕ) (old new run : List ℕ) (origin : List ℤ) (rest : List ℕ) (name : IsName new)
    (good : IsWellFormed dim (with_body e (Shown d (Cell total old run origin) rest))) where
  -- what stands before the name, and behind it
  abbrev before : List ℕ
  before = display_bytes d ++ word_bytes total

  abbrev behind : List ℕ
  behind = run ++ (point_bytes origin ++ rest)

  bytes-cell : (words : List ℕ) → before ++ (flat_map word_bytes words ++ behind) ≡ body_bytes (Shown d (Cell total words run origin) rest)
  unfolding body_bytes parts_bytes
  bytes-cell words = simp append_assoc

  name_turned : TurnsBody dim e (Shown d (Cell total old run origin) rest) (Shown d (Cell total new run origin) rest) (name_puts new) name_fields
  name_turned = record {
    wrote = writes_as (bytes-cell old) (bytes-cell new)
        (writes_behind 4 38 before (flat_map word_bytes old ++ behind) (flat_map word_bytes new ++ behind) (name_puts new)
        (omega (arith, length-append (display_bytes d) (word_bytes total), length-display d good.parts.0))
        (writes_before 38 (flat_map word_bytes old) (flat_map word_bytes new) behind (name_puts new)
        (words_written old new good.parts.1.name_long name.long)));
    over = refl;
    parts = (
      good.parts.0,
      record {
        word = good.parts.1.word;
        name_long = name.long;
        name_words = name.words;
        before = good.parts.1.before;
        point = good.parts.1.point;
      },
      good.parts.2,
    );
    form = refl;
    total = refl;
    attributes = λ size. λ says. let held = good.attributes says in (rw size held.0, rw size held.1);
  }

-- the law on names
pub name_put : NamesAreTwoWords
name_put dim name e is good kind =
    let cell = cell_body dim e good kind in
    let held : IsWellFormed dim (with_body e (Shown cell.display (Cell cell.total cell.name cell.run cell.origin) cell.rest)) =
    subst (λ (b : Body). IsWellFormed dim (with_body e b)) cell.is good in
    subst (λ (b : Body). IsRevised dim (with_body e b) (with_body e (renamed_body name b)) (name_puts name) name_fields) (sym cell.is)
    (revised_body dim e (Shown cell.display (Cell cell.total cell.name cell.run cell.origin) cell.rest)
    (Shown cell.display (Cell cell.total name cell.run cell.origin) cell.rest) (name_puts name) name_fields held
    (name_turned dim e cell.display cell.total cell.name name cell.run cell.origin cell.rest is held))
