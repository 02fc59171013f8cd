-- Other characters in the room of a text are its count byte and as many bytes from its first character on, and leave it
-- well formed.
use Rattle.std.proofs.Common.{◌≡◌, ℕ, ◌+◌, ◌-◌, ◌*◌, ◌<◌, ◌≤◌, Bool, true, false, cond, List, [], ◌∷◌, ◌++◌, length, take, drop, refl, sym, subst}
use Rattle.std.proofs.Common.{append_assoc, arith, length-append}
use Rattle.std.specs.Prelude.{ℤ}
use Rattle.std.proofs.lemmas.List.{take-append-drop, length-take-le}
use Rattle.std.proofs.lemmas.List.Elements.{All-drop, All-append}
use Rattle.dgn_layout.specs.Ends.{chars_start}
use Rattle.dgn_drawing.specs.Element.{Display, Text, Body, Shown, Element}
use Rattle.dgn_drawing.specs.Spelling.{point_bytes, display_bytes, parts_bytes, body_bytes, spell, size_of}
use Rattle.dgn_drawing.specs.WellFormed.{IsDimension, IsDisplay, IsText, IsWellFormed, says_attributes, text_run}
use Rattle.dgn_drawing.proofs.Places.{in_both}
use Rattle.dgn_drawing.proofs.Fields.{length-point_bytes}
use Rattle.dgn_drawing.proofs.Displays.{length-display}
use Rattle.dgn_drawing.proofs.Looks.{with_body}
use Rattle.dgn_revision.specs.Revisions.{AreCharacters}
use Rattle.dgn_revision.specs.Revising.{room_in, retexted_body}
use Rattle.dgn_revision.specs.RevisionPuts.{pieces, text_puts, text_fields}
use Rattle.dgn_revision.specs.Laws.{IsRevised, TextsKeepTheirRoom}
use Rattle.dgn_revision.proofs.PiecesWritten.{Writes, writes_one, writes_then, writes_before, writes_behind, writes_as, writes_pieces}
use Rattle.dgn_revision.proofs.RevisedBodies.{TurnsBody, revised_body}
use Rattle.dgn_revision.proofs.BodiesByType.{text_body}

-- where the characters begin: behind the display part, the run, the origin and two bytes
pub chars_place : (dim : ℕ) → IsDimension dim → chars_start dim ≡ 38 + (text_run dim + 4 * dim)
chars_place dim axes = in_both (λ (d : ℕ). chars_start d ≡ 38 + (text_run d + 4 * d)) refl refl axes

-- characters that a room holds end where it does, or before
room_fits : (says : Bool) (start index size count : ℕ) → 1 ≤ count → count ≤ cond says index size - start → index ≤ size → start + count ≤ size
room_fits true start index size count some fits within = omega arith
room_fits false start index size count some fits within = omega arith

room_before : (says : Bool) (start index size count : ℕ) → 1 ≤ count → count ≤ cond says index size - start → says ≡ true → start + count ≤ index
room_before true start index size count some fits is = omega (arith, some, fits)
room_before false start index size count some fits is = absurd (cc)

-- how long a text is
pub text_size : (dim : ℕ) → IsDimension dim → (e : Element) (d : Display) (run : List ℕ) (origin : List ℤ) (spare : ℕ) (text behind : List ℕ) → IsDisplay d
    → length run ≡ text_run dim → length origin ≡ dim
    → size_of (with_body e (Shown d (Text run origin spare text) behind)) ≡ chars_start dim + (length text + length behind)
unfolding spell body_bytes parts_bytes
text_size dim axes e d run origin spare text behind display run_long origin_long =
    omega (
      arith,
      chars_place dim axes,
      length-append {A = ℕ},
      length-display d display,
      length-point_bytes origin,
      run_long,
      origin_long,
    )

module _ (dim : ℕ) (axes : IsDimension dim) (e : Element) (d : Display) (run : List ℕ) (origin : List ℤ) (spare : ℕ) (old new rest : List ℕ)
    (chars : AreCharacters new) (good : IsWellFormed dim (with_body e (Shown d (Text run origin spare old) rest))) where
  text_long : (text behind : List ℕ) → size_of (with_body e (Shown d (Text run origin spare text) behind))
      ≡ chars_start dim + (length text + length behind)
  text_long text behind =
      let fits : IsText dim run origin spare old = good.parts.1 in
      text_size dim axes e d run origin spare text behind good.parts.0 fits.before.long fits.point.long

  -- the bytes before the count of the characters
  abbrev before : List ℕ
  before = display_bytes d ++ (run ++ point_bytes origin)

  bytes-text : (text behind : List ℕ) → before ++ ((length text ∷ []) ++ ((spare ∷ []) ++ (text ++ behind)))
      ≡ body_bytes (Shown d (Text run origin spare text) behind)
  unfolding body_bytes parts_bytes
  bytes-text text behind = simp append_assoc

  module _ (fits : length new ≤ cond (says_attributes d.properties) (32 + 2 * d.index) (size_of (with_body e (Shown d (Text run origin spare old) rest)))
      - chars_start dim) where
    abbrev held : List ℕ
    held = old ++ rest

    abbrev left : List ℕ
    left = drop (length new) held

    -- there are as many bytes from the first character on
    enough : length new ≤ length held
    enough =
        by_says (says_attributes d.properties) refl
      where
        by_says : (says : Bool) → says_attributes d.properties ≡ says → length new ≤ length held
        by_says true is =
            let within = (good.attributes is).1 in
            let some = chars.some in
            let ends = room_before (says_attributes d.properties) (chars_start dim) (32 + 2 * d.index)
            (size_of (with_body e (Shown d (Text run origin spare old) rest))) (length new) some fits is in
            omega (arith, within, ends, text_long old rest, length-append old rest)
        by_says false is =
            let some = chars.some in
            let all : length new ≤ size_of (with_body e (Shown d (Text run origin spare old) rest)) - chars_start dim =
            subst (λ (s : Bool). length new ≤ cond s (32 + 2 * d.index) (size_of (with_body e (Shown d (Text run origin spare old) rest))) - chars_start dim) is fits in
            omega (arith, some, all, text_long old rest, length-append old rest)

    tail_written : Writes (chars_start dim) held (pieces (chars_start dim) new) (new ++ left)
    tail_written =
        writes_as (take-append-drop (length new) held) refl
        (writes_before (chars_start dim) (take (length new) held) new left (pieces (chars_start dim) new)
        (writes_pieces (chars_start dim) (take (length new) held) new (length-take-le (length new) held enough)))

    text_written : Writes 4 (body_bytes (Shown d (Text run origin spare old) rest)) (text_puts dim new) (body_bytes (Shown d (Text run origin spare new) left))
    text_written =
        let q : ℕ = chars_start dim - 2 in
        let place = chars_place dim axes in
        let fields : IsText dim run origin spare old = good.parts.1 in
        let at : q ≡ 4 + length before =
        omega (
          arith,
          place,
          length-append (display_bytes d) (run ++ point_bytes origin),
          length-append run (point_bytes origin),
          length-display d good.parts.0,
          length-point_bytes origin,
          fields.before.long,
          fields.point.long,
        ) in
        let next : chars_start dim ≡ (q + 1) + 1 = omega (arith, place) in
        writes_as (bytes-text old rest) (bytes-text new left)
        (writes_behind 4 q before ((length old ∷ []) ++ ((spare ∷ []) ++ held)) ((length new ∷ []) ++ ((spare ∷ []) ++ (new ++ left))) (text_puts dim new) at
        (writes_then q (q + 1) (length old ∷ []) ((spare ∷ []) ++ held) (length new ∷ []) ((spare ∷ []) ++ (new ++ left))
        (record { at = q; bytes = length new ∷ [] } ∷ []) (pieces (chars_start dim) new) refl
        (writes_one q (length old ∷ []) (length new ∷ []) refl)
        (writes_behind (q + 1) (chars_start dim) (spare ∷ []) held (new ++ left) (pieces (chars_start dim) new) next tail_written)))

    text_turned : TurnsBody dim e (Shown d (Text run origin spare old) rest) (Shown d (Text run origin spare new) left) (text_puts dim new)
        (text_fields dim new)
    text_turned =
        let fields : IsText dim run origin spare old = good.parts.1 in
        record {
          wrote = text_written;
          over = refl;
          parts = (
            good.parts.0,
            record { before = fields.before; point = fields.point; byte = fields.byte; few = chars.few; bytes = chars.bytes },
            All-drop (λ x. x < 256) (length new) held (All-append (λ x. x < 256) old rest fields.bytes good.parts.2),
          );
          form = refl;
          total = refl;
          attributes = λ size. λ says.
              let two = good.attributes says in
              let ends = room_before (says_attributes d.properties) (chars_start dim) (32 + 2 * d.index)
              (size_of (with_body e (Shown d (Text run origin spare old) rest))) (length new) chars.some fits says in
              let start : size_of (with_body e (Shown d (Text run origin spare new) left)) - length left ≡ chars_start dim + length new =
              omega (arith, text_long new left) in
              (omega (arith, start, ends), rw size two.1);
        }

-- the law on texts in their place
pub text_put : TextsKeepTheirRoom
text_put dim new e axes chars good class fits =
    let text = text_body dim e good class in
    let old : Body = Shown text.display (Text text.run text.origin text.spare text.chars) text.rest in
    let held : IsWellFormed dim (with_body e old) = subst (λ (b : Body). IsWellFormed dim (with_body e b)) text.is good in
    let room : length new ≤ room_in dim (with_body e old) old = subst (λ (b : Body). length new ≤ room_in dim (with_body e b) b) text.is fits in
    let left : List ℕ = drop (length new) (text.chars ++ text.rest) in
    subst (λ (b : Body). IsRevised dim (with_body e b) (with_body e (retexted_body new b)) (text_puts dim new) (text_fields dim new)) (sym text.is)
    (revised_body dim e old (Shown text.display (Text text.run text.origin text.spare new) left) (text_puts dim new) (text_fields dim new) held
    (text_turned dim axes e text.display text.run text.origin text.spare text.chars new text.rest chars held room))
