-- The rows of elements, read from their spellings one after the other.
use Rattle.std.proofs.Common.{◌≡◌, ℕ, ◌+◌, ◌<◌, ◌≤◌, List, [], ◌∷◌, ◌++◌, length, take, drop, map, refl, sym, ap, ◌∙◌, subst, arith, length-append}
use Rattle.std.proofs.Common.{append_assoc}
use Rattle.std.specs.Prelude.{IsFalse}
use Rattle.std.specs.List.{AllByRecursion}
use Rattle.std.proofs.lemmas.List.{take_at, drop_at, drop-drop, length-drop}
use Rattle.elem_head.specs.Head.{size_of as size_said}
use Rattle.dgn_drawing.specs.declared.row.Row.{Row}
use Rattle.dgn_drawing.specs.Element.{Element}
use Rattle.dgn_drawing.specs.Spelling.{spell, spelling, size_of}
use Rattle.dgn_drawing.specs.WellFormed.{IsDimension, IsWellFormed}
use Rattle.dgn_drawing.specs.Rows.{row_of, row_at}
use Rattle.dgn_drawing.specs.Nesting.{BeginsFree}
use Rattle.dgn_drawing.specs.Faults.{HasNoFault}
use Rattle.dgn_drawing.proofs.RecordsRead.{size_said-spell, size-spell}
use Rattle.dgn_drawing.proofs.Rows.{row_at-spell}
use Rattle.elem_index.proofs.Places.{sound_spell}
use Rattle.dgn_session.specs.CarryingOut.{Spells, IsSpelling, Begins}

-- the elements that are left from a place on, and the rows of those before it
pub record Left (dim : ℕ) (es : List Element) (b : List ℕ) (rows : List Row) (at : ℕ) : Type 0 where
  pub left : List Element
  pub each : AllByRecursion (IsWellFormed dim) left
  pub rest : drop at b ≡ spelling left
  pub read : rows ++ map row_of left ≡ map row_of es
  pub within : at ≤ length b

-- whatever elements the bytes spell
abbrev pub AreLeft : List ℕ → List Row → ℕ → Type 0
AreLeft b rows at = (dim : ℕ) (es : List Element) → Spells dim es b → Left dim es b rows at

-- each element has four bytes
pub four : (dim : ℕ) (e : Element) → IsDimension dim → IsWellFormed dim e → 4 ≤ size_of e
four dim e axes good = omega (arith, size-spell dim e axes good)

-- the element that begins the bytes from a place on
pub record First (dim : ℕ) (es : List Element) (b : List ℕ) (rows : List Row) (at : ℕ) (rest : List ℕ) : Type 0 where
  pub element : Element
  pub behind : List Element
  pub good : IsWellFormed dim element
  pub each : AllByRecursion (IsWellFormed dim) behind
  pub text : rest ≡ spell element ++ spelling behind
  pub said : size_said rest ≡ size_of element
  pub large : 4 ≤ size_of element
  pub read : rows ++ (row_of element ∷ map row_of behind) ≡ map row_of es
  pub long : at + length rest ≡ length b

first_in : (dim : ℕ) (es : List Element) (b : List ℕ) (rows : List Row) (at : ℕ) (rest : List ℕ) → IsDimension dim → rest ≡ drop at b → at < length b
    → (left : List Element) → AllByRecursion (IsWellFormed dim) left → drop at b ≡ spelling left
    → rows ++ map row_of left ≡ map row_of es → First dim es b rows at rest
first_in dim es b rows at rest axes is within [] each text read = absurd (omega (arith, ap (length {A = ℕ}) text, length-drop at b))
first_in dim es b rows at rest axes is within (e ∷ left) each text read = record {
  element = e;
  behind = left;
  good = each.0;
  each = each.1;
  text = is ∙ text;
  said = ap size_said (is ∙ text) ∙ size_said-spell dim e axes each.0 (spelling left);
  large = four dim e axes each.0;
  read = read;
  long = omega (arith, ap (length {A = ℕ}) is, length-drop at b);
}

pub first_of_left : (b : List ℕ) (rows : List Row) (at : ℕ) (rest : List ℕ) → AreLeft b rows at → rest ≡ drop at b → at < length b
    → (dim : ℕ) (es : List Element) → Spells dim es b → First dim es b rows at rest
first_of_left b rows at rest are is within dim es spells =
    let l = are dim es spells in
    first_in dim es b rows at rest spells.axes is within l.left l.each l.rest l.read

module _ (b : List ℕ) (rows : List Row) (at : ℕ) (rest : List ℕ) (are : AreLeft b rows at) (is : rest ≡ drop at b) (within : at < length b) where
  -- it is whole, and its size is the one that its head says
  pub head_there : IsSpelling b → 4 ≤ length rest
  head_there some =
      let f = first_of_left b rows at rest are is within some.0 some.1 some.2 in
      omega (arith, f.large, ap (length {A = ℕ}) f.text, length-append (spell f.element) (spelling f.behind))

  pub first_there : IsSpelling b → (size : ℕ) → size ≡ size_said rest → size ≤ length rest
  first_there some size said =
      let f = first_of_left b rows at rest are is within some.0 some.1 some.2 in
      omega (arith, f.said, ap (length {A = ℕ}) f.text, length-append (spell f.element) (spelling f.behind))

  -- the place behind it lies in the bytes
  pub next_within : IsSpelling b → (size : ℕ) → size ≡ size_said rest → at + size ≤ length b
  next_within some size said =
      let f = first_of_left b rows at rest are is within some.0 some.1 some.2 in
      omega (arith, f.long, first_there some size said)

  first_is : (dim : ℕ) (es : List Element) (spells : Spells dim es b) (size : ℕ) (first : List ℕ) → size ≡ size_said rest → first ≡ take size rest
      → first ≡ spell (first_of_left b rows at rest are is within dim es spells).element
  first_is dim es spells size first said front =
      let f = first_of_left b rows at rest are is within dim es spells in
      front ∙ ap (λ (n : ℕ). take n rest) (said ∙ f.said) ∙ ap (take (size_of f.element)) f.text
      ∙ take_at (spell f.element) (spelling f.behind) (size_of f.element) refl

  -- it is sound
  pub sound_first : IsSpelling b → (size : ℕ) (first : List ℕ) → size ≡ size_said rest → first ≡ take size rest → HasNoFault first
  sound_first some size first said front =
      let f = first_of_left b rows at rest are is within some.0 some.1 some.2 in
      let axes = some.2.axes in
      subst HasNoFault (sym (first_is some.0 some.1 some.2 size first said front)) (sound_spell some.0 f.element axes f.good)

  -- with its row, one less is left
  pub left_more : (size : ℕ) (first : List ℕ) (row : Row) (more : List Row) → size ≡ size_said rest → first ≡ take size rest → row ≡ row_at first
      → more ≡ rows ++ row ∷ [] → AreLeft b more (at + size)
  left_more size first row more said front reads grown dim es spells =
      let f = first_of_left b rows at rest are is within dim es spells in
      let one : row ≡ row_of f.element = reads ∙ ap row_at (first_is dim es spells size first said front) ∙ row_at-spell dim f.element spells.axes f.good in
      let long : length rest ≡ length (spell f.element) + length (spelling f.behind) =
      ap (length {A = ℕ}) f.text ∙ length-append (spell f.element) (spelling f.behind) in
      let place = f.long in
      let size_is : size ≡ size_of f.element = said ∙ f.said in
      record {
        left = f.behind;
        each = f.each;
        rest = ap (λ (n : ℕ). drop n b) (omega arith) ∙ sym (drop-drop size at b) ∙ ap (drop size) (sym is ∙ f.text)
            ∙ drop_at (spell f.element) (spelling f.behind) size (sym size_is);
        read = ap (λ (l : List Row). l ++ map row_of f.behind) (grown ∙ ap (λ (r : Row). rows ++ r ∷ []) one)
            ∙ append_assoc rows (row_of f.element ∷ []) (map row_of f.behind) ∙ f.read;
        within = omega arith;
      }

  -- where it has no bit C, what is read is a block
  pub block_before : (size : ℕ) (first : List ℕ) (row : Row) → size ≡ size_said rest → first ≡ take size rest → row ≡ row_at first → IsFalse row.cbit
      → (dim : ℕ) (es : List Element) → Spells dim es b → Begins dim es b rows at
  block_before size first row said front reads free dim es spells =
      let f = first_of_left b rows at rest are is within dim es spells in
      let one : row ≡ row_of f.element = reads ∙ ap row_at (first_is dim es spells size first said front) ∙ row_at-spell dim f.element spells.axes f.good in
      record {
        others = f.element ∷ f.behind;
        spells = record { axes = spells.axes; each = (f.good, f.each); text = sym is ∙ f.text };
        are = f.read;
        free = subst (λ (r : Row). IsFalse r.cbit) one free;
      }

-- at the end of the bytes nothing is left
none_left : (dim : ℕ) (b : List ℕ) (at : ℕ) → IsDimension dim → length b ≤ at → (left : List Element) → AllByRecursion (IsWellFormed dim) left
    → drop at b ≡ spelling left → BeginsFree row_of left
none_left dim b at axes past [] each text = tt
none_left dim b at axes past (e ∷ left) each text =
    absurd (omega (arith, four dim e axes each.0, ap (length {A = ℕ}) text, length-append (spell e) (spelling left), length-drop at b))

-- so all that is read is a block
pub block_at_end : (b : List ℕ) (rows : List Row) (at : ℕ) → AreLeft b rows at → length b ≤ at → (dim : ℕ) (es : List Element) → Spells dim es b
    → Begins dim es b rows at
block_at_end b rows at are past dim es spells =
    let l = are dim es spells in
    record {
      others = l.left;
      spells = record { axes = spells.axes; each = l.each; text = l.rest };
      are = l.read;
      free = none_left dim b at spells.axes past l.left l.each l.rest;
    }
