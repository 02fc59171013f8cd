-- A longer text that is made from a text is well formed, and carries the attribute data of the text.
use Rattle.std.proofs.Common.{◌≡◌, ℕ, ◌+◌, ◌-◌, ◌*◌, ◌%◌, ◌<◌, ◌≤◌, Bool, true, false, cond, List, [], ◌∷◌, ◌++◌, length, drop, refl, sym, ap, ◌∙◌, subst}
use Rattle.std.proofs.Common.{arith, length-append, length-drop}
use Rattle.std.specs.Prelude.{ℤ, ◌==◌}
use Rattle.std.proofs.lemmas.Bool.Decides.{nat_tests}
use Rattle.std.proofs.lemmas.List.{drop-drop, drop_at}
use Rattle.std.proofs.lemmas.List.Elements.{All-nil, All-cons, All-drop, All-append}
use Rattle.dgn_layout.specs.Ends.{chars_start}
use Rattle.dgn_drawing.specs.Element.{Display, Text, Body, Shown, Element}
use Rattle.dgn_drawing.specs.Spelling.{first_byte, second_byte, spell, size_of, rest_start}
use Rattle.dgn_drawing.specs.WellFormed.{IsDimension, IsBytes, IsDisplay, IsText, IsWellFormed, says_attributes}
use Rattle.dgn_drawing.specs.NewElements.{even_up}
use Rattle.dgn_drawing.specs.Laws.{BodySits}
use Rattle.dgn_drawing.proofs.Places.{in_both}
use Rattle.dgn_drawing.proofs.FieldPlaces.{whole-spell, all-sits}
use Rattle.dgn_drawing.proofs.Looks.{with_body}
use Rattle.dgn_revision.specs.Revisions.{AreCharacters}
use Rattle.dgn_revision.specs.Revising.{attribute_data, filling, index_behind, longer_text, longer_size}
use Rattle.dgn_revision.specs.Laws.{IsLonger, LongerTextsAreTexts}
use Rattle.dgn_revision.proofs.FirstBytes.{second_differs}
use Rattle.dgn_revision.proofs.TextsInPlace.{text_size}
use Rattle.dgn_revision.proofs.BodiesByType.{text_body}

-- the filling of characters makes their number even, and is bytes
length-filling : (n : ℕ) → length {A = ℕ} (cond (n % 2 == 0) [] (0 ∷ [])) ≡ n % 2
length-filling n = by_test (n % 2 == 0) refl
  where
    by_test : (t : Bool) → (n % 2 == 0) ≡ t → length {A = ℕ} (cond t [] (0 ∷ [])) ≡ n % 2
    by_test true is = grind (arith, nat_tests)
    by_test false is = grind (arith, nat_tests)

filling_good : (t : Bool) → IsBytes (cond t [] (0 ∷ []))
filling_good true = All-nil (λ x. x < 256)
filling_good false = All-cons (λ x. x < 256) 0 [] (omega arith) (All-nil (λ x. x < 256))

-- where characters begin is an even place within the first 76 bytes
start_even : (dim : ℕ) → IsDimension dim → chars_start dim % 2 ≡ 0
start_even dim axes = in_both (λ (d : ℕ). chars_start d % 2 ≡ 0) refl refl axes

start_small : (dim : ℕ) → IsDimension dim → chars_start dim ≤ 76
start_small dim axes = in_both (λ (d : ℕ). chars_start d ≤ 76) (omega arith) (omega arith) axes

start_behind : (dim : ℕ) → IsDimension dim → 60 ≤ chars_start dim
start_behind dim axes = in_both (λ (d : ℕ). 60 ≤ chars_start d) (omega arith) (omega arith) axes

-- attribute data are bytes of the element, and an even number of them
data_good : (says : Bool) (n : ℕ) (b : List ℕ) → IsBytes b → IsBytes (cond says (drop n b) [])
data_good true n b each = All-drop (λ x. x < 256) n b each
data_good false n b each = All-nil (λ x. x < 256)

data_even : (says : Bool) (n : ℕ) (b : List ℕ) → length b % 2 ≡ 0 → n % 2 ≡ 0 → length (cond says (drop n b) []) % 2 ≡ 0
data_even true n b even place = omega (arith, even, place, length-drop n b)
data_even false n b even place = refl

module _ (dim : ℕ) (axes : IsDimension dim) (e : Element) (d : Display) (run : List ℕ) (origin : List ℤ) (spare : ℕ) (old new rest : List ℕ)
    (chars : AreCharacters new) (good : IsWellFormed dim (with_body e (Shown d (Text run origin spare old) rest)))
    (small : even_up (chars_start dim + length new) + length (attribute_data (with_body e (Shown d (Text run origin spare old) rest)) d) ≤ 131074) where
  abbrev given : Element
  given = with_body e (Shown d (Text run origin spare old) rest)

  abbrev data_kept : List ℕ
  data_kept = attribute_data given d

  abbrev behind : List ℕ
  behind = filling new ++ data_kept

  abbrev display : Display
  display = record d { index = index_behind dim (length new) }

  abbrev longer : Element
  longer = longer_text dim new given

  place_of_data : 32 + 2 * index_behind dim (length new) ≡ even_up (chars_start dim + length new)
  place_of_data = omega (arith, start_even dim axes, start_behind dim axes)

  fields : IsText dim run origin spare old
  fields = good.parts.1

  display_good : IsDisplay display
  display_good = record {
    low = good.parts.0.low;
    high = good.parts.0.high;
    group = good.parts.0.group;
    index = omega (arith, start_small dim axes, chars.few);
    properties = good.parts.0.properties;
    style = good.parts.0.style;
    weight = good.parts.0.weight;
    color = good.parts.0.color;
  }

  length-behind : length behind ≡ length new % 2 + length data_kept
  length-behind = length-append (filling new) data_kept ∙ ap (λ (n : ℕ). n + length data_kept) (length-filling (length new))

  size-longer : size_of longer ≡ even_up (chars_start dim + length new) + length data_kept
  size-longer =
      let long : size_of longer ≡ chars_start dim + (length new + length behind) =
      text_size dim axes (record given { cbit = false; deleted = false }) display run origin spare new behind display_good fields.before.long fields.point.long in
      omega (arith, long, length-behind, start_even dim axes)

  longer_even : size_of longer % 2 ≡ 0
  longer_even =
      let place : (32 + 2 * d.index) % 2 ≡ 0 = omega arith in
      let data_length = data_even (says_attributes d.properties) (32 + 2 * d.index) (spell given) good.even place in
      omega (arith, data_length, size-longer, start_even dim axes)

  rest_behind : size_of longer - length behind ≡ chars_start dim + length new
  rest_behind = omega (arith, size-longer, length-behind, start_even dim axes)

  longer_good : IsWellFormed dim longer
  unfolding spell
  longer_good = record {
    level = good.level;
    kind = good.kind;
    form = good.form;
    parts = (
      display_good,
      record { before = fields.before; point = fields.point; byte = fields.byte; few = chars.few; bytes = chars.bytes },
      All-append (λ x. x < 256) (filling new) data_kept (filling_good (length new % 2 == 0))
          (data_good (says_attributes d.properties) (32 + 2 * d.index) (spell given) (whole-spell dim given axes good).bytes),
    );
    even = longer_even;
    small = rw size-longer small;
    no_mark = second_differs (first_byte longer) (second_byte longer) (let kind = good.kind in omega arith);
    attributes = λ says. (omega (arith, rest_behind, place_of_data), omega (arith, place_of_data, size-longer));
  }

  -- the attribute data stand behind the filling
  data_stands : drop (32 + 2 * index_behind dim (length new)) (spell longer) ≡ data_kept
  data_stands =
      let sits : BodySits dim longer longer.body = (all-sits dim longer axes longer_good).1 in
      let at : 32 + 2 * index_behind dim (length new) ≡ rest_start longer + length (filling new) =
      omega (arith, place_of_data, rest_behind, length-filling (length new), start_even dim axes) in
      ap (λ (k : ℕ). drop k (spell longer)) at
      ∙ sym (drop-drop (length (filling new)) (rest_start longer) (spell longer))
      ∙ ap (drop (length (filling new))) sits.2
      ∙ drop_at (filling new) data_kept (length (filling new)) refl

  -- where there are any
  data_same : (says : Bool) → says_attributes d.properties ≡ says → attribute_data longer display ≡ data_kept
  data_same true is = ap (λ (s : Bool). cond s (drop (32 + 2 * index_behind dim (length new)) (spell longer)) []) is ∙ data_stands
  data_same false is =
      ap (λ (s : Bool). cond s (drop (32 + 2 * index_behind dim (length new)) (spell longer)) []) is
      ∙ sym (ap (λ (s : Bool). cond s (drop (32 + 2 * d.index) (spell given)) []) is)

-- the law on longer texts
pub longer_put : LongerTextsAreTexts
longer_put dim new e axes chars good class small =
    let text = text_body dim e good class in
    let old : Body = Shown text.display (Text text.run text.origin text.spare text.chars) text.rest in
    let held : IsWellFormed dim (with_body e old) = subst (λ (b : Body). IsWellFormed dim (with_body e b)) text.is good in
    let fits : longer_size dim (length new) (with_body e old) ≤ 131074 = subst (λ (b : Body). longer_size dim (length new) (with_body e b) ≤ 131074) text.is small in
    subst (λ (b : Body). IsLonger dim new (with_body e b)) (sym text.is) (record {
      good = longer_good dim axes e text.display text.run text.origin text.spare text.chars new text.rest chars held fits;
      class = class;
      size = size-longer dim axes e text.display text.run text.origin text.spare text.chars new text.rest chars held fits;
      same_data = data_same dim axes e text.display text.run text.origin text.spare text.chars new text.rest chars held fits
          (says_attributes text.display.properties) refl;
    })
