-- What is kept when the last edit is taken back.
use Rattle.std.proofs.Common.{◌≡◌, ◌↔◌, ℕ, zero, suc, ◌-◌, ◌≤◌, ◌<◌, List, [], ◌∷◌, length, take, drop, map, get_or, reverse, sym, ap, ◌∙◌, subst, arith}
use Rattle.std.proofs.Common.{length-append, inl, inr, Bool, true}
use Rattle.std.specs.Prelude.{IsFalse}
use Rattle.std.proofs.lemmas.List.{take-map, length-map, length-take, reverse-append, same_from_push}
use Rattle.std.proofs.lemmas.Bool.{cases_lt}
use Rattle.patch_bytes.proofs.RisingPuts.{span_within}
use Rattle.undo_log.specs.declared.entry.Entry.{Entry}
use Rattle.undo_log.specs.LogState.{LogState}
use Rattle.undo_log.specs.Entries.{back, Fits, NewestFits, IsUndone}
use Rattle.undo_log.proofs.EntriesBack.{length-back}
use Rattle.undo_log.proofs.UndoAnswers.{undone_where_kept}
use Rattle.dgn_drawing.specs.declared.row.Row.{Row}
use Rattle.dgn_drawing.specs.Element.{Element}
use Rattle.dgn_drawing.specs.Spelling.{spell, spelling}
use Rattle.dgn_drawing.specs.Rows.{row_of}
use Rattle.dgn_drawing.specs.Nesting.{BeginsFree, itself}
use Rattle.dgn_drawing.specs.Opening.{BeginsWithTcb, elements_of}
use Rattle.dgn_drawing.proofs.Fronts.{body_spelled}
use Rattle.elem_index.specs.declared.design.Design.{Design}
use Rattle.elem_index.specs.Offsets.{offset_of, offsets_of}
use Rattle.elem_index.specs.Design.{kept_of, kinds_of, elements, IsWhole, HasShrunk, SameText}
use Rattle.elem_index.proofs.WrittenDesigns.{behind_after}
use Rattle.elem_index.proofs.Places.{length-offsets, get_or-offsets}
use Rattle.nest_tree.specs.Nested.{Nested}
use Rattle.dgn_session.specs.Kept.{rows_of, OpensAt, Leads, AreKept, IsKept}
use Rattle.dgn_session.specs.CarryingOut.{HasLast, IsCutAt}
use Rattle.dgn_session.proofs.FrontSizes.{some_bytes, front_long}
use Rattle.dgn_session.proofs.PartsKept.{same_items, opens_same, open_of, kept_same}

-- an element behind another begins behind it
offset_less : (es : List Element) (k n : ℕ) → k < n → n ≤ length es → offset_of es k < offset_of es n
offset_less [] k n less within = absurd (omega (arith, less, within))
offset_less (e ∷ es) k zero less within = absurd (omega (arith, less))
offset_less (e ∷ es) zero (suc n) less within = omega (arith, length-append (spell e) (spelling (take n es)), some_bytes e)
offset_less (e ∷ es) (suc k) (suc n) less within =
    omega (
      arith,
      length-append (spell e) (spelling (take n es)),
      length-append (spell e) (spelling (take k es)),
      offset_less es k n (omega arith) (omega arith),
    )

-- the entry that leads fits
pub leads_fit : (dim : ℕ) (b : List ℕ) (e : Entry) → Leads dim b e → Fits (length b) e
leads_fit dim b e leads = record { long = leads.long; within = span_within e.len e.patches 0 leads.rise }

pub newest_fits : (dim : ℕ) (tail b : List ℕ) (es : List Entry) → AreKept dim tail b es → NewestFits (length b) es
newest_fits dim tail b [] kept = tt
newest_fits dim tail b (e ∷ es) kept = leads_fit dim b e kept.1

-- what is kept opens
pub opens_kept : (dim : ℕ) (tail b : List ℕ) (es : List Entry) → AreKept dim tail b es → OpensAt dim tail b
opens_kept dim tail b [] kept = kept
opens_kept dim tail b (e ∷ es) kept = kept.0

-- elements of which the first is a TCB are some
some_elements : (es : List Element) → BeginsWithTcb es → 1 ≤ length es
some_elements [] first = absurd first
some_elements (e ∷ es) first = omega arith

-- where elements have the first rows of others, the places are cut where these end
cut_there : (cs es : List Element) (places : List ℕ) (len count : ℕ) → map row_of cs ≡ take (length (map row_of cs)) (map row_of es)
    → places ≡ offsets_of es → len ≡ length (spelling cs) → IsCutAt places len count → count ≡ length cs
cut_there cs es places len count front are long cut =
    let rows : length (map row_of cs) ≡ length cs = length-map cs row_of in
    let first : map row_of (take (length cs) es) ≡ map row_of cs =
    sym (take-map row_of (length cs) es) ∙ ap (λ (k : ℕ). take k (map row_of es)) (sym rows) ∙ sym front in
    let at_end : length (spelling (take (length cs) es)) ≡ length (spelling cs) = front_long es cs (length cs) first in
    let some : length cs ≤ length es =
    omega (arith, ap (length {A = Row}) front, length-take (length (map row_of cs)) (map row_of es), length-map es row_of, rows) in
    let all : length places ≡ length es = ap (length {A = ℕ}) are ∙ length-offsets es in
    let within = cut.within in
    elim (cases_lt count (length cs)) [
      | inl before ↦
          let place : get_or places count 0 ≡ offset_of es count = ap (λ (l : List ℕ). get_or l count 0) are ∙ get_or-offsets es count (omega arith) in
          absurd (omega (arith, cut.behind count (omega arith) (omega arith), place, offset_less es count (length cs) before some))
      | inr past ↦ elim (cases_lt (length cs) count) [
        | inl behind ↦
            let place : get_or places (count - 1) 0 ≡ offset_of es (count - 1) =
            ap (λ (l : List ℕ). get_or l (count - 1) 0) are ∙ get_or-offsets es (count - 1) (omega arith) in
            let less = cut.before (count - 1) (omega arith) in
            absurd (elim (cases_lt (length cs) (count - 1)) [
              | inl more ↦ omega (arith, less, place, offset_less es (length cs) (count - 1) more (omega arith))
              | inr same ↦
                  let e : count - 1 ≡ length cs = omega arith in
                  let there = ap (offset_of es) e in
                  omega (arith, less, place, there)
            ])
        | inr same ↦ omega arith
      ]
    ]

module _ (d : Design) (t : Nested) (l : LogState) (kept : IsKept d t l) (len : ℕ) (last : HasLast l.entries len) where
  newest : reverse l.entries ≡ last.last ∷ reverse last.before
  newest = ap (reverse {A = Entry}) last.are ∙ reverse-append last.before (last.last ∷ [])

  kept_newest : AreKept d.dim d.tail.items d.body.items (last.last ∷ reverse last.before)
  kept_newest = subst (AreKept d.dim d.tail.items d.body.items) newest kept.back

  -- the log can be undone
  pub can_undo : NewestFits (length d.body.items) (reverse l.entries)
  can_undo = newest_fits d.dim d.tail.items d.body.items (reverse l.entries) kept.back

  -- and is
  pub is_undone : (r : Bool) (m : LogState) (c : List ℕ) → (IsFalse r ↔ (l.entries ≡ [])) → (r ≡ true → IsUndone l.entries d.body.items m.entries c)
      → IsUndone l.entries d.body.items m.entries c
  is_undone r m c exactly undone =
      subst (λ (es : List Entry). IsUndone es d.body.items m.entries c) (sym last.are)
      (undone_where_kept r last.before last.last d.body.items m.entries c
      (subst (λ (es : List Entry). IsFalse r ↔ (es ≡ [])) last.are exactly)
      (subst (λ (es : List Entry). r ≡ true → IsUndone es d.body.items m.entries c) last.are undone))

  -- the body before, and its elements
  pub before : List ℕ
  before = back d.body.items last.last

  opens_before : OpensAt d.dim d.tail.items (back d.body.items last.last)
  opens_before = opens_kept d.dim d.tail.items (back d.body.items last.last) (reverse last.before) kept_newest.2

  long_before : len ≡ length (spelling (elements_of d.dim (back d.body.items last.last)))
  long_before =
      last.long ∙ sym (length-back d.body.items last.last (leads_fit d.dim d.body.items last.last kept_newest.1))
      ∙ ap (length {A = ℕ}) (sym
      (body_spelled (back d.body.items last.last) d.tail.items d.dim (elements_of d.dim (back d.body.items last.last)) opens_before.opens))

  module _ (places : List ℕ) (count : ℕ) (are : places ≡ offsets_of (elements d)) (cut : IsCutAt places len count) where
    count_is : count ≡ length (elements_of d.dim (back d.body.items last.last))
    count_is = cut_there (elements_of d.dim (back d.body.items last.last)) (elements d) places len count kept_newest.1.under.front are long_before cut

    count_rows : length (rows_of d.dim (back d.body.items last.last)) ≡ count
    count_rows = length-map (elements_of d.dim (back d.body.items last.last)) row_of ∙ sym count_is

    pub some_left : 1 ≤ count
    some_left = omega (arith, count_is, some_elements (elements_of d.dim (back d.body.items last.last)) opens_before.opens.first)

    pub free_behind : BeginsFree itself (drop count t.rows)
    free_behind =
        subst (λ (x : List Row). BeginsFree itself (drop count x)) (sym kept.nesting)
        (subst (λ (k : ℕ). BeginsFree itself (drop k (rows_of d.dim d.body.items))) count_rows kept_newest.1.under.free)

    front_rows : rows_of d.dim (back d.body.items last.last) ≡ take count (map row_of (elements d))
    front_rows = kept_newest.1.under.front ∙ ap (λ (k : ℕ). take k (map row_of (elements d))) count_rows

    -- what the log leaves
    module _ (m : LogState) (c : List ℕ) (undone : IsUndone l.entries d.body.items m.entries c) where
      same_last : (m.entries ≡ last.before) × (undone.last ≡ last.last)
      same_last = let two = same_from_push last.before m.entries last.last undone.last (sym last.are ∙ undone.dropped) in (sym two.0, sym two.1)

      body_before : c ≡ back d.body.items last.last
      body_before = undone.body ∙ ap (back d.body.items) same_last.1

      -- a design that has the body before, but all that was kept of the elements
      module _ (e : Design) (axes : e.dim ≡ d.dim) (body : e.body.items ≡ c) (tail : e.tail.items ≡ d.tail.items) (offsets : kept_of e ≡ kept_of d)
          (kinds : kinds_of e ≡ kinds_of d) where
        elements_before : elements e ≡ elements_of d.dim (back d.body.items last.last)
        elements_before = ap (λ (n : ℕ). elements_of n e.body.items) axes ∙ ap (elements_of d.dim) (body ∙ body_before)

        pub can_shrink : HasShrunk count e
        can_shrink =
            let text = body ∙ body_before in
            behind_after d e kept.whole
            (open_of e (opens_same d.dim d.tail.items (back d.body.items last.last) e.dim e.tail.items e.body.items axes tail text opens_before))
            offsets kinds count (ap (length {A = Element}) elements_before ∙ sym count_is)
            (sym (take-map row_of count (elements d)) ∙ sym front_rows ∙ ap (map row_of) (sym elements_before))

        -- and one that has those of its elements
        module _ (g : Design) (same : SameText e g) (whole : IsWhole g) where
          pub kept_before : (u : Nested) → u.rows ≡ take count t.rows → IsKept g u m
          kept_before u nesting = record {
            whole = whole;
            nesting =
                nesting ∙ ap (take count) kept.nesting ∙ sym front_rows ∙ ap (map row_of) (sym elements_before)
                ∙ sym (ap (λ (n : ℕ). rows_of n g.body.items) same.dim ∙ ap (rows_of e.dim) (same_items same.body));
            back =
                kept_same d.dim d.tail.items (back d.body.items last.last) g.dim g.tail.items g.body.items (reverse last.before) (reverse m.entries)
                (same.dim ∙ axes) (same_items same.tail ∙ tail) (same_items same.body ∙ body ∙ body_before) (ap (reverse {A = Entry}) same_last.0)
                kept_newest.2;
          }
