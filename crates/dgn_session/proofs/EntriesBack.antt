-- What the entries of a session lead back to, and what stands still.
use Rattle.std.proofs.Common.{◌≡◌, ℕ, zero, suc, ◌≤◌, ◌<◌, List, [], ◌∷◌, length, take, map, drop, get_or, reverse, Some, refl, sym, ap, ◌∙◌}
use Rattle.std.proofs.Common.{subst, arith}
use Rattle.std.specs.Prelude.{slice_get}
use Rattle.std.specs.List.{AllByRecursion}
use Rattle.std.proofs.lemmas.List.{take-take, take_all, take-map, length-map, length-take, length-take-le, length-reverse, get_or-take}
use Rattle.patch_bytes.specs.Puts.{Put, write_back, Holds, IsWithin, AreWithin}
use Rattle.patch_bytes.proofs.PutsLaid.{lay_other, length-write_back}
use Rattle.undo_log.specs.declared.entry.Entry.{Entry}
use Rattle.undo_log.specs.Entries.{back, back_by, bodies}
use Rattle.undo_log.proofs.EntriesBack.{length-back}
use Rattle.dgn_drawing.specs.declared.row.Row.{Row}
use Rattle.dgn_drawing.specs.Element.{Element}
use Rattle.dgn_drawing.specs.Spelling.{spelling}
use Rattle.dgn_drawing.specs.Rows.{row_of}
use Rattle.dgn_drawing.specs.Opening.{elements_of}
use Rattle.dgn_drawing.proofs.Fronts.{body_spelled}
use Rattle.elem_index.specs.Offsets.{offset_of}
use Rattle.dgn_session.specs.State.{earlier_of}
use Rattle.dgn_session.specs.Kept.{rows_of, AreKept}
use Rattle.dgn_session.specs.Laws.{EntriesAreCounted}
use Rattle.dgn_session.specs.Laws.{EntriesLeadBack, IsUnheld, OpenedStandsStill}
use Rattle.dgn_session.proofs.FrontSizes.{front_long}
use Rattle.dgn_session.proofs.LastEditBack.{leads_fit, opens_kept}
use Rattle.dgn_session.proofs.Steps.{bodies_first}

length-bodies : (b : List ℕ) (es : List Entry) → length (drop 1 (bodies b es)) ≡ length es
length-bodies b [] = refl
length-bodies b (e ∷ es) = more (back b e) es
  where
    more : (c : List ℕ) (fs : List Entry) → length (bodies c fs) ≡ suc (length fs)
    more c [] = refl
    more c (f ∷ fs) = ap suc (more (back c f) fs)

length-earlier : (dim : ℕ) (b : List ℕ) (es : List Entry) → length (earlier_of dim b es) ≡ length es
length-earlier dim b [] = refl
length-earlier dim b (e ∷ es) = length-map (bodies (back b e) es) (elements_of dim) ∙ length-bodies b (e ∷ es)

pub entries_are_counted : EntriesAreCounted
entries_are_counted v = length-earlier v.dim v.body (reverse v.entries) ∙ length-reverse v.entries

lead_back : (dim : ℕ) (tail b : List ℕ) (entries : List Entry) → AreKept dim tail b entries → (k : ℕ) (es : List Element)
    → slice_get (elements_of dim b ∷ earlier_of dim b entries) k ≡ Some es → back_by k b entries ≡ spelling es
lead_back dim tail b entries kept zero es is =
    let opens = opens_kept dim tail b entries kept in
    let same : elements_of dim b ≡ es = cc in
    sym (body_spelled b tail dim (elements_of dim b) opens.opens) ∙ ap spelling same
lead_back dim tail b [] kept (suc k) es is = absurd (let x = is in cc)
lead_back dim tail b (e ∷ entries) kept (suc k) es is =
    lead_back dim tail (back b e) entries kept.2 k es (ap (λ (l : List (List Element)). slice_get l k) (sym (bodies_first dim (back b e) entries)) ∙ is)

pub entries_lead_back : EntriesLeadBack
entries_lead_back v kept k es is = lead_back v.dim v.tail v.body (reverse v.entries) kept k es is

-- a byte that no put holds stays where they are written back
write_back_other : (b : List ℕ) (ps : List Put) (k d : ℕ) → AreWithin (length b) ps → AllByRecursion (λ (p : Put). Holds p k → ⊥) ps
    → get_or (write_back b ps) k d ≡ get_or b k d
write_back_other b [] k d within free = refl
write_back_other b (p ∷ ps) k d within free =
    lay_other (write_back b ps) p k d (subst (λ (n : ℕ). IsWithin n p) (sym (length-write_back b ps within.1)) within.0) free.0
    ∙ write_back_other b ps k d within.1 free.1

-- what all entries lead back to: its rows, its length, and its bytes
pub record Stands (dim : ℕ) (opened b : List ℕ) (entries : List Entry) : Type 0 where
  pub rows : rows_of dim opened ≡ take (length (rows_of dim opened)) (rows_of dim b)
  pub long : length opened ≤ length b
  pub bytes : (k : ℕ) → k < length opened → IsUnheld k entries → get_or b k 0 ≡ get_or opened k 0

stands : (dim : ℕ) (tail b : List ℕ) (entries : List Entry) → AreKept dim tail b entries → Stands dim (back_by (length entries) b entries) b entries
stands dim tail b [] kept =
    record { rows = sym (take_all (length (rows_of dim b)) (rows_of dim b) (omega arith)); long = omega arith; bytes = λ k within free. refl }
stands dim tail b (e ∷ entries) kept =
    let before = stands dim tail (back b e) entries kept.2 in
    let opened : List ℕ = back_by (length entries) (back b e) entries in
    let fits = leads_fit dim b e kept.1 in
    let back_long : length (back b e) ≡ e.len = length-back b e fits in
    let fit = fits.long in
    let cut : length (take e.len b) ≡ e.len = length-take-le e.len b fit in
    let few : length (rows_of dim opened) ≤ length (rows_of dim (back b e)) =
    omega (arith, ap (length {A = Row}) before.rows, length-take (length (rows_of dim opened)) (rows_of dim (back b e))) in
    let opened_long = before.long in
    record {
      rows =
          before.rows ∙ ap (take (length (rows_of dim opened))) kept.1.under.front
          ∙ take-take (length (rows_of dim opened)) (length (rows_of dim (back b e))) (rows_of dim b) few;
      long = omega arith;
      bytes = λ k within free.
          sym (get_or-take e.len b k 0 (omega arith))
          ∙ sym (write_back_other (take e.len b) e.patches k 0 (subst (λ (n : ℕ). AreWithin n e.patches) (sym cut) fits.within) free.0)
          ∙ before.bytes k within free.1;
    }

-- the same rows give the same offsets
offsets_stay : (dim : ℕ) (opened b : List ℕ) → rows_of dim opened ≡ take (length (rows_of dim opened)) (rows_of dim b) → (n : ℕ)
    → n < length (elements_of dim opened) → offset_of (elements_of dim b) n ≡ offset_of (elements_of dim opened) n
offsets_stay dim opened b front n within =
    let few : n ≤ length (rows_of dim opened) = omega (arith, length-map (elements_of dim opened) row_of) in
    let rows : map row_of (take n (elements_of dim b)) ≡ map row_of (take n (elements_of dim opened)) =
    sym (take-map row_of n (elements_of dim b)) ∙ sym (take-take n (length (rows_of dim opened)) (rows_of dim b) few) ∙ ap (take n) (sym front)
    ∙ take-map row_of n (elements_of dim opened) in
    front_long (elements_of dim b) (take n (elements_of dim opened)) n rows

pub opened_stands_still : OpenedStandsStill
opened_stands_still v kept =
    let s = stands v.dim v.tail v.body (reverse v.entries) kept in
    record {
      rows = s.rows;
      offsets = offsets_stay v.dim (back_by (length (reverse v.entries)) v.body (reverse v.entries)) v.body s.rows;
      bytes = s.bytes;
    }
