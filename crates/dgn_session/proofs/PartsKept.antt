-- What is kept when a change is carried out.
use Rattle.std.proofs.Common.{◌≡◌, ℕ, ◌+◌, List, [], ◌∷◌, ◌++◌, length, take, drop, map, reverse, refl, sym, ap, ◌∙◌, subst, arith, length-append}
use Rattle.std.specs.Prelude.{Vec}
use Rattle.std.proofs.lemmas.List.{take_at, drop_at, take-map, length-map, reverse-append}
use Rattle.patch_bytes.specs.Puts.{Put, write}
use Rattle.undo_log.specs.declared.entry.Entry.{Entry}
use Rattle.undo_log.specs.LogState.{LogState}
use Rattle.undo_log.specs.Entries.{entry_of}
use Rattle.undo_log.proofs.EntriesBack.{entry_fits}
use Rattle.dgn_drawing.specs.declared.row.Row.{Row}
use Rattle.dgn_drawing.specs.Rows.{row_of}
use Rattle.dgn_drawing.specs.Nesting.{BeginsFree, itself}
use Rattle.elem_index.specs.declared.design.Design.{Design}
use Rattle.elem_index.specs.Design.{kept_of, kinds_of, spare_of, elements, IsOpen, IsWhole, HasGrown, SameText}
use Rattle.elem_index.proofs.WrittenDesigns.{front_after}
use Rattle.nest_tree.specs.Nested.{Nested}
use Rattle.dgn_session.specs.Kept.{rows_of, OpensAt, IsUnder, Leads, AreKept, IsKept}
use Rattle.dgn_session.specs.CarryingOut.{HasRoom, IsFollowed, IsChange}
use Rattle.dgn_session.proofs.Leading.{may_commit, leads_back, olds_rise}

-- vectors that are the same have the same items
pub same_items : {X Z : Type 0} {v w : Vec X Z} → v ≡ w → v.items ≡ w.items
same_items same = ap (λ v. v.items) same

-- what opens does so where all is the same
pub opens_same : (dim : ℕ) (tail b : List ℕ) (dim' : ℕ) (tail' b' : List ℕ) → dim' ≡ dim → tail' ≡ tail → b' ≡ b → OpensAt dim tail b → OpensAt dim' tail' b'
opens_same dim tail b dim' tail' b' axes behind body opens =
    subst (λ (n : ℕ). OpensAt n tail' b') (sym axes) (subst (λ (x : List ℕ). OpensAt dim x b') (sym behind) (subst (OpensAt dim tail) (sym body) opens))

pub open_of : (d : Design) → OpensAt d.dim d.tail.items d.body.items → IsOpen d
open_of d opens = record { few = opens.few; opens = opens.opens }

-- and what is kept is
pub kept_same : (dim : ℕ) (tail b : List ℕ) (dim' : ℕ) (tail' b' : List ℕ) (es es' : List Entry) → dim' ≡ dim → tail' ≡ tail → b' ≡ b → es' ≡ es
    → AreKept dim tail b es → AreKept dim' tail' b' es'
kept_same dim tail b dim' tail' b' es es' axes behind body entries kept =
    subst (λ (n : ℕ). AreKept n tail' b' es') (sym axes)
    (subst (λ (x : List ℕ). AreKept dim x b' es') (sym behind)
    (subst (λ (x : List ℕ). AreKept dim tail x es') (sym body)
    (subst (AreKept dim tail b) (sym entries) kept)))

module _ (dim : ℕ) (tail b : List ℕ) (ps : List Put) (append : List ℕ) (rows : List Row) (change : IsChange dim tail b ps append rows) where
  -- the body lies under the new one
  under : IsUnder dim b (write b ps ++ append)
  under = record {
    front = sym (ap (take (length (rows_of dim b))) change.behind ∙ take_at (rows_of dim b) rows (length (rows_of dim b)) refl);
    free = subst (BeginsFree itself) (sym (ap (drop (length (rows_of dim b))) change.behind ∙ drop_at (rows_of dim b) rows (length (rows_of dim b)) refl))
        change.free;
  }

  leads : Leads dim (write b ps ++ append) (entry_of b ps)
  leads = record {
    long = (entry_fits b (record { patches = ps; append = append }) (may_commit b ps append change.rise)).long;
    rise = olds_rise b (length b) ps 0 (omega arith) change.rise;
    under = subst (λ (x : List ℕ). IsUnder dim x (write b ps ++ append)) (sym (leads_back b ps append change.rise)) under;
  }

  -- what is kept with one more entry
  pub kept_more : (es : List Entry) → AreKept dim tail b (reverse es) → AreKept dim tail (write b ps ++ append) (reverse (es ++ entry_of b ps ∷ []))
  kept_more es kept =
      subst (AreKept dim tail (write b ps ++ append)) (sym (reverse-append es (entry_of b ps ∷ [])))
      (change.opens, leads, subst (λ (x : List ℕ). AreKept dim tail x (reverse es)) (sym (leads_back b ps append change.rise)) kept)

module _ (d : Design) (t : Nested) (l : LogState) (kept : IsKept d t l) (ps : List Put) (append : List ℕ) (rows : List Row)
    (room : HasRoom (length append) (length rows) d l) (change : IsChange d.dim d.tail.items d.body.items ps append rows) where
  -- a design that has the new body, but keeps of the elements what the old one does
  module _ (e : Design) (axes : e.dim ≡ d.dim) (body : e.body.items ≡ write d.body.items ps ++ append) (tail : e.tail.items ≡ d.tail.items)
      (offsets : kept_of e ≡ kept_of d) (kinds : kinds_of e ≡ kinds_of d) (spare : spare_of e ≡ spare_of d) where
    opens_new : OpensAt e.dim e.tail.items e.body.items
    opens_new = opens_same d.dim d.tail.items (write d.body.items ps ++ append) e.dim e.tail.items e.body.items axes tail body change.opens

    rows_new : map row_of (elements e) ≡ map row_of (elements d) ++ rows
    rows_new = ap (λ (n : ℕ). rows_of n e.body.items) axes ∙ ap (rows_of d.dim) body ∙ change.behind

    many : length (elements e) ≡ length (elements d) + length rows
    many =
        omega (
          arith,
          length-map (elements e) row_of,
          length-map (elements d) row_of,
          ap (length {A = Row}) rows_new,
          length-append (map row_of (elements d)) rows,
        )

    first_rows : map row_of (take (length (elements d)) (elements e)) ≡ map row_of (elements d)
    first_rows =
        sym (take-map row_of (length (elements d)) (elements e)) ∙ ap (take (length (elements d))) rows_new
        ∙ take_at (map row_of (elements d)) rows (length (elements d)) (length-map (elements d) row_of)

    pub can_grow : HasGrown e
    can_grow = front_after d e kept.whole (open_of e opens_new) offsets kinds first_rows (omega (arith, many, spare, room.offsets))

    -- and one that has the new offsets too
    module _ (g : Design) (same : SameText e g) (whole : IsWhole g) where
      pub rows_grown : map row_of (elements g) ≡ t.rows ++ rows
      rows_grown =
          ap (λ (n : ℕ). rows_of n g.body.items) same.dim ∙ ap (rows_of e.dim) (same_items same.body) ∙ rows_new
          ∙ ap (λ (x : List Row). x ++ rows) (sym kept.nesting)

      pub kept_after : (u : Nested) (m : LogState) → u.rows ≡ t.rows ++ rows → m.entries ≡ l.entries ++ entry_of d.body.items ps ∷ [] → IsKept g u m
      kept_after u m nesting entries = record {
        whole = whole;
        nesting = nesting ∙ sym rows_grown;
        back =
            kept_same d.dim d.tail.items (write d.body.items ps ++ append) g.dim g.tail.items g.body.items
            (reverse (l.entries ++ entry_of d.body.items ps ∷ [])) (reverse m.entries)
            (same.dim ∙ axes) (same_items same.tail ∙ tail) (same_items same.body ∙ body) (ap (reverse {A = Entry}) entries)
            (kept_more d.dim d.tail.items d.body.items ps append rows change l.entries kept.back);
      }

-- a change of a body is one of a body that is the same
pub change_same : (dim : ℕ) (tail b : List ℕ) (ps : List Put) (append : List ℕ) (rows : List Row) (dim' : ℕ) (tail' b' : List ℕ) → dim' ≡ dim → tail' ≡ tail
    → b' ≡ b → IsChange dim tail b ps append rows → IsChange dim' tail' b' ps append rows
change_same dim tail b ps append rows dim' tail' b' axes behind body change =
    subst (λ (n : ℕ). IsChange n tail' b' ps append rows) (sym axes)
    (subst (λ (x : List ℕ). IsChange dim x b' ps append rows) (sym behind)
    (subst (λ (x : List ℕ). IsChange dim tail x ps append rows) (sym body) change))

-- there is room for those
pub room_for : (b : List ℕ) (old new : List Row) (d : Design) (l : LogState) (rows : List Row) → IsFollowed b old new d l → new ≡ old ++ rows
    → HasRoom (length b) (length rows) d l
room_for b old new d l rows followed are =
    let many : followed.count ≡ length rows = omega (arith, followed.grown.many, ap (length {A = Row}) are, length-append old rows) in
    subst (λ (n : ℕ). HasRoom (length b) n d l) many followed.room
