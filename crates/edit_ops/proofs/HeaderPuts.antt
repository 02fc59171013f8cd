-- What an edit puts into a header above its element turns the header's bytes into those of the changed one.
use Rattle.std.proofs.Common.{◌≡◌, ℕ, ◌≤◌, List, [], ◌∷◌, ◌++◌, map, take, true, false, refl, sym, ap, ◌∙◌, subst, arith, inl, inr}
use Rattle.std.specs.Prelude.{Option, Some}
use Rattle.std.specs.List.{AllByRecursion}
use Rattle.std.proofs.lemmas.List.{map-append}
use Rattle.dgn_layout.specs.declared.types.Class.{Class}
use Rattle.dgn_layout.specs.Classes.{class_of, is_silent}
use Rattle.dgn_layout.specs.Spots.{range_spots, has_spots, Rise as SpotsRise}
use Rattle.dgn_layout.specs.declared.spot.Spot.{Spot}
use Rattle.patch_bytes.specs.Puts.{Put, Span}
use Rattle.dgn_drawing.specs.declared.edit.Edit.{Edit}
use Rattle.dgn_drawing.specs.declared.edit.Edit.TheVariants as edit
use Rattle.dgn_drawing.specs.Values.{Displacement}
use Rattle.dgn_drawing.specs.Element.{Display, Body, Shown, Element}
use Rattle.dgn_drawing.specs.Spelling.{spell, size_of}
use Rattle.dgn_drawing.specs.SpotNumbers.{value_at, wider, widened_put}
use Rattle.dgn_drawing.specs.WellFormed.{IsDimension, IsPoint, HasBody, IsWellFormed}
use Rattle.range_code.specs.declared.Box3.{Box3}
use Rattle.dgn_drawing.specs.Changes.{shift, body_displaced, display_displaced, parts_displaced, range_in, widen}
use Rattle.dgn_drawing.specs.Rows.{row_of}
use Rattle.dgn_drawing.proofs.RangesPut.{widen_put}
use Rattle.edit_ops.specs.Trees.{Live}
use Rattle.edit_ops.specs.Applying.{IsEdit}
use Rattle.edit_ops.specs.Fields.{Field, spot_fields}
use Rattle.edit_ops.specs.EditedFields.{above_fields}
use Rattle.edit_ops.specs.Rules.{Rule, rule_of, moving, holding, holding_puts, wider_puts}
use Rattle.edit_ops.specs.Written.{above_puts, IsReady}
use Rattle.edit_ops.proofs.ReadableElements.{IsShown, is_shown, shown_long}
use Rattle.edit_ops.proofs.TextTurns.{Turns, turns_none, turns_inside}
use Rattle.edit_ops.proofs.LivePuts.{field_of, moved_numbers, numbers_rise, number_fields, span_from, element_put}

-- the spots of a range rise within 36 bytes
range_rises : (dim size : ℕ) → IsDimension dim → 36 ≤ size → SpotsRise 4 (range_spots dim) size
range_rises dim size axes long = elim axes [
  | inl two ↦ subst (λ (n : ℕ). SpotsRise 4 (range_spots n) size) (sym two) (omega arith, (omega arith, (omega arith, (omega arith, omega arith))))
  | inr three ↦ subst (λ (n : ℕ). SpotsRise 4 (range_spots n) size) (sym three)
      (omega arith, (omega arith, (omega arith, (omega arith, (omega arith, (omega arith, omega arith))))))
]

-- what a range that a header is to hold puts into it: it turns its bytes into those of the one that holds it, which is well
-- formed and nests as it did, and is laid over the range
pub record IsWidened (dim : ℕ) (r : Box3) (h : Element) : Type 0 where
  pub turned : (p : ℕ) → Turns p (spell h) (wider_puts dim r p (spell h)) (spell (widen dim r h))
  pub good : IsWellFormed dim (widen dim r h)
  pub row : row_of (widen dim r h) ≡ row_of h
  pub fields : (p : ℕ) → map field_of (wider_puts dim r p (spell h)) ≡ spot_fields p (range_spots dim)

-- where its corners are points, and the header is shown
pub widened : (dim : ℕ) (r : Box3) (h : Element) → IsDimension dim → IsPoint 3 r.lo → IsPoint 3 r.hi → IsWellFormed dim h → IsShown h → IsWidened dim r h
widened dim r h axes low high good shown =
    let wide = widen_put dim r h shown.display shown.parts shown.rest axes low high good shown.body in
    let rise = numbers_rise (λ (s : Spot). wider r s (value_at (spell h) s)) (size_of h) (range_spots dim) 4
    (range_rises dim (size_of h) axes (shown_long dim h good shown)) in
    let span : Span 0 (map (widened_put r (spell h)) (range_spots dim)) (size_of h) = span_from 0 4 (size_of h) _ (omega arith) rise in
    let one = λ (p : ℕ). turns_inside p (spell h) (spell (widen dim r h)) (map (widened_put r (spell h)) (range_spots dim)) span wide.spelled in
    record {
      turned = λ p. subst (λ (ps : List Put). Turns p (spell h) ps (spell (widen dim r h)))
          (moved_numbers (λ (s : Spot). wider r s (value_at (spell h) s)) p (range_spots dim)) (one p);
      good = wide.good;
      row = wide.row;
      fields = λ p. number_fields (λ (s : Spot). wider r s (value_at (spell h) s)) p (range_spots dim);
    }

-- what a row puts into a header above an element, which is given
pub record IsAbovePut (dim : ℕ) (r : Rule) (head : Option Element) (h : Element) : Type 0 where
  pub turned : (p : ℕ) → Turns p (spell h) (r.over_puts head p h) (spell (r.above head h))
  pub good : IsWellFormed dim (r.above head h)
  pub row : row_of (r.above head h) ≡ row_of h
  pub fields : (p : ℕ) → map field_of (r.over_puts head p h) ≡ r.over p h

-- an element with spots isn't silent
spots_read : (c : Class) → has_spots c ≡ true → is_silent c ≡ false
spots_read Class.Vertices spots = refl
spots_read Class.Words spots = refl
spots_read Class.Counted spots = refl
spots_read Class.Run spots = refl
spots_read Class.Floating spots = refl
spots_read Class.Boxed spots = refl
spots_read Class.Silent spots = absurd (let x = spots in cc)

-- the range of a moved element
moved_box : (dim n : ℕ) (by : Displacement) (v : Element) (seen : IsShown v) → IsDimension dim → IsEdit (edit.Move n by) → IsWellFormed dim v
    → IsReady dim (edit.Move n by) v
    → HasBody dim (Shown (display_displaced (take dim by.by) seen.display) (parts_displaced (take dim by.by) seen.parts) seen.rest)
moved_box dim n by v seen axes fits well ready =
    let body : (shift dim by v).body ≡ Shown (display_displaced (take dim by.by) seen.display) (parts_displaced (take dim by.by) seen.parts) seen.rest
    = ap (body_displaced (take dim by.by)) seen.body in
    subst (HasBody dim) body (element_put dim axes (edit.Move n by) fits v well ready).good.parts

-- so a header above it is made to hold that
held_moved : (dim n : ℕ) (by : Displacement) (v h : Element) → IsDimension dim → IsEdit (edit.Move n by) → IsWellFormed dim v → IsReady dim (edit.Move n by) v
    → IsWellFormed dim h → IsShown h → IsAbovePut dim (moving dim by) (Some v) h
held_moved dim n by v h axes fits well ready good shown =
    let seen : IsShown v = is_shown dim v well (spots_read (class_of v.kind) ready.0) in
    let d : Display = display_displaced (take dim by.by) seen.display in
    let body : (shift dim by v).body ≡ Shown d (parts_displaced (take dim by.by) seen.parts) seen.rest = ap (body_displaced (take dim by.by)) seen.body in
    let has = moved_box dim n by v seen axes fits well ready in
    let wide = widened dim (range_in d) h axes has.0.low has.0.high good shown in
    record {
      turned = λ p. subst (λ (b : Body). Turns p (spell h) (holding_puts dim b p (spell h)) (spell (holding dim b h))) (sym body) (wide.turned p);
      good = subst (λ (b : Body). IsWellFormed dim (holding dim b h)) (sym body) wide.good;
      row = ap (λ (b : Body). row_of (holding dim b h)) body ∙ wide.row;
      fields = λ p. ap (λ (b : Body). map field_of (holding_puts dim b p (spell h))) body ∙ wide.fields p;
    }

-- where nothing stands against an edit of the element, it puts into a shown header what it should
pub above_put : (dim : ℕ) → IsDimension dim → (e : Edit) → IsEdit e → (v h : Element) → IsWellFormed dim v → IsReady dim e v → IsWellFormed dim h
    → IsShown h → IsAbovePut dim (rule_of dim e) (Some v) h
above_put dim axes (edit.Move n by) fits v h well ready good shown = held_moved dim n by v h axes fits well ready good shown
above_put dim axes (edit.Copy n by) fits v h well ready good shown =
    record { turned = λ p. turns_none p (spell h); good = good; row = refl; fields = λ p. refl }
above_put dim axes (edit.Sym n change) fits v h well ready good shown =
    record { turned = λ p. turns_none p (spell h); good = good; row = refl; fields = λ p. refl }
above_put dim axes (edit.Delete n) fits v h well ready good shown = record { turned = λ p. turns_none p (spell h); good = good; row = refl; fields = λ p. refl }
above_put dim axes (edit.Append new) fits v h well ready good shown =
    record { turned = λ p. turns_none p (spell h); good = good; row = refl; fields = λ p. refl }

-- what is put into headers is laid over their fields
pub above_fields_put : (dim : ℕ) (r : Rule) (head : Option Element) (vs : List Live) → AllByRecursion (λ v. IsAbovePut dim r head v.element) vs
    → map field_of (above_puts r head vs) ≡ above_fields r vs
above_fields_put dim r head [] puts = refl
above_fields_put dim r head (v ∷ vs) puts =
    map-append field_of (r.over_puts head v.place v.element) (above_puts r head vs)
    ∙ ap (λ (fs : List Field). fs ++ map field_of (above_puts r head vs)) (puts.0.fields v.place)
    ∙ ap (λ (fs : List Field). r.over v.place v.element ++ fs) (above_fields_put dim r head vs puts.1)
