-- What an edit puts into its part and into the headers above it makes the bytes of the edited drawing.
use Rattle.std.proofs.Common.{◌≡◌, ℕ, ◌+◌, ◌<◌, List, [], ◌∷◌, ◌++◌, length, map, take, false, refl, sym, ap, ◌∙◌, subst, arith}
use Rattle.std.specs.Prelude.{Option, Some, slice_get}
use Rattle.std.specs.List.{AllByRecursion}
use Rattle.std.proofs.lemmas.List.{map-append}
use Rattle.patch_bytes.specs.Puts.{Put, old_of}
use Rattle.dgn_layout.specs.Classes.{class_of, is_silent}
use Rattle.elem_index.specs.Offsets.{offset_of}
use Rattle.elem_index.proofs.Places.{each_at}
use Rattle.nest_tree.proofs.NestingSteps.{flat-forest}
use Rattle.dgn_drawing.specs.Element.{Element}
use Rattle.dgn_drawing.specs.Spelling.{spell, spelling}
use Rattle.dgn_drawing.specs.WellFormed.{IsWellFormed}
use Rattle.dgn_drawing.specs.Rows.{row_of}
use Rattle.dgn_drawing.specs.Nesting.{flat, forest}
use Rattle.edit_ops.specs.Trees.{tree_at, reach_map, reached, above_tree}
use Rattle.edit_ops.specs.Applying.{altered}
use Rattle.edit_ops.specs.Fields.{Field, filled}
use Rattle.edit_ops.specs.EditedFields.{above_fields, part_fields}
use Rattle.edit_ops.specs.Rules.{Rule}
use Rattle.edit_ops.specs.Written.{above_puts, live_puts, part_puts}
use Rattle.edit_ops.proofs.ReadableElements.{is_shown}
use Rattle.edit_ops.proofs.HeaderClasses.{headers_read}
use Rattle.edit_ops.proofs.EachLive.{tree_each, reached_each, above_tree_each}
use Rattle.edit_ops.proofs.TextTurns.{Turns, turned_reads, whole_turned, whole_span}
use Rattle.edit_ops.proofs.LivePuts.{field_of, IsPut, turns_as, reach_turned, fields_put}
use Rattle.edit_ops.proofs.HeaderPuts.{IsAbovePut, above_fields_put}
use Rattle.edit_ops.proofs.KeptRules.{Keeps}
use Rattle.edit_ops.proofs.TreesExchanged.{above_turned}

-- what a text has where puts were laid fills their fields
pub filled_reads : (text : List ℕ) (ps : List Put) → map (old_of text) ps ≡ filled text (map field_of ps)
unfolding old_of
filled_reads text [] = refl
filled_reads text (p ∷ ps) = ap (λ (qs : List Put). old_of text p ∷ qs) (filled_reads text ps)

-- what holds of each where it follows from what does
pub all_so : {X : Type 0} (P Q : X → Type 0) → ((x : X) → P x → Q x) → (xs : List X) → AllByRecursion P xs → AllByRecursion Q xs
all_so P Q step [] p = tt
all_so P Q step (x ∷ xs) p = (step x p.0, all_so P Q step xs p.1)

-- what holds of each where two things do that give it
pub all_both : {X : Type 0} (P Q R : X → Type 0) → ((x : X) → P x → Q x → R x) → (xs : List X) → AllByRecursion P xs → AllByRecursion Q xs → AllByRecursion R xs
all_both P Q R step [] p q = tt
all_both P Q R step (x ∷ xs) p q = (step x p.0 q.0, all_both P Q R step xs p.1 q.1)

-- the puts of a row into the part of element n: they turn the bytes of the drawing into those of the altered one,
-- are what these have in its fields, and are right for each header and each element that it reaches
pub record IsWritten (dim : ℕ) (es : List Element) (r : Rule) (n : ℕ) : Type 0 where
  pub turned : Turns 0 (spelling es) (part_puts r es n) (spelling (flat (altered r es n)))
  pub fields : map field_of (part_puts r es n) ≡ part_fields r es n
  pub puts : part_puts r es n ≡ filled (spelling (flat (altered r es n))) (part_fields r es n)
  pub each : AllByRecursion (λ v. IsPut dim r v.element) (reached r.reach es n)
  pub each_above : AllByRecursion (λ v. IsAbovePut dim r (slice_get es n) v.element) (above_tree es n)

module _ (dim : ℕ) (es : List Element) (r : Rule) (Ready : Element → Type 0) (keeps : Keeps dim r Ready)
    (each : AllByRecursion (IsWellFormed dim) es) where
  -- the elements that it reaches in a part are well formed
  good_live : (n : ℕ) → AllByRecursion (λ v. IsWellFormed dim v.element) (reached r.reach es n)
  good_live n = reached_each (IsWellFormed dim) r.reach es n each

  -- and so are all elements of trees
  good_trees : AllByRecursion (IsWellFormed dim) (flat (forest row_of es))
  good_trees = subst (AllByRecursion (IsWellFormed dim)) (sym (flat-forest row_of es)) each

  -- what is put into those of a part, where nothing stands against them
  pub live_put : (n : ℕ) → AllByRecursion (λ v. Ready v.element) (reached r.reach es n) → AllByRecursion (λ v. IsPut dim r v.element) (reached r.reach es n)
  live_put n ready =
      all_both (λ v. IsWellFormed dim v.element) (λ v. Ready v.element) (λ v. IsPut dim r v.element)
      (λ v good able. keeps.live v.element good able) (reached r.reach es n) (good_live n) ready

  -- the part as a text of its own is turned into the changed part
  pub part_turned : (n : ℕ) → AllByRecursion (λ v. Ready v.element) (reached r.reach es n)
      → Turns (offset_of es n) (spelling (flat (tree_at n (forest row_of es)))) (live_puts r (reached r.reach es n))
      (spelling (flat (reach_map r.reach r.made (tree_at n (forest row_of es)))))
  part_turned n ready = reach_turned dim r Ready keeps.live r.reach (tree_at n (forest row_of es)) n (offset_of es n)
      (tree_each (IsWellFormed dim) n (forest row_of es) good_trees) ready

  module _ (n : ℕ) (known : n < length es) (x : Element) (there : slice_get es n ≡ Some x) (able : Ready x)
      (ready : AllByRecursion (λ v. Ready v.element) (reached r.reach es n)) where
    -- what is put into each header is right
    above_all : AllByRecursion (λ v. IsAbovePut dim r (slice_get es n) v.element) (above_tree es n)
    above_all =
        let good : IsWellFormed dim x = each_at (IsWellFormed dim) es n x each there in
        let puts : AllByRecursion (λ v. IsAbovePut dim r (Some x) v.element) (above_tree es n) =
        all_both (λ v. IsWellFormed dim v.element) (λ v. is_silent (class_of v.element.kind) ≡ false) (λ v. IsAbovePut dim r (Some x) v.element)
        (λ v well loud. keeps.over x v.element good able well (is_shown dim v.element well loud))
        (above_tree es n) (above_tree_each (IsWellFormed dim) es n each) (headers_read es n) in
        subst (λ (o : Option Element). AllByRecursion (λ v. IsAbovePut dim r o v.element) (above_tree es n)) (sym there) puts

    -- the puts turn the bytes of the drawing into those of the altered trees
    pub drawing_turned : Turns 0 (spelling es) (part_puts r es n) (spelling (flat (altered r es n)))
    drawing_turned =
        let count : length (flat (forest row_of es)) ≡ length es = ap (length {A = Element}) (flat-forest row_of es) in
        let at : offset_of es n ≡ 0 + length (spelling (take n (flat (forest row_of es)))) =
        ap (λ (l : List Element). length (spelling (take n l))) (sym (flat-forest row_of es)) ∙ omega arith in
        let heads = all_so (λ v. IsAbovePut dim r (slice_get es n) v.element)
        (λ v. Turns v.place (spell v.element) (r.over_puts (slice_get es n) v.place v.element)
        (spell (r.above (slice_get es n) v.element)))
        (λ v is. is.turned v.place) (above_tree es n) above_all in
        let all = above_turned (r.above (slice_get es n)) (reach_map r.reach r.made)
        (r.over_puts (slice_get es n)) (live_puts r (reached r.reach es n))
        n 0 0 (offset_of es n) (forest row_of es) (omega arith) at heads (part_turned n ready) in
        turns_as 0 _ _ _ _ _ _ (ap spelling (flat-forest row_of es)) refl refl all

    -- and all that is said of them
    pub written : IsWritten dim es r n
    written =
        let puts : List Put = part_puts r es n in
        let made : List ℕ = spelling (flat (altered r es n)) in
        let turned = drawing_turned in
        let fields : map field_of (part_puts r es n) ≡ part_fields r es n =
        map-append field_of (above_puts r (slice_get es n) (above_tree es n)) (live_puts r (reached r.reach es n))
        ∙ ap (λ (fs : List Field). fs ++ map field_of (live_puts r (reached r.reach es n))) (above_fields_put dim r (slice_get es n) (above_tree es n) above_all)
        ∙ ap (λ (fs : List Field). above_fields r (above_tree es n) ++ fs) (fields_put dim r Ready keeps.live (reached r.reach es n) (good_live n) ready) in
        let reads : map (old_of made) puts ≡ puts =
        turned_reads (spelling es) made puts (whole_span (spelling es) made puts turned) (whole_turned (spelling es) made puts turned) in
        record {
          turned = turned;
          fields = fields;
          puts = sym reads ∙ filled_reads made puts ∙ ap (filled made) fields;
          each = live_put n ready;
          each_above = above_all;
        }
