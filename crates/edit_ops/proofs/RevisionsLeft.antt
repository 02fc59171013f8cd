-- What each revision leaves that isn't refused.
use Rattle.std.proofs.Common.{◌≡◌, ℕ, ℤ, ◌+◌, ◌<◌, ◌≤◌, ◌==◌, List, [], ◌∷◌, ◌++◌, length, Bool, true, false, cond, refl, sym, ap, ◌∙◌, subst, arith, inl, inr}
use Rattle.std.specs.Prelude.{nat_lt, slice_get, Option, Some, None}
use Rattle.std.specs.List.{AllByRecursion}
use Rattle.std.proofs.lemmas.Bool.{cases_Bool, ltb-true, eqb-true}
use Rattle.std.proofs.lemmas.List.{append-nil}
use Rattle.patch_bytes.specs.Puts.{Put}
use Rattle.dgn_layout.specs.declared.types.Class.{Class}
use Rattle.dgn_layout.specs.Classes.{class_of, is_among, is_silent}
use Rattle.dgn_layout.specs.declared.TheConstants.{END_MARK}
use Rattle.dgn_drawing.specs.Element.{Element}
use Rattle.dgn_drawing.specs.Spelling.{spelling}
use Rattle.dgn_drawing.specs.WellFormed.{IsDimension, IsWellFormed}
use Rattle.dgn_drawing.specs.Rows.{row_of}
use Rattle.dgn_drawing.specs.Nesting.{Leaf, Forest, NoTree, Tree, is_counted, flat, forest, joined}
use Rattle.dgn_drawing.specs.Opening.{BeginsWithTcb}
use Rattle.elem_index.proofs.Places.{each_at}
use Rattle.dgn_revision.specs.declared.revision.Revision.{Revision}
use Rattle.dgn_revision.specs.declared.revision.Revision.TheVariants as revision
use Rattle.dgn_revision.specs.Revisions.{IsRevision, IsVertex, AreCharacters}
use Rattle.dgn_revision.specs.Revising.{room, row_of_points, longer_text}
use Rattle.dgn_revision.proofs.LongerTexts.{longer_put}
use Rattle.edit_ops.specs.declared.causes.cause.Cause.{Cause}
use Rattle.edit_ops.specs.declared.causes.cause.Cause.TheVariants as causes
use Rattle.edit_ops.specs.declared.causes.revise_cause.ReviseCause.{ReviseCause}
use Rattle.edit_ops.specs.declared.causes.test.Test.TheVariants as tests
use Rattle.edit_ops.specs.Trees.{above_tree, path_to}
use Rattle.edit_ops.specs.Causes.{unknown, other_axes, too_long, first_cause}
use Rattle.edit_ops.specs.Applying.{altered}
use Rattle.edit_ops.specs.Fields.{Field}
use Rattle.edit_ops.specs.EditedFields.{part_fields}
use Rattle.edit_ops.specs.Rules.{Rule}
use Rattle.edit_ops.specs.Written.{part_puts}
use Rattle.edit_ops.specs.RevisionRules.{relevelling, locking, undeleting, renaming, retexting, replacing, pointing, has_room, revision_rule, longer_of, made_behind}
use Rattle.edit_ops.specs.RevisionCauses.{given, unlike, unpointed, unpointed_in, no_vertex, no_room, too_long_with, revision_causes, first_standing, revise_cause}
use Rattle.edit_ops.specs.Revised.{leaves, revised_forest, revised_fields}
use Rattle.edit_ops.proofs.PartPlace.{flat-joined}
use Rattle.edit_ops.proofs.FirstElement.{some_element}
use Rattle.edit_ops.proofs.PartNestsAlone.{leaf_appended}
use Rattle.edit_ops.proofs.AcceptedEdit.{met, IsAlive, path_alive}
use Rattle.edit_ops.proofs.AppendedElements.{short_left}
use Rattle.edit_ops.proofs.WhatIsLeft.{IsLeft}
use Rattle.edit_ops.proofs.PartChanged.{part_left}
use Rattle.edit_ops.proofs.RevisionRows.{level_keeps, lock_keeps, undelete_keeps, name_keeps, text_keeps, replace_keeps, vertex_keeps}
use Rattle.edit_ops.proofs.RevisionTargets.{neither, none_standing, not_given, pointed_read, room_enough, size_enough, points_enough, living_target}
use Rattle.edit_ops.proofs.RevisionTargets.{every_target, head_target}
use Rattle.dgn_drawing.specs.declared.limits.TheConstants.{MOST_DESIGN}

-- no trees behind trees
joined_none : {A : Type 0} (f : Forest A) → joined f NoTree ≡ f
joined_none NoTree = refl
joined_none {A} (Tree knot h below behind) = ap (λ (t : Forest A). Tree knot h below t) (joined_none behind)

-- what is left with nothing behind it
none_left : (dim : ℕ) (es : List Element) (puts : List Put) (fields : List Field) (trees : Forest Element) → IsLeft dim es puts fields [] trees
    → IsLeft dim es puts fields [] (joined trees (leaves []))
none_left dim es puts fields trees left = subst (IsLeft dim es puts fields []) (sym (joined_none trees)) left

-- what is left with an element behind it that stands by itself
leaf_left : (dim : ℕ) (es : List Element) (puts : List Put) (fields : List Field) (trees : Forest Element) (x : Element) → IsLeft dim es puts fields [] trees
    → IsWellFormed dim x → x.cbit ≡ false → is_counted (class_of x.kind) ≡ false → is_among x.kind (24 ∷ 27 ∷ []) ≡ false → (x.kind == 34) ≡ false
    → IsLeft dim es puts fields (x ∷ []) (joined trees (leaves (x ∷ [])))
leaf_left dim es puts fields trees x left good free plain straight own =
    let one : Forest Element = Tree Leaf x NoTree NoTree in
    let listed : flat trees ≡ left.base = left.listed ∙ append-nil left.base in
    let nested : forest row_of left.base ≡ trees = ap (forest row_of) (sym (append-nil left.base)) ∙ left.nested in
    record {
      base = left.base;
      listed = flat-joined trees one ∙ ap (λ (l : List Element). l ++ (x ∷ [])) listed;
      turned = left.turned;
      laid = left.laid;
      rows = left.rows;
      nested = leaf_appended left.base x (some_element left.base (left.begins []).0) free plain straight own
          ∙ ap (λ (t : Forest Element). joined t one) nested;
      good = left.good;
      good_more = (good, tt);
      begins = left.begins;
      free = free;
    }

module _ (dim : ℕ) (axes : IsDimension dim) (es : List Element) (each : AllByRecursion (IsWellFormed dim) es) (first : BeginsWithTcb es) (n : ℕ)
    (known : n < length es) where
  -- what is left of a revision of a row that nothing stands against
  abbrev pub Left : Rule → List Element → Type 0
  Left row more = IsLeft dim es (part_puts row es n) (part_fields row es n) more (joined (altered row es n) (leaves more))

  alone : (row : Rule) → IsLeft dim es (part_puts row es n) (part_fields row es n) [] (altered row es n) → Left row []
  alone row left = none_left dim es (part_puts row es n) (part_fields row es n) (altered row es n) left

  -- an element that is of a type
  of_kind : (kind : ℕ) (head : Element) → slice_get es n ≡ Some head → unlike n kind (slice_get es n) ≡ None → head.kind ≡ kind
  of_kind kind head there none =
      let at : cond (head.kind == kind) None (Some (causes.Opaque n)) ≡ None = ap (unlike n kind) (sym there) ∙ none in
      eqb-true head.kind kind (met (head.kind == kind) (causes.Opaque n) at)

  -- a text that has room, or hasn't
  text_left : (chars : List ℕ) → AreCharacters chars → (a : IsAlive es n) → a.head.kind ≡ 17
      → no_room dim (above_tree es n) chars n (slice_get es n) ≡ None → (b : Bool) → has_room dim chars (slice_get es n) ≡ b
      → Left (cond b (retexting dim chars) replacing) (cond b [] (longer_of dim chars (slice_get es n)))
  text_left chars fits a kind none true has =
      let words : class_of a.head.kind ≡ Class.Words = ap class_of kind in
      let enough = room_enough dim chars a.head (ap (has_room dim chars) (sym a.there) ∙ has) in
      alone (retexting dim chars)
      (part_left dim axes es each first (retexting dim chars) (λ e. (class_of e.kind ≡ Class.Words) × (length chars ≤ room dim e))
      (text_keeps dim chars axes fits) n
      (head_target dim es each first n known (retexting dim chars) (λ e. (class_of e.kind ≡ Class.Words) × (length chars ≤ room dim e)) a.head refl a.there
      (λ quiet. let q : is_silent (class_of 17) ≡ true = sym (ap (λ (k : ℕ). is_silent (class_of k)) kind) ∙ quiet in cc) (words, enough)))
  text_left chars fits a kind none false has =
      let words : class_of a.head.kind ≡ Class.Words = ap class_of kind in
      let good : IsWellFormed dim a.head = each_at (IsWellFormed dim) es n a.head each a.there in
      let small = size_enough dim n (above_tree es n) chars a.head (ap (has_room dim chars) (sym a.there) ∙ has)
      (ap (no_room dim (above_tree es n) chars n) (sym a.there) ∙ none) in
      let longer = longer_put dim chars a.head axes fits good words small in
      let x : Element = longer_text dim chars a.head in
      let left = part_left dim axes es each first replacing (λ e. ¬ (e.kind ≡ END_MARK)) (replace_keeps dim axes) n
      (head_target dim es each first n known replacing (λ e. ¬ (e.kind ≡ END_MARK)) a.head refl a.there
      (λ quiet. let q : is_silent (class_of 17) ≡ true = sym (ap (λ (k : ℕ). is_silent (class_of k)) kind) ∙ quiet in cc)
      (λ mark. let m : 17 ≡ 127 = sym kind ∙ mark in omega (arith, m))) in
      let made : longer_of dim chars (slice_get es n) ≡ x ∷ [] = ap (longer_of dim chars) a.there in
      subst (Left replacing) (sym made)
      (leaf_left dim es (part_puts replacing es n) (part_fields replacing es n) (altered replacing es n) x left longer.good refl
      (ap (λ (k : ℕ). is_counted (class_of k)) kind) (ap (λ (k : ℕ). is_among k (24 ∷ 27 ∷ [])) kind) (ap (λ (k : ℕ). k == 34) kind))

  module _ (rest : ℕ) where
    -- what each revision leaves, where none of its causes stands
    pub revision_left : (r : Revision) → IsRevision r → AllByRecursion (λ c. c ≡ None) (revision_causes dim es rest n r)
        → Left (revision_rule dim es n r) (made_behind dim es n r)
    revision_left (revision.Relevel level) fits none =
        alone (relevelling level)
        (part_left dim axes es each first (relevelling level) (λ e. e.deleted ≡ false) (level_keeps dim level fits) n
        (living_target dim es each first n known (relevelling level) refl (not_given _ none.1.0) (not_given _ none.1.1.1.0)))
    revision_left revision.Lock fits none =
        alone (locking true)
        (part_left dim axes es each first (locking true) (λ e. e.deleted ≡ false) (lock_keeps dim true) n
        (living_target dim es each first n known (locking true) refl (not_given _ none.0) (not_given _ none.1.0)))
    revision_left revision.Unlock fits none =
        alone (locking false)
        (part_left dim axes es each first (locking false) (λ e. e.deleted ≡ false) (lock_keeps dim false) n
        (living_target dim es each first n known (locking false) refl (not_given _ none.0) (not_given _ none.1.0)))
    revision_left revision.Undelete fits none =
        alone undeleting
        (part_left dim axes es each first undeleting (λ e. Unit {0}) (undelete_keeps dim) n (every_target dim es each first n known undeleting none.1.1.0))
    revision_left (revision.Rename name) fits none =
        let a : IsAlive es n = path_alive dim es n known (not_given _ none.1.0) in
        let kind : a.head.kind ≡ 2 = of_kind 2 a.head a.there (not_given _ none.1.1.1.0) in
        alone (renaming name)
        (part_left dim axes es each first (renaming name) (λ e. e.kind ≡ 2) (name_keeps dim name fits) n
        (head_target dim es each first n known (renaming name) (λ e. e.kind ≡ 2) a.head refl a.there
        (λ quiet. let q : is_silent (class_of 2) ≡ true = sym (ap (λ (k : ℕ). is_silent (class_of k)) kind) ∙ quiet in cc) kind))
    revision_left (revision.Retext chars) fits none =
        let a : IsAlive es n = path_alive dim es n known (not_given _ none.1.0) in
        text_left chars fits a (of_kind 17 a.head a.there (not_given _ none.1.1.1.0)) none.1.1.1.1.0 (has_room dim chars (slice_get es n)) refl
    revision_left (revision.Vertex index point axes_given) fits none =
        let a : IsAlive es n = path_alive dim es n known (not_given _ none.1.0) in
        let class : unpointed_in n (class_of a.head.kind) ≡ None = ap (unpointed n) (sym a.there) ∙ not_given _ none.1.1.1.1.0 in
        let same : axes_given ≡ dim = eqb-true axes_given dim (met (axes_given == dim) causes.Dimension (not_given _ none.1.1.1.1.1.0)) in
        let here : IsVertex index point dim = subst (IsVertex index point) same fits in
        let enough : index ≤ length (row_of_points a.head.body) = points_enough n index a.head (ap (no_vertex n index) (sym a.there) ∙ none.1.1.1.1.1.1.0) in
        alone (pointing dim index point)
        (part_left dim axes es each first (pointing dim index point) (λ e. index ≤ length (row_of_points e.body)) (vertex_keeps dim index point here) n
        (head_target dim es each first n known (pointing dim index point) (λ e. index ≤ length (row_of_points e.body)) a.head refl a.there
        (λ quiet. let l = pointed_read n (class_of a.head.kind) class in let q = quiet in cc) enough))

-- the element of a revision that isn't refused is there, and none of its later causes stands
pub none_refuses : (dim : ℕ) (es : List Element) (rest n : ℕ) (r : Revision) → revise_cause dim es rest n r ≡ None
    → (n < length es) × AllByRecursion (λ c. c ≡ None) (revision_causes dim es rest n r)
none_refuses dim es rest n r none =
    let both = neither (given (unknown n es)) (first_standing (revision_causes dim es rest n r)) none in (
      ltb-true n (length es) (met (nat_lt n (length es)) (causes.Unknown n) (not_given (unknown n es) both.0)),
      none_standing (revision_causes dim es rest n r) both.1,
    )

-- what is left of it
pub revised : (dim : ℕ) → IsDimension dim → (es : List Element) → AllByRecursion (IsWellFormed dim) es → BeginsWithTcb es → (rest n : ℕ) (r : Revision)
    → IsRevision r → revise_cause dim es rest n r ≡ None
    → IsLeft dim es (part_puts (revision_rule dim es n r) es n) (revised_fields dim es n r) (made_behind dim es n r) (revised_forest dim es n r)
revised dim axes es each first rest n r fits none =
    let both = none_refuses dim es rest n r none in
    revision_left dim axes es each first n both.0 rest r fits both.1

-- what stands behind a drawing that isn't too long with it
few_with : (es : List Element) (rest : ℕ) (more : List Element) → too_long_with es rest more ≡ None → length (spelling es) + rest ≤ MOST_DESIGN
    → length (spelling es) + (rest + length (spelling more)) ≤ MOST_DESIGN
few_with es rest [] none few = omega arith
few_with es rest (x ∷ more) none few = short_left (length (spelling es)) rest (length (spelling (x ∷ more))) none

-- so a revision that isn't refused leaves a file that isn't too long
pub revision_short : (dim : ℕ) (es : List Element) (rest n : ℕ) (r : Revision) → revise_cause dim es rest n r ≡ None
    → length (spelling es) + rest ≤ MOST_DESIGN → length (spelling es) + (rest + length (spelling (made_behind dim es n r))) ≤ MOST_DESIGN
revision_short dim es rest n (revision.Relevel level) none few = omega arith
revision_short dim es rest n revision.Lock none few = omega arith
revision_short dim es rest n revision.Unlock none few = omega arith
revision_short dim es rest n revision.Undelete none few = omega arith
revision_short dim es rest n (revision.Rename name) none few = omega arith
revision_short dim es rest n (revision.Retext chars) none few =
    let each = (none_refuses dim es rest n (revision.Retext chars) none).1 in
    few_with es rest (made_behind dim es n (revision.Retext chars)) (not_given _ each.1.1.1.1.1.0) few
revision_short dim es rest n (revision.Vertex index point axes) none few = omega arith
