-- Plans of the roots of one edit, joined one after the other: what is joined so far, and what the roots that are left
-- give, are what all give.
use Rattle.std.proofs.Common.{◌≡◌, ℕ, ◌+◌, ◌<◌, ◌≤◌, List, [], ◌∷◌, ◌++◌, length, drop, get_or, refl, sym, ap, ◌∙◌, subst, arith, add-one, drop-cons}
use Rattle.std.proofs.Common.{append_assoc, length-append}
use Rattle.std.specs.Prelude.{Option, Some, None}
use Rattle.std.specs.Option.{option_or}
use Rattle.std.proofs.lemmas.List.{append-nil, drop_all, length-drop}
use Rattle.patch_bytes.specs.Puts.{Put}
use Rattle.dgn_drawing.specs.declared.edit.Edit.{Edit}
use Rattle.dgn_drawing.specs.declared.fence_edit.FenceEdit.{FenceEdit}
use Rattle.dgn_drawing.specs.Element.{Element}
use Rattle.dgn_drawing.specs.Spelling.{spelling}
use Rattle.dgn_drawing.specs.Nesting.{flat}
use Rattle.dgn_drawing.specs.Opening.{Opens}
use Rattle.edit_ops.specs.declared.causes.cause.Cause.{Cause}
use Rattle.edit_ops.specs.declared.causes.edit_fault.EditFault.{EditFault}
use Rattle.edit_ops.specs.declared.causes.edit_fault.EditFault.TheVariants as faults
use Rattle.edit_ops.specs.declared.types.plan.Plan.{Plan}
use Rattle.edit_ops.specs.Causes.{cause_of, bytes_appended}
use Rattle.edit_ops.specs.Applying.{Refused, applied_unless, apply, changed_forest, IsEdit}
use Rattle.edit_ops.specs.Fields.{filled}
use Rattle.edit_ops.specs.EditedFields.{edited_fields}
use Rattle.edit_ops.specs.Planned.{IsPlan, IsFencePlan, IsRefused}
use Rattle.edit_ops.specs.Fenced.{edit_at, edits_at, cause_of_all, fenced_forest, apply_all, AreRoots, IsFenceEdit}
use Rattle.edit_ops.proofs.AcceptedEdit.{done_is}
use Rattle.edit_ops.proofs.EditsLeft.{own_puts, own_bytes, edit_short}
use Rattle.edit_ops.proofs.EditLaws.{own_long, own_fill, own_behind}
use Rattle.edit_ops.proofs.RootsTogether.{all_puts, all_bytes, root_fits, fenced}
use Rattle.edit_ops.proofs.FenceLaws.{fenced_plan}
use Rattle.dgn_drawing.specs.declared.limits.TheConstants.{MOST_DESIGN}

-- the plan of one root: nothing refuses it, and it is what the edit puts and what it appends
pub record IsOwn (dim : ℕ) (es : List Element) (rest : ℕ) (x : Edit) (p : Plan) : Type 0 where
  pub none : cause_of dim es rest x ≡ None
  pub puts : p.patches ≡ own_puts dim es x
  pub bytes : p.append ≡ own_bytes dim es x
  pub long : length p.append ≡ bytes_appended es x

-- it is the plan of an edit
plan_own : (f : List ℕ) (dim : ℕ) (es : List Element) (t : List ℕ) → Opens f dim es t → (rest : ℕ) (x : Edit) (p : Plan) → IsEdit x
    → IsPlan dim es rest x p → IsOwn dim es rest x p
plan_own f dim es t opens rest x p fits is =
    let both = done_is dim es rest x is.made is.done in
    let behind : drop (length (spelling es)) (spelling is.made) ≡ own_bytes dim es x =
    ap (λ (l : List Element). drop (length (spelling es)) (spelling l)) both.1 ∙ own_behind f dim es t rest x fits opens both.0 in
    let long : length (spelling is.made) ≡ length (spelling es) + bytes_appended es x =
    ap (λ (l : List Element). length (spelling l)) both.1 ∙ own_long f dim es t rest x fits opens both.0 in
    record {
      none = both.0;
      puts = is.patches ∙ ap (λ (l : List Element). filled (spelling l) (edited_fields dim es x)) both.1 ∙ sym (own_fill f dim es t rest x fits opens both.0);
      bytes = is.append ∙ behind;
      long = omega (arith, ap (length {A = ℕ}) is.append, length-drop (length (spelling es)) (spelling is.made), long);
    }

-- the next of some roots, and those behind it
next_left : (ns : List ℕ) (i : ℕ) → i < length ns → drop i ns ≡ get_or ns i 0 ∷ drop (i + 1) ns
next_left ns i within = rw (add-one, drop-cons ns i 0) refl

-- what is refused is so with its cause
refused_with : (c : Option Cause) (left : List Element) (cause : Cause) → applied_unless c left ≡ Refused cause → c ≡ Some cause
refused_with None left cause is = absurd (let x = is in cc)
refused_with (Some c) left cause is = let x = is in cc

-- patches and bytes to append that the plans of the roots before those that are left have joined. `tail` is the
-- number of bytes of the tail
pub record AreJoined (dim : ℕ) (es : List Element) (tail : ℕ) (e : FenceEdit) (ns left : List ℕ) (patches : List Put) (append : List ℕ) : Type 0 where
  pub room : length (spelling es) + (tail + length append) ≤ MOST_DESIGN
  pub causes : cause_of_all dim es (tail + length append) (edits_at e left) ≡ cause_of_all dim es tail (edits_at e ns)
  pub puts : patches ++ all_puts dim es (edits_at e left) ≡ all_puts dim es (edits_at e ns)
  pub bytes : append ++ all_bytes dim es (edits_at e left) ≡ all_bytes dim es (edits_at e ns)

module _ (dim : ℕ) (es : List Element) (tail : ℕ) (e : FenceEdit) (ns : List ℕ) where
  -- the plan of the next root is joined to them
  next_joined : (n : ℕ) (left : List ℕ) (patches : List Put) (append : List ℕ) (p : Plan) → AreJoined dim es tail e ns (n ∷ left) patches append
      → IsOwn dim es (tail + length append) (edit_at e n) p → AreJoined dim es tail e ns left (patches ++ p.patches) (append ++ p.append)
  next_joined n left patches append p joined own =
      let both = length-append append p.append in
      let long = own.long in
      let rest : tail + length (append ++ p.append) ≡ tail + length append + bytes_appended es (edit_at e n) = omega arith in
      let short = edit_short dim es (tail + length append) (edit_at e n) own.none joined.room in
      record {
        room = omega arith;
        causes = ap (λ (k : ℕ). cause_of_all dim es k (edits_at e left)) rest
            ∙ ap (λ (c : Option Cause). option_or c (cause_of_all dim es (tail + length append + bytes_appended es (edit_at e n)) (edits_at e left)))
            (sym own.none)
            ∙ joined.causes;
        puts = append_assoc patches p.patches (all_puts dim es (edits_at e left))
            ∙ ap (λ (ps : List Put). patches ++ (ps ++ all_puts dim es (edits_at e left))) own.puts
            ∙ joined.puts;
        bytes = append_assoc append p.append (all_bytes dim es (edits_at e left))
            ∙ ap (λ (b : List ℕ). append ++ (b ++ all_bytes dim es (edits_at e left))) own.bytes
            ∙ joined.bytes;
      }

  -- where it is refused, so are all
  next_fails : (n : ℕ) (left : List ℕ) (patches : List Put) (append : List ℕ) (fault : EditFault) → AreJoined dim es tail e ns (n ∷ left) patches append
      → IsRefused (apply dim es (tail + length append) (edit_at e n)) fault → IsRefused (apply_all dim es tail e ns) fault
  next_fails n left patches append (faults.Refused c) joined is =
      let first : cause_of dim es (tail + length append) (edit_at e n) ≡ Some c =
      refused_with (cause_of dim es (tail + length append) (edit_at e n)) (flat (changed_forest dim es (edit_at e n))) c is in
      ap (λ (o : Option Cause). applied_unless o (flat (fenced_forest dim es e ns)))
      (sym joined.causes ∙ ap (λ (o : Option Cause). option_or o
      (cause_of_all dim es (tail + length append + bytes_appended es (edit_at e n)) (edits_at e left))) first)
  next_fails n left patches append faults.Memory joined is = tt

  -- where none are left, they are the plan
  all_joined : (f t : List ℕ) (p : Plan) → IsFenceEdit e → AreRoots es ns → Opens f dim es t → AreJoined dim es tail e ns [] p.patches p.append
      → IsFencePlan dim es tail e ns p
  all_joined f t p fits some opens joined =
      let none : cause_of_all dim es tail (edits_at e ns) ≡ None = sym joined.causes in
      fenced_plan dim es tail e ns p (fenced f dim es t tail e ns fits some opens none) none
      (sym (append-nil p.patches) ∙ joined.puts) (sym (append-nil p.append) ∙ joined.bytes)

  -- where the next root is, with so many bytes pending, so are all
  pub next_refused : (i : ℕ) (patches : List Put) (append : List ℕ) → i < length ns → (pending : ℕ) (fault : EditFault) → pending ≡ length append
      → AreJoined dim es tail e ns (drop i ns) patches append → IsRefused (apply dim es (tail + pending) (edit_at e (get_or ns i 0))) fault
      → IsRefused (apply_all dim es tail e ns) fault
  next_refused i patches append within pending fault so joined refused =
      next_fails (get_or ns i 0) (drop (i + 1) ns) patches append fault
      (subst (λ (l : List ℕ). AreJoined dim es tail e ns l patches append) (next_left ns i within) joined)
      (subst (λ (k : ℕ). IsRefused (apply dim es (tail + k) (edit_at e (get_or ns i 0))) fault) so refused)

module _ (dim : ℕ) (es : List Element) (tail : ℕ) (e : FenceEdit) (ns : List ℕ) (f t : List ℕ) (opens : Opens f dim es t) (fits : IsFenceEdit e) where
  -- the plan of the next root is joined
  pub next_planned : (i : ℕ) (patches : List Put) (append : List ℕ) → i < length ns → (pending : ℕ) (p : Plan) (more_patches : List Put) (more_append : List ℕ)
      → pending ≡ length append → AreJoined dim es tail e ns (drop i ns) patches append → IsPlan dim es (tail + pending) (edit_at e (get_or ns i 0)) p
      → more_patches ≡ patches ++ p.patches → more_append ≡ append ++ p.append → AreJoined dim es tail e ns (drop (i + 1) ns) more_patches more_append
  next_planned i patches append within pending p more_patches more_append so joined planned with_patches with_append =
      let n : ℕ = get_or ns i 0 in
      let own : IsOwn dim es (tail + length append) (edit_at e n) p =
      plan_own f dim es t opens (tail + length append) (edit_at e n) p (root_fits e n fits) (subst (λ (k : ℕ). IsPlan dim es (tail + k) (edit_at e n) p) so planned) in
      subst (λ (ps : List Put). AreJoined dim es tail e ns (drop (i + 1) ns) ps more_append) (sym with_patches)
      (subst (λ (b : List ℕ). AreJoined dim es tail e ns (drop (i + 1) ns) (patches ++ p.patches) b) (sym with_append)
      (next_joined dim es tail e ns n (drop (i + 1) ns) patches append p
      (subst (λ (l : List ℕ). AreJoined dim es tail e ns l patches append) (next_left ns i within) joined) own))

  -- when all are, they are the plan
  pub all_planned : (i : ℕ) (p : Plan) → AreRoots es ns → length ns ≤ i → AreJoined dim es tail e ns (drop i ns) p.patches p.append
      → IsFencePlan dim es tail e ns p
  all_planned i p some past joined =
      all_joined dim es tail e ns f t p fits some opens (subst (λ (l : List ℕ). AreJoined dim es tail e ns l p.patches p.append) (drop_all i ns past) joined)
