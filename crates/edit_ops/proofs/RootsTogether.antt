-- What an edit of several roots that isn't refused puts, appends and leaves.
use Rattle.std.proofs.Common.{◌≡◌, ℕ, ◌+◌, ◌<◌, List, [], ◌∷◌, ◌++◌, length, map, Bool, false, cond, refl, sym, ap, ◌∙◌, subst, arith}
use Rattle.std.specs.Prelude.{Some, None, slice_get}
use Rattle.std.specs.List.{AllByRecursion, flat_map}
use Rattle.std.proofs.lemmas.Grind.{flat_map-append}
use Rattle.std.proofs.lemmas.List.{append-nil}
use Rattle.patch_bytes.specs.Puts.{Put}
use Rattle.dgn_drawing.specs.declared.edit.Edit.{Edit}
use Rattle.dgn_drawing.specs.declared.edit.Edit.TheVariants as edit
use Rattle.dgn_drawing.specs.declared.fence_edit.FenceEdit.{FenceEdit}
use Rattle.dgn_drawing.specs.declared.fence_edit.FenceEdit.TheVariants as fence
use Rattle.dgn_drawing.specs.Values.{Displacement, LookChange, IsShift, IsLook}
use Rattle.dgn_drawing.specs.Element.{Element}
use Rattle.dgn_drawing.specs.Spelling.{spelling}
use Rattle.dgn_drawing.specs.WellFormed.{IsDimension, IsWellFormed}
use Rattle.dgn_drawing.specs.Rows.{row_of}
use Rattle.dgn_drawing.specs.Nesting.{Leaf, Whole, Forest, NoTree, Tree, flat, nest, forest, forest_map, joined, itself}
use Rattle.dgn_drawing.specs.Shown.{roots}
use Rattle.dgn_drawing.specs.Opening.{dimension, BeginsWithTcb, Opens}
use Rattle.nest_tree.proofs.NestingSteps.{flat-forest}
use Rattle.nest_tree.proofs.ByRows.{forest_rows, flat-map}
use Rattle.nest_tree.proofs.SameTrees.{known}
use Rattle.edit_ops.specs.Trees.{Live, live_map, live_tree, above_tree, Reach, Living, reached}
use Rattle.edit_ops.specs.Causes.{target_of, cause_of, bytes_appended}
use Rattle.edit_ops.specs.Applying.{copied, IsEdit}
use Rattle.edit_ops.specs.Fields.{Field}
use Rattle.edit_ops.specs.EditedFields.{above_fields, live_fields, part_fields, edited_fields}
use Rattle.edit_ops.specs.Rules.{Rule, moving, displacing, recolouring, deleting}
use Rattle.edit_ops.specs.Written.{above_puts, live_puts, part_puts, IsReady}
use Rattle.edit_ops.specs.Fenced.{edit_at, edits_at, cause_of_all, chosen_map, roots_changed, copies, fenced_forest, fenced_fields, all_appended, AreRoots}
use Rattle.edit_ops.specs.Fenced.{IsFenceEdit}
use Rattle.edit_ops.proofs.PartPlace.{flat-joined}
use Rattle.edit_ops.proofs.EachLive.{each_both, live_tree_each}
use Rattle.edit_ops.proofs.LivePuts.{field_of, IsPut, turns_as, fields_put}
use Rattle.edit_ops.proofs.KeptRules.{Keeps, edit_keeps}
use Rattle.elem_index.proofs.Places.{opened_axes}
use Rattle.edit_ops.proofs.EditedBytes.{all_so, all_both}
use Rattle.edit_ops.proofs.AcceptedEdit.{IsAccepted, accepted, none_both}
use Rattle.edit_ops.proofs.FirstElement.{BeginsWith, begins_as}
use Rattle.edit_ops.proofs.ListMembers.{is_one_of, each_chosen, roots_among, zero_apart}
use Rattle.edit_ops.proofs.RootsChanged.{chosen_live, chosen_looks, chosen_each, chosen_turned, roots_live, roots_above}
use Rattle.edit_ops.proofs.WhatIsLeft.{IsLeft, behind_left}
use Rattle.edit_ops.proofs.EditsLeft.{own_puts, own_bytes}
use Rattle.edit_ops.proofs.RootCopies.{copies_free, copies_spelled, copies_good, copies_long, copies_nest}

-- the edits of an edit of several roots put these, and append these
abbrev pub all_puts : ℕ → List Element → List Edit → List Put
all_puts dim es edits = flat_map (own_puts dim es) edits

abbrev pub all_bytes : ℕ → List Element → List Edit → List ℕ
all_bytes dim es edits = flat_map (own_bytes dim es) edits

-- what it leaves, where `more` is what it appends
pub record IsFenced (dim : ℕ) (es : List Element) (e : FenceEdit) (ns : List ℕ) : Type 0 where
  pub more : List Element
  pub left : IsLeft dim es (all_puts dim es (edits_at e ns)) (fenced_fields dim es e ns) more (fenced_forest dim es e ns)
  pub bytes : spelling more ≡ all_bytes dim es (edits_at e ns)
  pub long : length (spelling more) ≡ all_appended es (edits_at e ns)

-- the edit of a root names it, and has the values of the edit of all
pub root_named : (e : FenceEdit) (n : ℕ) → target_of (edit_at e n) ≡ Some n
root_named (fence.Move by) n = refl
root_named (fence.Copy by) n = refl
root_named (fence.Sym change) n = refl
root_named fence.Delete n = refl

pub root_fits : (e : FenceEdit) (n : ℕ) → IsFenceEdit e → IsEdit (edit_at e n)
root_fits (fence.Move by) n fits = fits
root_fits (fence.Copy by) n fits = fits
root_fits (fence.Sym change) n fits = fits
root_fits fence.Delete n fits = fits

-- where nothing refuses all, nothing refuses each
pub each_accepted : (dim : ℕ) (es : List Element) (e : FenceEdit) → AllByRecursion (IsWellFormed dim) es → BeginsWithTcb es → (rest : ℕ) (ns : List ℕ)
    → cause_of_all dim es rest (edits_at e ns) ≡ None → AllByRecursion (λ n. IsAccepted dim es (edit_at e n) n) ns
each_accepted dim es e each first rest [] none = tt
each_accepted dim es e each first rest (n ∷ ns) none =
    let both = none_both (cause_of dim es rest (edit_at e n)) (cause_of_all dim es (rest + bytes_appended es (edit_at e n)) (edits_at e ns)) none in (
      accepted dim es rest (edit_at e n) n (root_named e n) each first both.0,
      each_accepted dim es e each first (rest + bytes_appended es (edit_at e n)) ns both.1,
    )

-- what holds of each part of some that are joined
each_part : {X : Type 0} (P : X → Type 0) (part : ℕ → List X) (ns : List ℕ) → AllByRecursion (λ n. AllByRecursion P (part n)) ns
    → AllByRecursion P (flat_map part ns)
each_part P part [] each = tt
each_part P part (n ∷ ns) each = each_both P (part n) (flat_map part ns) each.0 (each_part P part ns each.1)

-- what is listed of each edit, where it is listed of the parts of its root
parts_listed : {X Y : Type 0} (e : FenceEdit) (of : Edit → List Y) (part : ℕ → List X) (list : X → List Y) (ns : List ℕ)
    → AllByRecursion (λ n. of (edit_at e n) ≡ flat_map list (part n)) ns → flat_map of (edits_at e ns) ≡ flat_map list (flat_map part ns)
parts_listed e of part list [] each = refl
parts_listed {X} {Y} e of part list (n ∷ ns) each =
    ap (λ (l : List Y). l ++ flat_map of (edits_at e ns)) each.0
    ∙ ap (λ (l : List Y). flat_map list (part n) ++ l) (parts_listed e of part list ns each.1)
    ∙ sym (flat_map-append list (part n) (flat_map part ns))

-- nothing is listed where nothing is of each
none_listed : {Y : Type 0} (e : FenceEdit) (of : Edit → List Y) (ns : List ℕ) → ((n : ℕ) → of (edit_at e n) ≡ []) → flat_map of (edits_at e ns) ≡ []
none_listed e of [] none = refl
none_listed {Y} e of (n ∷ ns) none = ap (λ (l : List Y). l ++ flat_map of (edits_at e ns)) (none n) ∙ none_listed e of ns none

none_appended : (es : List Element) (e : FenceEdit) (ns : List ℕ) → ((n : ℕ) → bytes_appended es (edit_at e n) ≡ 0) → all_appended es (edits_at e ns) ≡ 0
none_appended es e [] none = refl
none_appended es e (n ∷ ns) none = let here = none n in let more = none_appended es e ns none in omega arith

-- an edit of several roots changes them in their places by a row: a move, a change of the look or a deletion
pub record AreInPlace (dim : ℕ) (es : List Element) (r : Rule) (Ready : Element → Type 0) (e : FenceEdit) : Type 0 where
  pub keeps : Keeps dim r Ready
  pub reach : r.reach ≡ Living
  pub ready : (n : ℕ) → IsAccepted dim es (edit_at e n) n → AllByRecursion (λ v. Ready v.element) (live_tree es n)
  pub puts : (n : ℕ) → own_puts dim es (edit_at e n) ≡ part_puts r es n
  pub fields : (n : ℕ) → edited_fields dim es (edit_at e n) ≡ part_fields r es n
  pub bytes : (n : ℕ) → own_bytes dim es (edit_at e n) ≡ []
  pub appended : (n : ℕ) → bytes_appended es (edit_at e n) ≡ 0
  pub trees : (ns : List ℕ) → fenced_forest dim es e ns ≡ roots_changed r.made es ns

-- without headers above it, a part has the puts and the fields of its live elements alone
module _ (es : List Element) (r : Rule) (living : r.reach ≡ Living) (n : ℕ) (none : above_tree es n ≡ []) where
  puts_alone : part_puts r es n ≡ live_puts r (live_tree es n)
  puts_alone = ap (λ (vs : List Live). above_puts r (slice_get es n) vs ++ live_puts r (reached r.reach es n)) none
      ∙ ap (λ (reach : Reach). live_puts r (reached reach es n)) living

  fields_alone : part_fields r es n ≡ live_fields r (live_tree es n)
  fields_alone = ap (λ (vs : List Live). above_fields r vs ++ live_fields r (reached r.reach es n)) none
      ∙ ap (λ (reach : Reach). live_fields r (reached reach es n)) living

module _ (dim : ℕ) (axes : IsDimension dim) (es : List Element) where
  moves_in_place : (by : Displacement) → IsShift by → AreInPlace dim es (moving dim by) (IsReady dim (edit.Move 0 by)) (fence.Move by)
  moves_in_place by fits = record {
    keeps = edit_keeps dim axes (edit.Move 0 by) fits;
    reach = refl;
    ready = λ n able. able.able;
    puts = λ n. refl;
    fields = λ n. refl;
    bytes = λ n. refl;
    appended = λ n. refl;
    trees = λ ns. refl;
  }

  looks_in_place : (change : LookChange) → IsLook change → AreInPlace dim es (recolouring change) (IsReady dim (edit.Sym 0 change)) (fence.Sym change)
  looks_in_place change fits = record {
    keeps = edit_keeps dim axes (edit.Sym 0 change) fits;
    reach = refl;
    ready = λ n able. able.able;
    puts = λ n. refl;
    fields = λ n. refl;
    bytes = λ n. refl;
    appended = λ n. refl;
    trees = λ ns. refl;
  }

  marks_in_place : AreInPlace dim es deleting (IsReady dim (edit.Delete 0)) fence.Delete
  marks_in_place = record {
    keeps = edit_keeps dim axes (edit.Delete 0) tt;
    reach = refl;
    ready = λ n able. able.able;
    puts = λ n. refl;
    fields = λ n. refl;
    bytes = λ n. refl;
    appended = λ n. refl;
    trees = λ ns. refl;
  }

-- trees of which the first isn't chosen begin as they did
root_stays : (change : Element → Element) (chosen : ℕ → Bool) (x : Element) (xs : List Element) → chosen 0 ≡ false
    → BeginsWith x (flat (chosen_map change chosen 0 (forest row_of (x ∷ xs))))
root_stays change chosen x xs not = record {
  behind = flat (chosen_map change chosen 1 (nest row_of Whole xs));
  is = ap (λ (b : Bool). flat
      (joined (cond b (live_map (λ e. e.deleted) change (Tree Leaf x NoTree NoTree)) (Tree Leaf x NoTree NoTree))
      (chosen_map change chosen 1 (nest row_of Whole xs)))) not;
}

begins_so : (dim : ℕ) (es : List Element) (change : Element → Element) (chosen : ℕ → Bool) (t : List ℕ) → IsDimension dim
    → AllByRecursion (IsWellFormed dim) es → BeginsWithTcb es → chosen 0 ≡ false
    → BeginsWithTcb (flat (chosen_map change chosen 0 (forest row_of es)))
    × (dimension (spelling (flat (chosen_map change chosen 0 (forest row_of es))) ++ t) ≡ dimension (spelling es ++ t))
begins_so dim [] change chosen t axes each first not = absurd first
begins_so dim (x ∷ xs) change chosen t axes each first not =
    begins_as dim x xs (flat (chosen_map change chosen 0 (forest row_of (x ∷ xs)))) t axes each.0 first (root_stays change chosen x xs not)

-- roots changed in their places
module _ (dim : ℕ) (axes : IsDimension dim) (es : List Element) (each : AllByRecursion (IsWellFormed dim) es) (first : BeginsWithTcb es)
    (r : Rule) (Ready : Element → Type 0) (e : FenceEdit) (here : AreInPlace dim es r Ready e) (ns : List ℕ) (some : AreRoots es ns)
    (able : AllByRecursion (λ n. IsAccepted dim es (edit_at e n) n) ns) where
  -- the live elements of their trees
  abbrev vs : List Live
  vs = chosen_live (is_one_of ns) 0 0 (forest row_of es)

  live_are : flat_map (live_tree es) ns ≡ vs
  live_are = ap (flat_map (live_tree es)) (roots_among es ns some) ∙ roots_live es (is_one_of ns)

  -- hold what holds of those of each tree
  each_live : (P : Live → Type 0) → AllByRecursion (λ n. AllByRecursion P (live_tree es n)) ns → AllByRecursion P vs
  each_live P those = subst (AllByRecursion P) live_are (each_part P (live_tree es) ns those)

  ready : AllByRecursion (λ v. Ready v.element) vs
  ready = each_live (λ v. Ready v.element)
      (all_so (λ n. IsAccepted dim es (edit_at e n) n) (λ n. AllByRecursion (λ v. Ready v.element) (live_tree es n)) here.ready ns able)

  good_live : AllByRecursion (λ v. IsWellFormed dim v.element) vs
  good_live = each_live (λ v. IsWellFormed dim v.element)
      (all_so (λ n. IsAccepted dim es (edit_at e n) n) (λ n. AllByRecursion (λ v. IsWellFormed dim v.element) (live_tree es n))
      (λ n is. live_tree_each (IsWellFormed dim) es n each) ns able)

  is_put : AllByRecursion (λ v. IsPut dim r v.element) vs
  is_put = all_both (λ v. IsWellFormed dim v.element) (λ v. Ready v.element) (λ v. IsPut dim r v.element)
      (λ v good able. here.keeps.live v.element good able) vs good_live ready

  -- no header is above them
  alone : AllByRecursion (λ n. above_tree es n ≡ []) ns
  alone = subst (AllByRecursion (λ n. above_tree es n ≡ [])) (sym some.1)
      (each_chosen (λ n. above_tree es n ≡ []) some.0 (roots 0 (forest row_of es)) (roots_above es))

  puts_are : all_puts dim es (edits_at e ns) ≡ live_puts r vs
  puts_are =
      parts_listed e (own_puts dim es) (live_tree es) (λ v. r.puts v.place v.element) ns
      (all_so (λ n. above_tree es n ≡ []) (λ n. own_puts dim es (edit_at e n) ≡ live_puts r (live_tree es n))
      (λ n none. here.puts n ∙ puts_alone es r here.reach n none) ns alone)
      ∙ ap (live_puts r) live_are

  fields_are : fenced_fields dim es e ns ≡ live_fields r vs
  fields_are =
      parts_listed e (edited_fields dim es) (live_tree es) (λ v. r.fields v.place v.element) ns
      (all_so (λ n. above_tree es n ≡ []) (λ n. edited_fields dim es (edit_at e n) ≡ live_fields r (live_tree es n))
      (λ n none. here.fields n ∙ fields_alone es r here.reach n none) ns alone)
      ∙ ap (live_fields r) live_are

  -- the trees that it leaves, which have the rows of those that there were
  abbrev changed : Forest Element
  changed = roots_changed r.made es ns

  looks : forest_map row_of changed ≡ forest_map row_of (forest row_of es)
  looks = chosen_looks r.made (is_one_of ns) 0 0 (forest row_of es)
      (all_so (λ v. IsPut dim r v.element) (λ v. row_of (r.made v.element) ≡ row_of v.element) (λ v is. is.row) vs is_put)

  rows_kept : map row_of (flat changed) ≡ map row_of es
  rows_kept = sym (flat-map row_of changed) ∙ ap flat looks ∙ flat-map row_of (forest row_of es) ∙ ap (map row_of) (flat-forest row_of es)

  nested_so : forest row_of (flat changed) ≡ changed
  nested_so = sym (known row_of changed (looks ∙ forest_rows row_of es ∙ ap (forest itself) (sym rows_kept)))

  good_trees : AllByRecursion (IsWellFormed dim) (flat (forest row_of es))
  good_trees = subst (AllByRecursion (IsWellFormed dim)) (sym (flat-forest row_of es)) each

  not_first : is_one_of ns 0 ≡ false
  not_first = zero_apart ns (all_so (λ n. IsAccepted dim es (edit_at e n) n) (λ n. 0 < n) (λ n is. is.later) ns able)

  pub in_place_fenced : IsFenced dim es e ns
  in_place_fenced = record {
    more = [];
    left = record {
      base = flat changed;
      listed = ap flat (here.trees ns) ∙ sym (append-nil (flat changed));
      turned = turns_as 0 _ _ _ _ _ _ (ap spelling (flat-forest row_of es)) (sym puts_are) refl
          (chosen_turned dim r Ready here.keeps.live (is_one_of ns) 0 0 (forest row_of es) good_trees ready);
      laid = ap (map field_of) puts_are ∙ fields_put dim r Ready here.keeps.live vs good_live ready ∙ sym fields_are;
      rows = rows_kept;
      nested = ap (forest row_of) (append-nil (flat changed)) ∙ nested_so ∙ sym (here.trees ns);
      good = chosen_each r.made (is_one_of ns) (IsWellFormed dim) 0 0 (forest row_of es) good_trees
          (all_so (λ v. IsPut dim r v.element) (λ v. IsWellFormed dim (r.made v.element)) (λ v is. is.good) vs is_put);
      good_more = tt;
      begins = λ t. begins_so dim es r.made (is_one_of ns) t axes each first not_first;
      free = tt;
    };
    bytes = sym (none_listed e (own_bytes dim es) ns here.bytes);
    long = sym (none_appended es e ns here.appended);
  }

-- the bytes of copies are those of each
copied_bytes : (dim : ℕ) (es : List Element) (by : Displacement) (ns : List ℕ)
    → flat_map (λ n. spelling (flat (copied (displacing dim by) es n))) ns ≡ all_bytes dim es (edits_at (fence.Copy by) ns)
copied_bytes dim es by [] = refl
copied_bytes dim es by (n ∷ ns) = ap (λ (b : List ℕ). spelling (flat (copied (displacing dim by) es n)) ++ b) (copied_bytes dim es by ns)

-- and roots copied
pub copies_fenced : (dim : ℕ) (es : List Element) (by : Displacement) → IsDimension dim → AllByRecursion (IsWellFormed dim) es → BeginsWithTcb es → IsShift by
    → (ns : List ℕ) → AllByRecursion (λ n. IsAccepted dim es (edit.Copy n by) n) ns → IsFenced dim es (fence.Copy by) ns
copies_fenced dim es by axes each first fits ns able =
    let none : all_puts dim es (edits_at (fence.Copy by) ns) ≡ [] = none_listed (fence.Copy by) (own_puts dim es) ns (λ n. refl) in
    let no_field : fenced_fields dim es (fence.Copy by) ns ≡ [] = none_listed (fence.Copy by) (edited_fields dim es) ns (λ n. refl) in
    let more : List Element = flat (copies dim es (fence.Copy by) ns) in
    let trees : Forest Element = fenced_forest dim es (fence.Copy by) ns in
    let left : IsLeft dim es [] [] more trees = behind_left dim es more trees each first
    (flat-joined (forest row_of es) (copies dim es (fence.Copy by) ns) ∙ ap (λ (l : List Element). l ++ more) (flat-forest row_of es))
    (copies_nest dim es by axes fits each first ns able) (copies_good dim es by axes fits each first ns able) (copies_free dim es by ns) in
    record {
      more = more;
      left = subst (λ (ps : List Put). IsLeft dim es ps (fenced_fields dim es (fence.Copy by) ns) more trees) (sym none)
          (subst (λ (fs : List Field). IsLeft dim es [] fs more trees) (sym no_field) left);
      bytes = copies_spelled dim es by ns ∙ copied_bytes dim es by ns;
      long = copies_long dim es by axes fits each first ns able;
    }

-- an edit of several roots that isn't refused
pub fenced : (f : List ℕ) (dim : ℕ) (es : List Element) (t : List ℕ) (rest : ℕ) (e : FenceEdit) (ns : List ℕ) → IsFenceEdit e → AreRoots es ns
    → Opens f dim es t
    → cause_of_all dim es rest (edits_at e ns) ≡ None → IsFenced dim es e ns
fenced f dim es t rest (fence.Move by) ns fits some opens none =
    in_place_fenced dim (opened_axes f dim es t opens) es opens.each opens.first (moving dim by) (IsReady dim (edit.Move 0 by)) (fence.Move by)
    (moves_in_place dim (opened_axes f dim es t opens) es by fits) ns some
    (each_accepted dim es (fence.Move by) opens.each opens.first rest ns none)
fenced f dim es t rest (fence.Copy by) ns fits some opens none =
    copies_fenced dim es by (opened_axes f dim es t opens) opens.each opens.first fits ns
    (each_accepted dim es (fence.Copy by) opens.each opens.first rest ns none)
fenced f dim es t rest (fence.Sym change) ns fits some opens none =
    in_place_fenced dim (opened_axes f dim es t opens) es opens.each opens.first (recolouring change) (IsReady dim (edit.Sym 0 change)) (fence.Sym change)
    (looks_in_place dim (opened_axes f dim es t opens) es change fits) ns some
    (each_accepted dim es (fence.Sym change) opens.each opens.first rest ns none)
fenced f dim es t rest fence.Delete ns fits some opens none =
    in_place_fenced dim (opened_axes f dim es t opens) es opens.each opens.first deleting (IsReady dim (edit.Delete 0)) fence.Delete
    (marks_in_place dim (opened_axes f dim es t opens) es) ns some
    (each_accepted dim es fence.Delete opens.each opens.first rest ns none)
