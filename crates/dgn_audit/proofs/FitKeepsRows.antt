-- What a fit keeps: the rows of all elements and so how they nest, that they are well formed, and the first of them.
use Rattle.std.proofs.Common.{◌≡◌, ℕ, zero, suc, ◌+◌, ◌<◌, List, [], ◌∷◌, ◌++◌, length, drop, map, get_or, Option, Some, None, cond, refl, sym, ap, ◌∙◌}
use Rattle.std.proofs.Common.{subst, arith}
use Rattle.std.specs.List.{AllByRecursion}
use Rattle.std.proofs.lemmas.Bool.{cond_both}
use Rattle.std.proofs.lemmas.List.Elements.{recursion_from_All}
use Rattle.patch_bytes.specs.Puts.{Put, write, Span, AreWithin}
use Rattle.patch_bytes.proofs.PutsLaid.{write_other}
use Rattle.patch_bytes.proofs.RisingPuts.{span_within}
use Rattle.range_code.specs.declared.Box3.{Box3}
use Rattle.dgn_drawing.specs.declared.row.Row.{Row}
use Rattle.dgn_drawing.specs.Element.{Body, Silent, Shown, Element, form_of_body}
use Rattle.dgn_drawing.specs.Spelling.{spelling}
use Rattle.dgn_drawing.specs.WellFormed.{IsDimension, IsWellFormed}
use Rattle.dgn_drawing.specs.Rows.{row_of}
use Rattle.dgn_drawing.specs.Nesting.{Leaf, Forest, NoTree, Tree, flat, forest, forest_map, itself}
use Rattle.dgn_drawing.specs.Numbering.{root_of}
use Rattle.dgn_drawing.specs.Opening.{dimension, IsTcb, BeginsWithTcb, Opens}
use Rattle.dgn_drawing.proofs.FirstElements.{dimension_is}
use Rattle.nest_tree.proofs.NestingSteps.{flat-forest}
use Rattle.nest_tree.proofs.ByRows.{forest_rows, flat-map}
use Rattle.nest_tree.proofs.SameTrees.{known}
use Rattle.edit_ops.specs.Trees.{tree_at, exchange, Live, above_tree}
use Rattle.edit_ops.specs.Fields.{Field, IsIn, Rise, filled}
use Rattle.edit_ops.proofs.EachLive.{each_first, each_last, tree_each, above_tree_each}
use Rattle.edit_ops.proofs.RowsKept.{exchange_looks, exchange_each}
use Rattle.edit_ops.proofs.FirstElement.{BeginsWith, begins_as, first_stays}
use Rattle.edit_ops.proofs.PutFields.{held_by_none}
use Rattle.edit_ops.proofs.TextTurns.{whole_turned, whole_span}
use Rattle.edit_ops.proofs.LivePuts.{field_of}
use Rattle.edit_ops.specs.declared.causes.cause.Cause.{Cause}
use Rattle.edit_ops.specs.Applying.{Done, applied_unless}
use Rattle.dgn_audit.specs.Hulls.{hull_in, tree_hull, hull_of}
use Rattle.dgn_audit.specs.Findings.{fitted_in}
use Rattle.dgn_audit.specs.Fitting.{head_fitted, fitted, fitted_forest, fit_puts, root_fields, fit_fields, tree_cause, fit_root, apply_fit}
use Rattle.dgn_audit.specs.Laws.{FitsItsFields, FittedDrawingsOpen, FitsChangeTheirFields}
use Rattle.dgn_audit.proofs.FittedBytes.{head_put, tree_good, hulls_good, fitted_each, drawing_turned, puts_filled, puts_fields}
use Rattle.dgn_audit.proofs.TreePlaces.{root_known}
use Rattle.dgn_audit.proofs.FitFieldsRise.{fitted_lie, fitted_in_tree}
use Rattle.dgn_audit.proofs.ElementHulls.{shown_apart}

module _ (dim : ℕ) (axes : IsDimension dim) where
  -- fitted trees have the rows of the old ones
  pub fitted_looks : (f : Forest Element) → AllByRecursion (IsWellFormed dim) (flat f) → forest_map row_of (fitted dim f) ≡ forest_map row_of f
  fitted_looks NoTree each = refl
  fitted_looks (Tree knot e below behind) each =
      let in_below = each_first (IsWellFormed dim) (flat below) (flat behind) each.1 in
      let in_behind = each_last (IsWellFormed dim) (flat below) (flat behind) each.1 in
      let put = head_put dim axes knot e (hull_of dim below) (tree_hull dim knot e (hull_of dim below)) refl
      (tree_good dim knot e (hull_of dim below) each.0 (hulls_good dim below in_below)) each.0 in
      let inner : forest_map row_of (cond e.deleted below (fitted dim below)) ≡ forest_map row_of below =
      cond_both e.deleted below (fitted dim below) (λ (g : Forest Element). forest_map row_of g ≡ forest_map row_of below) (λ _. refl)
      (λ _. fitted_looks below in_below) in
      ap (λ (r : Row). Tree knot r (forest_map row_of (cond e.deleted below (fitted dim below))) (forest_map row_of (fitted dim behind))) put.row
      ∙ ap (λ (g : Forest Row). Tree knot (row_of e) g (forest_map row_of (fitted dim behind))) inner
      ∙ ap (λ (g : Forest Row). Tree knot (row_of e) (forest_map row_of below) g) (fitted_looks behind in_behind)

-- headers stay
stays_so : {B : Type 0} (f : Element → B) (vs : List Live) → AllByRecursion (λ (v : Live). f v.element ≡ f v.element) vs
stays_so f [] = tt
stays_so f (v ∷ vs) = (refl, stays_so f vs)

-- a silent element has no hull, so it stays
silent_stays : (dim : ℕ) (x : Element) (b : Body) → form_of_body b ≡ form_of_body (Silent []) → (members : Option Box3)
    → hull_in dim Leaf x.kind b members ≡ None
silent_stays dim x (Silent rest) is members = refl
silent_stays dim x (Shown d parts rest) is members = absurd (shown_apart parts is)

-- the first element stays, which is silent
begins_so : (dim : ℕ) (x : Element) (xs : List Element) (n : ℕ) → IsTcb x
    → BeginsWith x (flat (exchange (λ header. header) (fitted dim) n (forest row_of (x ∷ xs))))
begins_so dim x xs zero tcb =
    let none : tree_hull dim Leaf x None ≡ None =
    cond_both x.deleted None (hull_in dim Leaf x.kind x.body None) (λ (o : Option Box3). o ≡ None) (λ _. refl)
    (λ _. silent_stays dim x x.body tcb.silent None) in
    record {
      behind = drop 1 (flat (exchange (λ header. header) (fitted dim) 0 (forest row_of (x ∷ xs))));
      is = ap (λ (o : Option Box3). head_fitted dim Leaf x o ∷ drop 1 (flat (exchange (λ header. header) (fitted dim) 0 (forest row_of (x ∷ xs))))) none;
    }
begins_so dim x xs (suc n) tcb = first_stays x xs (suc n) (λ header. header) (fitted dim) (omega arith)

-- what rises as puts rises as fields
pub span_rise : (n m : ℕ) (ps : List Put) → Span n ps m → Rise n (map field_of ps) m
span_rise n m [] span = span
span_rise n m (p ∷ ps) span = (span.0, span_rise (p.at + length p.bytes) m ps span.1)

-- a fit that is done has a root
pub record IsDoneAt (dim : ℕ) (es : List Element) (n : ℕ) (made : List Element) : Type 0 where
  pub root : ℕ
  pub at : root_of row_of es n ≡ Some root
  pub known : root < length es
  pub is : made ≡ flat (fitted_forest dim es root)

unless_done : (c : Option Cause) (x made : List Element) → applied_unless c x ≡ Done made → made ≡ x
unless_done None x made is = let e = is in cc
unless_done (Some c) x made is = absurd (let e = is in cc)

pub done_at : (dim : ℕ) (es : List Element) (n : ℕ) (made : List Element) → apply_fit dim es n ≡ Done made → IsDoneAt dim es n made
done_at dim es n made done = by_root (root_of row_of es n) refl done
  where
    by_root : (o : Option ℕ) → root_of row_of es n ≡ o → fit_root dim es n o ≡ Done made → IsDoneAt dim es n made
    by_root None at is = absurd (let e = is in cc)
    by_root (Some root) at is = record {
      root = root;
      at = at;
      known = root_known es n root (sym at);
      is = unless_done (tree_cause dim es root) (flat (fitted_forest dim es root)) made is;
    }

module _ (f : List ℕ) (dim : ℕ) (es : List Element) (t : List ℕ) (opens : Opens f dim es t) (n : ℕ) (known_n : n < length es) where
  pub axes_of : IsDimension dim
  axes_of = subst IsDimension (sym opens.axes) (dimension_is f)

  good_trees : AllByRecursion (IsWellFormed dim) (flat (forest row_of es))
  good_trees = subst (AllByRecursion (IsWellFormed dim)) (sym (flat-forest row_of es)) opens.each

  good_tree : AllByRecursion (IsWellFormed dim) (flat (tree_at n (forest row_of es)))
  good_tree = tree_each (IsWellFormed dim) n (forest row_of es) good_trees

  -- the drawing with the part of element n fitted: its elements are well formed
  pub made_each : AllByRecursion (IsWellFormed dim) (flat (fitted_forest dim es n))
  made_each =
      exchange_each (λ header. header) (fitted dim) (IsWellFormed dim) n 0 0 (forest row_of es) good_trees (above_tree_each (IsWellFormed dim) es n opens.each)
      (fitted_each dim axes_of (tree_at n (forest row_of es)) good_tree)

  trees_kept : forest_map row_of (fitted_forest dim es n) ≡ forest_map row_of (forest row_of es)
  trees_kept =
      exchange_looks (λ header. header) (fitted dim) row_of n 0 0 (forest row_of es) (stays_so row_of (above_tree es n))
      (fitted_looks dim axes_of (tree_at n (forest row_of es)) good_tree)

  -- no row changes
  pub made_rows : map row_of (flat (fitted_forest dim es n)) ≡ map row_of es
  made_rows = sym (flat-map row_of (fitted_forest dim es n)) ∙ ap flat trees_kept ∙ flat-map row_of (forest row_of es) ∙ ap (map row_of) (flat-forest row_of es)

  -- so they nest as the fitted trees
  pub made_nested : forest row_of (flat (fitted_forest dim es n)) ≡ fitted_forest dim es n
  made_nested = sym (known row_of (fitted_forest dim es n) (trees_kept ∙ forest_rows row_of es ∙ ap (forest itself) (sym made_rows)))

  begins : (l : List Element) → l ≡ es → BeginsWithTcb l → BeginsWithTcb (flat (fitted_forest dim es n))
      × (dimension (spelling (flat (fitted_forest dim es n)) ++ t) ≡ dimension (spelling es ++ t))
  begins [] is first = absurd first
  begins (x ∷ xs) is first =
      let each : AllByRecursion (IsWellFormed dim) (x ∷ xs) = subst (AllByRecursion (IsWellFormed dim)) (sym is) opens.each in
      subst (λ (l : List Element). BeginsWithTcb (flat (fitted_forest dim l n))
      × (dimension (spelling (flat (fitted_forest dim l n)) ++ t) ≡ dimension (spelling l ++ t))) is
      (begins_as dim x xs (flat (fitted_forest dim (x ∷ xs) n)) t axes_of each.0 first (begins_so dim x xs n first))

  -- they open with the tail
  pub made_opens : Opens (spelling (flat (fitted_forest dim es n)) ++ t) dim (flat (fitted_forest dim es n)) t
  made_opens =
      let first = begins es refl opens.first in
      record {
        whole = refl;
        each = made_each;
        first = first.0;
        tail = opens.tail;
        axes = opens.axes ∙ ap dimension opens.whole ∙ sym first.1;
      }

-- a fitted drawing opens
pub fitted_opens : FittedDrawingsOpen
fitted_opens f dim es t n made opens done =
    let at = done_at dim es n made done in
    subst (λ (l : List Element). Opens (spelling l ++ t) dim l t) (sym at.is) (made_opens f dim es t opens at.root at.known)

-- and is written by its fields alone
pub fits_change : FitsChangeTheirFields
fits_change f dim es t n made opens done =
    let at = done_at dim es n made done in
    let axes : IsDimension dim = axes_of f dim es t opens at.root at.known in
    let turned = drawing_turned dim axes es opens.each at.root at.known in
    let span : Span 0 (fit_puts dim es (fitted_in dim es at.root)) (length (spelling es)) =
    whole_span (spelling es) (spelling (flat (fitted_forest dim es at.root))) (fit_puts dim es (fitted_in dim es at.root)) turned in
    let bytes : write (spelling es) (fit_puts dim es (fitted_in dim es at.root)) ≡ spelling (flat (fitted_forest dim es at.root)) =
    whole_turned (spelling es) (spelling (flat (fitted_forest dim es at.root))) (fit_puts dim es (fitted_in dim es at.root)) turned in
    let fields : map field_of (fit_puts dim es (fitted_in dim es at.root)) ≡ fit_fields dim es n =
    puts_fields dim es (fitted_in dim es at.root) ∙ ap (root_fields dim es) (sym at.at) in
    let fill : fit_puts dim es (fitted_in dim es at.root) ≡ filled (spelling (flat (fitted_forest dim es at.root))) (fit_fields dim es n) =
    puts_filled dim axes es opens.each at.root at.known
    ∙ ap (λ (o : Option ℕ). filled (spelling (flat (fitted_forest dim es at.root))) (root_fields dim es o)) (sym at.at) in
    let within : AreWithin (length (spelling es)) (fit_puts dim es (fitted_in dim es at.root)) =
    span_within (length (spelling es)) (fit_puts dim es (fitted_in dim es at.root)) 0 span in
    subst (FitsItsFields dim es n) (sym at.is) (record {
      stays = λ k below all.
          let free : AllByRecursion (λ (x : Field). ¬ IsIn x k) (map field_of (fit_puts dim es (fitted_in dim es at.root))) =
          subst (AllByRecursion (λ (x : Field). ¬ IsIn x k)) (sym fields) (recursion_from_All (λ (x : Field). ¬ IsIn x k) (fit_fields dim es n) all) in
          ap (λ (b : List ℕ). get_or b k 0) (sym bytes)
          ∙ write_other (spelling es) (fit_puts dim es (fitted_in dim es at.root)) k 0 within
          (held_by_none k (fit_puts dim es (fitted_in dim es at.root)) free);
      written = sym bytes ∙ ap (write (spelling es)) fill;
      long = sym turned.same;
      rows = made_rows f dim es t opens at.root at.known;
      nested = λ root is.
          let same : at.root ≡ root = (let one = at.at in let two = is in cc) in
          made_nested f dim es t opens at.root at.known ∙ ap (fitted_forest dim es) same;
      rise = subst (λ (fs : List Field). Rise 0 fs (length (spelling es))) fields
          (span_rise 0 (length (spelling es)) (fit_puts dim es (fitted_in dim es at.root)) span);
      in_tree = λ root end is spanned. fitted_in_tree dim axes es opens.each n root end is spanned;
      within = λ root is. fitted_lie dim axes es opens.each n root is;
    })
