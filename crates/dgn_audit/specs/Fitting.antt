-- What a fit comes to: the stored range of each fitted element of one tree replaced by its hull, or the first cause
-- against it.
use Rattle.std.specs.Prelude.{ℕ, if◌then◌else◌, Option, Some, None, List, [], ◌∷◌, slice_get}
use Rattle.std.specs.List.{flat_map}
use Rattle.std.specs.Option.{option_or}
use Rattle.range_code.specs.declared.Box3.{Box3}
use Rattle.dgn_layout.specs.Spots.{range_spots}
use Rattle.patch_bytes.specs.Puts.{Put}
use Rattle.dgn_drawing.specs.Element.{Element}
use Rattle.dgn_drawing.specs.Rows.{row_of}
use Rattle.dgn_drawing.specs.Changes.{with_range}
use Rattle.dgn_drawing.specs.SpotNumbers.{range_puts}
use Rattle.dgn_drawing.specs.Nesting.{Knot, Forest, NoTree, Tree, flat, forest}
use Rattle.dgn_drawing.specs.Numbering.{root_of, first_broken_of}
use Rattle.elem_index.specs.Offsets.{offset_of}
use Rattle.edit_ops.specs.Trees.{exchange}
use Rattle.edit_ops.specs.declared.causes.cause.Cause.{Cause}
use Rattle.edit_ops.specs.declared.causes.cause.Cause.TheVariants as causes
use Rattle.edit_ops.specs.Causes.{broken, deleted, locked}
use Rattle.edit_ops.specs.Applying.{Applied, Refused, applied_unless}
use Rattle.edit_ops.specs.Fields.{Field, spot_fields}
use Rattle.dgn_audit.specs.declared.finding.Finding.{Finding}
use Rattle.dgn_audit.specs.Hulls.{tree_hull, hull_of}
use Rattle.dgn_audit.specs.Findings.{is_fitted, fitted_in}

-- a live element, by its hull: where it can be fitted and has a hull, with that as its range
abbrev pub head_fitted : ℕ → Knot → Element → Option Box3 → Element
head_fitted dim knot e None = e
head_fitted dim knot e (Some hull) = if is_fitted knot e.kind then with_range dim hull e else e

-- the trees with each fitted element fitted to its hull
abbrev pub fitted : ℕ → Forest Element → Forest Element
fitted dim NoTree = NoTree
fitted dim (Tree knot e below behind) =
    Tree knot (head_fitted dim knot e (tree_hull dim knot e (hull_of dim below))) (if e.deleted then below else fitted dim below) (fitted dim behind)

-- all trees, with those of the part of element n fitted
abbrev pub fitted_forest : ℕ → List Element → ℕ → Forest Element
fitted_forest dim es n = exchange (λ header. header) (fitted dim) n (forest row_of es)

-- what stands against an element, where there is one
abbrev pub against : (ℕ → Element → Option Cause) → ℕ → Option Element → Option Cause
against cause m (Some e) = cause m e
against cause m None = None

-- it is locked
abbrev pub lock_cause : ℕ → Element → Option Cause
lock_cause m e = locked m e.body

-- the first of these elements that is
abbrev pub first_locked : List Element → List Finding → Option Cause
first_locked es [] = None
first_locked es (f ∷ fs) = option_or (against lock_cause f.number (slice_get es f.number)) (first_locked es fs)

-- the first cause against a fit of the tree of a root: it holds a broken number, its root is marked deleted, or a fitted
-- element is locked
abbrev pub tree_cause : ℕ → List Element → ℕ → Option Cause
tree_cause dim es root =
    option_or (broken (first_broken_of row_of es root))
    (option_or (against deleted root (slice_get es root)) (first_locked es (fitted_in dim es root)))

-- what a fit of the tree of a root comes to, if there is one
abbrev pub fit_root : ℕ → List Element → ℕ → Option ℕ → Applied
fit_root dim es n None = Refused (causes.Unknown n)
fit_root dim es n (Some root) = applied_unless (tree_cause dim es root) (flat (fitted_forest dim es root))

-- a fit of the tree that holds element n
abbrev pub apply_fit : ℕ → List Element → ℕ → Applied
apply_fit dim es n = fit_root dim es n (root_of row_of es n)

-- the fields of a fit of the tree of a root, if there is one: the range spots of each fitted element
abbrev pub root_fields : ℕ → List Element → Option ℕ → List Field
root_fields dim es None = []
root_fields dim es (Some root) = flat_map (λ f. spot_fields (offset_of es f.number) (range_spots dim)) (fitted_in dim es root)

-- those of a fit of the tree that holds element n
abbrev pub fit_fields : ℕ → List Element → ℕ → List Field
fit_fields dim es n = root_fields dim es (root_of row_of es n)

-- what is put into fitted elements
abbrev pub fit_puts : ℕ → List Element → List Finding → List Put
fit_puts dim es fs = flat_map (λ f. range_puts dim f.hull (offset_of es f.number)) fs
