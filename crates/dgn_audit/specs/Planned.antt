-- What the answer of a plan of a fit says.
use Rattle.std.specs.Prelude.{ℕ, ◌≡◌, IsTrue, Option, Some, None, List, slice_get}
use Rattle.dgn_layout.specs.Classes.{class_of}
use Rattle.dgn_layout.specs.Spots.{has_spots}
use Rattle.patch_bytes.specs.Puts.{Put}
use Rattle.dgn_drawing.specs.Element.{Element}
use Rattle.dgn_drawing.specs.Rows.{row_of}
use Rattle.dgn_drawing.specs.Numbering.{root_of, first_broken_of}
use Rattle.dgn_drawing.specs.Spelling.{spelling}
use Rattle.edit_ops.specs.declared.causes.cause.Cause.{Cause}
use Rattle.edit_ops.specs.Applying.{Applied, Done, Refused}
use Rattle.edit_ops.specs.Causes.{broken, deleted}
use Rattle.edit_ops.specs.Fields.{filled}
use Rattle.dgn_audit.specs.declared.fit_fault.FitFault.{FitFault}
use Rattle.dgn_audit.specs.declared.fit_fault.FitFault.TheVariants as faults
use Rattle.dgn_audit.specs.FitCauses.{edit_cause}
use Rattle.dgn_audit.specs.declared.finding.Finding.{Finding}
use Rattle.dgn_audit.specs.Findings.{fitted_in}
use Rattle.dgn_audit.specs.Fitting.{apply_fit, fit_fields, against, first_locked, tree_cause, fit_puts}

-- the fit is done, and the patches are its fields with the bytes that the result has there
pub record IsFitPlan (dim : ℕ) (es : List Element) (n : ℕ) (patches : List Put) : Type 0 where
  pub made : List Element
  pub done : apply_fit dim es n ≡ Done made
  pub are : patches ≡ filled (spelling made) (fit_fields dim es n)

-- the fit is refused with the cause that is told; want of memory says nothing of it
abbrev pub IsFitRefused : Applied → FitFault → Type 0
IsFitRefused applied (faults.Refused cause) = applied ≡ Refused (edit_cause cause)
IsFitRefused applied faults.Memory = Unit {0}

-- it is the cause that is told; want of memory says nothing of it
abbrev pub IsCause : Option Cause → FitFault → Type 0
IsCause found (faults.Refused cause) = found ≡ Some (edit_cause cause)
IsCause found faults.Memory = Unit {0}

-- what is asked of the tree of a root before memory is taken isn't against a fit: the tree holds no broken number, and the
-- root isn't marked deleted
pub record IsRootOpenToFit (es : List Element) (root : ℕ) : Type 0 where
  pub unbroken : broken (first_broken_of row_of es root) ≡ None
  pub live : against deleted root (slice_get es root) ≡ None

-- nor is it against a fit of the tree that holds element n, which there is
pub record IsOpenToFit (es : List Element) (n : ℕ) : Type 0 where
  pub root : ℕ
  pub known : root_of row_of es n ≡ Some root
  pub open_root : IsRootOpenToFit es root

-- there is an element of that number, with coordinates that are read
pub record IsSpotted (es : List Element) (f : Finding) : Type 0 where
  pub element : Element
  pub there : slice_get es f.number ≡ Some element
  pub spotted : IsTrue (has_spots (class_of element.kind))

-- none of these elements is locked, and the patches are what is put into them
pub record ArePatchesOf (dim : ℕ) (es : List Element) (fs : List Finding) (patches : List Put) : Type 0 where
  pub free : first_locked es fs ≡ None
  pub are : patches ≡ fit_puts dim es fs

-- nothing is against a fit of the tree of a root, and the patches are what is put into its fitted elements
pub record IsPlanOfRoot (dim : ℕ) (es : List Element) (root : ℕ) (patches : List Put) : Type 0 where
  pub free : tree_cause dim es root ≡ None
  pub are : patches ≡ fit_puts dim es (fitted_in dim es root)
