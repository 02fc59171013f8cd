-- The causes and the faults of a fit as those of an edit, of the same names.
use Rattle.edit_ops.specs.declared.causes.cause.Cause.{Cause}
use Rattle.edit_ops.specs.declared.causes.cause.Cause.TheVariants as causes
use Rattle.edit_ops.specs.declared.causes.edit_fault.EditFault.{EditFault}
use Rattle.edit_ops.specs.declared.causes.edit_fault.EditFault.TheVariants as faults
use Rattle.dgn_audit.specs.declared.fit_cause.FitCause.{FitCause}
use Rattle.dgn_audit.specs.declared.fit_cause.FitCause.TheVariants as fit
use Rattle.dgn_audit.specs.declared.fit_fault.FitFault.{FitFault}
use Rattle.dgn_audit.specs.declared.fit_fault.FitFault.TheVariants as fit_faults

abbrev pub edit_cause : FitCause → Cause
edit_cause (fit.Unknown n) = causes.Unknown n
edit_cause (fit.Broken m) = causes.Broken m
edit_cause (fit.Deleted m) = causes.Deleted m
edit_cause (fit.Locked m) = causes.Locked m

abbrev pub edit_fault : FitFault → EditFault
edit_fault (fit_faults.Refused cause) = faults.Refused (edit_cause cause)
edit_fault fit_faults.Memory = faults.Memory
