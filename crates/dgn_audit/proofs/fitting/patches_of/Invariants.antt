use Rattle.std.proofs.Common.{◌≡◌, ◌++◌, reverse}
use Rattle.std.specs.Prelude.{vec_len}
use Rattle.std.specs.List.{AllByRecursion}
use Rattle.elem_index.specs.Design.{elements}
use Rattle.dgn_audit.specs.Fitting.{first_locked, fit_puts}
use Rattle.dgn_audit.specs.Planned.{IsSpotted}
use Rattle.dgn_audit.proofs.fitting.patches_of.Given as goal

-- what is left is locked where all is, and what is put so far and what is put into what is left are all
abbrev pub invariant-fitted : goal.invariant-fitted
invariant-fitted l = record {
  spotted : AllByRecursion (IsSpotted (elements l.d)) (reverse l.fitted.items);
  free : first_locked (elements l.d) (reverse l.fitted.items) ≡ first_locked (elements l.d) (reverse l.fn.fitted.items);
  puts : l.patches ++ fit_puts l.d.dim (elements l.d) (reverse l.fitted.items) ≡ fit_puts l.d.dim (elements l.d) (reverse l.fn.fitted.items);
}

abbrev pub decreases-fitted : goal.decreases-fitted
decreases-fitted l = vec_len l.fitted
