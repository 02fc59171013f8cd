use Rattle.std.proofs.Common.{rules}
use Rattle.body_text.proofs.text.Goals as goal

pub returns-clause-chars : goal.returns-clause-chars
returns-clause-chars g c = search rules

pub returns-then-b-end-clause-fits : goal.returns-then-b-end-clause-fits
returns-then-b-end-clause-fits g c = search rules

pub slice_bounds-result-end : goal.slice_bounds-result-end
slice_bounds-result-end g c = search rules

pub returns-clause-origin : goal.returns-clause-origin
returns-clause-origin g c = search rules
