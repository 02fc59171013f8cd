use Rattle.std.proofs.Common.{ℕ, List, sym, ap, ◌∙◌}
use Rattle.elem_index.proofs.Places.{body_is}
use Rattle.dgn_import.specs.Seconds.{Drawing, as_second}
use Rattle.dgn_import.proofs.second.read_second.Goals as goal

pub returns-in_ok-nest-in-Ok-clause-value : goal.returns-in_ok-nest-in-Ok-clause-value
returns-in_ok-nest-in-Ok-clause-value c =
    sym (ap as_second c.in-Ok.ensures.opening
    ∙ ap (λ (b : List ℕ). Drawing c.in-Ok.design.dim b c.in-Ok.design.tail.items) (body_is c.in-Ok.design c.in-Ok.ensures.whole))
