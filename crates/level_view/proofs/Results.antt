-- What an answer gives, in other words.
use Rattle.std.proofs.Common.{◌≡◌, List, ap, ◌∙◌}
use Rattle.std.specs.Prelude.{IfOk, OnOk}
use Rattle.std.specs.declared.option.Option.{Option}
use Rattle.std.specs.declared.result.Result.{Result}
use Rattle.std.specs.declared.result.Result.TheVariants.{Ok, Err}
use Rattle.std.specs.Option.{option_to_list}

pub ok_lists : {A E : Type 0} (r : Result (Option A) E) (o : Option A) (l : List A) → IfOk r (λ found. found ≡ o) → option_to_list o ≡ l
    → IfOk r (λ found. option_to_list found ≡ l)
ok_lists (Ok found) o l is same = ap option_to_list is ∙ same
ok_lists (Err e) o l is same = tt

pub ok_same : {A E : Type 0} (r : Result (Unit {0}) E) (x y z : List A) → OnOk r (x ≡ y) → y ≡ z → OnOk r (x ≡ z)
ok_same (Ok done) x y z is same = is ∙ same
ok_same (Err e) x y z is same = tt
