-- Bytes that the system took, by what the desk answers of it.
use Rattle.std.proofs.Common.{◌≡◌, ℕ, ◌<◌, List, [], take, append-nil, Option, Some, None, Result, Ok, Err, IfOk, OnErr, sym, subst, ◌∙◌, arith}
use Rattle.std.specs.Io.KnownBytes.{Appends, Keeps, WriteAppends}
use Rattle.dgn_desk.specs.declared.stop.Stop.{Stop}
use Rattle.dgn_desk.specs.declared.stop.Stop.TheVariants.{Failed}

-- where no byte was appended all stays
keeps_none : (old new : Option (List ℕ)) → Appends old new [] → Keeps old new
keeps_none None new appended = tt
keeps_none (Some xs) None appended = appended
keeps_none (Some xs) (Some ys) appended = appended ∙ append-nil xs

-- what the system took is what the desk tells: a count is told as it is, and where it fails instead nothing was taken
pub moved_through : {E : Type 0} (old new : Option (List ℕ)) (given : Result ℕ E) (result : Result ℕ Stop) (bytes : List ℕ)
    → WriteAppends old new given bytes
    → IfOk given (λ count. 0 < count → result ≡ Ok count)
    → IfOk given (λ count. IfOk result (λ n. n ≡ count))
    → OnErr given (result ≡ Err Failed)
    → WriteAppends old new result bytes
moved_through old new (Ok count) (Ok n) bytes appended told only failed = subst (λ k. Appends old new (take k bytes)) (sym only) appended
moved_through old new (Ok count) (Err stop) bytes appended told only failed =
    let refuted : ¬ (0 < count) = (λ low. let e = told low in cc) in
    let none : count ≡ 0 = omega (arith, refuted) in
    keeps_none old new (subst (λ k. Appends old new (take k bytes)) none appended)
moved_through old new (Err error) (Ok n) bytes appended told only failed = absurd (let e = failed in cc)
moved_through old new (Err error) (Err stop) bytes appended told only failed = appended
