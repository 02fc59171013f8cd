-- That the fields of an entry keep the rules has one proof at most, so it may be kept in the type.
use Rattle.std.proofs.Common.{ℕ, ◌+◌, List, [], ◌∷◌, length}
use Rattle.std.proofs.Math.Bridge.{le_prop}
use Rattle.std.proofs.Math.Nat.{ℕ_set}
use Rattle.patch_file.specs.Exchanges.{Exchange, KeepsRules, AllKeepRules}

keeps_prop : (from len : ℕ) (f : Exchange) → IsProp (KeepsRules from len f)
keeps_prop from len f =
    hlevel (
      le_prop {n = 1} {m = length f.was},
      le_prop {n = length f.was} {m = 4},
      ℕ_set,
      le_prop {n = from} {m = f.at},
      le_prop {n = f.at + length f.was} {m = len},
    )

pub rules_prop : (from len : ℕ) (fs : List Exchange) → IsProp (AllKeepRules from len fs)
rules_prop from len [] = hlevel
rules_prop from len (f ∷ fs) = hlevel (keeps_prop from len f, rules_prop (f.at + length f.was) len fs)
