-- What words name, one by one.
use Rattle.std.proofs.Common.{◌≡◌, List, [], ◌∷◌, ◌++◌, Option, Some, None, refl, ap, append_assoc}
use Rattle.std.specs.List.{AllByRecursion}
use Rattle.edit_script.specs.Words.{before_all}

-- values that were read before, and the reading of the rest
abbrev pub behind_all : {X : Type 0} → List X → Option (List X) → Option (List X)
behind_all front None = None
behind_all front (Some rest) = Some (front ++ rest)

-- a value more, behind those before
pub behind-append : {X : Type 0} (front : List X) (x : X) (rest : Option (List X))
    → behind_all (front ++ x ∷ []) rest ≡ behind_all front (before_all (Some x) rest)
behind-append front x None = refl
behind-append front x (Some rest) = ap Some (append_assoc front (x ∷ []) rest)

-- one value more behind those of which a fact holds
pub each_one : {X : Type 0} (P : X → Type 0) (front : List X) (x : X) → AllByRecursion P front → P x → AllByRecursion P (front ++ x ∷ [])
each_one P [] x each one = (one, tt)
each_one P (y ∷ front) x each one = (each.0, each_one P front x each.1 one)
