-- What holds of each item of a list, by what is before one, that one, and what is behind it.
use Rattle.std.proofs.Common.{ℕ, ◌≡◌, ◌+◌, ◌<◌, List, [], ◌∷◌, ◌++◌, length, take, drop, map, get_or, ap, sym, ◌∙◌, subst}
use Rattle.std.specs.List.{AllByRecursion}
use Rattle.std.proofs.lemmas.List.{take-append-drop, drop_more, map-append}

pub all_at : {X : Type 0} (P : X → Type 0) (xs : List X) (x : X) (ys : List X) → AllByRecursion P (xs ++ x ∷ ys) → P x
all_at P [] x ys h = h.0
all_at P (y ∷ xs) x ys h = all_at P xs x ys h.1

pub parts_at : {X : Type 0} (xs : List X) (i : ℕ) (x : X) → i < length xs → x ≡ get_or xs i x → xs ≡ take i xs ++ x ∷ drop (i + 1) xs
parts_at {X} xs i x within is =
    sym (take-append-drop i xs) ∙ ap (λ (r : List X). take i xs ++ r) (drop_more xs i x within) ∙ ap (λ (y : X). take i xs ++ y ∷ drop (i + 1) xs) (sym is)

-- the same of what a map makes of the items
pub maps_at : {X Y : Type 0} (g : X → Y) (P : Y → Type 0) (xs : List X) (i : ℕ) (x : X) → i < length xs → x ≡ get_or xs i x → AllByRecursion P (map g xs)
    → P (g x)
maps_at {X} g P xs i x within is all =
    let parts : map g xs ≡ map g (take i xs) ++ g x ∷ map g (drop (i + 1) xs) =
    ap (map g) (parts_at xs i x within is) ∙ map-append g (take i xs) (x ∷ drop (i + 1) xs) in
    all_at P (map g (take i xs)) (g x) (map g (drop (i + 1) xs)) (subst (AllByRecursion P) parts all)
