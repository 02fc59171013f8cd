-- A writer that goes over a list and writes the piece of each element.
use Rattle.std.proofs.Common.{ℕ, ◌≡◌, ◌+◌, ◌<◌, ◌≤◌, ◌++◌, List, [], ◌∷◌, length, take, take_all, drop, get_or, Result, Ok, Err, ap, sym, ◌∙◌, append_assoc}
use Rattle.std.specs.Prelude.{IsErr}
use Rattle.std.specs.List.{flat_map}
use Rattle.std.proofs.lemmas.List.{append-nil, take-append-drop, drop_more, take_more}
use Rattle.std.proofs.lemmas.List.Concat.{flat_map-append}
use Rattle.patch_bytes.specs.Fronts.{Appends}
use Rattle.patch_bytes.proofs.Fronts.{behind, stopped, as_text, ended}

-- the pieces of the first elements, so many, are written
pub record HasWritten {X : Type 0} (f : X → List ℕ) (xs : List X) (count : ℕ) (old new : List ℕ) : Type 0 where
  pub text : new ≡ old ++ flat_map f (take count xs)

-- the pieces before that of one element, its own, and those behind it
pieces_at : {X : Type 0} (f : X → List ℕ) (xs : List X) (i : ℕ) (x d : X) → i < length xs → x ≡ get_or xs i d
    → flat_map f (take i xs) ++ (f x ++ flat_map f (drop (i + 1) xs)) ≡ flat_map f xs
pieces_at {X} f xs i x d within is =
    ap (λ (y : X). flat_map f (take i xs) ++ (f y ++ flat_map f (drop (i + 1) xs))) is
    ∙ ap (λ (ys : List X). flat_map f (take i xs) ++ flat_map f ys) (sym (drop_more xs i d within))
    ∙ sym (flat_map-append f (take i xs) (drop i xs)) ∙ ap (flat_map f) (take-append-drop i xs)

-- it stopped within the piece of one element
pub among : {X Y Z E F : Type 0} {e : F} {r : Result Z E} {f : X → List ℕ} {xs : List X} {i : ℕ} {x : X} {old mid new : List ℕ} (d : X)
    → HasWritten f xs i old mid → i < length xs → x ≡ get_or xs i d → Appends {X = Y} {E = F} (Err e) (f x) mid new → IsErr r
    → Appends r (flat_map f xs) old new
among {f = f} {xs = xs} {i = i} {x = x} d before within is piece failed =
    as_text (behind (flat_map f (take i xs)) before.text (stopped (flat_map f (drop (i + 1) xs)) piece failed)) (pieces_at f xs i x d within is)

-- the piece of one element more is written
pub one_more : {X Y E : Type 0} {y : Y} {f : X → List ℕ} {xs : List X} {i : ℕ} {x : X} {old mid new : List ℕ} (d : X)
    → HasWritten f xs i old mid → i < length xs → x ≡ get_or xs i d → Appends {X = Y} {E = E} (Ok y) (f x) mid new → HasWritten f xs (i + 1) old new
one_more {X = X} {f = f} {xs = xs} {i = i} {x = x} {old = old} d before within is piece = record {
  text = piece.text ∙ ap (λ (t : List ℕ). t ++ f x) before.text ∙ append_assoc old (flat_map f (take i xs)) (f x)
      ∙ ap (λ (y : X). old ++ (flat_map f (take i xs) ++ f y)) is
      ∙ ap (λ (t : List ℕ). old ++ (flat_map f (take i xs) ++ t)) (sym (append-nil (f (get_or xs i d))))
      ∙ ap (λ (t : List ℕ). old ++ t) (sym (flat_map-append f (take i xs) (get_or xs i d ∷ [])))
      ∙ ap (λ (ys : List X). old ++ flat_map f ys) (sym (take_more xs i d within));
}

-- the pieces of all elements are written
pub all_written : {X Y E : Type 0} {y : Y} {f : X → List ℕ} {xs : List X} {i : ℕ} {old new : List ℕ} → HasWritten f xs i old new → length xs ≤ i
    → Appends {X = Y} {E = E} (Ok y) (flat_map f xs) old new
all_written {X = X} {y = y} {f = f} {xs = xs} {i = i} {old = old} written whole =
    ended y (written.text ∙ ap (λ (ys : List X). old ++ flat_map f ys) (take_all i xs whole))
