-- A writer that goes over consecutive numbers and writes the text of each.
use Rattle.std.proofs.Common.{ℕ, zero, suc, ◌≡◌, ◌+◌, ◌-◌, ◌≤◌, ◌<◌, ◌++◌, List, Result, Ok, Err, sym, ap, ◌∙◌, arith, append_assoc}
use Rattle.std.specs.Prelude.{IsErr}
use Rattle.std.proofs.lemmas.List.{append-nil}
use Rattle.patch_bytes.proofs.Fronts.{behind, stopped, as_text, ended}
use Rattle.dgn_listing.specs.Lines.{texts_from, Appends}

-- the texts of the numbers from one on and before another are written
pub record HasCounted (text_of : ℕ → List ℕ) (first end : ℕ) (old new : List ℕ) : Type 0 where
  pub text : new ≡ old ++ texts_from text_of first (end - first)

-- the texts of the first numbers, and then those of the others
texts-split : (text : ℕ → List ℕ) (n i j : ℕ) → texts_from text n (i + j) ≡ texts_from text n i ++ texts_from text (n + i) j
texts-split text n zero j =
    let count : zero + j ≡ j = omega arith in
    let start : n ≡ n + zero = omega arith in
    ap (texts_from text n) count ∙ ap (λ (m : ℕ). texts_from text m j) start
texts-split text n (suc i) j =
    let count : suc i + j ≡ suc (i + j) = omega arith in
    let start : n + 1 + i ≡ n + suc i = omega arith in
    ap (texts_from text n) count
    ∙ ap (λ (t : List ℕ). text n ++ t) (texts-split text (n + 1) i j ∙ ap (λ (m : ℕ). texts_from text (n + 1) i ++ texts_from text m j) start)
    ∙ sym (append_assoc (text n) (texts_from text (n + 1) i) (texts_from text (n + suc i) j))

-- none is written yet
pub none_counted : (text : ℕ → List ℕ) (n : ℕ) (old : List ℕ) → HasCounted text n n old old
none_counted text n old =
    let none : n - n ≡ 0 = omega arith in
    record { text = sym (ap (λ (k : ℕ). old ++ texts_from text n k) none ∙ append-nil old) }

-- the text of one number more is written
pub one_counted : {Y E : Type 0} {y : Y} {text : ℕ → List ℕ} {n k : ℕ} {old mid new : List ℕ} → HasCounted text n k old mid → n ≤ k
    → Appends {X = Y} {E = E} (Ok y) (text k) mid new → HasCounted text n (k + 1) old new
one_counted {text = text} {n = n} {k = k} {old = old} before from piece =
    let count : (k - n) + 1 ≡ k + 1 - n = omega arith in
    let here : k ≡ n + (k - n) = omega arith in
    record {
      text = piece.text ∙ ap (λ (t : List ℕ). t ++ text k) before.text ∙ append_assoc old (texts_from text n (k - n)) (text k)
          ∙ ap (λ (t : List ℕ). old ++ (texts_from text n (k - n) ++ t)) (sym (append-nil (text k)))
          ∙ ap (λ (m : ℕ). old ++ (texts_from text n (k - n) ++ texts_from text m 1)) here
          ∙ ap (λ (t : List ℕ). old ++ t) (sym (texts-split text n (k - n) 1)) ∙ ap (λ (m : ℕ). old ++ texts_from text n m) count;
    }

-- it stopped within the text of one number
pub among_counted : {Y Z E F : Type 0} {e : F} {r : Result Z E} {text : ℕ → List ℕ} {n k : ℕ} {old mid new : List ℕ} (count : ℕ) → HasCounted text n k old mid
    → n ≤ k → k < n + count → Appends {X = Y} {E = F} (Err e) (text k) mid new → IsErr r → Appends r (texts_from text n count) old new
among_counted {text = text} {n = n} {k = k} count before from within piece failed =
    let parts : (k - n) + suc (count - (k - n) - 1) ≡ count = omega arith in
    let here : k ≡ n + (k - n) = omega arith in
    as_text (behind (texts_from text n (k - n)) before.text (stopped (texts_from text (k + 1) (count - (k - n) - 1)) piece failed))
    (ap (λ (m : ℕ). texts_from text n (k - n) ++ (text m ++ texts_from text (m + 1) (count - (k - n) - 1))) here
    ∙ sym (texts-split text n (k - n) (suc (count - (k - n) - 1))) ∙ ap (texts_from text n) parts)

-- the texts of all numbers are written
pub all_counted : {Y E : Type 0} {y : Y} {text : ℕ → List ℕ} {n k : ℕ} {old new : List ℕ} (count : ℕ) → HasCounted text n k old new → k ≡ n + count
    → Appends {X = Y} {E = E} (Ok y) (texts_from text n count) old new
all_counted {y = y} {text = text} {n = n} {k = k} {old = old} count written whole =
    let same : k - n ≡ count = omega arith in
    ended y (written.text ∙ ap (λ (m : ℕ). old ++ texts_from text n m) same)
