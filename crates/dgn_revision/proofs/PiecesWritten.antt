-- Puts that turn one piece of an element's bytes into another, and how such pieces join.
use Rattle.std.proofs.Common.{◌≡◌, ℕ, ◌+◌, List, [], ◌∷◌, ◌++◌, length, take, drop, refl, sym, ap, ◌∙◌, subst, append_assoc, arith, length-append}
use Rattle.std.proofs.lemmas.List.{append-nil, take-append-drop, length-take-le}
use Rattle.std.proofs.Common.{length-drop}
use Rattle.patch_bytes.specs.Puts.{Put, write, Span}
use Rattle.patch_bytes.proofs.PutsLaid.{write-append}
use Rattle.patch_bytes.proofs.RisingPuts.{span_more}
use Rattle.dgn_drawing.proofs.Pieces.{lay-over}
use Rattle.dgn_revision.specs.RevisionPuts.{pieces}

-- the puts rise in the piece x at place p, and turn it into y
pub record Writes (p : ℕ) (x : List ℕ) (ps : List Put) (y : List ℕ) : Type 0 where
  pub same : length x ≡ length y
  pub rises : Span p ps (p + length x)
  pub writes : (a b : List ℕ) → length a ≡ p → write (a ++ (x ++ b)) ps ≡ a ++ (y ++ b)

-- no put turns nothing
pub writes_none : (p : ℕ) (x : List ℕ) → Writes p x [] x
writes_none p x = record { same = refl; rises = omega arith; writes = λ a b long. refl }

-- one put turns what it covers
pub writes_one : (p : ℕ) (x y : List ℕ) → length x ≡ length y → Writes p x (record { at = p; bytes = y } ∷ []) y
writes_one p x y same = record { same = same; rises = (omega arith, omega (arith, same)); writes = λ a b long. lay-over a x b y p long same }

-- one piece behind another
pub writes_then : (p q : ℕ) (x x' y y' : List ℕ) (ps qs : List Put) → q ≡ p + length x → Writes p x ps y → Writes q x' qs y'
    → Writes p (x ++ x') (ps ++ qs) (y ++ y')
writes_then p q x x' y y' ps qs at one two =
    let long = length-append x x' in
    let new_long = length-append y y' in
    let same = one.same in
    let same' = two.same in
    let end : q + length x' ≡ p + length (x ++ x') = omega arith in
    let from : Span q qs (p + length (x ++ x')) = subst (λ (k : ℕ). Span q qs k) end two.rises in
    record {
      same = omega arith;
      rises = span_more (p + length x) (p + length (x ++ x')) ps qs p one.rises (subst (λ (k : ℕ). Span k qs (p + length (x ++ x'))) at from);
      writes = λ a b is.
          let there : length (a ++ y) ≡ q = length-append a y ∙ omega arith in
          ap (λ (z : List ℕ). write (a ++ z) (ps ++ qs)) (append_assoc x x' b)
          ∙ write-append (a ++ (x ++ (x' ++ b))) ps qs
          ∙ ap (λ (z : List ℕ). write z qs) (one.writes a (x' ++ b) is ∙ sym (append_assoc a y (x' ++ b)))
          ∙ two.writes (a ++ y) b there
          ∙ append_assoc a y (y' ++ b)
          ∙ ap (λ (z : List ℕ). a ++ z) (sym (append_assoc y y' b));
    }

-- the same, said otherwise
pub writes_as : {p : ℕ} {x x' y y' : List ℕ} {ps : List Put} → x ≡ x' → y ≡ y' → Writes p x ps y → Writes p x' ps y'
writes_as {p} {x} {x'} {y} {y'} {ps} e f one =
    subst (λ (z : List ℕ). Writes p z ps y') e (subst (λ (z : List ℕ). Writes p x ps z) f one)

-- with bytes that stay before it, and with bytes that stay behind it
pub writes_behind : (p q : ℕ) (front x y : List ℕ) (ps : List Put) → q ≡ p + length front → Writes q x ps y → Writes p (front ++ x) ps (front ++ y)
writes_behind p q front x y ps at one = writes_then p q front x front y [] ps at (writes_none p front) one

pub writes_before : (p : ℕ) (x y behind : List ℕ) (ps : List Put) → Writes p x ps y → Writes p (x ++ behind) ps (y ++ behind)
writes_before p x y behind ps one =
    subst (λ (qs : List Put). Writes p (x ++ behind) qs (y ++ behind)) (append-nil ps)
    (writes_then p (p + length x) x behind y behind ps [] refl one (writes_none (p + length x) behind))

-- bytes in pieces of four, over as many
pub writes_pieces : (p : ℕ) (old new : List ℕ) → length old ≡ length new → Writes p old (pieces p new) new
writes_pieces p [] [] same = writes_none p []
writes_pieces p (x ∷ old) [] same = absurd (omega arith)
writes_pieces p old (a ∷ []) same = writes_one p old (a ∷ []) same
writes_pieces p old (a ∷ b ∷ []) same = writes_one p old (a ∷ b ∷ []) same
writes_pieces p old (a ∷ b ∷ c ∷ []) same = writes_one p old (a ∷ b ∷ c ∷ []) same
writes_pieces p old (a ∷ b ∷ c ∷ d ∷ more) same =
    let four : length (take 4 old) ≡ 4 = length-take-le 4 old (omega arith) in
    let left : length (drop 4 old) ≡ length more = length-drop 4 old ∙ omega arith in
    writes_as (take-append-drop 4 old) refl
    (writes_then p (p + 4) (take 4 old) (drop 4 old) (a ∷ b ∷ c ∷ d ∷ []) more (record { at = p; bytes = a ∷ b ∷ c ∷ d ∷ [] } ∷ []) (pieces (p + 4) more)
    (omega arith) (writes_one p (take 4 old) (a ∷ b ∷ c ∷ d ∷ []) four) (writes_pieces (p + 4) (drop 4 old) more left))
