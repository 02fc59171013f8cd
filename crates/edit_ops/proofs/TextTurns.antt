-- A piece of text that puts turn into another, and how such pieces join.
use Rattle.std.proofs.Common.{◌≡◌, ℕ, ◌+◌, List, [], ◌∷◌, ◌++◌, length, take, drop, map, refl, sym, ap, ◌∙◌, subst, append_assoc, arith, length-append}
use Rattle.std.proofs.Math.Seq.{take-append-add, drop-append-add}
use Rattle.std.proofs.lemmas.List.{take_at, drop_at, length-take-le, append-nil}
use Rattle.std.specs.List.{AllByRecursion}
use Rattle.patch_bytes.specs.Puts.{Put, lay, write, old_of, IsWithin, AreWithin, IsApart, AreApart, Span}
use Rattle.patch_bytes.proofs.PutsLaid.{within_laid, length-write, lay_front, write-append, old_of-lay}
use Rattle.patch_bytes.proofs.RisingPuts.{span_more, span_within, span_apart}

-- the same put, so many bytes further on
abbrev pub moved : ℕ → Put → Put
moved p q = record { at = p + q.at; bytes = q.bytes }

-- a put behind some text is laid in what follows it
pub lay_behind : (p : ℕ) (a b : List ℕ) (q : Put) → length a ≡ p → lay (a ++ b) (moved p q) ≡ a ++ lay b q
unfolding lay
lay_behind p a b q is =
    let front : take (p + q.at) (a ++ b) ≡ a ++ take q.at b = subst (λ (n : ℕ). take (n + q.at) (a ++ b) ≡ a ++ take q.at b) is (take-append-add a b q.at) in
    let at : (p + q.at) + length q.bytes ≡ length a + (q.at + length q.bytes) = omega arith in
    let back : drop ((p + q.at) + length q.bytes) (a ++ b) ≡ drop (q.at + length q.bytes) b =
    ap (λ (k : ℕ). drop k (a ++ b)) at ∙ drop-append-add a b (q.at + length q.bytes) in
    rw (front, back) (simp append_assoc)

-- puts that lie in a piece change the piece alone
write_inside : (p : ℕ) (a b : List ℕ) → length a ≡ p → (ps : List Put) (x : List ℕ) → AreWithin (length x) ps → write (a ++ (x ++ b)) (map (moved p) ps) ≡ a
    ++ (write x ps ++ b)
write_inside p a b is [] x within = refl
write_inside p a b is (q ∷ qs) x within =
    ap (λ (z : List ℕ). write z (map (moved p) qs)) (lay_behind p a (x ++ b) q is ∙ ap (λ (z : List ℕ). a ++ z) (lay_front x b q within.0))
    ∙ write_inside p a b is qs (lay x q) (within_laid x q qs within.0 within.1)

-- puts that rise do so further on
span_moved : (p m : ℕ) (ps : List Put) (n : ℕ) → Span n ps m → Span (p + n) (map (moved p) ps) (p + m)
span_moved p m [] n s = omega (arith, s)
span_moved p m (q ∷ qs) n s =
    let more : Span (p + (q.at + length q.bytes)) (map (moved p) qs) (p + m) = span_moved p m qs (q.at + length q.bytes) s.1 in
    let next : p + (q.at + length q.bytes) ≡ (p + q.at) + length q.bytes = omega arith in
    (let f = s.0 in omega arith, subst (λ (k : ℕ). Span k (map (moved p) qs) (p + m)) next more)

-- the puts rise in the piece x at place p, and turn it into y
pub record Turns (p : ℕ) (x : List ℕ) (ps : List Put) (y : List ℕ) : Type 0 where
  pub same : length x ≡ length y
  pub span : Span p ps (p + length x)
  pub turns : (a b : List ℕ) → length a ≡ p → write (a ++ (x ++ b)) ps ≡ a ++ (y ++ b)

-- no put turns nothing
pub turns_none : (p : ℕ) (x : List ℕ) → Turns p x [] x
turns_none p x = record { same = refl; span = omega arith; turns = λ a b long. refl }

-- puts that are given by their places in the piece
pub turns_inside : (p : ℕ) (x y : List ℕ) (ps : List Put) → Span 0 ps (length x) → y ≡ write x ps → Turns p x (map (moved p) ps) y
turns_inside p x y ps span is =
    let within : AreWithin (length x) ps = span_within (length x) ps 0 span in
    let start : p + 0 ≡ p = omega arith in
    record {
      same = sym (ap (length {A = ℕ}) is ∙ length-write x ps within);
      span = subst (λ (k : ℕ). Span k (map (moved p) ps) (p + length x)) start (span_moved p (length x) ps 0 span);
      turns = λ a b long. write_inside p a b long ps x within ∙ ap (λ (z : List ℕ). a ++ (z ++ b)) (sym is);
    }

-- one piece behind another
pub turns_then : (p q : ℕ) (x x' y y' : List ℕ) (ps qs : List Put) → q ≡ p + length x → Turns p x ps y → Turns q x' qs y'
    → Turns p (x ++ x') (ps ++ qs) (y ++ y')
turns_then p q x x' y y' ps qs at one two =
    let long = length-append x x' in
    let new_long = length-append y y' in
    let same = one.same in
    let same' = two.same in
    let end : q + length x' ≡ p + length (x ++ x') = omega arith in
    let from : Span q qs (p + length (x ++ x')) = subst (λ (k : ℕ). Span q qs k) end two.span in
    record {
      same = omega arith;
      span = span_more (p + length x) (p + length (x ++ x')) ps qs p one.span (subst (λ (k : ℕ). Span k qs (p + length (x ++ x'))) at from);
      turns = λ a b is.
          let there : length (a ++ y) ≡ q = length-append a y ∙ omega arith in
          ap (λ (z : List ℕ). write (a ++ z) (ps ++ qs)) (append_assoc x x' b)
          ∙ write-append (a ++ (x ++ (x' ++ b))) ps qs
          ∙ ap (λ (z : List ℕ). write z qs) (one.turns a (x' ++ b) is ∙ sym (append_assoc a y (x' ++ b)))
          ∙ two.turns (a ++ y) b there
          ∙ append_assoc a y (y' ++ b)
          ∙ ap (λ (z : List ℕ). a ++ z) (sym (append_assoc y y' b));
    }

-- what stands where a put was laid is what it put
old_laid : (b : List ℕ) (q : Put) → IsWithin (length b) q → old_of (lay b q) q ≡ q
unfolding old_of lay
old_laid b q within =
    let ends = within.ends in
    let long : length (take q.at b) ≡ q.at = length-take-le q.at b (omega arith) in
    let at : List ℕ → Put = λ z. record { at = q.at; bytes = z } in
    ap at
    (ap (λ (z : List ℕ). take (length q.bytes) (drop q.at z)) (append_assoc (take q.at b) q.bytes (drop (q.at + length q.bytes) b))
    ∙ ap (take (length q.bytes)) (drop_at (take q.at b) (q.bytes ++ drop (q.at + length q.bytes) b) q.at long)
    ∙ take_at q.bytes (drop (q.at + length q.bytes) b) (length q.bytes) refl)

-- puts that are apart from one leave what it reads
old_written : (b : List ℕ) (q : Put) (ps : List Put) → AreWithin (length b) ps → AllByRecursion (IsApart q) ps → old_of (write b ps) q ≡ old_of b q
old_written b q [] within apart = refl
old_written b q (p ∷ ps) within apart =
    let other = apart.0 in
    old_written (lay b p) q ps (within_laid b p ps within.0 within.1) apart.1
    ∙ old_of-lay b p q within.0 (record { none = λ k held also. other.none k also held })

-- what stands where puts were laid that are apart is what they put
olds_are_puts : (b : List ℕ) (ps : List Put) → AreWithin (length b) ps → AreApart ps → map (old_of (write b ps)) ps ≡ ps
olds_are_puts b [] within apart = refl
olds_are_puts b (p ∷ ps) within apart =
    let more = within_laid b p ps within.0 within.1 in
    ap (λ (q : Put). q ∷ map (old_of (write (lay b p) ps)) ps) (old_written (lay b p) p ps more apart.0 ∙ old_laid b p within.0)
    ∙ ap (λ (qs : List Put). p ∷ qs) (olds_are_puts (lay b p) ps more apart.1)

-- where a whole text is turned, what stands in the other where the puts were laid is what they put
pub turned_reads : (x y : List ℕ) (ps : List Put) → Span 0 ps (length x) → write x ps ≡ y → map (old_of y) ps ≡ ps
turned_reads x y ps span is =
    ap (λ (z : List ℕ). map (old_of z) ps) (sym is)
    ∙ olds_are_puts x ps (span_within (length x) ps 0 span) (span_apart (length x) ps 0 span)

-- a whole text with the puts is the other text
pub whole_turned : (x y : List ℕ) (ps : List Put) → Turns 0 x ps y → write x ps ≡ y
whole_turned x y ps one =
    ap (λ (z : List ℕ). write z ps) (sym (append-nil x)) ∙ one.turns [] [] refl ∙ append-nil y

-- and the puts rise in it
pub whole_span : (x y : List ℕ) (ps : List Put) → Turns 0 x ps y → Span 0 ps (length x)
whole_span x y ps one = let start : 0 + length x ≡ length x = omega arith in subst (λ (k : ℕ). Span 0 ps k) start one.span
