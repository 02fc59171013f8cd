-- Puts laid in a piece of text by places that are counted from before it.
use Rattle.std.proofs.Common.{◌≡◌, ℕ, ◌+◌, ◌-◌, ◌<◌, ◌≤◌, List, [], ◌∷◌, ◌++◌, length, drop, map, get_or, replicate, sym, ap, ◌∙◌, subst, arith}
use Rattle.std.specs.List.{AllByRecursion}
use Rattle.std.proofs.lemmas.List.{append-nil, drop_at, drop_more, length-replicate}
use Rattle.patch_bytes.specs.Puts.{Put, lay, write, IsWithin, Span}
use Rattle.patch_bytes.specs.declared.patch.Patch.{Patch}
use Rattle.patch_bytes.specs.PatchView.{put_of}
use Rattle.patch_bytes.proofs.PutsLaid.{length-lay}
use Rattle.patch_bytes.proofs.RisingPuts.{span_long}
use Rattle.edit_ops.proofs.TextTurns.{lay_behind, Turns}

-- the same put, so many bytes earlier
abbrev pub lowered : ℕ → Put → Put
lowered start q = record { at = q.at - start; bytes = q.bytes }

-- it lies within n bytes from byte `start` on
pub record LiesFrom (start n : ℕ) (q : Put) : Type 0 where
  pub from : start ≤ q.at
  pub ends : q.at + length q.bytes ≤ start + n

-- puts that rise there lie there
pub lies_from : (start n low : ℕ) (ps : List Put) → start ≤ low → Span low ps (start + n) → AllByRecursion (LiesFrom start n) ps
lies_from start n low [] later span = tt
lies_from start n low (q ∷ qs) later span =
    let ends : q.at + length q.bytes ≤ start + n = span_long (start + n) qs (q.at + length q.bytes) span.1 in
    let from : start ≤ q.at = let f = span.0 in omega arith in
    (record { from = from; ends = ends }, lies_from start n (q.at + length q.bytes) qs (omega arith) span.1)

-- lowered it lies within the bytes
pub within_lowered : (start n : ℕ) (q : Put) → LiesFrom start n q → IsWithin n (lowered start q)
within_lowered start n q lies = let from = lies.from in let ends = lies.ends in record { ends = omega arith }

-- and laid in them it gives what it gives behind `start` bytes
pub lay_lowered : (start : ℕ) (a x : List ℕ) (q : Put) → LiesFrom start (length x) q → length a ≡ start → lay (a ++ x) q ≡ a ++ lay x (lowered start q)
lay_lowered start a x q lies long =
    let from = lies.from in
    let at : q.at ≡ start + (q.at - start) = omega arith in
    ap (λ (k : ℕ). lay (a ++ x) (record { at = k; bytes = q.bytes })) at ∙ lay_behind start a x (lowered start q) long

-- where puts turn a piece, and laid behind some bytes they give another one, that is what they turn it into
pub turned_is : (start : ℕ) (x y z : List ℕ) (ps : List Put) → Turns start x ps y
    → ((a : List ℕ) → length a ≡ start → write (a ++ x) ps ≡ a ++ z) → z ≡ y
turned_is start x y z ps turned laid =
    let a : List ℕ = replicate start 0 in
    let long : length a ≡ start = length-replicate start 0 in
    let same : a ++ z ≡ a ++ y =
    sym (laid a long) ∙ ap (λ (b : List ℕ). write (a ++ b) ps) (sym (append-nil x)) ∙ turned.turns a [] long ∙ ap (λ (b : List ℕ). a ++ b) (append-nil y) in
    sym (drop_at a z start long) ∙ ap (drop start) same ∙ drop_at a y start long

-- one patch of a list is laid, by its lowered place
module _ (start : ℕ) (list : List Patch) (i : ℕ) (x : Patch) (below : i < length list) (is : x ≡ get_or list i x) (b laid : List ℕ)
    (lies : AllByRecursion (LiesFrom start (length b)) (map put_of (drop i list))) where
  left_is : map put_of (drop i list) ≡ put_of x ∷ map put_of (drop (i + 1) list)
  left_is = ap (map put_of) (drop_more list i x below ∙ ap (λ (p : Patch). p ∷ drop (i + 1) list) (sym is))

  both_lie : AllByRecursion (LiesFrom start (length b)) (put_of x ∷ map put_of (drop (i + 1) list))
  both_lie = subst (AllByRecursion (LiesFrom start (length b))) left_is lies

  pub next_within : IsWithin (length b) (lowered start (put_of x))
  next_within = within_lowered start (length b) (put_of x) both_lie.0

  module _ (written : laid ≡ lay b (lowered start (put_of x))) where
    -- the others lie in the bytes then
    pub others_lie : AllByRecursion (LiesFrom start (length laid)) (map put_of (drop (i + 1) list))
    others_lie =
        let long : length b ≡ length laid = sym (ap (length {A = ℕ}) written ∙ length-lay b (lowered start (put_of x)) next_within) in
        subst (λ (n : ℕ). AllByRecursion (LiesFrom start n) (map put_of (drop (i + 1) list))) long both_lie.1

    -- and give what was left to give
    pub others_give : (a : List ℕ) → length a ≡ start → write (a ++ laid) (map put_of (drop (i + 1) list)) ≡ write (a ++ b) (map put_of (drop i list))
    others_give a long =
        ap (λ (z : List ℕ). write (a ++ z) (map put_of (drop (i + 1) list))) written
        ∙ ap (λ (z : List ℕ). write z (map put_of (drop (i + 1) list))) (sym (lay_lowered start a b (put_of x) both_lie.0 long))
        ∙ ap (write (a ++ b)) (sym left_is)
