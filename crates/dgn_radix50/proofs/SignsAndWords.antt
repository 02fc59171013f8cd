-- Three signs and their word, each found from the other.
use Rattle.std.proofs.Common.{◌≡◌, ◌↔◌, ℕ, ◌+◌, ◌*◌, ◌/◌, ◌%◌, ◌<◌, List, [], ◌∷◌, length, slice_index, Option, Some, None, IsSome, All, refl, ap, arith}
use Rattle.std.proofs.lemmas.List.Elements.{All-from_recursion, recursion_from_All}
use Rattle.dgn_radix50.specs.Signs.{IsSign, sign_of, code_of, signs_of, word_of, word_of_codes}
use Rattle.dgn_radix50.proofs.SignTable.{code_of-sign_of, sign_of-code_of, IsSign-Some, IsSign-None}

-- the signs of a word below 64000 have that word
pub word_of-signs_of : (w : ℕ) → w < 64000 → word_of (signs_of w) ≡ Some w
word_of-signs_of w below =
    let first = code_of-sign_of (w / 1600) (omega arith) in
    let second = code_of-sign_of (w / 40 % 40) (omega arith) in
    let third = code_of-sign_of (w % 40) (omega arith) in
    rw (first, second, third) (ap Some (omega arith))

-- the signs of the word of three codes are the signs of these codes
signs_of-joined : (a b c : ℕ) → a < 40 → b < 40 → c < 40 → signs_of (a * 1600 + b * 40 + c) ≡ sign_of a ∷ sign_of b ∷ sign_of c ∷ []
signs_of-joined a b c x y z =
    let w : ℕ = a * 1600 + b * 40 + c in
    let first : w / 1600 ≡ a = omega arith in
    let second : w / 40 % 40 ≡ b = omega arith in
    let third : w % 40 ≡ c = omega arith in
    rw (first, second, third) refl

-- three bytes are the signs of the word of their codes, which is below 64000
pub signs_of-word_of : (s : List ℕ) → length s ≡ 3 → (a b c : ℕ) → code_of (slice_index s 0) ≡ Some a → code_of (slice_index s 1) ≡ Some b
    → code_of (slice_index s 2) ≡ Some c → (a * 1600 + b * 40 + c < 64000) × (signs_of (a * 1600 + b * 40 + c) ≡ s)
signs_of-word_of (r ∷ s ∷ t ∷ []) three a b c x y z =
    let first = sign_of-code_of r a x in
    let second = sign_of-code_of s b y in
    let third = sign_of-code_of t c z in
    let signs = signs_of-joined a b c first.0 second.0 third.0 in
    (omega arith, rw (signs, first.1, second.1, third.1) refl)
signs_of-word_of _ three a b c x y z = absurd (omega arith)

-- three bytes have a word exactly where each of them is a sign
word_of-IsSome : (s : List ℕ) → length s ≡ 3 → IsSome (word_of s) ↔ All IsSign s
word_of-IsSome (r ∷ s ∷ t ∷ []) three = go (code_of r) (code_of s) (code_of t) refl refl refl
  where
    each : All IsSign (r ∷ s ∷ t ∷ []) → IsSign r × (IsSign s × (IsSign t × Unit {0}))
    each h = recursion_from_All IsSign (r ∷ s ∷ t ∷ []) h

    go : (x y z : Option ℕ) → code_of r ≡ x → code_of s ≡ y → code_of t ≡ z → IsSome (word_of_codes x y z) ↔ All IsSign (r ∷ s ∷ t ∷ [])
    go (Some a) (Some b) (Some c) x y z =
        (λ _. All-from_recursion IsSign (r ∷ s ∷ t ∷ []) (IsSign-Some r a x, (IsSign-Some s b y, (IsSign-Some t c z, tt))), λ _. refl)
    go None _ _ x y z = (λ e. cc, λ h. absurd (IsSign-None r x (each h).0))
    go (Some a) None _ x y z = (λ e. cc, λ h. absurd (IsSign-None s y (each h).1.0))
    go (Some a) (Some b) None x y z = (λ e. cc, λ h. absurd (IsSign-None t z (each h).1.1.0))
word_of-IsSome _ three = absurd (omega arith)

-- the same of a result that is their word
pub word-IsSome : (s : List ℕ) (result : Option ℕ) → length s ≡ 3 → result ≡ word_of s → IsSome result ↔ All IsSign s
word-IsSome s result three is = rw is (word_of-IsSome s three)
