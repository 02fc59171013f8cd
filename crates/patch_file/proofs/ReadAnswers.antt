-- What the answer of reading a file tells of it.
use Rattle.std.proofs.Common.{◌≡◌, ℕ, zero, suc, ◌-◌, ◌<◌, List, [], ◌∷◌, length, Ok, Err, sym, ap, ◌∙◌, arith}
use Rattle.std.specs.Prelude.{All}
use Rattle.std.proofs.lemmas.List.Elements.{All-head, All-tail}
use Rattle.patch_file.specs.Spelling.{Packed, AreEntries, patch_spelling}
use Rattle.patch_file.specs.Answers.{Spells}
use Rattle.patch_file.specs.Reading.{patch_of}
use Rattle.patch_file.specs.BadPieces.{IsBadAt}
use Rattle.patch_file.specs.Laws.{ReadsByPieces}
use Rattle.patch_file.proofs.ReadSpellings.{IsBytes, patch_takes}
use Rattle.patch_file.proofs.SpellingsRead.{patch_again}
use Rattle.patch_file.proofs.BytesLeft.{left_within}
use Rattle.patch_file.proofs.BadRead.{patch_err}
use Rattle.patch_file.proofs.BadAgain.{patch_bad}

-- what holds of each of some bytes, by their places
all_bytes : (bytes : List ℕ) → All (λ b. b < 256) bytes → IsBytes bytes
all_bytes [] all i = omega arith
all_bytes (b ∷ bytes) all zero = All-head (λ x. x < 256) b bytes all
all_bytes (b ∷ bytes) all (suc i) = all_bytes bytes (All-tail (λ x. x < 256) b bytes all) i

pub found : (file : List ℕ) (es : List Packed) → IsBytes file → patch_of file ≡ Ok es → Spells es file
found file es fits e = let t = patch_takes file es fits e in record { entries = t.0; spelled = t.1 }

pub read_of : (file : List ℕ) (es : List Packed) → Spells es file → patch_of file ≡ Ok es
read_of file es s = ap patch_of s.spelled ∙ patch_again es s.entries

pub only : (file : List ℕ) (es fs : List Packed) → Spells es file → patch_of file ≡ Ok fs → fs ≡ es
only file es fs s e = let f = read_of file es s in let both = sym e ∙ f in cc

pub no_bad : (file : List ℕ) (es : List Packed) (left : ℕ) → Spells es file → patch_of file ≡ Err left → ⊥
no_bad file es left s e = let f = read_of file es s in let both = sym e ∙ f in cc

pub bad_at : (file : List ℕ) (left : ℕ) → IsBytes file → patch_of file ≡ Err left → IsBadAt file (length file - left)
bad_at file left fits e = let le = left_within file left e in record { left = left; bad = patch_err file left fits e; place = omega arith }

-- a file that is read has no bad piece
pub none_bad : (file : List ℕ) (es : List Packed) (p : ℕ) → patch_of file ≡ Ok es → IsBadAt file p → ⊥
none_bad file es p e bad = let f = patch_bad file bad.left bad.bad in let both = sym e ∙ f in cc

-- where reading stops is where the bad piece begins
pub bad_is : (file : List ℕ) (left p : ℕ) → patch_of file ≡ Err left → IsBadAt file p → length file - left ≡ p
bad_is file left p e bad =
    let f = patch_bad file bad.left bad.bad in
    let same : left ≡ bad.left = (let both = sym e ∙ f in cc) in
    let place = bad.place in
    omega arith

pub reads_by_pieces : ReadsByPieces
reads_by_pieces file are =
    let fits : IsBytes file = all_bytes file are in
    record {
      spelled = λ es. (found file es fits, read_of file es);
      bad = λ left. (patch_err file left fits, patch_bad file left);
      one = λ p q first second.
          let f = patch_bad file first.left first.bad in
          sym (bad_is file first.left p f first) ∙ bad_is file first.left q f second;
      either = λ es p s. none_bad file es p (read_of file es s);
    }

pub same_spelling : (es fs : List Packed) → AreEntries es → AreEntries fs → patch_spelling es ≡ patch_spelling fs → es ≡ fs
same_spelling es fs are also same = let e = sym (patch_again es are) ∙ (ap patch_of same ∙ patch_again fs also) in cc
