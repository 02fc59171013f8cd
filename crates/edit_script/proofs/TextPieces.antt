-- A text that is cut at the bytes of a kind, piece by piece: its lines, and the words of a line.
use Rattle.std.proofs.Common.{◌≡◌, ℕ, suc, ◌+◌, ◌<◌, ◌≤◌, Bool, true, false, cond, List, [], ◌∷◌, length, take, refl, sym, ap, subst, ◌∙◌, ⊎_elim, arith}
use Rattle.std.specs.Prelude.{◌==◌, not, map, filter}
use Rattle.std.specs.List.{slice_split, onto_first, before_first, after_first, position_or_len, prefix_len}
use Rattle.std.proofs.lemmas.List.{take_all, drop_all}
use Rattle.std.proofs.lemmas.List.Splits.{slice_split_first, slice_split_none}
use Rattle.std.proofs.lemmas.List.Sums.{fails_before_first}
use Rattle.std.proofs.lemmas.Bool.{cases_lt, cases_Bool, ne_eqb}
use Rattle.std.proofs.lemmas.Bool.Decides.{nat_tests}
use Rattle.edit_script.specs.Lines.{ended, without_return, lines_of}
use Rattle.edit_script.specs.Words.{is_blank, from_word, words_of}

-- where no byte is of the kind, the text is the one piece
pub split_whole : (p : ℕ → Bool) (xs : List ℕ) → length xs ≤ position_or_len p xs → slice_split p xs ≡ xs ∷ []
split_whole p xs h = slice_split_none p xs (λ k d l. fails_before_first p xs k d (omega arith))

-- some piece in front of some others
ended-onto : (x : List ℕ) (y : ℕ) (parts : List (List ℕ)) → ended (x ∷ onto_first y parts) ≡ x ∷ ended (onto_first y parts)
ended-onto x y [] = refl
ended-onto x y (part ∷ parts) = refl

ended-cond : (b : Bool) (x : List ℕ) (y : ℕ) (parts : List (List ℕ))
    → ended (x ∷ cond b ([] ∷ parts) (onto_first y parts)) ≡ x ∷ ended (cond b ([] ∷ parts) (onto_first y parts))
ended-cond true x y parts = refl
ended-cond false x y parts = ended-onto x y parts

-- behind a piece the pieces of the rest stand as they are
ended-split : (x : List ℕ) (p : ℕ → Bool) (xs : List ℕ) → ended (x ∷ slice_split p xs) ≡ x ∷ ended (slice_split p xs)
ended-split x p [] = refl
ended-split x p (y ∷ ys) = ended-cond (p y) x y (slice_split p ys)

-- where no byte is of the kind, the first piece is the text, and nothing is behind it
before_whole : (p : ℕ → Bool) (xs : List ℕ) → length xs ≤ position_or_len p xs → before_first p xs ≡ xs
before_whole p xs h = take_all (position_or_len p xs) xs h

after_whole : (p : ℕ → Bool) (xs : List ℕ) → length xs ≤ position_or_len p xs → after_first p xs ≡ []
after_whole p xs h = drop_all (position_or_len p xs + 1) xs (omega arith)

-- a text with a byte has a first line
lines_found : (p : ℕ → Bool) (text : List ℕ) → position_or_len p text < length text
    → map without_return (ended (slice_split p text))
    ≡ without_return (before_first p text) ∷ map without_return (ended (slice_split p (after_first p text)))
lines_found p text h = rw (slice_split_first p text 0 h, ended-split (before_first p text) p (after_first p text)) refl

lines_whole : (p : ℕ → Bool) (text : List ℕ) → 0 < length text → length text ≤ position_or_len p text
    → map without_return (ended (slice_split p text))
    ≡ without_return (before_first p text) ∷ map without_return (ended (slice_split p (after_first p text)))
lines_whole p text some h =
    let no : (length text == 0) ≡ false = grind (arith, nat_tests) in
    rw (split_whole p text h, before_whole p text h, after_whole p text h, no) refl

pub lines_of-first : (text : List ℕ) → 0 < length text
    → lines_of text ≡ without_return (before_first (λ b. b == 10) text) ∷ lines_of (after_first (λ b. b == 10) text)
lines_of-first text some =
    ⊎_elim (lines_found (λ b. b == 10) text) (lines_whole (λ b. b == 10) text some) (cases_lt (position_or_len {X = ℕ} (λ b. b == 10) text) (length text))

-- the pieces that aren't empty
abbrev full : List (List ℕ) → List (List ℕ)
full pieces = filter (λ word. not (length word == 0)) pieces

words_found : (p : ℕ → Bool) (line : List ℕ) → position_or_len p line < length line
    → full (slice_split p line) ≡ full (before_first p line ∷ slice_split p (after_first p line))
words_found p line h = ap full (slice_split_first p line 0 h)

words_whole : (p : ℕ → Bool) (line : List ℕ) → length line ≤ position_or_len p line
    → full (slice_split p line) ≡ full (before_first p line ∷ slice_split p (after_first p line))
words_whole p line h = rw (split_whole p line h, before_whole p line h, after_whole p line h) refl

words_split : (line : List ℕ) → words_of line ≡ full (before_first is_blank line ∷ slice_split is_blank (after_first is_blank line))
words_split line =
    ⊎_elim (words_found is_blank line) (words_whole is_blank line) (cases_lt (position_or_len is_blank line) (length line))

full-word : (word : List ℕ) (pieces : List (List ℕ)) → (length word == 0) ≡ false → full (word ∷ pieces) ≡ word ∷ full pieces
full-word word pieces some = rw some refl

-- a line whose first byte isn't a blank begins with a word
words_of-first : (line : List ℕ) → (length (before_first is_blank line) == 0) ≡ false
    → words_of line ≡ before_first is_blank line ∷ words_of (after_first is_blank line)
words_of-first line some = words_split line ∙ full-word (before_first is_blank line) (slice_split is_blank (after_first is_blank line)) some

first_word-some : (b : ℕ) (bs : List ℕ) → is_blank b ≡ false → (length (before_first is_blank (b ∷ bs)) == 0) ≡ false
first_word-some b bs e =
    let one : 1 + prefix_len (λ x. not (is_blank x)) bs ≡ suc (prefix_len (λ x. not (is_blank x)) bs) = omega arith in
    let some : length (before_first is_blank (b ∷ bs)) ≡ suc (length (take (prefix_len (λ x. not (is_blank x)) bs) bs)) = rw (e, one) refl in
    ne_eqb (length (before_first is_blank (b ∷ bs))) 0 (λ none. omega arith)

-- a blank before a line counts for nothing
words_of-blank : (b : ℕ) (bs : List ℕ) → is_blank b ≡ true → words_of (b ∷ bs) ≡ words_of bs
words_of-blank b bs e = rw e refl

from_word-blank : (b : ℕ) (bs : List ℕ) → is_blank b ≡ true → from_word (b ∷ bs) ≡ from_word bs
from_word-blank b bs e = rw e refl

from_word-other : (b : ℕ) (bs : List ℕ) → is_blank b ≡ false → from_word (b ∷ bs) ≡ b ∷ bs
from_word-other b bs e = rw e refl

-- what the words of a line are that has this text behind the blanks before its first word
abbrev pub BeginsAt : List ℕ → List ℕ → Type 0
BeginsAt line [] = words_of line ≡ []
BeginsAt line (b ∷ bs) = words_of line ≡ before_first is_blank (b ∷ bs) ∷ words_of (after_first is_blank (b ∷ bs))

-- two lines with the same words
begins_alike : (line other : List ℕ) → words_of line ≡ words_of other → (text : List ℕ) → BeginsAt other text → BeginsAt line text
begins_alike line other same [] h = same ∙ h
begins_alike line other same (b ∷ bs) h = same ∙ h

pub begins : (line : List ℕ) → BeginsAt line (from_word line)
begins [] = refl
begins (b ∷ bs) =
    let blank : is_blank b ≡ true → BeginsAt (b ∷ bs) (from_word (b ∷ bs)) =
    λ e. rw (from_word-blank b bs e) (begins_alike (b ∷ bs) bs (words_of-blank b bs e) (from_word bs) (begins bs))
    in
    let other : is_blank b ≡ false → BeginsAt (b ∷ bs) (from_word (b ∷ bs)) =
    λ e. rw (from_word-other b bs e) (words_of-first (b ∷ bs) (first_word-some b bs e))
    in
    ⊎_elim blank other (cases_Bool (is_blank b))

-- a line of blanks has no words
pub words_of-none : (line text : List ℕ) → text ≡ from_word line → length text ≡ 0 → words_of line ≡ []
words_of-none line [] e none = let P : List ℕ → Type 0 = λ t. BeginsAt line t in subst P (sym e) (begins line)
words_of-none line (b ∷ bs) e none = absurd (omega arith)

-- and any other line its first word and those behind it
pub words_of-some : (line text : List ℕ) → text ≡ from_word line → 0 < length text
    → words_of line ≡ before_first is_blank text ∷ words_of (after_first is_blank text)
words_of-some line [] e some = absurd (omega arith)
words_of-some line (b ∷ bs) e some = let P : List ℕ → Type 0 = λ t. BeginsAt line t in subst P (sym e) (begins line)
