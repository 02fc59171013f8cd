-- Words that are texts, one after the other.
use Rattle.std.proofs.Common.{◌≡◌, ℕ, ◌+◌, ◌<◌, length, take, get_or, List, [], ◌∷◌, ◌++◌, Bool, true, false, ◌&&◌, if◌then◌else◌, refl, sym, ap, ◌∙◌}
use Rattle.std.specs.List.{list_all}
use Rattle.std.specs.Str.{is_utf8, IsUtf8}
use Rattle.std.proofs.lemmas.List.{map-append, take_more}
use Rattle.std.proofs.lemmas.List.Folds.{list_all-map, list_all_more, list_all_at}
use Rattle.std.proofs.lemmas.Str.{IsUtf8-from_is_utf8, is_utf8-from_IsUtf8}
use Rattle.dgnedit_lib.specs.declared.word.Word.{Word}
use Rattle.dgnedit_lib.specs.Words.{bytes_of_words, words_given}

-- both tests pass
both : (a b : Bool) → a ≡ true → b ≡ true → (a && b) ≡ true
both true b is_a is_b = is_b
both false b is_a is_b = is_a

-- a test whose passing is refuted fails
fails : (b : Bool) → ¬ (b ≡ true) → b ≡ false
fails true refuted = absurd (refuted refl)
fails false refuted = refl

-- one more word that is text
pub all_more : (ws : List Word) (i : ℕ) (d : Word) → i < length ws → list_all is_utf8 (bytes_of_words (take i ws)) ≡ true
    → IsUtf8 (get_or ws i d).bytes.now → list_all is_utf8 (bytes_of_words (take (i + 1) ws)) ≡ true
all_more ws i d low so_far is =
    list_all-map is_utf8 (λ w. w.bytes.now) (take (i + 1) ws)
    ∙ list_all_more (λ (w : Word). is_utf8 w.bytes.now) ws i d low
    ∙ both _ _ (sym (list_all-map is_utf8 (λ w. w.bytes.now) (take i ws)) ∙ so_far) (is_utf8-from_IsUtf8 _ is)

-- one more word behind those that are kept
pub kept_more : (ws : List Word) (i : ℕ) (d : Word) (kept : List (List ℕ)) → i < length ws → kept ≡ bytes_of_words (take i ws)
    → kept ++ (get_or ws i d).bytes.now ∷ [] ≡ bytes_of_words (take (i + 1) ws)
kept_more ws i d kept low so_far =
    ap (λ k. k ++ (get_or ws i d).bytes.now ∷ []) so_far
    ∙ sym (map-append (λ (w : Word). w.bytes.now) (take i ws) (get_or ws i d ∷ []))
    ∙ ap bytes_of_words (sym (take_more ws i d low))

-- with a word that isn't text no word is given
pub none_given : (ws : List Word) (i : ℕ) (d : Word) → i < length ws → ¬ IsUtf8 (get_or ws i d).bytes.now → [] ≡ words_given (bytes_of_words ws)
none_given ws i d low not_text =
    sym (ap (λ b. if b then bytes_of_words ws else [])
    (list_all-map is_utf8 (λ w. w.bytes.now) ws
    ∙ list_all_at (λ (w : Word). is_utf8 w.bytes.now) ws i d low (fails _ (λ e. not_text (IsUtf8-from_is_utf8 _ e)))))
