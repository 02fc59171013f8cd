-- Reading the second files of the imports, one after the other.
use Rattle.std.proofs.Common.{◌≡◌, ◌∷◌, ◌++◌, ℕ, List, [], map, reverse, refl, sym, ap, ◌∙◌, subst, append_assoc}
use Rattle.std.specs.List.{AllByRecursion}
use Rattle.std.proofs.lemmas.List.{append-nil, reverse-append, reverse-reverse}
use Rattle.dgn_desk.specs.Content.{Files}
use Rattle.dgn_import.specs.declared.second.Second.{Second}
use Rattle.dgn_import.specs.Seconds.{SecondValue, value_of, seconds_left, IsOpened}
use Rattle.dgn_tool.specs.Inputs.{second_in, seconds_behind}
use Rattle.dgn_tool.specs.Readings.{Reading, ◌>>=◌}
use Rattle.dgn_tool.proofs.ReadingsInTurn.{reads_on, read_alike}

-- some names, and more behind them
pub seconds_more : (files : Files) (before : List SecondValue) (names more : List (List ℕ))
    → seconds_behind files before (names ++ more) ≡ (seconds_behind files before names >>= λ vs. seconds_behind files vs more)
seconds_more files before [] more = refl
seconds_more files before (name ∷ names) more =
    let one : Reading SecondValue = second_in files name in
    read_alike one.sources one.answer (λ v. seconds_behind files (before ++ v ∷ []) (names ++ more))
    (λ v. seconds_behind files (before ++ v ∷ []) names >>= λ vs. seconds_behind files vs more)
    (λ v. seconds_more files (before ++ v ∷ []) names more)
    ∙ sym (reads_on one.sources one.answer (λ v. seconds_behind files (before ++ v ∷ []) names) (λ vs. seconds_behind files vs more))

-- Sound second drawings.

sound_back : (seconds turned : List Second) → AllByRecursion IsOpened seconds → AllByRecursion IsOpened turned
    → AllByRecursion IsOpened (reverse seconds ++ turned)
sound_back [] turned all more = more
sound_back (x ∷ seconds) turned all more =
    subst (AllByRecursion IsOpened)
    (sym (ap (λ (l : List Second). l ++ turned) (reverse-append (x ∷ []) seconds) ∙ append_assoc (reverse seconds) (x ∷ []) turned))
    (sound_back seconds (x ∷ turned) all.1 (all.0, more))

pub sound_turned : (seconds turned : List Second) → AllByRecursion IsOpened seconds → turned ≡ reverse seconds → AllByRecursion IsOpened turned
sound_turned seconds turned all is =
    subst (AllByRecursion IsOpened) (append-nil (reverse seconds) ∙ sym is) (sound_back seconds [] all tt)

-- turned round, the next one stands last
pub turned_back : (seconds turned : List Second) → turned ≡ reverse seconds → map value_of seconds ≡ seconds_left turned
turned_back seconds turned is = ap (map value_of) (sym (reverse-reverse seconds)) ∙ ap (λ (l : List Second). map value_of (reverse l)) (sym is)
