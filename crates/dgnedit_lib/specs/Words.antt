-- The words of a command line as C hands them in, and the files that it lends.
use Rattle.std.specs.Prelude.{ℕ, List, [], map, if◌then◌else◌}
use Rattle.std.specs.List.{list_all}
use Rattle.std.specs.Str.{is_utf8}
use Rattle.dgnedit_lib.specs.declared.word.Word.{Word}

-- the bytes of each word
abbrev pub bytes_of_words : List Word → List (List ℕ)
bytes_of_words = map (λ w. w.bytes.now)

-- the words that a run has: where one of them isn't text, none, as the program has it
abbrev pub words_given : List (List ℕ) → List (List ℕ)
words_given words = if list_all is_utf8 words then words else []
