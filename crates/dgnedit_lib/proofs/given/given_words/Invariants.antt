use Rattle.std.proofs.Common.{◌≡◌, map, take, string_bytes, true}
use Rattle.std.specs.List.{list_all}
use Rattle.std.specs.Str.{is_utf8}
use Rattle.dgnedit_lib.specs.Words.{bytes_of_words}
use Rattle.dgnedit_lib.proofs.given.given_words.Given as goal

-- the words so far are texts, and these are kept
abbrev pub invariant-loop-word : goal.invariant-loop-word
invariant-loop-word l =
    record {
      kept : map string_bytes l.texts.items ≡ bytes_of_words (take l.word-index l.words);
      all : list_all is_utf8 (bytes_of_words (take l.word-index l.words)) ≡ true;
    }
