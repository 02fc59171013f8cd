-- What a run over files that are lent hands out: how it ended, and its text and its file, each in a buffer of the caller's.
use Rattle.std.specs.Prelude.{ℕ, ◌≡◌, nat_le, if◌then◌else◌, false, List, [], ◌++◌, length, drop, Option, is_some, option_map, unwrap_or}
use Rattle.dgn_tool.specs.Ended.{Outcome}
use Rattle.dgn_tool.specs.Status.{number_of}
use Rattle.dgn_tool.specs.declared.status.Status.{Status}
use Rattle.dgnedit_lib.specs.declared.ended.Ended.{Ended}

-- the ending with so many bytes of text and no file
abbrev pub text_ended : Status → ℕ → Ended
text_ended status count = record { text_length = count; file_length = 0; status = number_of status; file_written = false }

-- bytes put into a buffer: they stand in front where it has room for them, and else it stays as it was
abbrev pub put_in : List ℕ → List ℕ → List ℕ
put_in bytes buffer = if nat_le (length bytes) (length buffer) then bytes ++ drop (length bytes) buffer else buffer

-- the bytes of the file that an outcome writes; none where it writes none
abbrev pub bytes_filed : Option (List ℕ × List ℕ) → List ℕ
bytes_filed file = unwrap_or (option_map (λ f. f.1) file) []

-- the ending of an outcome
abbrev pub ended_of : Outcome → Ended
ended_of o = record {
  text_length = length o.text;
  file_length = length (bytes_filed o.file);
  status = number_of o.status;
  file_written = is_some o.file;
}

-- both buffers, by what stood in them before and after
pub record Buffers : Type 0 where
  pub text_before : List ℕ
  pub text_after : List ℕ
  pub file_before : List ℕ
  pub file_after : List ℕ

-- an outcome was handed out: its ending, its text and its file
pub record HandsOut (o : Outcome) (e : Ended) (b : Buffers) : Type 0 where
  pub ending : e ≡ ended_of o
  pub text : b.text_after ≡ put_in o.text b.text_before
  pub file : b.file_after ≡ put_in (bytes_filed o.file) b.file_before
