-- What a run leaves is what is handed out.
use Rattle.std.proofs.Common.{◌≡◌, ◌⊎◌, ℕ, List, [], ◌++◌, length, Option, Some, None, option_map, unwrap_or, is_some, inl, inr}
use Rattle.std.proofs.Common.{Bool, true, false, nat_le, if◌then◌else◌, refl, sym, ap, ◌∙◌, arith}
use Rattle.dgn_desk.specs.Content.{Files, Content, all_said}
use Rattle.dgn_desk.specs.Desk.{Rose}
use Rattle.dgn_tool.specs.Leaving.{Leaves}
use Rattle.dgn_tool.specs.Status.{number_of}
use Rattle.dgn_tool.specs.declared.status.Status.{Status}
use Rattle.dgn_tool.specs.declared.status.Status.TheVariants as statuses
use Rattle.dgn_tool.specs.Outcome.{outcome, IsEnding}
use Rattle.dgnedit_lib.specs.declared.ended.Ended.{Ended}
use Rattle.dgnedit_lib.specs.Handing.{HandsOut, ended_of, bytes_filed, put_in}
use Rattle.dgnedit_lib.specs.Writing.{last_of_four, has_written, name_written, bytes_at}
use Rattle.dgnedit_lib.proofs.FilesWritten.{outcome_writes, bytes_written}

-- a status that is neither of these is that of an ending, where no writing failed
pub ends : (status : Status) → ¬ (number_of status ≡ 5) → ¬ (number_of status ≡ 7) → (status ≡ statuses.WriteFault → Rose 0 0) → IsEnding status
ends statuses.ReadFault read memory write = absurd (read refl)
ends statuses.WriteFault read memory write = absurd (let low = write refl in omega arith)
ends statuses.Memory read memory write = absurd (memory refl)
ends _ read memory write = tt

-- so where that of an ending is refuted, its number is one of these
pub stops : (status : Status) (number : ℕ) → number ≡ number_of status → (status ≡ statuses.WriteFault → Rose 0 0) → ¬ IsEnding status
    → (number ≡ 5) ⊎ (number ≡ 7)
stops statuses.ReadFault number is write ending = inl is
stops statuses.WriteFault number is write ending = absurd (let low = write refl in omega arith)
stops statuses.Memory number is write ending = inr is
stops _ number is write ending = absurd (ending tt)

-- a file is there where its bytes are
is_some-bytes : (file : Option (List ℕ × List ℕ)) → is_some (option_map (λ f. f.1) file) ≡ is_some file
is_some-bytes None = refl
is_some-bytes (Some file) = refl

-- what is handed out of a text, and of a file or none
abbrev ended_with : Status → ℕ → Option (List ℕ) → Ended
ended_with status count found =
    record { text_length = count; file_length = length (unwrap_or found []); status = number_of status; file_written = is_some found }

-- what a run left of a desk that had said nothing is handed out
pub hands_out : (words : List (List ℕ)) (status : Status) (old new : Content) (found : Option (List ℕ)) (text_before file_before : List ℕ)
    → Leaves (outcome words old.files) status old (Some new) → all_said old ≡ []
    → found ≡ bytes_at (name_written (has_written status) (last_of_four words)) new.files
    → HandsOut (outcome words old.files) (ended_with status (length (all_said new)) found)
    (record {
      text_before = text_before;
      text_after = put_in (all_said new) text_before;
      file_before = file_before;
      file_after = put_in (unwrap_or found []) file_before;
    })
hands_out words status old new found text_before file_before left silent is =
    let o = outcome words old.files in
    let told : left.content ≡ new = (let e = left.told_is in cc) in
    let said : all_said new ≡ o.text = ap all_said (sym told) ∙ left.said_is ∙ ap (λ s. s ++ o.text) silent in
    let file : found ≡ option_map (λ f. f.1) o.file =
    is
    ∙ ap (λ s. bytes_at (name_written (has_written s) (last_of_four words)) new.files) left.status_is
    ∙ bytes_written o.file _ old.files new.files (outcome_writes words old.files) (ap (λ c. c.files) (sym told) ∙ left.files_are) in
    record {
      ending =
          ap (λ s. ended_with s (length (all_said new)) found) left.status_is
          ∙ ap (λ t. ended_with o.status (length t) found) said
          ∙ ap (ended_with o.status (length o.text)) file
          ∙ ap (λ b. record { text_length = length o.text; file_length = length (bytes_filed o.file); status = number_of o.status; file_written = b })
          (is_some-bytes o.file);
      text = ap (λ t. put_in t text_before) said;
      file = ap (λ f. put_in (unwrap_or f []) file_before) file;
    }

-- the same, by what a desk over these files told that had said nothing, and by what stands in the ending and in the buffers
pub handed_out : (words : List (List ℕ)) (files : Files) (status : Status) (old new : Content) (found : Option (List ℕ)) (e : Ended)
    (text_before text_after file_before file_after : List ℕ)
    → old ≡ record { files = files; left = []; target = None; settled = []; since = [] }
    → Leaves (outcome words old.files) status old (Some new)
    → found ≡ bytes_at (name_written (has_written status) (last_of_four words)) new.files
    → e ≡ ended_with status (length (all_said new)) found
    → text_after ≡ put_in (all_said new) text_before
    → file_after ≡ put_in (unwrap_or found []) file_before
    → HandsOut (outcome words files) e (record { text_before = text_before; text_after = text_after; file_before = file_before; file_after = file_after })
handed_out words files status old new found e text_before text_after file_before file_after before left is ending text file =
    let h = hands_out words status old new found text_before file_before left (ap all_said before) is in
    record {
      ending = ending ∙ h.ending ∙ ap (λ c. ended_of (outcome words c.files)) before;
      text = text ∙ h.text ∙ ap (λ c. put_in (outcome words c.files).text text_before) before;
      file = file ∙ h.file ∙ ap (λ c. put_in (bytes_filed (outcome words c.files).file) file_before) before;
    }

-- no bytes put into a buffer leave it as it was
either_same : (b : Bool) (buffer : List ℕ) → buffer ≡ (if b then buffer else buffer)
either_same true buffer = refl
either_same false buffer = refl

pub put_none : (buffer : List ℕ) → buffer ≡ put_in [] buffer
put_none buffer = either_same (nat_le 0 (length buffer)) buffer
