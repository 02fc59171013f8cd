-- What a file that was read gives, and what its bytes say of the file.
use Rattle.std.proofs.Common.{◌≡◌, ◌<◌, ◌≤◌, List, [], ◌∷◌, ℕ, length, nat_lt, Bool, true, false, Option, Some, None, Result, Ok, Err}
use Rattle.std.proofs.Common.{refl, sym, ap, ◌∙◌, subst, arith}
use Rattle.std.specs.Prelude.{codes, IfSome, IsSome, IsTrue}
use Rattle.std.specs.FinMap as maps
use Rattle.std.proofs.lemmas.Bool.Decides.{nat_tests}
use Rattle.dgn_desk.specs.Content.{Files, Content, bytes_of, HasFile}
use Rattle.dgn_desk.specs.Seen.{Seen, OnlyReads}
use Rattle.dgn_drawing.specs.WellFormed.{IsBytes}
use Rattle.dgn_drawing.specs.Opening.{Fault}
use Rattle.elem_index.specs.Opened.{Opened, opening}
use Rattle.elem_index.specs.Answers.{HasCount}
use Rattle.dgn_listing.specs.NumberedLines.{numbered}
use Rattle.dgn_tool.specs.Ended.{ended}
use Rattle.dgn_tool.specs.Ends.{IsRead}
use Rattle.dgn_tool.specs.Inputs.{drawing_opened}
use Rattle.dgn_tool.specs.Outcome.{checked}
use Rattle.dgn_tool.specs.Readings.{file_in, at_once, ◌>>=◌, AreGiven}
use Rattle.dgn_tool.proofs.ToldContents.{where_told}
use Rattle.dgn_tool.specs.declared.status.Status.TheVariants as statuses

-- a file within its limit gives its bytes
pub file_gives : (files : Files) (name : List ℕ) (limit : ℕ) (line bytes : List ℕ) → length bytes ≤ limit → bytes ≡ bytes_of files name
    → (file_in files name limit line).answer ≡ Ok bytes
file_gives files name limit line bytes within is =
    let few : length (bytes_of files name) ≤ limit = subst (λ (b : List ℕ). length b ≤ limit) is within in
    let test : nat_lt limit (length (bytes_of files name)) ≡ false = grind (arith, nat_tests) in
    rw test (ap Ok (sym is))

-- what is told of a file, and that a strict desk has it
pub with_found : (P : Content → Type 0) (strict : Bool) (name : List ℕ) (told : Option Content) → IfSome told P → (IsTrue strict → HasFile name told)
    → IfSome told (λ c. P c × (IsTrue strict → IsSome (maps.get c.files name)))
with_found P strict name None holds found = tt
with_found P strict name (Some c) holds found = (holds, found)

-- so it was read
pub file_read : (old new : Seen) (name : List ℕ) (limit : ℕ) (line bytes : List ℕ) → OnlyReads old new → length bytes ≤ limit → IsBytes bytes
    → IfSome old.content (λ c. bytes ≡ bytes_of c.files name) → (IsTrue old.strict → HasFile name old.content)
    → IsRead (λ files. file_in files name limit line) bytes old new
file_read old new name limit line bytes reads within all told found = record {
  reads = reads;
  gives = where_told _ (λ c. ((file_in c.files name limit line).answer ≡ Ok bytes) × AreGiven old.strict c.files (record { name = name; limit = limit } ∷ []))
      old.content (with_found (λ c. bytes ≡ bytes_of c.files name) old.strict name old.content told found)
      (λ c so. (file_gives c.files name limit line bytes within so.0, ((λ _. subst IsBytes so.0 all, so.1), tt)));
}

-- a longer one ends the run
pub file_overruns : (files : Files) (name : List ℕ) (limit : ℕ) (line : List ℕ) → limit < length (bytes_of files name)
    → (file_in files name limit line).answer ≡ Err (ended statuses.TooLong line)
file_overruns files name limit line long =
    let test : nat_lt limit (length (bytes_of files name)) ≡ true = grind (arith, nat_tests) in
    rw test refl

-- where IN opens, `check` says how many elements it has
pub counts : (bytes : List ℕ) (count : ℕ) → HasCount bytes count
    → (at_once (drawing_opened (opening bytes)) >>= λ d. at_once (Ok (checked d)))
    ≡ at_once (Ok (ended statuses.Done (numbered (codes "elements ") count)))
counts bytes count has =
    ap (λ (r : Result Opened Fault). at_once (drawing_opened r) >>= λ d. at_once (Ok (checked d))) has.found
    ∙ ap (λ (n : ℕ). at_once (Ok (ended statuses.Done (numbered (codes "elements ") n)))) (sym has.counted)
