-- Bytes that are said or written piece by piece: what is told after each piece, by the pieces together.
use Rattle.std.proofs.Common.{◌≡◌, ℕ, ◌≤◌, ◌+◌, List, [], ◌++◌, length, take, drop, Option, Some, None, option_map, Result, Ok, Err, refl, sym, ap, ◌∙◌, inr}
use Rattle.std.proofs.Common.{append_assoc, arith}
use Rattle.std.proofs.Math.Seq.{take-append_seam, take-append-add}
use Rattle.std.proofs.lemmas.List.{take-append-drop, take-append-le, length-append}
use Rattle.dgn_desk.specs.Content.{Content, all_said, filed, spoken, written, written_to, with_file, HasTarget}
use Rattle.dgn_desk.specs.Desk.{SaysAll, AddsAll, FilesAll}
use Rattle.dgn_desk.specs.declared.stop.Stop.{Stop}
use Rattle.dgn_desk.specs.FileLaws.{bytes_of-with_file-same, with_file-with_file}

-- said after said is said together
pub spoken-append : (done more : List ℕ) (old : Option Content)
    → option_map (spoken more) (option_map (spoken done) old) ≡ option_map (spoken (done ++ more)) old
spoken-append done more None = refl
spoken-append done more (Some c) = ap (λ since. Some (record c { since = since })) (append_assoc c.since done more)

-- written behind what the file was made to hold is made to hold both
pub written-filed : (name done more : List ℕ) (old : Option Content)
    → option_map (written more) (option_map (filed name done) old) ≡ option_map (filed name (done ++ more)) old
written-filed name done more None = refl
written-filed name done more (Some c) =
    ap (λ files. Some (record { files = files; left = c.left; target = Some name; settled = all_said c; since = [] }))
    (ap (λ bytes. with_file name (bytes ++ more) (with_file name done c.files)) (bytes_of-with_file-same name done c.files)
    ∙ with_file-with_file name (done ++ more) done c.files)

-- a first part of the bytes is as many bytes from their front as it has
pub front_of : (bytes done rest : List ℕ) → bytes ≡ done ++ rest → take (length done) bytes ≡ done
front_of bytes done rest split = ap (take (length done)) split ∙ take-append_seam done rest

-- and no more than they have
pub no_longer : (bytes done rest : List ℕ) → bytes ≡ done ++ rest → length done ≤ length bytes
no_longer bytes done rest split = omega (arith, ap length split, length-append done rest)

-- a piece taken off the front of the rest
pub moved : (bytes done rest : List ℕ) (count : ℕ) → bytes ≡ done ++ rest → bytes ≡ (done ++ take count rest) ++ drop count rest
moved bytes done rest count split =
    split ∙ ap (λ all. done ++ all) (sym (take-append-drop count rest)) ∙ sym (append_assoc done (take count rest) (drop count rest))

-- where the desk stops, what was said so far is a first part
pub said_part : (e : Stop) (bytes done rest : List ℕ) (old new : Option Content) → bytes ≡ done ++ rest → new ≡ option_map (spoken done) old
    → SaysAll (Err e) bytes old new
said_part e bytes done rest old new split told =
    (length done, no_longer bytes done rest split, told ∙ ap (λ part. option_map (spoken part) old) (sym (front_of bytes done rest split)))

-- where the desk stops, what was written so far is a first part
pub added_part : (e : Stop) (name so_far bytes done rest : List ℕ) (old new : Option Content) → bytes ≡ done ++ rest
    → new ≡ option_map (filed name (so_far ++ done)) old → AddsAll (Err e) name so_far bytes old new
added_part e name so_far bytes done rest old new split told =
    (length done, no_longer bytes done rest split, told ∙ ap (λ part. option_map (filed name (so_far ++ part)) old) (sym (front_of bytes done rest split)))

-- a body that was written whole and a tail behind it are the file, as far as the tail came
pub filed_all : (result : Result (Unit {0}) Stop) (name body tail : List ℕ) (old new : Option Content) → AddsAll result name body tail old new
    → FilesAll result name (body ++ tail) old new
filed_all (Ok x) name body tail old new added = added
filed_all (Err e) name body tail old new added =
    inr (
      length body + added.0,
      omega (arith, added.1, length-append body tail),
      added.2 ∙ ap (λ part. option_map (filed name part) old) (sym (take-append-add body tail added.0)),
    )

-- where the first bytes were added in part, those and others were
pub added_first : (e : Stop) (name so_far first second : List ℕ) (old new : Option Content) → AddsAll (Err e) name so_far first old new
    → AddsAll (Err e) name so_far (first ++ second) old new
added_first e name so_far first second old new added =
    let within = added.1 in (
      added.0,
      omega (arith, length-append first second),
      added.2 ∙ ap (λ part. option_map (filed name (so_far ++ part)) old) (sym (take-append-le added.0 first second within)),
    )

-- and where they were added whole, and the others behind them as far as they came
pub added_both : (result : Result (Unit {0}) Stop) (name so_far first second : List ℕ) (old new : Option Content)
    → AddsAll result name (so_far ++ first) second old new → AddsAll result name so_far (first ++ second) old new
added_both (Ok x) name so_far first second old new added = added ∙ ap (λ bytes. option_map (filed name bytes) old) (append_assoc so_far first second)
added_both (Err e) name so_far first second old new added = (
  length first + added.0,
  omega (arith, added.1, length-append first second),
  added.2 ∙ ap (λ bytes. option_map (filed name bytes) old)
      (append_assoc so_far first (take added.0 second) ∙ ap (λ part. so_far ++ part) (sym (take-append-add first second added.0))),
)

-- writing keeps the name that writes go to
written_target : (target : Option (List ℕ)) (bytes : List ℕ) (c : Content) → (written_to target bytes c).target ≡ c.target
written_target None bytes c = refl
written_target (Some name) bytes c = refl

-- so after a write there is one still
pub target_written : (bytes : List ℕ) (old new : Option Content) → new ≡ option_map (written bytes) old → HasTarget old → HasTarget new
target_written bytes None new told target = rw told tt
target_written bytes (Some c) new told target = rw (told, written_target c.target bytes c) target
