-- What is written and said of a generated drawing on which the fixed script was run.
use Rattle.std.proofs.Common.{◌≡◌, List, [], ℕ, ◌+◌, ◌++◌, length, replicate, Bool, true, false, cond, refl, sym, ap, ◌∙◌, append_assoc, arith, length-append}
use Rattle.std.specs.Prelude.{codes}
use Rattle.std.proofs.lemmas.List.{length-replicate}
use Rattle.dgn_drawing.specs.Shown.{shown}
use Rattle.dgn_drawing.specs.Spelling.{spelling}
use Rattle.dgn_session.specs.State.{State}
use Rattle.dgn_answers.specs.Commands.{first_state}
use Rattle.dgn_answers.specs.Steps.{after_all}
use Rattle.dgn_tool.specs.Filling.{is_blocks, left_in_block, filling, file_made}
use Rattle.dgn_tool.specs.Generation.{fixed_steps, sizes_of, summary, generated_from, drawing_of, generation}
use Rattle.dgn_listing.specs.NumberedLines.{numbered}
use Rattle.dgn_tool.specs.Ended.{filed_then_said}
use Rattle.dgn_tool.specs.declared.status.Status.TheVariants as statuses
use Rattle.dgn_tool.proofs.TextsThenFiles.{made_so}

-- the outcome, by the bytes that are written and the text that is said
pub tried : (s new : State) (t output tail body text : List ℕ) (before : ℕ) → new ≡ after_all fixed_steps s → tail ≡ t → before ≡ length (spelling s.top)
    → body ≡ spelling new.top → text ≡ summary s t
    → generated_from s t output ≡ filed_then_said statuses.Done text output (file_made before tail body)
tried s new t output tail body text before drawn back begins spelled told =
    ap (filed_then_said statuses.Done (summary s t) output)
    (sym (ap (file_made before tail) spelled ∙ made_so s new t tail fixed_steps before drawn back begins))
    ∙ ap (λ (x : List ℕ). filed_then_said statuses.Done x output (file_made before tail body)) (sym told)

-- a session on the drawing of a seed and a count comes to what is generated
pub generates : (seed count : ℕ) (s : State) (t output : List ℕ) → s ≡ first_state (drawing_of seed count) → t ≡ (drawing_of seed count).tail
    → generation seed count output ≡ generated_from s t output
generates seed count s t output drawn tail =
    ap (λ (x : State). generated_from x (drawing_of seed count).tail output) (sym drawn) ∙ ap (λ (x : List ℕ). generated_from s x output) (sym tail)

-- how many bytes fill the last block
filled_long : (blocks : Bool) (k : ℕ) → length (cond blocks (replicate {A = ℕ} k 0) []) ≡ cond blocks k 0
filled_long true k = length-replicate k 0
filled_long false k = refl

-- how many bytes a file has
pub long_made : (before n z : ℕ) (tail tail' body : List ℕ) → n ≡ length body → tail' ≡ tail
    → z ≡ cond (is_blocks before tail') (left_in_block (n + length tail')) 0 → n + length tail' + z ≡ length (file_made before tail body)
long_made before n z tail tail' body counted same is =
    let zeros : z ≡ length (filling before tail (length body)) =
    is ∙ ap (λ (x : List ℕ). cond (is_blocks before x) (left_in_block (n + length x)) 0) same
    ∙ ap (λ (k : ℕ). cond (is_blocks before tail) (left_in_block (k + length tail)) 0) counted
    ∙ sym (filled_long (is_blocks before tail) (left_in_block (length body + length tail))) in
    omega (
      arith,
      ap (length {A = ℕ}) same,
      length-append body (tail ++ filling before tail (length body)),
      length-append tail (filling before tail (length body)),
    )

-- three lines, each said behind the one before it
three_lines : (a b c t0 t1 t2 t3 : List ℕ) → t1 ≡ t0 ++ a → t2 ≡ t1 ++ b → t3 ≡ t2 ++ c → t3 ≡ t0 ++ (a ++ (b ++ c))
three_lines a b c t0 t1 t2 t3 one two three =
    three ∙ ap (λ (t : List ℕ). t ++ c) two ∙ ap (λ (t : List ℕ). (t ++ b) ++ c) one ∙ append_assoc (t0 ++ a) b c ∙ append_assoc t0 a (b ++ c)

-- how many elements there are, how many bytes, and how many items
pub sized : (before : ℕ) (tail : List ℕ) (s : State) (elements bytes items : ℕ) (t0 t1 t2 t3 : List ℕ) → elements ≡ length s.top
    → bytes ≡ length (file_made before tail (spelling s.top)) → items ≡ length (shown s.dim s.mask s.top)
    → t1 ≡ t0 ++ numbered (codes "elements ") elements → t2 ≡ t1 ++ numbered (codes "bytes ") bytes → t3 ≡ t2 ++ numbered (codes "shown ") items → t3 ≡ t0
    ++ sizes_of before tail s
sized before tail s elements bytes items t0 t1 t2 t3 count long many one two three =
    three_lines (numbered (codes "elements ") (length s.top)) (numbered (codes "bytes ") (length (file_made before tail (spelling s.top))))
    (numbered (codes "shown ") (length (shown s.dim s.mask s.top))) t0 t1 t2 t3
    (one ∙ ap (λ (n : ℕ). t0 ++ numbered (codes "elements ") n) count)
    (two ∙ ap (λ (n : ℕ). t1 ++ numbered (codes "bytes ") n) long)
    (three ∙ ap (λ (n : ℕ). t2 ++ numbered (codes "shown ") n) many)
