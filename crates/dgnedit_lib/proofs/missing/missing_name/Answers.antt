use Rattle.std.proofs.Common.{◌≡◌, ℕ, List, IfOk, string_bytes, sym, subst, arith}
use Rattle.std.proofs.lemmas.Bool.Decides.{nat_tests}
use Rattle.dgn_tool.specs.Outcome.{HasFiles}
use Rattle.dgn_tool.specs.Request.{request_of}
use Rattle.dgnedit_lib.specs.Missing.{missing_name}
use Rattle.dgnedit_lib.proofs.MissingFiles.{four_items, no_form}
use Rattle.dgnedit_lib.proofs.missing.missing_name.Goals as goal
use Rattle.dgnedit_lib.proofs.missing.missing_name.Goals.{in_default-via-then-words-lt2, in_default-via-else-words-lt2+else-words-lt3+then-words-lt4, in_default-via-else-words-lt2+else-words-lt3+else-words-lt4+else-words-lt5}

pub returns-in-len4 : goal.returns-in-len4
returns-in-len4 c =
    let files = c.args.desk.now.content.files in
    let four = four_items string_bytes c.args.words.now c.input-item-then-words-lt5.result c.second-item.result _ _ c.in-len4.len_at_least c.in-len4.len_below
    c.input-item-then-words-lt5.is c.second-item.is c.as_str.ensures.value c.as_str-in-len4.ensures.value in
    subst (λ (ws : List (List ℕ)). IfOk c.missing_in_four.result (λ name. name.items ≡ missing_name (request_of ws) files)) (sym four.is)
    (c.missing_in_four.ensures four.a four.d (subst (λ (ws : List (List ℕ)). ¬ HasFiles (request_of ws) files) four.is c.requires))

pub returns-in_default : goal.returns-in_default
returns-in_default c =
    let none = no_form string_bytes c.args.desk.now.content.files c.args.words.now c.new.result.items in
    elim c.in_default.branch [
      | in_default-via-then-words-lt2 w ↦ none (λ two. grind (arith, nat_tests, two, w)) (λ four. grind (arith, nat_tests, four, w)) c.requires
      | in_default-via-else-words-lt2+else-words-lt3+then-words-lt4 w ↦
          none (λ two. grind (arith, nat_tests, two, w)) (λ four. grind (arith, nat_tests, four, w)) c.requires
      | in_default-via-else-words-lt2+else-words-lt3+else-words-lt4+else-words-lt5 w ↦
          none (λ two. grind (arith, nat_tests, two, w)) (λ four. grind (arith, nat_tests, four, w)) c.requires
    ]
