use Rattle.std.proofs.Common.{ℕ, ◌+◌, ◌*◌, Some, arith, rules, sym}
use Rattle.dgn_radix50.proofs.SignsAndWords.{signs_of-word_of, word-IsSome}
use Rattle.dgn_radix50.proofs.pack.Goals as goal

pub returns-in_err-code-clause-signs : goal.returns-in_err-code-clause-signs
returns-in_err-code-clause-signs c = word-IsSome c.args.c _ (omega arith) (search rules)

pub returns-in_err-code-2-clause-signs : goal.returns-in_err-code-2-clause-signs
returns-in_err-code-2-clause-signs c = word-IsSome c.args.c _ (omega arith) (search rules)

pub returns-in_err-code-3-clause-signs : goal.returns-in_err-code-3-clause-signs
returns-in_err-code-3-clause-signs c = word-IsSome c.args.c _ (omega arith) (search rules)

pub returns-clause-signs : goal.returns-clause-signs
returns-clause-signs c =
    let word : ℕ = c.in_ok-code.field-0 * 1600 + c.in_ok-code-2.field-0 * 40 + c.in_ok-code-3.field-0 in
    word-IsSome c.args.c (Some word) (omega arith) (search rules)

pub returns-clause-back : goal.returns-clause-back
returns-clause-back c =
    signs_of-word_of c.args.c (omega arith) _ _ _ (sym c.in_ok-code.ensures.code) (sym c.in_ok-code-2.ensures.code) (sym c.in_ok-code-3.ensures.code)
