use Rattle.std.proofs.Common.{arith}
use Rattle.dgn_radix50.proofs.SignsAndWords.{word_of-signs_of}
use Rattle.dgn_radix50.proofs.unpack.Goals as goal

pub returns-then-w-lt-WORDS-clause-back : goal.returns-then-w-lt-WORDS-clause-back
returns-then-w-lt-WORDS-clause-back c =
    rw (c.sign.ensures, c.sign-then-w-lt-WORDS.ensures, c.sign-then-w-lt-WORDS-2.ensures) (word_of-signs_of c.args.w (omega arith))
