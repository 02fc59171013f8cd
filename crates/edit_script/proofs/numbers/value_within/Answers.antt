use Rattle.std.proofs.Common.{arith}
use Rattle.std.proofs.lemmas.Bool.Decides.{nat_tests}
use Rattle.edit_script.proofs.Numerals.{digit_is, value_next, grows}
use Rattle.edit_script.proofs.numbers.value_within.Goals as goal

-- what is read is above the most already, and more bytes are worth no less
pub returns-then-value-most : goal.returns-then-value-most
returns-then-value-most c = grind (arith, nat_tests, digit_is, value_next, grows)
