use Rattle.std.proofs.Common.{◌≡◌, ◌≤◌, drop}
use Rattle.std.specs.List.{list_all}
use Rattle.std.specs.Char.{is_ascii_digit}
use Rattle.std.specs.Str.Parse.{digits_value, digits_value_after}
use Rattle.edit_script.proofs.numbers.value_within.Given as goal

-- what is read so far and the bytes that are left behind it are worth what all are, and these are digits where all are
abbrev pub invariant-digits : goal.invariant-digits
invariant-digits l = record {
  all : digits_value_after 10 l.value (drop l.digit-index l.word) ≡ digits_value 10 l.word;
  small : l.value ≤ l.most;
  left : list_all is_ascii_digit (drop l.digit-index l.word) ≡ list_all is_ascii_digit l.word;
}
