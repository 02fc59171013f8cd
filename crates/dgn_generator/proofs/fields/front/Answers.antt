use Rattle.std.proofs.Common.{refl}
use Rattle.dgn_drawing.specs.Spelling.{display_bytes}
use Rattle.dgn_generator.proofs.fields.front.Goals as goal

pub returns : goal.returns
unfolding display_bytes
returns c =
    rw (
      c.put_word-2.ensures,
      c.put_number-6.ensures,
      c.put_number-5.ensures,
      c.put_number-4.ensures,
      c.put_number-3.ensures,
      c.put_number-2.ensures,
      c.put_number.ensures,
      c.put_word.ensures,
      c.first_byte.ensures,
    ) refl
