-- What stands against a copy, and whether the file would be too long with it.
use Rattle.std.proofs.Common.{◌≡◌, ℕ, ◌+◌, List, [], ◌∷◌, length, Option, Some, None, refl, sym, ap, ◌∙◌}
use Rattle.std.specs.Option.{option_or, unwrap_or}
use Rattle.dgn_drawing.specs.declared.edit.Edit.TheVariants as edit
use Rattle.dgn_drawing.specs.Values.{Displacement}
use Rattle.dgn_drawing.specs.Element.{Element}
use Rattle.dgn_drawing.specs.Spelling.{spelling}
use Rattle.elem_index.specs.declared.design.Design.{Design}
use Rattle.elem_index.specs.Design.{elements, IsWhole}
use Rattle.elem_index.proofs.Places.{body_is}
use Rattle.edit_ops.specs.declared.causes.cause.Cause.{Cause}
use Rattle.edit_ops.specs.declared.causes.test.Test.TheVariants as tests
use Rattle.edit_ops.specs.Trees.{live_tree}
use Rattle.edit_ops.specs.Causes.{other_axes, first_cause, too_long, bytes_appended, part_cause, causes_of, first_of}
use Rattle.edit_ops.specs.Copying.{copy_cause}
use Rattle.edit_ops.proofs.ListedLive.{or_nothing}

-- the first of five that is there, the first two and the others taken together
five_as_two : (a b c d e : Option Cause) → option_or a (first_of (b ∷ c ∷ d ∷ e ∷ [])) ≡ option_or (option_or a b) (option_or (option_or c d) e)
five_as_two (Some x) b c d e = refl
five_as_two None (Some x) c d e = refl
five_as_two None None (Some x) d e = refl
five_as_two None None None (Some x) e = refl
five_as_two None None None None e = or_nothing e

-- what stands against a copy of a part: what is against any, what refuses the copy by itself, or that the file would be too long
copy_first : (dim : ℕ) (es : List Element) (rest n : ℕ) (by : Displacement)
    → option_or (part_cause dim es n) (first_of (causes_of dim es rest (edit.Copy n by)))
    ≡ option_or (option_or (part_cause dim es n) (other_axes dim by.axes))
    (option_or (copy_cause dim es by n) (too_long (length (spelling es) + rest + bytes_appended es (edit.Copy n by))))
copy_first dim es rest n by =
    five_as_two (part_cause dim es n) (other_axes dim by.axes) (first_cause dim tests.Moves (live_tree es n))
    (first_cause dim (tests.StaysOnPlane by) (live_tree es n))
    (too_long (length (spelling es) + rest + bytes_appended es (edit.Copy n by)))

-- what stands against it and is told, else what is told of the length
first_or_else : (o : Option Cause) (c : Cause) → option_or o (Some c) ≡ Some (unwrap_or o c)
first_or_else None c = refl
first_or_else (Some x) c = refl

-- a copy against the part of which, and against the axes of which, nothing stands; it has as many bytes as the part
module _ (d : Design) (whole : IsWhole d) (n pending appended : ℕ) (by : Displacement)
    (free : option_or (part_cause d.dim (elements d) n) (other_axes d.dim by.axes) ≡ None)
    (long : appended ≡ bytes_appended (elements d) (edit.Copy n by)) where
  abbrev asked : Option Cause
  asked = too_long (length d.body.items + (length d.tail.items + pending) + appended)

  abbrev stands : Option Cause
  stands = option_or (part_cause d.dim (elements d) n) (first_of (causes_of d.dim (elements d) (length d.tail.items + pending) (edit.Copy n by)))

  -- what refuses it by itself comes before the length
  copy_then_long : stands ≡ option_or (copy_cause d.dim (elements d) by n) asked
  copy_then_long =
      copy_first d.dim (elements d) (length d.tail.items + pending) n by
      ∙ ap (λ (o : Option Cause). option_or o
      (option_or (copy_cause d.dim (elements d) by n)
      (too_long (length (spelling (elements d)) + (length d.tail.items + pending) + bytes_appended (elements d) (edit.Copy n by))))) free
      ∙ ap (λ (k : ℕ). option_or (copy_cause d.dim (elements d) by n) (too_long (length (spelling (elements d)) + (length d.tail.items + pending) + k)))
      (sym long)
      ∙ ap (λ (b : List ℕ). option_or (copy_cause d.dim (elements d) by n) (too_long (length b + (length d.tail.items + pending) + appended))) (body_is d whole)

  -- it would be too long, which is told where nothing else is
  pub long_copy : (o : Option Cause) (c : Cause) → o ≡ copy_cause d.dim (elements d) by n → asked ≡ Some c → stands ≡ Some (unwrap_or o c)
  long_copy o c is too =
      copy_then_long ∙ ap (λ (x : Option Cause). option_or x asked) (sym is) ∙ ap (option_or o) too ∙ first_or_else o c

  -- it wouldn't, so what refuses it by itself is all
  pub short_copy : asked ≡ None → stands ≡ copy_cause d.dim (elements d) by n
  short_copy fits = copy_then_long ∙ ap (option_or (copy_cause d.dim (elements d) by n)) fits ∙ or_nothing (copy_cause d.dim (elements d) by n)
