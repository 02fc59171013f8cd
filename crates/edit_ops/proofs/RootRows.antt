-- What keeps a tree from any edit, by the rows of its elements.
use Rattle.std.proofs.Common.{◌≡◌, ℕ, ◌<◌, List, [], length, false, cond, refl, sym, ap, ◌∙◌}
use Rattle.std.specs.Prelude.{Option, Some, None, slice_get, Bool}
use Rattle.std.specs.Option.{option_or, option_to_list}
use Rattle.dgn_drawing.specs.Element.{Element}
use Rattle.dgn_drawing.specs.Rows.{row_of}
use Rattle.dgn_drawing.specs.Numbering.{parent_of, first_broken_of, root_of}
use Rattle.nest_tree.proofs.HeaderChains.{ends_climb, ends_first, root_known}
use Rattle.edit_ops.specs.declared.causes.cause.Cause.{Cause}
use Rattle.edit_ops.specs.declared.causes.cause.Cause.TheVariants as causes
use Rattle.edit_ops.specs.declared.causes.test.Test.TheVariants as tests
use Rattle.edit_ops.specs.Trees.{Live, above_tree, found_at}
use Rattle.edit_ops.specs.Causes.{broken, broken_in, first_cause, part_cause}
use Rattle.edit_ops.specs.Asking.{cause_in}
use Rattle.edit_ops.specs.Written.{lives_of}
use Rattle.edit_ops.proofs.HeadersFound.{found_above}
use Rattle.edit_ops.proofs.ListedLive.{or_assoc, cause_both, cause_alone}

-- what keeps a part from any edit, as it is asked for
pub part_cause_is : (dim : ℕ) (es : List Element) (n : ℕ) (above : List Live) (a b c : Option Cause) → above ≡ above_tree es n
    → a ≡ broken (broken_in es (root_of row_of es n)) → b ≡ first_cause dim tests.NotDeleted above → c ≡ cause_in dim tests.NotDeleted n (slice_get es n)
    → option_or (option_or a b) c ≡ part_cause dim es n
part_cause_is dim es n above a b c over is_a is_b is_c =
    let second : b ≡ first_cause dim tests.NotDeleted (above_tree es n) = is_b ∙ ap (first_cause dim tests.NotDeleted) over in
    let third : c ≡ first_cause dim tests.NotDeleted (option_to_list (found_at es n)) = is_c ∙ sym (cause_alone dim tests.NotDeleted es n) in
    or_assoc a b c
    ∙ ap (λ (x : Option Cause). option_or x (option_or b c)) is_a
    ∙ ap (λ (x : Option Cause). option_or (broken (broken_in es (root_of row_of es n))) (option_or x c)) second
    ∙ ap (λ (x : Option Cause). option_or (broken (broken_in es (root_of row_of es n))) (option_or (first_cause dim tests.NotDeleted (above_tree es n)) x))
    third
    ∙ ap (λ (x : Option Cause). option_or (broken (broken_in es (root_of row_of es n))) x)
    (sym (cause_both dim tests.NotDeleted (above_tree es n) (option_to_list (found_at es n))))

-- above a root there are no headers, and nothing keeps its part from any edit where it is live and no number of its tree is broken
module _ (es : List Element) (n : ℕ) (root : parent_of row_of es n ≡ Some None) where
  pub none_above : above_tree es n ≡ []
  none_above =
      sym (found_above es n)
      ∙ ap (lives_of es) (ends_climb row_of es n (sym root))

  pub root_free : (dim : ℕ) (e : Element) → n < length es → first_broken_of row_of es n ≡ Some None → slice_get es n ≡ Some e → e.deleted ≡ false
      → part_cause dim es n ≡ None
  root_free dim e known sound there alive =
      let own : root_of row_of es n ≡ Some n = root_known row_of es n known ∙ ap Some (ends_first row_of es n (sym root)) in
      let unbroken : broken (broken_in es (root_of row_of es n)) ≡ None = ap (λ (o : Option ℕ). broken (broken_in es o)) own ∙ ap broken sound in
      let lives : cause_in dim tests.NotDeleted n (slice_get es n) ≡ None =
      ap (cause_in dim tests.NotDeleted n) there ∙ ap (λ (b : Bool). cond b (Some (causes.Deleted n)) None) alive in
      sym (part_cause_is dim es n [] None None None (sym none_above) (sym unbroken) refl (sym lives))
