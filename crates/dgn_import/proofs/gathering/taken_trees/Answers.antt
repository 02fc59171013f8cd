use Rattle.std.proofs.Common.{◌<◌, length, sym, ◌∙◌, arith}
use Rattle.std.specs.Prelude.{option_map}
use Rattle.std.proofs.lemmas.Result.{err_from_is_err_and}
use Rattle.elem_index.specs.Design.{elements}
use Rattle.elem_index.proofs.Places.{few_elements}
use Rattle.dgn_import.proofs.TreesGathered.{none_gathered, more_elements, next_refused, goes_on, next_left, next_gathered, all_gathered}
use Rattle.dgn_import.proofs.gathering.taken_trees.Goals as goal
use Rattle.dgn_import.proofs.gathering.taken_trees.Goals.{then-is_taken+in_ok-push_tree, else-is_taken}

pub roots-init : goal.roots-init
roots-init c =
    none_gathered c.args.d.now.dim (elements c.args.d.now) (option_map (λ b. b.now) c.args.by)
    c.from_vec-bytes.result (c.from_vec-bytes.ensures ∙ c.in_ok-reserve.ensures.items ∙ c.new-room.ensures.items)

pub roots-smaller : goal.roots-smaller
roots-smaller c =
    let known : c.roots.root < length (elements c.args.d.now) = omega (arith, c.roots-test.true, c.count-count.ensures) in
    let on : c.roots.root < c.part_end-root.result =
    goes_on c.args.d.now.dim (elements c.args.d.now) (option_map (λ b. b.now) c.args.by)
    c.roots.root c.roots.trees c.roots.bytes c.roots.invariant known c.part_end-root.result c.part_end-root.ensures in
    omega (arith, on, c.roots-test.true)

pub overflow_add-trees : goal.overflow_add-trees
overflow_add-trees c =
    let known : c.roots.root < length (elements c.args.d.now) = omega (arith, c.roots-test.true, c.count-count.ensures) in
    let more = more_elements c.args.d.now.dim (elements c.args.d.now) (option_map (λ b. b.now) c.args.by)
    c.roots.root c.roots.trees c.roots.bytes c.roots.invariant known (sym c.is_taken.ensures ∙ c.if-is_taken.true) in
    omega (arith, more, few_elements c.args.d.now c.is_whole.ensures)

pub returns-in_err-push_tree : goal.returns-in_err-push_tree
returns-in_err-push_tree c =
    let known : c.roots.root < length (elements c.args.d.now) = omega (arith, c.roots-test.true, c.count-count.ensures) in
    let told = err_from_is_err_and c.from_residual-in_err-push_tree.result c.from_residual-in_err-push_tree.ensures.1 in
    rw (told.1, told.2) (next_refused c.args.d.now.dim (elements c.args.d.now) (option_map (λ b. b.now) c.args.by)
    c.roots.root c.roots.trees c.roots.bytes c.roots.invariant known (sym c.is_taken.ensures ∙ c.if-is_taken.true)
    c.in_err-push_tree.field-0.0 c.in_err-push_tree.ensures)

pub roots-preserved : goal.roots-preserved
roots-preserved c =
    let known : c.roots.root < length (elements c.args.d.now) = omega (arith, c.roots-test.true, c.count-count.ensures) in
    elim c.if-is_taken.branch [
      | then-is_taken+in_ok-push_tree w ↦
          rw (w.bytes-is, w.trees-is)
          (next_gathered c.args.d.now.dim (elements c.args.d.now) (option_map (λ b. b.now) c.args.by)
          c.roots.root c.roots.trees c.roots.bytes c.roots.invariant known c.part_end-root.result c.part_end-root.ensures
          (sym c.is_taken.ensures ∙ w.if-is_taken.true) w.push_tree.new.out w.in_ok-push_tree.ensures.1 w.in_ok-push_tree.ensures.0)
      | else-is_taken w ↦
          rw (w.bytes-is, w.trees-is)
          (next_left c.args.d.now.dim (elements c.args.d.now) (option_map (λ b. b.now) c.args.by)
          c.roots.root c.roots.trees c.roots.bytes c.roots.invariant known c.part_end-root.result c.part_end-root.ensures
          (sym c.is_taken.ensures ∙ w.if-is_taken.false))
    ]

pub returns : goal.returns
returns c =
    all_gathered c.args.d.now.dim (elements c.args.d.now) (option_map (λ b. b.now) c.args.by)
    c.roots.root c.roots.trees c.roots.bytes c.roots.invariant
    (omega (arith, c.roots-test.false, c.count-count.ensures))
