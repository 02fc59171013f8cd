use Rattle.std.proofs.Common.{ℕ, List, length, refl, sym, ap, subst, arith}
use Rattle.undo_log.specs.Entries.{IsUndone}
use Rattle.elem_index.specs.declared.design.Design.{Design}
use Rattle.elem_index.specs.Design.{elements}
use Rattle.elem_index.proofs.Places.{length-offsets, few_elements}
use Rattle.dgn_session.proofs.PartsKept.{same_items}
use Rattle.dgn_session.proofs.LastEditBack.{can_undo, is_undone, some_left, free_behind, can_shrink, kept_before}
use Rattle.dgn_session.proofs.taking.take_back.Goals as goal
use Rattle.dgn_session.proofs.taking.take_back.Goals.{After-undo}

-- the last entry is written back
undone : (c : goal.After-undo) → IsUndone c.args.log.now.entries c.args.design.now.body.items c.undo.new.self.entries c.undo.new.buf.items
undone c =
    is_undone c.args.design.now c.args.nest.now c.args.log.now c.requires.kept c.args.len c.requires.last c.undo.result c.undo.new.self
    c.undo.new.buf.items c.undo.ensures.exactly c.undo.ensures.undone

-- the design with the body before, but with all that is kept of the elements
abbrev uncut : goal.After-undo → Design
uncut c = record {
  dim = c.args.design.now.dim;
  body = c.undo.new.buf;
  tail = c.args.design.now.tail;
  kept = c.args.design.now.kept;
  kinds = c.args.design.now.kinds;
}

pub count_below-count-requires : goal.count_below-count-requires
count_below-count-requires c =
    omega (arith, ap (length {A = ℕ}) c.offsets.ensures, length-offsets (elements c.args.design.now), few_elements c.args.design.now c.requires.kept.whole)

pub undo-requires : goal.undo-requires
undo-requires c = can_undo c.args.design.now c.args.nest.now c.args.log.now c.requires.kept c.args.len c.requires.last

pub shrink-requires : goal.shrink-requires
shrink-requires c =
    let at = (goal.at.shrink-requires c).After-undo in
    can_shrink c.args.design.now c.args.nest.now c.args.log.now c.requires.kept c.args.len c.requires.last c.offsets.result.now c.count_below-count.result
    c.offsets.ensures c.count_below-count.ensures c.undo.new.self c.undo.new.buf.items (undone at) (uncut at) refl refl refl refl refl

pub shrink-requires-2-clause-positive : goal.shrink-requires-2-clause-positive
shrink-requires-2-clause-positive c =
    some_left c.args.design.now c.args.nest.now c.args.log.now c.requires.kept c.args.len c.requires.last c.offsets.result.now c.count_below-count.result
    c.offsets.ensures c.count_below-count.ensures

pub shrink-requires-2-clause-free : goal.shrink-requires-2-clause-free
shrink-requires-2-clause-free c =
    free_behind c.args.design.now c.args.nest.now c.args.log.now c.requires.kept c.args.len c.requires.last c.offsets.result.now c.count_below-count.result
    c.offsets.ensures c.count_below-count.ensures

pub returns-clause-kept : goal.returns-clause-kept
returns-clause-kept c =
    let at = (goal.at.returns-clause-kept c).After-undo in
    kept_before c.args.design.now c.args.nest.now c.args.log.now c.requires.kept c.args.len c.requires.last c.offsets.result.now c.count_below-count.result
    c.offsets.ensures c.count_below-count.ensures c.undo.new.self c.undo.new.buf.items (undone at) (uncut at) refl refl refl refl refl c.shrink.new.self
    c.shrink.ensures.text c.shrink.ensures.whole c.shrink-2.new.self c.shrink-2.ensures

pub returns-clause-undone : goal.returns-clause-undone
returns-clause-undone c =
    subst (λ (x : List ℕ). IsUndone c.args.log.now.entries c.args.design.now.body.items c.undo.new.self.entries x)
    (sym (same_items c.shrink.ensures.text.body)) (undone (goal.at.returns-clause-undone c).After-undo)
