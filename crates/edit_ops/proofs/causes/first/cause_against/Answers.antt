use Rattle.std.proofs.Common.{ℕ, true, false, sym, ap, ◌∙◌}
use Rattle.dgn_layout.specs.Classes.{class_of, is_silent}
use Rattle.edit_ops.specs.Asking.{locked_in}
use Rattle.edit_ops.proofs.ElementAnswers.{lock_cause, lock_found, long_found, asked_of_spots, plane_cause, holds_found, stays_found}
use Rattle.edit_ops.proofs.causes.first.cause_against.Goals as goal

pub stays_on_plane-requires : goal.stays_on_plane-requires
stays_on_plane-requires c =
    let found = c.in_ok-found.ensures.found in
    holds_found c.args.d.now c.is_whole.ensures c.args.m c.in_ok-found.found found
    (asked_of_spots c.args.test.now c.in-StaysOnPlane.by _ found.element c.in-StaysOnPlane.is found.there c.requires.asked)

pub returns-then-stays_on_plane : goal.returns-then-stays_on_plane
returns-then-stays_on_plane c =
    let found = c.in_ok-found.ensures.found in
    let some = asked_of_spots c.args.test.now c.in-StaysOnPlane.by _ found.element c.in-StaysOnPlane.is found.there c.requires.asked in
    let same = stays_found c.args.d.now c.is_whole.ensures c.args.m c.in_ok-found.found found c.in-StaysOnPlane.by some in
    sym (plane_cause c.args.d.now.dim c.args.test.now c.in-StaysOnPlane.by c.args.m _ found.element true c.in-StaysOnPlane.is found.there
    (sym same ∙ sym c.stays_on_plane.ensures ∙ c.if-stays_on_plane.true))

pub returns-else-stays_on_plane : goal.returns-else-stays_on_plane
returns-else-stays_on_plane c =
    let found = c.in_ok-found.ensures.found in
    let some = asked_of_spots c.args.test.now c.in-StaysOnPlane.by _ found.element c.in-StaysOnPlane.is found.there c.requires.asked in
    let same = stays_found c.args.d.now c.is_whole.ensures c.args.m c.in_ok-found.found found c.in-StaysOnPlane.by some in
    sym (plane_cause c.args.d.now.dim c.args.test.now c.in-StaysOnPlane.by c.args.m _ found.element false c.in-StaysOnPlane.is found.there
    (sym same ∙ sym c.stays_on_plane.ensures ∙ c.if-stays_on_plane.false))

pub locked_at-requires : goal.locked_at-requires
locked_at-requires c =
    let found = c.in_ok-found.ensures.found in
    λ loud. long_found c.args.d.now c.is_whole.ensures c.args.m c.in_ok-found.found found (sym (ap (λ (k : ℕ). is_silent (class_of k)) found.kind) ∙ loud)

pub returns-in-Unlocked : goal.returns-in-Unlocked
returns-in-Unlocked c =
    let found = c.in_ok-found.ensures.found in
    c.locked_at.ensures
    ∙ lock_cause c.args.d.now.dim c.args.test.now c.args.m _ found.element (locked_in c.in_ok-found.found.kind c.in_ok-found.found.bytes.now)
    c.in-Unlocked.is found.there
    (lock_found c.args.d.now c.is_whole.ensures c.args.m c.in_ok-found.found found)
