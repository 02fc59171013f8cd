use Rattle.std.proofs.Common.{◌≡◌, ◌++◌, List, Option, None, sym, ap, ◌∙◌, subst}
use Rattle.std.specs.Prelude.{slice_get}
use Rattle.std.specs.Option.{option_to_list}
use Rattle.std.proofs.lemmas.List.{append-nil}
use Rattle.range_code.specs.declared.Box3.{Box3}
use Rattle.elem_index.specs.Design.{elements}
use Rattle.patch_bytes.specs.Puts.{Put}
use Rattle.dgn_drawing.specs.declared.edit.Edit.{Edit}
use Rattle.dgn_drawing.specs.Element.{Element}
use Rattle.edit_ops.specs.Causes.{off_plane}
use Rattle.edit_ops.specs.Trees.{found_at}
use Rattle.edit_ops.specs.Rules.{rule_of}
use Rattle.edit_ops.specs.Written.{lives_of, above_puts}
use Rattle.edit_ops.proofs.WiderRanges.{above_none, above_still, holds_of, long_spots, corners_stay, above_moved, all_wider}
use Rattle.edit_ops.specs.Putting.{MayBePut, leaving}
use Rattle.edit_ops.proofs.ElementAnswers.{holds_found, stays_found}
use Rattle.edit_ops.proofs.LeavingElements.{leaving_found}
use Rattle.edit_ops.proofs.changes.headers.push_above.Goals as goal

pub returns-in_default-clause-put : goal.returns-in_default-clause-put
returns-in_default-clause-put c =
    let head : Option Element = slice_get (elements c.args.d.now) c.args.n in
    let puts = above_still c.args.d.now.dim c.args.edit.now head (lives_of (elements c.args.d.now) c.args.above.now) c.in_default.not-Move in
    sym (ap (λ (ps : List Put). c.args.patches.now ++ ps) puts ∙ append-nil c.args.patches.now)

pub returns-in_default-find-clause-put : goal.returns-in_default-find-clause-put
returns-in_default-find-clause-put c =
    let missing : slice_get (elements c.args.d.now) c.args.n ≡ None = c.in_default-find.ensures.none in
    let puts = ap (λ (o : Option Element). above_puts (rule_of c.args.d.now.dim c.args.edit.now) o (lives_of (elements c.args.d.now) c.args.above.now)) missing
    ∙ above_none c.args.d.now.dim c.args.edit.now (lives_of (elements c.args.d.now) c.args.above.now) in
    sym (ap (λ (ps : List Put). c.args.patches.now ++ ps) puts ∙ append-nil c.args.patches.now)

pub stays_on_plane-requires : goal.stays_on_plane-requires
stays_on_plane-requires c =
    let head = c.in-Some.ensures.found in
    let spots = subst (λ (e : Edit). MayBePut e head.element) c.in-Move.is
    (holds_of (MayBePut c.args.edit.now) (slice_get (elements c.args.d.now) c.args.n) head.element head.there c.requires.head) in
    holds_found c.args.d.now c.is_whole.ensures c.args.n c.in-Some.head head spots

pub returns-then-not-stays_on_plane-clause-refused : goal.returns-then-not-stays_on_plane-clause-refused
returns-then-not-stays_on_plane-clause-refused c =
    let head = c.in-Some.ensures.found in
    let spots = subst (λ (e : Edit). MayBePut e head.element) c.in-Move.is
    (holds_of (MayBePut c.args.edit.now) (slice_get (elements c.args.d.now) c.args.n) head.element head.there c.requires.head) in
    ap (λ (e : Edit). leaving c.args.d.now.dim e (option_to_list (found_at (elements c.args.d.now) c.args.n))) c.in-Move.is
    ∙ leaving_found c.args.d.now c.is_whole.ensures c.args.n c.in-Some.head head c.in-Move.by spots
    ∙ ap (off_plane c.args.n) (sym c.stays_on_plane.ensures ∙ c.if-not-stays_on_plane.true)

pub moved_range-requires : goal.moved_range-requires
moved_range-requires c =
    let head = c.in-Some.ensures.found in
    let spots = subst (λ (e : Edit). MayBePut e head.element) c.in-Move.is
    (holds_of (MayBePut c.args.edit.now) (slice_get (elements c.args.d.now) c.args.n) head.element head.there c.requires.head) in
    let stay = corners_stay c.args.d.now c.is_whole.ensures c.args.n c.in-Some.head head c.in-Move.by spots
    (sym (stays_found c.args.d.now c.is_whole.ensures c.args.n c.in-Some.head head c.in-Move.by spots)
    ∙ sym c.stays_on_plane.ensures ∙ c.if-not-stays_on_plane.false) in
    record {
      long_enough = long_spots c.args.d.now c.is_whole.ensures c.args.n c.in-Some.head head spots;
      low = stay.0;
      high = stay.1;
    }

pub returns-clause-put : goal.returns-clause-put
returns-clause-put c =
    let head = c.in-Some.ensures.found in
    let spots = subst (λ (e : Edit). MayBePut e head.element) c.in-Move.is
    (holds_of (MayBePut c.args.edit.now) (slice_get (elements c.args.d.now) c.args.n) head.element head.there c.requires.head) in
    let puts = above_moved c.args.d.now c.is_whole.ensures c.args.n c.in-Some.head head c.in-Move.by
    (lives_of (elements c.args.d.now) c.args.above.now) spots in
    c.in_ok-push_all_wider.ensures
    ∙ ap (λ (r : Box3). c.args.patches.now ++ all_wider c.args.d.now.dim r (lives_of (elements c.args.d.now) c.args.above.now))
    c.moved_range.ensures
    ∙ ap (λ (ps : List Put). c.args.patches.now ++ ps) (sym puts)
    ∙ ap (λ (e : Edit). c.args.patches.now
    ++ above_puts (rule_of c.args.d.now.dim e) (slice_get (elements c.args.d.now) c.args.n) (lives_of (elements c.args.d.now) c.args.above.now)) (sym c.in-Move.is)
