use Rattle.std.proofs.Common.{◌≡◌, ℕ, ◌-◌, ◌++◌, List, [], Some, length, reverse, refl, sym, ap, ◌∙◌, arith}
use Rattle.elem_index.specs.Design.{elements}
use Rattle.dgn_audit.specs.declared.finding.Finding.{Finding}
use Rattle.dgn_audit.specs.declared.open_box.OpenBox.{OpenBox}
use Rattle.dgn_audit.specs.Reading.{finding_read}
use Rattle.dgn_audit.specs.OpenBoxes.{without, with_hulls}
use Rattle.dgn_audit.proofs.ReadBack.{Pass, pass_of, read_back}
use Rattle.dgn_audit.proofs.OpenBoxCount.{few_open}
use Rattle.dgn_audit.proofs.NestedElements.{nested_long, nested_holds, hull_long, dead_read, bare_read, hull_is_read, hull_from, back_step}
use Rattle.dgn_audit.proofs.TreePlaces.{has_bounds}
use Rattle.dgn_audit.proofs.reading.read_part.Goals as goal

pub loop-n-init : goal.loop-n-init
loop-n-init c =
    let bounds = has_bounds c.args.keep c.args.d.now.dim (elements c.args.d.now) c.args.part c.requires.known c.bounds-first.result c.bounds-first.ensures in
    let none : c.bounds-first.result.1 - c.bounds-first.result.1 ≡ 0 = omega arith in
    record {
      room = c.in_ok-boxes.ensures.exact;
      after = bounds.ordered;
      pass = ap (λ (os : List OpenBox). pass_of os c.new-noted.result.items) c.in_ok-boxes.ensures.items
          ∙ ap (pass_of []) c.new-noted.ensures.items
          ∙ ap (read_back c.args.keep c.args.d.now.dim (elements c.args.d.now) c.bounds-first.result.1) (sym none);
    }

pub nested_at-nested-requires : goal.nested_at-nested-requires
nested_at-nested-requires c = record {
  known = let bounds = has_bounds c.args.keep c.args.d.now.dim (elements c.args.d.now) c.args.part c.requires.known c.bounds-first.result
      c.bounds-first.ensures in
      omega (arith, bounds.within, c.loop-n.auto.n, c.loop-n-test.true);
}

pub hull_of-requires-clause-long_enough : goal.hull_of-requires-clause-long_enough
hull_of-requires-clause-long_enough c = nested_long c.args.d.now c.is_whole.ensures (c.loop-n.n - 1) c.nested_at-nested.result c.nested_at-nested.ensures

pub hull_of-requires-clause-holds : goal.hull_of-requires-clause-holds
hull_of-requires-clause-holds c =
    nested_holds c.args.d.now c.is_whole.ensures (c.loop-n.n - 1) c.nested_at-nested.result c.nested_at-nested.ensures

pub add_hull-requires : goal.add_hull-requires
add_hull-requires c =
    let d = c.args.d.now in
    let s = c.nested_at-nested.result in
    let os = reverse c.loop-n.boxes.items in
    let bounds = has_bounds c.args.keep d.dim (elements d) c.args.part c.requires.known c.bounds-first.result c.bounds-first.ensures in
    let read = back_step c.args.keep d.dim (elements d) (c.loop-n.n - 1) c.loop-n.n c.bounds-first.result.1
    (pass_of c.loop-n.boxes.items c.loop-n.noted.items) _
    (omega (arith, c.loop-n-test.true)) c.loop-n.auto.n c.loop-n.invariant.pass
    (hull_is_read d c.is_whole.ensures (c.loop-n.n - 1) s c.nested_at-nested.ensures c.args.keep os (reverse c.loop-n.noted.items) c.if-nested.false
    c.in-Some.hull (with_hulls s.parent (Some c.in-Some.hull) (without (c.loop-n.n - 1) os))
    (finding_read c.args.keep d.dim s.knot (c.loop-n.n - 1) s.view.kind s.view.bytes.now c.in-Some.hull ++ reverse c.loop-n.noted.items)
    (hull_from d.dim s (c.loop-n.n - 1) _ _ os c.in-Some.ensures c.take_box-members.ensures.found) refl refl) in
    omega (
      arith,
      c.loop-n.invariant.room,
      c.take_box-members.ensures.capacity,
      ap (λ (p : Pass). length p.open_boxes) read,
      ap (λ (left : List OpenBox). length (with_hulls s.parent (Some c.in-Some.hull) left)) c.take_box-members.ensures.left,
      few_open d c.is_whole.ensures c.args.keep (c.loop-n.n - 1) (c.bounds-first.result.1 - (c.loop-n.n - 1))
          (omega (arith, c.loop-n-test.true, c.loop-n.auto.n, bounds.within)),
    )

pub tell-requires : goal.tell-requires
tell-requires c = record {
  long_enough = hull_long c.args.d.now c.is_whole.ensures (c.loop-n.n - 1) c.nested_at-nested.result c.nested_at-nested.ensures c.in-Some.hull
      c.take_box-members.result c.in-Some.ensures;
}

pub loop-n-preserved-then-nested : goal.loop-n-preserved-then-nested
loop-n-preserved-then-nested c = record {
  room = c.take_box-members.ensures.capacity ∙ c.loop-n.invariant.room;
  after = omega (arith, c.loop-n-test.true);
  pass = back_step c.args.keep c.args.d.now.dim (elements c.args.d.now) (c.loop-n.n - 1) c.loop-n.n c.bounds-first.result.1
      (pass_of c.loop-n.boxes.items c.loop-n.noted.items) _
      (omega (arith, c.loop-n-test.true)) c.loop-n.auto.n c.loop-n.invariant.pass
      (ap (λ (os : List OpenBox). record { open_boxes = os; noted = reverse c.cut_below.new.noted.items }) c.take_box-members.ensures.left
      ∙ ap (λ (fs : List Finding). record { open_boxes = without (c.loop-n.n - 1) (reverse c.loop-n.boxes.items); noted = fs }) c.cut_below.ensures
      ∙ dead_read c.args.d.now c.is_whole.ensures (c.loop-n.n - 1) c.nested_at-nested.result c.nested_at-nested.ensures c.args.keep
      (reverse c.loop-n.boxes.items) (reverse c.loop-n.noted.items) c.if-nested.true);
}

pub loop-n-preserved-in-Continue-branch-2 : goal.loop-n-preserved-in-Continue-branch-2
loop-n-preserved-in-Continue-branch-2 c = record {
  room = c.add_hull.ensures.capacity ∙ c.take_box-members.ensures.capacity ∙ c.loop-n.invariant.room;
  after = omega (arith, c.loop-n-test.true);
  pass = back_step c.args.keep c.args.d.now.dim (elements c.args.d.now) (c.loop-n.n - 1) c.loop-n.n c.bounds-first.result.1
      (pass_of c.loop-n.boxes.items c.loop-n.noted.items) (pass_of c.add_hull.new.boxes.items c.tell.new.noted.items)
      (omega (arith, c.loop-n-test.true)) c.loop-n.auto.n c.loop-n.invariant.pass
      (hull_is_read c.args.d.now c.is_whole.ensures (c.loop-n.n - 1) c.nested_at-nested.result c.nested_at-nested.ensures c.args.keep
      (reverse c.loop-n.boxes.items) (reverse c.loop-n.noted.items) c.if-nested.false
      c.in-Some.hull (reverse c.add_hull.new.boxes.items) (reverse c.tell.new.noted.items)
      (hull_from c.args.d.now.dim c.nested_at-nested.result (c.loop-n.n - 1) _ _ (reverse c.loop-n.boxes.items) c.in-Some.ensures
      c.take_box-members.ensures.found)
      (c.add_hull.ensures.held
      ∙ ap (λ (os : List OpenBox). with_hulls c.nested_at-nested.result.parent (Some c.in-Some.hull) os) c.take_box-members.ensures.left)
      c.in_ok-tell.ensures);
}

pub loop-n-preserved : goal.loop-n-preserved
loop-n-preserved c = record {
  room = c.take_box-members.ensures.capacity ∙ c.loop-n.invariant.room;
  after = omega (arith, c.loop-n-test.true);
  pass = back_step c.args.keep c.args.d.now.dim (elements c.args.d.now) (c.loop-n.n - 1) c.loop-n.n c.bounds-first.result.1
      (pass_of c.loop-n.boxes.items c.loop-n.noted.items) _
      (omega (arith, c.loop-n-test.true)) c.loop-n.auto.n c.loop-n.invariant.pass
      (ap (λ (os : List OpenBox). record { open_boxes = os; noted = reverse c.loop-n.noted.items }) c.take_box-members.ensures.left
      ∙ bare_read c.args.d.now c.is_whole.ensures (c.loop-n.n - 1) c.nested_at-nested.result c.nested_at-nested.ensures c.args.keep
      (reverse c.loop-n.boxes.items) (reverse c.loop-n.noted.items) c.if-nested.false
      (hull_from c.args.d.now.dim c.nested_at-nested.result (c.loop-n.n - 1) _ _ (reverse c.loop-n.boxes.items) c.in_default.ensures
      c.take_box-members.ensures.found));
}

pub returns : goal.returns
returns c =
    let bounds = has_bounds c.args.keep c.args.d.now.dim (elements c.args.d.now) c.args.part c.requires.known c.bounds-first.result c.bounds-first.ensures in
    let first : c.loop-n.n ≡ c.bounds-first.result.0 = omega (arith, c.loop-n-test.false, c.loop-n.invariant.after) in
    ap (λ (p : Pass). p.noted) c.loop-n.invariant.pass
    ∙ ap (λ (n : ℕ). (read_back c.args.keep c.args.d.now.dim (elements c.args.d.now) n (c.bounds-first.result.1 - n)).noted) first
    ∙ bounds.found
