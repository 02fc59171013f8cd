use Rattle.elem_index.specs.Design.{elements}
use Rattle.level_view.proofs.Places.{place_mark, place_marked, place_number, place_end, place_depth, place_knot, sound_here, element_here}
use Rattle.level_view.proofs.place.place_of.Goals as goal

pub returns : goal.returns
returns c = record {
  number = place_number (elements c.args.d.now) c.args.n c.in-Some-span.number c.in-Some-span.end c.in-Some-depth.depth c.in-Some-knot.knot
      c.in-Some-span.ensures.span c.in-Some-depth.ensures.depth c.in-Some-knot.ensures.knot;
  mark = place_mark (elements c.args.d.now) c.args.n c.in-Some-span.number c.in-Some-span.end c.in-Some-depth.depth c.in-Some-knot.knot
      c.in-Some-span.ensures.span c.in-Some-depth.ensures.depth c.in-Some-knot.ensures.knot;
  marked = place_marked (elements c.args.d.now) c.args.n c.in-Some-span.number c.in-Some-span.end c.in-Some-depth.depth c.in-Some-knot.knot
      c.in-Some-span.ensures.span c.in-Some-depth.ensures.depth c.in-Some-knot.ensures.knot;
  element = element_here c.args.d.now c.is_whole.ensures c.args.n c.in-Some.bytes.now c.in-Some.ensures.bytes;
  knot = place_knot (elements c.args.d.now) c.args.n c.in-Some-span.number c.in-Some-span.end c.in-Some-depth.depth c.in-Some-knot.knot
      c.in-Some-span.ensures.span c.in-Some-depth.ensures.depth c.in-Some-knot.ensures.knot;
  depth = place_depth (elements c.args.d.now) c.args.n c.in-Some-span.number c.in-Some-span.end c.in-Some-depth.depth c.in-Some-knot.knot
      c.in-Some-span.ensures.span c.in-Some-depth.ensures.depth c.in-Some-knot.ensures.knot;
  end = place_end (elements c.args.d.now) c.args.n c.in-Some-span.number c.in-Some-span.end c.in-Some-depth.depth c.in-Some-knot.knot
      c.in-Some-span.ensures.span c.in-Some-depth.ensures.depth c.in-Some-knot.ensures.knot;
  sound = sound_here c.args.d.now c.is_whole.ensures c.args.n c.in-Some.bytes.now c.in-Some.ensures.bytes;
}
