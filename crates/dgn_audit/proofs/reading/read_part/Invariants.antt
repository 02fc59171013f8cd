use Rattle.std.proofs.Common.{◌≡◌, ◌-◌, ◌≤◌, vec_capacity}
use Rattle.elem_index.specs.Design.{elements}
use Rattle.dgn_audit.proofs.ReadBack.{pass_of, read_back}
use Rattle.dgn_audit.proofs.reading.read_part.Given as goal

abbrev pub invariant-loop-n : goal.invariant-loop-n
invariant-loop-n l = record {
  room : vec_capacity l.boxes ≡ 3278;
  after : l.first ≤ l.n;
  pass : pass_of l.boxes.items l.noted.items ≡ read_back l.keep l.d.dim (elements l.d) l.n (l.end - l.n);
}
