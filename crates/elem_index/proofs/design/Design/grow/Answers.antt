use Rattle.std.proofs.Common.{◌≡◌, ◌≤◌, ◌<◌, ℕ, length, drop, ap, ◌∙◌, arith}
use Rattle.elem_head.specs.Head.{size_of}
use Rattle.elem_index.specs.Kinds.{kind_with}
use Rattle.elem_index.specs.Design.{kind_at}
use Rattle.elem_index.proofs.DesignGrowth.{room_here, kinds_room_here, head_here, counted_here, end_here, left_more, left_whole}
use Rattle.elem_index.proofs.design.Design.grow.Goals as goal

pub size_said-size-requires : goal.size_said-size-requires
size_said-size-requires c =
    let before : c.elements.at < length c.elements.self.body.items = omega (arith, c.elements-test.true, c.len.ensures, c.elements.self.body.ok.0) in
    let long : length c.split_at.result.1.now ≡ length (drop c.elements.at c.elements.self.body.items) =
    ap (length {A = ℕ}) (c.split_at.ensures.back ∙ ap (drop c.elements.at) c.deref.ensures.value) in
    omega (arith, head_here c.elements.self c.elements.at c.elements.invariant.0 before, long)

pub kind_byte-byte-requires : goal.kind_byte-byte-requires
kind_byte-byte-requires c =
    let before : c.elements.at < length c.elements.self.body.items = omega (arith, c.elements-test.true, c.len.ensures, c.elements.self.body.ok.0) in
    let long : length c.split_at.result.1.now ≡ length (drop c.elements.at c.elements.self.body.items) =
    ap (length {A = ℕ}) (c.split_at.ensures.back ∙ ap (drop c.elements.at) c.deref.ensures.value) in
    omega (arith, head_here c.elements.self c.elements.at c.elements.invariant.0 before, long)

pub total_said-total-requires-clause-head : goal.total_said-total-requires-clause-head
total_said-total-requires-clause-head c =
    let before : c.elements.at < length c.elements.self.body.items = omega (arith, c.elements-test.true, c.len.ensures, c.elements.self.body.ok.0) in
    let long : length c.split_at.result.1.now ≡ length (drop c.elements.at c.elements.self.body.items) =
    ap (length {A = ℕ}) (c.split_at.ensures.back ∙ ap (drop c.elements.at) c.deref.ensures.value) in
    omega (arith, head_here c.elements.self c.elements.at c.elements.invariant.0 before, long)

pub total_said-total-requires-clause-total : goal.total_said-total-requires-clause-total
total_said-total-requires-clause-total c =
    let before : c.elements.at < length c.elements.self.body.items = omega (arith, c.elements-test.true, c.len.ensures, c.elements.self.body.ok.0) in
    let rest : c.split_at.result.1.now ≡ drop c.elements.at c.elements.self.body.items =
    c.split_at.ensures.back ∙ ap (drop c.elements.at) c.deref.ensures.value in
    rw rest (counted_here c.elements.self c.elements.at c.elements.invariant.0 before)

pub keep-requires-clause-has_room : goal.keep-requires-clause-has_room
keep-requires-clause-has_room c =
    room_here c.elements.self c.elements.at c.elements.invariant.0 (omega (arith, c.elements-test.true, c.len.ensures, c.elements.self.body.ok.0))

pub keep-requires-clause-kinds_room : goal.keep-requires-clause-kinds_room
keep-requires-clause-kinds_room c =
    kinds_room_here c.elements.self c.elements.at c.elements.invariant.0 (omega (arith, c.elements-test.true, c.len.ensures, c.elements.self.body.ok.0))

pub overflow_add-at : goal.overflow_add-at
overflow_add-at c =
    let before : c.elements.at < length c.elements.self.body.items = omega (arith, c.elements-test.true, c.len.ensures, c.elements.self.body.ok.0) in
    let said : c.size_said-size.result ≡ size_of (drop c.elements.at c.elements.self.body.items) =
    c.size_said-size.ensures ∙ ap size_of (c.split_at.ensures.back ∙ ap (drop c.elements.at) c.deref.ensures.value) in
    omega (arith, end_here c.elements.self c.elements.at c.elements.invariant.0 c.size_said-size.result before said)

pub elements-preserved : goal.elements-preserved
elements-preserved c =
    let before : c.elements.at < length c.elements.self.body.items = omega (arith, c.elements-test.true, c.len.ensures, c.elements.self.body.ok.0) in
    let rest = c.split_at.ensures.back ∙ ap (drop c.elements.at) c.deref.ensures.value in
    let same = c.keep.ensures.text in
    let first = c.elements.invariant.1 in (
      left_more c.elements.self c.elements.at c.elements.invariant.0 c.keep.new.self c.size_said-size.result before
          (c.size_said-size.ensures ∙ ap size_of rest) same (kind_with c.kind_byte-byte.result c.total_said-total.result)
          (ap (λ (byte : ℕ). kind_with byte c.total_said-total.result) c.kind_byte-byte.ensures ∙ c.total_said-total.ensures.kind ∙ ap kind_at rest)
          c.keep.ensures.kept,
      record { dim = same.dim ∙ first.dim; body = same.body ∙ first.body; tail = same.tail ∙ first.tail },
    )

pub returns-clause-whole : goal.returns-clause-whole
returns-clause-whole c =
    let past : length c.elements.self.body.items ≤ c.elements.at = omega (arith, c.elements-test.false, c.len.ensures, c.elements.self.body.ok.0) in
    left_whole c.elements.self c.elements.at c.elements.invariant.0 past
