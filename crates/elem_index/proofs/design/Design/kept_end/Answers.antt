use Rattle.std.proofs.Common.{◌≡◌, ℕ, ◌+◌, ◌-◌, length, drop, ap, ◌∙◌, arith}
use Rattle.elem_head.specs.Head.{size_of}
use Rattle.elem_index.specs.Design.{kept_of}
use Rattle.elem_index.proofs.DesignGrowth.{last_inside, last_head, last_within, last_end}
use Rattle.elem_index.proofs.design.Design.kept_end.Goals as goal

pub split_at-requires : goal.split_at-requires
split_at-requires c =
    let d = c.args.self.now in
    let long : length (kept_of d) ≡ c.len-count.result - 1 + 1 = omega (arith, c.len-count.ensures, d.kept.ok.0, c.if-count-eq0.false) in
    omega (arith, last_inside d c.requires (c.len-count.result - 1) c.index.result.now long c.index.ensures, ap (length {A = ℕ}) c.deref.ensures.value)

pub size_said-requires : goal.size_said-requires
size_said-requires c =
    let d = c.args.self.now in
    let long : length (kept_of d) ≡ c.len-count.result - 1 + 1 = omega (arith, c.len-count.ensures, d.kept.ok.0, c.if-count-eq0.false) in
    let rest : length c.split_at.result.1.now ≡ length (drop c.index.result.now d.body.items) =
    ap (length {A = ℕ}) (c.split_at.ensures.back ∙ ap (drop c.index.result.now) c.deref.ensures.value) in
    omega (arith, last_head d c.requires (c.len-count.result - 1) c.index.result.now long c.index.ensures, rest)

pub overflow_add-result : goal.overflow_add-result
overflow_add-result c =
    let d = c.args.self.now in
    let long : length (kept_of d) ≡ c.len-count.result - 1 + 1 = omega (arith, c.len-count.ensures, d.kept.ok.0, c.if-count-eq0.false) in
    let said : c.size_said.result ≡ size_of (drop c.index.result.now d.body.items) =
    c.size_said.ensures ∙ ap size_of (c.split_at.ensures.back ∙ ap (drop c.index.result.now) c.deref.ensures.value) in
    omega (arith, last_within d c.requires (c.len-count.result - 1) c.index.result.now long c.index.ensures c.size_said.result said)

pub returns : goal.returns
returns c =
    let d = c.args.self.now in
    let long : length (kept_of d) ≡ c.len-count.result - 1 + 1 = omega (arith, c.len-count.ensures, d.kept.ok.0, c.if-count-eq0.false) in
    let said : c.size_said.result ≡ size_of (drop c.index.result.now d.body.items) =
    c.size_said.ensures ∙ ap size_of (c.split_at.ensures.back ∙ ap (drop c.index.result.now) c.deref.ensures.value) in
    last_end d c.requires (c.len-count.result - 1) c.index.result.now long c.index.ensures c.size_said.result said
