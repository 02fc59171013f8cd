use Rattle.std.proofs.Common.{◌≡◌, ℕ, List, ◌+◌, ◌-◌, ◌≤◌, length, take, drop, ap, sym, ◌∙◌, arith}
use Rattle.std.proofs.lemmas.List.{take_all}
use Rattle.elem_index.specs.Kinds.{Kind, Kinds, total_count}
use Rattle.elem_index.proofs.KindLists.{length-kinds_by, count_first, length-first_totals, kinds_by-take}
use Rattle.elem_index.proofs.kind_list.KindList.truncate.Goals as goal

-- of the totals are left as many as the bytes that are left have
left_of : (bytes totals : List ℕ) (count : ℕ) {value back : List ℕ} {cut len : ℕ} → length totals ≡ total_count bytes → count ≤ length bytes
    → cut ≡ total_count back → back ≡ drop count value → value ≡ bytes → len ≡ length totals
    → (cut ≤ len) × (len - cut + total_count (drop count bytes) ≡ length totals)
left_of bytes totals count long within counted behind same many =
    let all = count_first bytes totals count long within in
    let are = counted ∙ ap total_count (behind ∙ ap (drop count) same) in
    (omega arith, omega arith)

pub overflow_sub-totals : goal.overflow_sub-totals
overflow_sub-totals c =
    (left_of c.self.inside.kinds.items c.self.inside.totals.items c.args.count c.self.invariant
    (omega (arith, c.if-count-len.true, c.len.ensures, c.self.inside.kinds.ok.0)) c.count_totals.ensures c.split_at.ensures.back c.deref.ensures.value
    (c.len-then-count-len.ensures ∙ c.self.inside.totals.ok.0)).0

pub invariant_of-self : goal.invariant_of-self
invariant_of-self c =
    let within : c.args.count ≤ length c.self.inside.kinds.items = omega (arith, c.if-count-len.true, c.len.ensures, c.self.inside.kinds.ok.0) in
    rw (c.truncate-then-count-len.ensures.items, c.truncate.ensures.items)
    (length-first_totals c.self.inside.kinds.items c.self.inside.totals.items c.args.count c.self.invariant within
    (c.len-then-count-len.result - c.count_totals.result)
    (left_of c.self.inside.kinds.items c.self.inside.totals.items c.args.count c.self.invariant within c.count_totals.ensures c.split_at.ensures.back
    c.deref.ensures.value (c.len-then-count-len.ensures ∙ c.self.inside.totals.ok.0)).1)

pub returns-then-count-len : goal.returns-then-count-len
returns-then-count-len c =
    let within : c.args.count ≤ length c.self.inside.kinds.items = omega (arith, c.if-count-len.true, c.len.ensures, c.self.inside.kinds.ok.0) in
    let left = left_of c.self.inside.kinds.items c.self.inside.totals.items c.args.count c.self.invariant within c.count_totals.ensures
    c.split_at.ensures.back c.deref.ensures.value (c.len-then-count-len.ensures ∙ c.self.inside.totals.ok.0) in
    rw (c.truncate-then-count-len.ensures.items, c.truncate.ensures.items)
    (kinds_by-take c.self.inside.kinds.items c.self.inside.totals.items c.args.count c.self.invariant within
    (c.len-then-count-len.result - c.count_totals.result) left.1 ∙ ap (λ (kinds : Kinds). take c.args.count kinds.items) c.self.view_is)

pub returns-else-count-len : goal.returns-else-count-len
returns-else-count-len c =
    let items = ap (λ (kinds : Kinds). kinds.items) c.self.view_is in
    let past : length c.args.self.now.items ≤ c.args.count =
    omega (
      arith,
      c.if-count-len.false,
      c.len.ensures,
      c.self.inside.kinds.ok.0,
      length-kinds_by c.self.inside.kinds.items c.self.inside.totals.items,
      ap (length {A = Kind}) items,
    ) in
    sym (take_all c.args.count c.args.self.now.items past)
