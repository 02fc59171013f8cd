use Rattle.std.proofs.Common.{◌≡◌, ℕ, ◌-◌, length, reverse, sym, ap, ◌∙◌, arith}
use Rattle.elem_index.specs.Design.{elements}
use Rattle.level_view.specs.Back.{read_back}
use Rattle.level_view.specs.Numbers.{numbers_of}
use Rattle.level_view.proofs.NumbersShown.{number_step}
use Rattle.level_view.proofs.ItemsBack.{all_found}
use Rattle.level_view.proofs.counting.numbers_shown.Goals as goal

pub loop-n-init : goal.loop-n-init
loop-n-init c =
    let none : c.count-end.result - c.count-end.result ≡ 0 = omega arith in
    ap reverse c.new-numbers.ensures.items
    ∙ ap (λ (k : ℕ). numbers_of (read_back c.args.d.now.dim c.args.mask (elements c.args.d.now) c.count-end.result k)) (sym none)

pub loop-n-preserved : goal.loop-n-preserved
loop-n-preserved c =
    c.in_ok-add_number.ensures
    ∙ rw c.dim.ensures.value (number_step c.args.d.now.dim c.args.mask (elements c.args.d.now) (c.loop-n.n - 1) c.place_of.result c.place_of.ensures
    c.loop-n.n c.count-end.result
    (reverse c.loop-n.numbers.items) (omega (arith, c.loop-n-test.true)) c.loop-n.auto.n c.loop-n.invariant)

pub returns : goal.returns
returns c =
    let first : c.loop-n.n ≡ 0 = omega (arith, c.loop-n-test.false) in
    let all : c.count-end.result - 0 ≡ length (elements c.args.d.now) = omega (arith, c.count-end.ensures) in
    c.loop-n.invariant
    ∙ ap (λ (n : ℕ). numbers_of (read_back c.args.d.now.dim c.args.mask (elements c.args.d.now) n (c.count-end.result - n))) first
    ∙ ap (λ (k : ℕ). numbers_of (read_back c.args.d.now.dim c.args.mask (elements c.args.d.now) 0 k)) all
    ∙ ap numbers_of (all_found c.args.d.now.dim c.args.mask (elements c.args.d.now))
