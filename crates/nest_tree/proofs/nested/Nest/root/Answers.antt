use Rattle.std.proofs.Common.{◌≡◌, ◌∙◌, sym, ap, refl, ℕ, ◌≤◌, arith, length}
use Rattle.std.specs.Prelude.{Option, Some, None}
use Rattle.dgn_drawing.specs.Nesting.{itself}
use Rattle.dgn_drawing.specs.Numbering.{parent_of}
use Rattle.nest_tree.proofs.HeaderChains.{climbs, climbs_first, ends_first, root_known}
use Rattle.nest_tree.proofs.nested.Nest.root.Goals as goal

-- the header that the loop has found is before the root so far, which there is
known_above : (c : goal.After-from_residual-in_err-header-2) → ⊥
known_above c =
    let found : Some (Some c.in-Some.above) ≡ parent_of itself c.args.self.now.rows c.up.root =
    ap (λ (o : Option ℕ). Some o) (sym c.in-Some.is) ∙ c.up.invariant.2 in
    let less = (climbs itself c.args.self.now.rows c.up.root c.in-Some.above found).0 in
    let within = c.up.invariant.1 in
    let past : length c.args.self.now.rows ≤ c.in-Some.above = c.in_err-header-2.ensures.none.0 refl in
    absurd (omega arith)

pub returns-in_err-header-2-clause-none : goal.returns-in_err-header-2-clause-none
returns-in_err-header-2-clause-none c = absurd (known_above c)

pub returns-in_err-header-2-clause-root : goal.returns-in_err-header-2-clause-root
returns-in_err-header-2-clause-root c = absurd (known_above c)

pub up-smaller : goal.up-smaller
up-smaller c = (climbs itself c.args.self.now.rows c.up.root c.in-Some.above (ap (λ (o : Option ℕ). Some o) (sym c.in-Some.is) ∙ c.up.invariant.2)).0

pub up-preserved : goal.up-preserved
up-preserved c =
    let found : Some (Some c.in-Some.above) ≡ parent_of itself c.args.self.now.rows c.up.root =
    ap (λ (o : Option ℕ). Some o) (sym c.in-Some.is) ∙ c.up.invariant.2 in
    let less = (climbs itself c.args.self.now.rows c.up.root c.in-Some.above found).0 in
    let within = c.up.invariant.1 in (
      c.up.invariant.0,
      omega arith,
      c.in_ok-header-2.ensures.parent,
      c.up.invariant.3
          ∙ climbs_first itself c.args.self.now.rows c.up.root c.in-Some.above found,
    )

pub returns-clause-root : goal.returns-clause-root
returns-clause-root c =
    let ended : Some None ≡ parent_of itself c.args.self.now.rows c.up.root = ap (λ (o : Option ℕ). Some o) (sym c.in_default.is) ∙ c.up.invariant.2 in
    sym (root_known itself c.args.self.now.rows c.args.n c.up.invariant.0
    ∙ ap (λ (k : ℕ). Some k) (c.up.invariant.3 ∙ ends_first itself c.args.self.now.rows c.up.root ended))
