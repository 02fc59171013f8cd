use Rattle.std.proofs.Common.{◌≡◌, ◌+◌, ap, sym, ◌∙◌, cond, Bool, ℕ, take, take_all, arith}
use Rattle.elem_index.specs.Design.{elements}
use Rattle.dgn_listing.specs.RefTexts.{ref_count}
use Rattle.dgn_listing.proofs.Listings.{ref_more}
use Rattle.dgn_listing.proofs.refs.ref_count.Goals as goal
use Rattle.dgn_listing.proofs.refs.ref_count.Goals.{then-is_ref, else-is_ref}

pub loop-n-preserved : goal.loop-n-preserved
loop-n-preserved c =
    let es = elements c.args.d.now in
    let more = ref_more es c.loop-n.n c.in-Some.listed c.in-Some.ensures in
    elim c.if-is_ref.branch [
      | then-is_ref w ↦
          w.found-is ∙ (ap (λ (k : ℕ). k + 1) c.loop-n.invariant
          ∙ sym (more ∙ ap (λ (b : Bool). ref_count (take c.loop-n.n es) + (0 + cond b 1 0)) (sym w.if-is_ref.ensures)))
      | else-is_ref w ↦
          let same : ref_count (take c.loop-n.n es) + 0 ≡ ref_count (take c.loop-n.n es) = omega arith in
          w.found-is ∙ (c.loop-n.invariant
          ∙ sym (more ∙ (ap (λ (b : Bool). ref_count (take c.loop-n.n es) + (0 + cond b 1 0)) (sym w.if-is_ref.ensures) ∙ same)))
    ]

pub returns : goal.returns
returns c = c.loop-n.invariant ∙ ap ref_count (take_all c.loop-n.n (elements c.args.d.now) (omega arith))
