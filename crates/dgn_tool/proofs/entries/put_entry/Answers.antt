use Rattle.std.proofs.Common.{◌≤◌, ◌+◌, List, [], ℕ, length, ap, refl, sym, ◌∙◌, subst, arith}
use Rattle.patch_file.specs.PatchView.{packed_of}
use Rattle.patch_file.specs.Standing.{Stands, put_on}
use Rattle.dgn_drawing.specs.declared.limits.TheConstants.{MOST_DESIGN}
use Rattle.dgn_tool.specs.Applied.{Made}
use Rattle.dgn_tool.proofs.EntriesPutOn.{differs, overruns, goes_on, length-put_on}
use Rattle.dgn_tool.proofs.entries.put_entry.Goals as goal

pub returns-then-not-stands-clause-put : goal.returns-then-not-stands-clause-put
returns-then-not-stands-clause-put c =
    let e = packed_of c.args.entry.now in
    differs c.args.tail c.args.number c.args.body.now.items e []
    (λ so. absurd (let no = c.if-not-stands.ensures.1 (subst (λ (b : List ℕ). Stands b e) (sym c.deref.ensures.value) so) in cc))

pub returns-then-len-tail-clause-put : goal.returns-then-len-tail-clause-put
returns-then-len-tail-clause-put c =
    let e = packed_of c.args.entry.now in
    let so : Stands c.args.body.now.items e = subst (λ (b : List ℕ). Stands b e) c.deref.ensures.value (c.if-not-stands.ensures.0 refl) in
    overruns c.args.tail c.args.number c.args.body.now.items e [] so
    (omega (
      arith,
      length-put_on c.args.body.now.items c.args.entry.now so,
      c.if-len-tail.true,
      c.len.ensures,
      c.len-2.ensures,
      c.args.body.now.ok.0,
      c.requires,
    ))

pub returns-in-Ok-clause-put : goal.returns-in-Ok-clause-put
returns-in-Ok-clause-put c =
    let e = packed_of c.args.entry.now in
    let so : Stands c.args.body.now.items e = subst (λ (b : List ℕ). Stands b e) c.deref.ensures.value (c.if-not-stands.ensures.0 refl) in
    let few : length (put_on c.args.body.now.items e) + c.args.tail ≤ MOST_DESIGN =
    omega (
      arith,
      length-put_on c.args.body.now.items c.args.entry.now so,
      c.if-len-tail.false,
      c.len.ensures,
      c.len-2.ensures,
      c.args.body.now.ok.0,
      c.requires,
    ) in
    goes_on c.args.tail c.args.number c.args.body.now.items e [] so few ∙ ap Made (sym c.in-Ok.ensures.ok)

pub returns-in-Ok-clause-bounded : goal.returns-in-Ok-clause-bounded
returns-in-Ok-clause-bounded c =
    let e = packed_of c.args.entry.now in
    let so : Stands c.args.body.now.items e = subst (λ (b : List ℕ). Stands b e) c.deref.ensures.value (c.if-not-stands.ensures.0 refl) in
    omega (
      arith,
      length-put_on c.args.body.now.items c.args.entry.now so,
      ap length c.in-Ok.ensures.ok,
      c.if-len-tail.false,
      c.len.ensures,
      c.len-2.ensures,
      c.args.body.now.ok.0,
      c.requires,
    )
