use Rattle.std.proofs.Common.{◌≡◌, ◌+◌, List, ℕ, length, vec_len, refl, sym, ap, ◌∙◌, subst, arith}
use Rattle.std.specs.Prelude.{OnOk}
use Rattle.dgn_drawing.specs.Element.{Element}
use Rattle.dgn_drawing.specs.Opening.{elements_of}
use Rattle.elem_index.specs.Design.{elements}
use Rattle.dgn_session.specs.State.{state_of}
use Rattle.dgn_tool.proofs.TextsThenFiles.{begun_with}
use Rattle.dgn_tool.proofs.GeneratedSizes.{long_made, sized}
use Rattle.dgn_tool.proofs.generation.push_sizes.Goals as goal

pub returns : goal.returns
returns c =
    let d = c.design-design.result.now in
    let v = c.args.session.now in
    let same : elements d ≡ (state_of v).top =
    ap (λ (k : ℕ). elements_of k d.body.items) c.design-design.ensures.dim ∙ ap (elements_of v.dim) c.design-design.ensures.body in
    let back : c.deref.result.now ≡ v.tail = c.deref.ensures.value ∙ c.design-design.ensures.tail in
    let behind : length c.deref.result.now ≡ vec_len d.tail = ap (length {A = ℕ}) c.deref.ensures.value ∙ sym d.tail.ok.0 in
    let long = long_made c.args.before c.len.result c.filling_len-zeros.result v.tail c.deref.result.now _
    (begun_with v.dim v.body d c.len.result c.design-design.ensures.whole c.design-design.ensures.dim c.design-design.ensures.body c.len.ensures)
    back c.filling_len-zeros.ensures.exact in
    let bytes : c.len-2.result + c.len-3.result + c.filling_len-zeros.result ≡ c.len.result + length c.deref.result.now + c.filling_len-zeros.result =
    omega (arith, c.len.ensures, c.len-2.ensures, c.len-3.ensures, behind) in
    subst (λ (y : List ℕ). OnOk c.push_numbered-3.result (c.push_numbered-3.new.out.items ≡ y))
    (sized c.args.before v.tail (state_of v) _ _ _ c.args.text.now.items c.push_numbered.new.out.items c.push_numbered-2.new.out.items _
    (c.from.ensures ∙ c.count.ensures ∙ ap (length {A = Element}) same)
    (bytes ∙ long)
    c.in_ok-shown.ensures
    c.in_ok-push_numbered.ensures c.in_ok-push_numbered-2.ensures refl)
    c.push_numbered-3.ensures
