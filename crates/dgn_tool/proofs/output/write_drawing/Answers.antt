use Rattle.std.proofs.Common.{◌≡◌, List, ℕ, ap, ◌∙◌, subst}
use Rattle.dgn_desk.specs.Desk.{FilesAll}
use Rattle.dgn_desk.specs.Seen.{DeskWrites}
use Rattle.dgn_drawing.specs.Spelling.{spelling}
use Rattle.dgn_session.specs.State.{state_of}
use Rattle.dgn_tool.specs.Filling.{file_made}
use Rattle.dgn_import.proofs.SpelledBodies.{spelled_with}
use Rattle.dgn_tool.proofs.output.write_drawing.Goals as goal

pub returns : goal.returns
returns g c =
    let v = c.args.session.now in
    let d = c.design-design in
    let body : c.deref.result.now ≡ spelling (state_of v).top =
    c.deref.ensures.value ∙ spelled_with v.dim v.body d.result.now d.ensures.whole d.ensures.dim d.ensures.body in
    let tail : c.deref-2.result.now ≡ v.tail = c.deref-2.ensures.value ∙ d.ensures.tail in
    subst (λ (b : List ℕ). DeskWrites g.D.Desk c.write_filled.result (FilesAll c.write_filled.result c.args.output.now b)
    c.args.desk.now c.write_filled.new.desk)
    (ap (λ (t : List ℕ). file_made c.args.before t c.deref.result.now) tail ∙ ap (file_made c.args.before v.tail) body)
    c.write_filled.ensures
