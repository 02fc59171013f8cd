use Rattle.std.proofs.Common.{◌∙◌, ◌≤◌, ap, sym, ◌<◌, arith, ℕ, Some, subst}
use Rattle.std.specs.Prelude.{Option, IfSome}
use Rattle.nest_tree.specs.NestEntries.{NestEntry}
use Rattle.nest_tree.specs.Pass.{all_rows}
use Rattle.nest_tree.specs.Places.{depth_in, list_in}
use Rattle.nest_tree.proofs.OpenLists.{length-entries, parent_is, depth_is}
use Rattle.nest_tree.proofs.pass.Pass.list_around.Goals as goal

pub at-entry-requires : goal.at-entry-requires
at-entry-requires c =
    let p = c.args.self.now in
    let kept = c.args.kept.now in
    omega (arith, c.requires.known, length-entries (all_rows p) p.at kept.ends.items kept.entries.items c.requires.reading.filled.read.places)

pub list_below-requires-clause-known : goal.list_below-requires-clause-known
list_below-requires-clause-known c =
    let p = c.args.self.now in
    let kept = c.args.kept.now in
    let is = sym c.in-Some.is ∙ c.parent.ensures ∙ ap (λ (x : NestEntry). x.parent) c.at-entry.ensures
    ∙ parent_is (all_rows p) p.at kept.ends.items kept.entries.items c.requires.reading.filled.read.places c.args.n c.requires.known in
    subst (λ (o : Option ℕ). IfSome o (λ q. (q < p.at) × (p.first ≤ q))) (sym is) c.requires.above

pub returns-in-None : goal.returns-in-None
returns-in-None c =
    let p = c.args.self.now in
    let kept = c.args.kept.now in
    let is = sym c.in-None.is ∙ c.parent.ensures ∙ ap (λ (x : NestEntry). x.parent) c.at-entry.ensures
    ∙ parent_is (all_rows p) p.at kept.ends.items kept.entries.items c.requires.reading.filled.read.places c.args.n c.requires.known in
    c.all_elements.ensures ∙ ap (λ (o : Option ℕ). list_in (all_rows p) o (depth_in (all_rows p) c.args.n)) is

pub returns-in-Some : goal.returns-in-Some
returns-in-Some c =
    let p = c.args.self.now in
    let kept = c.args.kept.now in
    let places = c.requires.reading.filled.read.places in
    let is = sym c.in-Some.is ∙ c.parent.ensures ∙ ap (λ (x : NestEntry). x.parent) c.at-entry.ensures
    ∙ parent_is (all_rows p) p.at kept.ends.items kept.entries.items places c.args.n c.requires.known in
    let deep = c.depth.ensures ∙ ap (λ (x : NestEntry). x.depth) c.at-entry.ensures
    ∙ depth_is (all_rows p) p.at kept.ends.items kept.entries.items places c.args.n c.requires.known in
    c.list_below.ensures ∙ ap (λ (k : ℕ). list_in (all_rows p) (Some c.in-Some.parent) k) deep
    ∙ ap (λ (o : Option ℕ). list_in (all_rows p) o (depth_in (all_rows p) c.args.n)) is
