use Rattle.std.proofs.Common.{◌∙◌, ◌++◌, sym, ap, arith, vec_len, replicate}
use Rattle.std.proofs.lemmas.Bool.{eqb-true}
use Rattle.nest_tree.specs.NestEntries.{NestEntry, KeptEntries, plain_entry}
use Rattle.nest_tree.proofs.NumbersPushed.{more_same}
use Rattle.nest_tree.proofs.entry_list.EntryList.push_same.Goals as goal

pub returns-then-is_plain-clause-items : goal.returns-then-is_plain-clause-items
returns-then-is_plain-clause-items c =
    let none = eqb-true (vec_len c.self.inside.rest) 0 (sym c.is_empty.ensures ∙ c.if-is_empty.true) in
    let same = c.is_plain.ensures c.if-is_plain.true in
    more_same plain_entry c.self.inside.plain c.args.count c.self.inside.rest.items c.args.self.now.items (omega (arith, c.self.inside.rest.ok.0))
    (sym (ap (λ (s : KeptEntries). s.items) c.self.view_is))
    ∙ ap (λ (x : NestEntry). c.args.self.now.items ++ replicate c.args.count x) (sym same)
