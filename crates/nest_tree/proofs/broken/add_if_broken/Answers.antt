use Rattle.std.proofs.Common.{◌∙◌, sym, refl}
use Rattle.nest_tree.proofs.BrokenList.{broken_kept, sound_passed}
use Rattle.nest_tree.proofs.broken.add_if_broken.Goals as goal

pub returns-then-is_broken_as-clause-list : goal.returns-then-is_broken_as-clause-list
returns-then-is_broken_as-clause-list c =
    broken_kept c.args._seen.now.list c.args.n c.args.entry c.args.cbit c.requires.entry c.requires.row c.args.list.now.items c.push_reserved.new.self.items
    c.requires.begun (sym c.is_broken_as.ensures ∙ c.if-is_broken_as.true) c.push_reserved.ensures.items

pub returns-else-is_broken_as-clause-list : goal.returns-else-is_broken_as-clause-list
returns-else-is_broken_as-clause-list c =
    sound_passed c.args._seen.now.list c.args.n c.args.entry c.args.cbit c.requires.entry c.requires.row c.args.list.now.items c.args.list.now.items
    c.requires.begun (sym c.is_broken_as.ensures ∙ c.if-is_broken_as.false) refl
