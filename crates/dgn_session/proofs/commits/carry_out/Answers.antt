use Rattle.std.proofs.Common.{◌≡◌, ◌++◌, map, length, refl}
use Rattle.dgn_drawing.specs.Rows.{row_of}
use Rattle.elem_index.specs.declared.design.Design.{Design}
use Rattle.dgn_session.specs.CarryingOut.{IsChange, HasRoom}
use Rattle.dgn_session.proofs.PartsKept.{change_same, room_for, can_grow, kept_after}
use Rattle.dgn_session.proofs.Leading.{patches_within, patches_apart}
use Rattle.dgn_session.proofs.commits.carry_out.Goals as goal
use Rattle.dgn_session.proofs.commits.carry_out.Goals.{In_default, After-commit}

-- once the nesting follows, it is a change of the body still
change : (c : goal.In_default) → IsChange c.follow.new.design.dim c.follow.new.design.tail.items c.follow.new.design.body.items c.args.patches
    c.args.append.now (map row_of c.requires.sound.new)
change c =
    change_same c.args.design.now.dim c.args.design.now.tail.items c.args.design.now.body.items c.args.patches c.args.append.now
    (map row_of c.requires.sound.new) c.follow.new.design.dim c.follow.new.design.tail.items c.follow.new.design.body.items
    c.follow.ensures.dim c.follow.ensures.tail c.follow.ensures.body c.requires.sound.change

-- the nesting has the rows of what is appended
grown : (c : goal.In_default) → c.follow.new.nest.rows ≡ c.args.nest.now.rows ++ map row_of c.requires.sound.new
grown c = c.in_default.ensures.followed.grown.are c.args.design.now.dim c.requires.sound.new c.requires.sound.spells

-- and there is room
room : (c : goal.In_default) → HasRoom (length c.args.append.now) (length (map row_of c.requires.sound.new)) c.follow.new.design c.follow.new.log
room c =
    room_for c.args.append.now c.args.nest.now.rows c.follow.new.nest.rows c.follow.new.design c.follow.new.log (map row_of c.requires.sound.new)
    c.in_default.ensures.followed (grown c)

-- the design with the new body, but with what the old one keeps of the elements
abbrev ungrown : goal.After-commit → Design
ungrown c = record {
  dim = c.follow.new.design.dim;
  body = c.commit.new.buf;
  tail = c.follow.new.design.tail;
  kept = c.follow.new.design.kept;
  kinds = c.follow.new.design.kinds;
}

pub commit-requires-clause-within : goal.commit-requires-clause-within
commit-requires-clause-within c =
    patches_within c.follow.new.design.body.items c.args.patches c.args.append.now (change (goal.at.commit-requires-clause-within c).In_default).rise

pub commit-requires-clause-apart : goal.commit-requires-clause-apart
commit-requires-clause-apart c = patches_apart c.args.design.now.body.items c.args.patches c.args.append.now c.requires.sound.change.rise

pub grow-requires : goal.grow-requires
grow-requires c =
    let at = (goal.at.grow-requires c).In_default in
    can_grow c.follow.new.design c.args.nest.now c.follow.new.log c.follow.ensures.kept c.args.patches c.args.append.now
    (map row_of c.requires.sound.new) (room at) (change at) (ungrown (goal.at.grow-requires c).After-commit)
    refl c.commit.ensures.body refl refl refl refl

pub returns-clause-kept : goal.returns-clause-kept
returns-clause-kept c =
    let at = (goal.at.returns-clause-kept c).In_default in
    kept_after c.follow.new.design c.args.nest.now c.follow.new.log c.follow.ensures.kept c.args.patches c.args.append.now (map row_of c.requires.sound.new)
    (room at) (change at) (ungrown (goal.at.returns-clause-kept c).After-commit) refl c.commit.ensures.body refl refl refl refl
    c.grow.new.self c.grow.ensures.text c.grow.ensures.whole c.follow.new.nest c.commit.new.self (grown at) c.commit.ensures.entries
