use Rattle.std.proofs.Common.{rules, sym}
use Rattle.dgn_desk.proofs.FileMaps.{files_of-extended, files_of-not_extended, files_of-begun}
use Rattle.dgn_desk.proofs.file_map.FileMap.append.Goals as goal

pub returns-in-Some-clause-ok : goal.returns-in-Some-clause-ok
returns-in-Some-clause-ok c =
    let new = c.extend_from_slice.new.self in
    files_of-extended c.extend_from_slice.result c.self.inside.kept (c.get_mut.follows.lender new)
    c.args.name.now c.args.bytes.now c.in-Some.kept.now new c.args.self.now
    ((c.get_mut.follows.holds new).3 (search rules)) (sym c.in-Some.ensures.value) c.extend_from_slice.ensures.items c.self.view_is

pub returns-in-Some-clause-err : goal.returns-in-Some-clause-err
returns-in-Some-clause-err c =
    let new = c.extend_from_slice.new.self in
    files_of-not_extended c.extend_from_slice.result c.self.inside.kept (c.get_mut.follows.lender new)
    c.args.name.now c.args.bytes.now c.in-Some.kept.now new c.args.self.now
    ((c.get_mut.follows.holds new).3 (search rules)) (sym c.in-Some.ensures.value) c.extend_from_slice.ensures.items c.self.view_is

pub returns-in_ok-bytes-in-None-clause-ok : goal.returns-in_ok-bytes-in-None-clause-ok
returns-in_ok-bytes-in-None-clause-ok c =
    files_of-begun c.set.result c.self.inside.kept c.get_mut.follows.lender-at-none c.args.name.now c.args.bytes.now c.in_ok-bytes-in-None.bytes.items
    c.args.self.now c.set.new.self
    c.get_mut.follows.holds-at-none c.in-None.ensures.value c.in_ok-bytes-in-None.ensures.items c.self.view_is c.set.ensures.ok
