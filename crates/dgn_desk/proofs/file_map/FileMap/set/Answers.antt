use Rattle.std.proofs.Common.{string_bytes, ap, ◌∙◌}
use Rattle.dgn_desk.specs.Content.{with_file}
use Rattle.dgn_desk.specs.FileMap.{files_of}
use Rattle.dgn_desk.proofs.FileMaps.{files_of-set}
use Rattle.dgn_desk.proofs.file_map.FileMap.set.Goals as goal

pub returns-clause-ok : goal.returns-clause-ok
returns-clause-ok c =
    let before = c.self.inside.kept in
    files_of-set before c.insert.new.self (string_bytes c.in_ok-key.key) c.args.bytes c.in_ok-insert.ensures.updates
    ∙ ap (λ name. with_file name c.args.bytes.items (files_of before.entries)) c.in_ok-key.ensures.ok
    ∙ ap (with_file c.args.name.now c.args.bytes.items) c.self.view_is
