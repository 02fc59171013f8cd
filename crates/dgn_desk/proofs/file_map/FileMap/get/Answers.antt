use Rattle.std.proofs.Common.{Some, option_map, ap, sym, ◌∙◌}
use Rattle.std.specs.FinMap as maps
use Rattle.dgn_desk.proofs.FileMaps.{get-files_of}
use Rattle.dgn_desk.proofs.file_map.FileMap.get.Goals as goal

pub returns-in-Some : goal.returns-in-Some
returns-in-Some c =
    ap Some c.as_slice.ensures.value
    ∙ ap (option_map (λ v. v.items)) c.in-Some.ensures.value
    ∙ sym (get-files_of c.self.inside.kept c.args.name.now)
    ∙ ap (λ files. maps.get files c.args.name.now) c.self.view_is

pub returns-in-None : goal.returns-in-None
returns-in-None c =
    ap (option_map (λ v. v.items)) c.in-None.ensures.value
    ∙ sym (get-files_of c.self.inside.kept c.args.name.now)
    ∙ ap (λ files. maps.get files c.args.name.now) c.self.view_is
