use Rattle.std.proofs.Common.{◌≡◌, ◌∷◌, ◌++◌, List, ℕ, [], map, Ok, Err, sym, ap, subst, ◌∙◌}
use Rattle.std.proofs.lemmas.List.{map-append}
use Rattle.std.proofs.lemmas.Result.{err_from_is_err_and}
use Rattle.dgn_desk.specs.Content.{Files}
use Rattle.dgn_desk.specs.Seen.{seen}
use Rattle.dgn_import.specs.Seconds.{SecondValue, value_of}
use Rattle.dgn_tool.specs.Ends.{ComesTo}
use Rattle.dgn_tool.specs.Inputs.{second_in, seconds_behind}
use Rattle.dgn_tool.specs.Readings.{Reading, at_once}
use Rattle.dgn_tool.specs.SecondFiles.{names_of}
use Rattle.dgn_tool.proofs.SecondNames.{names_none}
use Rattle.dgn_tool.proofs.ReadingsInTurn.{ends_first, then_comes, gives, wants_more}
use Rattle.dgn_tool.proofs.seconds.read_for.Goals as goal

-- what is read behind one more
abbrev behind : List SecondValue → Files → SecondValue → Reading (List SecondValue)
behind before files v = at_once (Ok (before ++ v ∷ []))

pub returns-in_err-second-clause-read : goal.returns-in_err-second-clause-read
returns-in_err-second-clause-read g c =
    let p = err_from_is_err_and c.from_residual.result c.from_residual.ensures.1 in
    let before = map value_of c.args.seconds.now.items in
    let names : c.second_name.result.now ∷ [] ≡ names_of c.args.command.now = ap (λ (n : List ℕ). n ∷ []) c.second_name.ensures ∙ sym (ap names_of c.in-Import.is) in
    rw (p.1, p.2) (subst (λ (l : List (List ℕ)). ComesTo (λ files. seconds_behind files before l) (Err c.in_err-second.field-0.0)
    (seen g.D.Desk c.args.desk.now) (seen g.D.Desk c.read_named.new.desk)) names
    (ends_first (λ files. second_in files c.second_name.result.now) (behind before) c.in_err-second.field-0.0 _ _ c.in_err-second.ensures.read))

pub returns-in_default-push-clause-read : goal.returns-in_default-push-clause-read
returns-in_default-push-clause-read g c =
    wants_more (λ files. seconds_behind files (map value_of c.args.seconds.now.items) (names_of c.args.command.now)) _ _ c.in_ok-second.ensures.read.reads

pub returns-clause-read : goal.returns-clause-read
returns-clause-read g c =
    let before = map value_of c.args.seconds.now.items in
    let v = value_of c.in_ok-second.second in
    let now : map value_of c.push.new.self.items ≡ before ++ v ∷ [] =
    ap (map value_of) c.in-Ok.ensures.items ∙ map-append value_of c.args.seconds.now.items (c.in_ok-second.second ∷ []) in
    let names : c.second_name.result.now ∷ [] ≡ names_of c.args.command.now = ap (λ (n : List ℕ). n ∷ []) c.second_name.ensures ∙ sym (ap names_of c.in-Import.is) in
    subst (λ (vs : List SecondValue). ComesTo (λ files. seconds_behind files before (names_of c.args.command.now)) (Ok vs)
    (seen g.D.Desk c.args.desk.now) (seen g.D.Desk c.read_named.new.desk)) (sym now)
    (subst (λ (l : List (List ℕ)). ComesTo (λ files. seconds_behind files before l) (Ok (before ++ v ∷ []))
    (seen g.D.Desk c.args.desk.now) (seen g.D.Desk c.read_named.new.desk)) names
    (then_comes (λ files. second_in files c.second_name.result.now) (behind before) v (Ok (before ++ v ∷ [])) _ _ _ c.in_ok-second.ensures.read
    (gives (before ++ v ∷ []) _)))

pub returns-in_default-clause-read : goal.returns-in_default-clause-read
returns-in_default-clause-read g c =
    let before = map value_of c.args.seconds.now.items in
    subst (λ (l : List (List ℕ)). ComesTo (λ files. seconds_behind files before l) (Ok before)
    (seen g.D.Desk c.args.desk.now) (seen g.D.Desk c.args.desk.now)) (sym (names_none c.args.command.now c.in_default.not-Import))
    (gives before (seen g.D.Desk c.args.desk.now))
