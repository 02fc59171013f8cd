use Rattle.std.proofs.Common.{◌++◌, [], Some, IsSome, unwrap_or, append-nil, refl, ap, sym, subst, ◌∙◌}
use Rattle.std.specs.FinMap as maps
use Rattle.dgn_desk.specs.Content.{opened}
use Rattle.dgn_desk.proofs.LentFiles.{get_written, get_lent, opened_over, none_there}
use Rattle.dgn_desk.proofs.lent_desk.LentDeskDesk.begin_read.Goals as goal

pub returns-in_err-self-inside-in-Some-clause-absent : goal.returns-in_err-self-inside-in-Some-clause-absent
returns-in_err-self-inside-in-Some-clause-absent c = λ none.
    absurd (let e = sym (get_written _ _ _ _ c.in-Some.ensures) ∙ ap (λ d. maps.get d.content.files c.args.name.now) c.self.view_is ∙ none in cc)

pub returns-in_ok-self-inside-in-Some-clause-changes : goal.returns-in_ok-self-inside-in-Some-clause-changes
returns-in_ok-self-inside-in-Some-clause-changes c =
    opened_over c.self.inside.written c.self.inside.lent.now c.args.name.now _ [] _ _ _
    (ap (λ o. unwrap_or o []) (get_written _ _ _ _ c.in-Some.ensures) ∙ sym (append-nil _ ∙ c.in_ok-self-inside-in-Some.ensures.items))
    ∙ ap (λ d. Some (opened c.args.name.now d.content)) c.self.view_is

pub returns-in_ok-self-inside-in-Some-clause-absent : goal.returns-in_ok-self-inside-in-Some-clause-absent
returns-in_ok-self-inside-in-Some-clause-absent c = λ none.
    absurd (let e = sym (get_written _ _ _ _ c.in-Some.ensures) ∙ ap (λ d. maps.get d.content.files c.args.name.now) c.self.view_is ∙ none in cc)

pub returns-in-Some-find-clause-changes : goal.returns-in-Some-find-clause-changes
returns-in-Some-find-clause-changes c =
    opened_over c.self.inside.written c.self.inside.lent.now c.args.name.now _ [] _ _ _
    (ap (λ o. unwrap_or o []) (get_lent _ _ _ c.in-None.ensures ∙ ap (maps.get _) (sym c.as_bytes.ensures.value) ∙ sym c.in-Some-find.ensures)
    ∙ sym (ap (λ xs. xs ++ c.in-Some-find.bytes.now) c.new.ensures.items))
    ∙ ap (λ d. Some (opened c.args.name.now d.content)) c.self.view_is

pub returns-in-Some-find-clause-absent : goal.returns-in-Some-find-clause-absent
returns-in-Some-find-clause-absent c = λ none.
    absurd (let e =
    sym (get_lent _ _ _ c.in-None.ensures ∙ ap (maps.get _) (sym c.as_bytes.ensures.value) ∙ sym c.in-Some-find.ensures)
    ∙ ap (λ d. maps.get d.content.files c.args.name.now) c.self.view_is
    ∙ none in cc)

pub returns-in-None-find-clause-never_fails : goal.returns-in-None-find-clause-never_fails
returns-in-None-find-clause-never_fails c = λ there.
    absurd (none_there _ (sym (ap (λ d. maps.get d.content.files c.args.name.now) c.self.view_is)
    ∙ get_lent _ _ _ c.in-None.ensures ∙ ap (maps.get _) (sym c.as_bytes.ensures.value) ∙ sym c.in-None-find.ensures) there)

pub returns-in_ok-self-inside-in-Some-clause-found : goal.returns-in_ok-self-inside-in-Some-clause-found
returns-in_ok-self-inside-in-Some-clause-found c =
    λ _. subst IsSome (sym (get_written _ _ _ _ c.in-Some.ensures) ∙ ap (λ d. maps.get d.content.files c.args.name.now) c.self.view_is) refl

pub returns-in-Some-find-clause-found : goal.returns-in-Some-find-clause-found
returns-in-Some-find-clause-found c =
    λ _. subst IsSome (sym (get_lent _ _ _ c.in-None.ensures ∙ ap (maps.get _) (sym c.as_bytes.ensures.value) ∙ sym c.in-Some-find.ensures)
    ∙ ap (λ d. maps.get d.content.files c.args.name.now) c.self.view_is) refl
