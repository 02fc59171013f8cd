-- The steps of commands with second files, one after the other.
use Rattle.std.proofs.Common.{◌≡◌, ◌<◌, ◌+◌, List, [], ◌∷◌, ℕ, drop, length, get_or, sym, ap, ◌∙◌}
use Rattle.std.proofs.lemmas.List.{drop_more}
use Rattle.dgn_import.specs.Seconds.{SecondValue}
use Rattle.dgn_drawing.specs.declared.command.Command.{Command}
use Rattle.dgn_answers.specs.Steps.{step_of, seconds_behind, steps_of}

-- the first of those that are left, and the others
pub next_step : (cs : List Command) (i : ℕ) (c : Command) (vs vs' : List SecondValue) → i < length cs → c ≡ get_or cs i c → vs' ≡ seconds_behind c vs
    → steps_of (drop i cs) vs ≡ step_of c vs ∷ steps_of (drop (i + 1) cs) vs'
next_step cs i c vs vs' more is behind =
    ap (λ (l : List Command). steps_of l vs) (drop_more cs i c more ∙ ap (λ (x : Command). x ∷ drop (i + 1) cs) (sym is))
    ∙ ap (λ (ws : List SecondValue). step_of c vs ∷ steps_of (drop (i + 1) cs) ws) (sym behind)

-- none is left
pub none_left : (cs : List Command) (i : ℕ) (vs : List SecondValue) → drop i cs ≡ [] → steps_of (drop i cs) vs ≡ []
none_left cs i vs none = ap (λ (l : List Command). steps_of l vs) none
