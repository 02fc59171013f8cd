-- What an edit and an undo do to the state that a session's value stands for.
use Rattle.std.proofs.Common.{◌≡◌, ℕ, List, [], ◌∷◌, ◌++◌, map, reverse, refl, sym, ap, ◌∙◌}
use Rattle.std.proofs.lemmas.List.{reverse-append}
use Rattle.undo_log.specs.declared.entry.Entry.{Entry}
use Rattle.undo_log.specs.Entries.{back, bodies, IsUndone}
use Rattle.dgn_drawing.specs.Element.{Element}
use Rattle.dgn_drawing.specs.Opening.{elements_of}
use Rattle.edit_ops.specs.Applying.{Done}
use Rattle.dgn_session.specs.State.{with_stack, push_made, drop_top, after_undo, SessionValue, earlier_of, state_of, value_with}

-- the lists of the bodies that entries lead back to begin with that of the body itself
pub bodies_first : (dim : ℕ) (b : List ℕ) (es : List Entry) → map (elements_of dim) (bodies b es) ≡ elements_of dim b ∷ earlier_of dim b es
bodies_first dim b [] = refl
bodies_first dim b (e ∷ es) = refl

-- one more entry puts one more list below the top
earlier_more : (dim : ℕ) (b new : List ℕ) (e : Entry) (es : List Entry) → back new e ≡ b
    → earlier_of dim new (reverse (es ++ e ∷ [])) ≡ elements_of dim b ∷ earlier_of dim b (reverse es)
earlier_more dim b new e es leads =
    ap (earlier_of dim new) (reverse-append es (e ∷ []))
    ∙ ap (λ (x : List ℕ). map (elements_of dim) (bodies x (reverse es))) leads
    ∙ bodies_first dim b (reverse es)

-- what is done pushes
pub pushed_state : (v : SessionValue) (new : List ℕ) (e : Entry) (made : List Element) → back new e ≡ v.body → elements_of v.dim new ≡ made
    → state_of (value_with new (v.entries ++ e ∷ []) v) ≡ push_made (Done made) (state_of v)
pushed_state v new e made leads are =
    ap (λ (top : List Element). with_stack top (earlier_of v.dim new (reverse (v.entries ++ e ∷ []))) (state_of v)) are
    ∙ ap (λ (earlier : List (List Element)). with_stack made earlier (state_of v)) (earlier_more v.dim v.body new e v.entries leads)

-- an undo drops
pub undone_state : (v : SessionValue) (new : List ℕ) (entries : List Entry) → IsUndone v.entries v.body entries new
    → state_of (value_with new entries v) ≡ after_undo (state_of v)
undone_state v new entries is =
    let newest : reverse v.entries ≡ is.last ∷ reverse entries = ap (reverse {A = Entry}) is.dropped ∙ reverse-append entries (is.last ∷ []) in
    let below : earlier_of v.dim v.body (reverse v.entries) ≡ elements_of v.dim new ∷ earlier_of v.dim new (reverse entries) =
    ap (earlier_of v.dim v.body) newest
    ∙ ap (λ (x : List ℕ). map (elements_of v.dim) (bodies x (reverse entries))) (sym is.body)
    ∙ bodies_first v.dim new (reverse entries) in
    sym (ap (λ (earlier : List (List Element)). drop_top earlier (state_of v)) below)
