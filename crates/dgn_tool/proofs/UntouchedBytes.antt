-- The file that commands make: it opens, and its bytes are those of the file before at each place of its elements in
-- no field of an edit that is left.
use Rattle.std.proofs.Common.{◌≡◌, ℕ, ◌≤◌, List, [], ◌∷◌, ◌++◌, length, reverse, get_or, refl, sym, ap, ◌∙◌, subst, arith}
use Rattle.std.specs.Prelude.{All, Some}
use Rattle.std.proofs.lemmas.List.{get_or_append_left, reverse-append}
use Rattle.std.proofs.lemmas.List.Elements.{All-cons, All-pop}
use Rattle.dgn_drawing.specs.Element.{Element}
use Rattle.dgn_drawing.specs.Spelling.{spelling}
use Rattle.dgn_drawing.specs.Opening.{Opens}
use Rattle.dgn_session.specs.State.{State}
use Rattle.dgn_answers.specs.Remaining.{RemainingEdit}
use Rattle.dgn_answers.specs.Commands.{first_state}
use Rattle.dgn_answers.specs.Steps.{Step, after_all, with_steps}
use Rattle.dgn_tool.specs.Filling.{filling}
use Rattle.dgn_tool.specs.Laws.{steps_of_files, behind_after, IsOutside, IsEditedFile, UntouchedBytesStay}
use Rattle.dgn_tool.proofs.FilledTails.{filled_opens, none_fills}
use Rattle.dgn_tool.proofs.StackedEdits.{IsStacked, steps_stack}
use Rattle.dgn_tool.proofs.OpenSeconds.{IsStep, steps_given}
use Rattle.dgn_tool.proofs.LinkedEdits.{top_of, top_opens, stack_top, steps_link, linked_long, linked_same}

-- what holds of each of a list from behind holds of each
all_back : (P : RemainingEdit → Type 0) (ms : List RemainingEdit) → All P (reverse ms) → All P ms
all_back P [] all = all
all_back P (m ∷ ms) all =
    let parts = All-pop P (reverse ms ++ m ∷ []) (reverse ms) (Some m) refl (subst (All P) (reverse-append (m ∷ []) ms) all) in
    All-cons P m ms parts.1 (all_back P ms parts.0)

-- the same of the file, whose tail stands behind the elements
edited_file : (t : List ℕ) (cs : List Step) (s : State) → s.earlier ≡ [] → All IsStep cs → Opens (spelling s.top ++ t) s.dim s.top t
    → IsEditedFile (spelling s.top ++ t) s t cs
edited_file t cs s none fits opens =
    let left : List RemainingEdit = with_steps cs s [] in
    let end : State = after_all cs s in
    let start : IsStacked s.top s [] = ap (λ (earlier : List (List Element)). s.top ∷ earlier) none in
    let linked = steps_link t s.top cs s [] fits start opens in
    let top : top_of s.top left ≡ end.top = sym (stack_top s.top end left (steps_stack s.top cs s [] start)) in
    let long : length (spelling s.top) ≤ length (spelling end.top) =
    subst (λ (es : List Element). length (spelling s.top) ≤ length (spelling es)) top (linked_long s.dim s.rest t s.top left linked) in
    record {
      opens = filled_opens s.dim end.top t (filling (length (spelling s.top)) t (length (spelling end.top)))
          (none_fills (length (spelling s.top)) t (length (spelling end.top)))
          (subst (λ (es : List Element). Opens (spelling es ++ t) s.dim es t) top (top_opens s.dim s.rest t s.top left linked));
      long = long;
      stays = λ p below all.
          get_or_append_left (spelling end.top) (behind_after s t cs) 0 p (omega arith)
          ∙ ap (λ (es : List Element). get_or (spelling es) p 0) (sym top)
          ∙ linked_same s.dim s.rest t s.top left p linked below (all_back (IsOutside s.dim p) left all)
          ∙ sym (get_or_append_left (spelling s.top) t 0 p below);
    }

-- what the commands of a script make of a file that opens
pub untouched : UntouchedBytesStay
untouched f d cs files opens fits bytes =
    subst (λ (g : List ℕ). IsEditedFile g (first_state d) d.tail (steps_of_files cs files)) (sym opens.whole)
    (edited_file d.tail (steps_of_files cs files) (first_state d) refl (steps_given cs files fits bytes)
    (subst (λ (g : List ℕ). Opens g d.dim d.elements d.tail) opens.whole opens))
