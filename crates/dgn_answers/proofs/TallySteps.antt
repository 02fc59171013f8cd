-- Steps of which nothing is said, one after the other: what those that ran came to, and what those that are left will.
use Rattle.std.proofs.Common.{◌≡◌, ℕ, ◌+◌, Bool, List, [], ◌∷◌, ◌++◌, sym, ap, ◌∙◌, append_assoc, arith}
use Rattle.std.specs.Int.{from_bool}
use Rattle.std.proofs.lemmas.List.{append-nil}
use Rattle.dgn_session.specs.State.{State}
use Rattle.dgn_answers.specs.Steps.{Step, step_answer, after_all, refused_count, trees_of_all}

-- the commands before these are done
pub record Tallied (all left : List Step) (refused : ℕ) (trees : List ℕ) (from s : State) : Type 0 where
  pub count : refused_count all from ≡ refused + refused_count left s
  pub edited : trees_of_all all from ≡ trees ++ trees_of_all left s
  pub state : after_all all from ≡ after_all left s

sum_moved : (a b c : ℕ) → a + (b + c) ≡ (a + b) + c
sum_moved a b c = omega arith

sum_zero : (a : ℕ) → a + 0 ≡ a
sum_zero a = omega arith

-- one more command
pub tallied_more : (all left : List Step) (g : Step) (refused : ℕ) (was : Bool) (trees : List ℕ) (count : ℕ) (from s new : State)
    → Tallied all (g ∷ left) refused trees from s
    → new ≡ (step_answer s g).state → was ≡ (step_answer s g).refused → count ≡ (step_answer s g).trees
    → Tallied all left (refused + from_bool was) (trees ++ count ∷ []) from new
tallied_more all left g refused was trees count from s new done new_is was_is count_is = record {
  count = done.count
      ∙ ap (λ (t : State). refused + (from_bool (step_answer s g).refused + refused_count left t)) (sym new_is)
      ∙ sum_moved refused (from_bool (step_answer s g).refused) (refused_count left new)
      ∙ ap (λ (b : Bool). (refused + from_bool b) + refused_count left new) (sym was_is);
  edited = done.edited
      ∙ ap (λ (t : State). trees ++ (step_answer s g).trees ∷ trees_of_all left t) (sym new_is)
      ∙ ap (λ (k : ℕ). trees ++ k ∷ trees_of_all left new) (sym count_is)
      ∙ sym (append_assoc trees (count ∷ []) (trees_of_all left new));
  state = done.state ∙ ap (after_all left) (sym new_is);
}

-- where no command is left, all is done
pub tallied_count : (all left : List Step) (refused : ℕ) (trees : List ℕ) (from s : State) → Tallied all left refused trees from s → left ≡ []
    → refused ≡ refused_count all from
tallied_count all left refused trees from s done none =
    sym (done.count ∙ ap (λ (gs : List Step). refused + refused_count gs s) none ∙ sum_zero refused)

pub tallied_trees : (all left : List Step) (refused : ℕ) (trees : List ℕ) (from s : State) → Tallied all left refused trees from s → left ≡ []
    → trees ≡ trees_of_all all from
tallied_trees all left refused trees from s done none =
    sym (done.edited ∙ ap (λ (gs : List Step). trees ++ trees_of_all gs s) none ∙ append-nil trees)

pub tallied_state : (all left : List Step) (refused : ℕ) (trees : List ℕ) (from s : State) → Tallied all left refused trees from s → left ≡ []
    → s ≡ after_all all from
tallied_state all left refused trees from s done none =
    sym (done.state ∙ ap (λ (gs : List Step). after_all gs s) none)
