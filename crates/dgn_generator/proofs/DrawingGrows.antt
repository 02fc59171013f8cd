-- A generated drawing to which trees are still to be added.
use Rattle.std.proofs.Common.{◌≡◌, ℕ, zero, suc, ◌+◌, ◌-◌, ◌<◌, ◌≤◌, false, List, [], ◌++◌, length, refl, sym, ap, ◌∙◌, subst, append_assoc, arith}
use Rattle.std.specs.Prelude.{◌==◌}
use Rattle.std.proofs.lemmas.Bool.Decides.{nat_tests}
use Rattle.std.proofs.lemmas.List.{append-nil}
use Rattle.std.proofs.lemmas.List.Concat.{flat_map-append}
use Rattle.dgn_drawing.specs.Element.{Element}
use Rattle.dgn_drawing.specs.Spelling.{spell, spelling}
use Rattle.dgn_generator.specs.Generator.{next_state, number_of, tree, tree_drawn, trees_within}

-- no tree is added where no element is left to make
pub none_left : (n i s : ℕ) → trees_within n 0 i s ≡ []
unfolding trees_within
none_left zero i s = refl
none_left (suc n) i s = refl

-- one tree, and those behind it
pub one_more : (n left i s : ℕ) → 1 ≤ left → trees_within (suc n) left i s
    ≡ tree_drawn left i s ++ trees_within n (left - length (tree_drawn left i s)) (i + length (tree_drawn left i s)) (next_state (next_state s))
unfolding trees_within
one_more n left i s some =
    let more : (left == 0) ≡ false = grind (arith, nat_tests) in
    rw more refl

-- trees that are still to be added to these bytes, so that they come to others
pub record IsGrowing (count before state : ℕ) (bytes whole : List ℕ) : Type 0 where
  pub within : before ≤ count
  pub most : ℕ
  pub enough : count ≤ before + most
  pub all : bytes ++ spelling (trees_within most (count - before) before state) ≡ whole

-- at first all trees are
pub begins : (count seed : ℕ) (bytes : List ℕ) → IsGrowing count 0 seed bytes (bytes ++ spelling (trees_within count count 0 seed))
begins count seed bytes =
    let all : count - 0 ≡ count = omega arith in
    record {
      within = omega arith;
      most = count;
      enough = omega arith;
      all = ap (λ (left : ℕ). bytes ++ spelling (trees_within count left 0 seed)) all;
    }

-- a tree is added
module _ (count before state : ℕ) (bytes whole now : List ℕ) (size : ℕ) (more : before < count)
    (added : now ≡ bytes ++ spelling (tree_drawn (count - before) before state)) (long : size ≡ length (tree_drawn (count - before) before state))
    (few : size ≤ count - before) (some : 1 ≤ size) where
  grown : (most : ℕ) → count ≤ before + most → bytes ++ spelling (trees_within most (count - before) before state) ≡ whole
      → IsGrowing count (before + size) (next_state (next_state state)) now whole
  grown zero enough all = absurd (omega arith)
  grown (suc most) enough all =
      let next : ℕ = next_state (next_state state) in
      let left : count - before - size ≡ count - (before + size) = omega arith in
      let behind : List Element = trees_within most (count - (before + size)) (before + size) next in
      let parts : trees_within (suc most) (count - before) before state ≡ tree_drawn (count - before) before state ++ behind =
      one_more most (count - before) before state (omega arith)
      ∙ ap (λ (k : ℕ). tree_drawn (count - before) before state ++ trees_within most (count - before - k) (before + k) next) (sym long)
      ∙ ap (λ (k : ℕ). tree_drawn (count - before) before state ++ trees_within most k (before + size) next) left in
      record {
        within = omega arith;
        most = most;
        enough = omega arith;
        all = ap (λ (b : List ℕ). b ++ spelling behind) added
            ∙ append_assoc bytes (spelling (tree_drawn (count - before) before state)) (spelling behind)
            ∙ ap (λ (b : List ℕ). bytes ++ b) (sym (flat_map-append spell (tree_drawn (count - before) before state) behind) ∙ ap spelling (sym parts))
            ∙ all;
      }

  pub grows : IsGrowing count before state bytes whole → IsGrowing count (before + size) (next_state (next_state state)) now whole
  grows growing = grown growing.most growing.enough growing.all

-- at last there are all
pub ends : (count before state : ℕ) (bytes whole : List ℕ) → IsGrowing count before state bytes whole → count ≤ before → bytes ≡ whole
ends count before state bytes whole growing end =
    let none : count - before ≡ 0 = omega arith in
    sym (append-nil bytes)
    ∙ ap (λ (es : List Element). bytes ++ spelling es)
    (sym (ap (λ (left : ℕ). trees_within growing.most left before state) none ∙ none_left growing.most before state))
    ∙ growing.all

-- a tree is added at the two numbers that were drawn for it
pub grows_drawn : (count before state first second : ℕ) (bytes whole now : List ℕ) (size : ℕ) → before < count → first ≡ next_state state
    → second ≡ next_state first
    → now ≡ bytes ++ spelling (tree (count - before) before (number_of first) (number_of second))
    → size ≡ length (tree (count - before) before (number_of first) (number_of second)) → size ≤ count - before → 1 ≤ size
    → IsGrowing count before state bytes whole → IsGrowing count (before + size) second now whole
grows_drawn count before state first second bytes whole now size more one two added long few some growing =
    let last : second ≡ next_state (next_state state) = two ∙ ap next_state one in
    let trees : tree (count - before) before (number_of first) (number_of second) ≡ tree_drawn (count - before) before state =
    ap (λ (s : ℕ). tree (count - before) before (number_of s) (number_of second)) one
    ∙ ap (λ (s : ℕ). tree (count - before) before (number_of (next_state state)) (number_of s)) last in
    subst (λ (s : ℕ). IsGrowing count (before + size) s now whole) (sym last)
    (grows count before state bytes whole now size more (added ∙ ap (λ (es : List Element). bytes ++ spelling es) trees)
    (long ∙ ap (length {A = Element}) trees) few some growing)
