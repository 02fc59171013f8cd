-- One element is read in its list, and the list of those below it is entered; a list that has ended is left.
use Rattle.std.proofs.Common.{◌≡◌, ℕ, zero, suc, ◌+◌, ◌-◌, ◌≤◌, ◌<◌, List, [], ◌∷◌, ◌++◌, length, take, drop, map, get_or, refl, sym, ap, ◌∙◌, arith, cond}
use Rattle.std.proofs.Common.{append_assoc}
use Rattle.std.specs.Prelude.{Option, Some, None, ◌==◌}
use Rattle.std.proofs.lemmas.List.{drop-drop, drop-take, take-take, length-take}
use Rattle.std.proofs.lemmas.Bool.{cond-true, and_parts, eqb-true}
use Rattle.dgn_layout.specs.Classes.{is_among}
use Rattle.dgn_drawing.specs.declared.row.Row.{Row}
use Rattle.dgn_drawing.specs.Nesting as nesting
use Rattle.dgn_drawing.specs.Nesting.{Shape, group_or_loose, is_all, shape_of, shape, itself, nest, Forest, Tree}
use Rattle.dgn_drawing.specs.Numbering.{Mark, end_of, marks}
use Rattle.nest_tree.specs.declared.shape.Scope.{Scope}
use Rattle.nest_tree.specs.declared.open_list.OpenList.{OpenList}
use Rattle.nest_tree.specs.Shapes.{code_knot, code_scope, defined_scope}
use Rattle.nest_tree.specs.Places.{scope_below, resume}
use Rattle.nest_tree.proofs.NestingSteps.{count_within, nest_cons, flat-nest, shape_cases}

-- what stands at number n of a list of which the rest is known
pub at_place : {B : Type 0} (f : Mark → B) (e : B) (n : ℕ) (l : List Mark) (m : Mark) (rest : List Mark) → drop n l ≡ m ∷ rest → get_or (map f l) n e ≡ f m
at_place f e zero [] m rest is = absurd (let h = is in cc)
at_place f e (suc n) [] m rest is = absurd (let h = is in cc)
at_place f e zero (x ∷ l) m rest is = let same : x ≡ m = cc in ap f same
at_place f e (suc n) (x ∷ l) m rest is = at_place f e n l m rest is

scope_back : (s : nesting.Scope) → defined_scope (code_scope s) ≡ s
scope_back nesting.Whole = refl
scope_back nesting.Members = refl
scope_back nesting.Parts = refl

-- the scope below a first element, by its knot and its type
pub below_cases : (scope : nesting.Scope) (h : Row) (members : Option ℕ) (spline_parts parts : ℕ)
    → code_scope (shape_of scope h members spline_parts parts).inside ≡ scope_below (code_knot (shape_of scope h members spline_parts parts).knot) h.kind
below_cases scope h members spline_parts parts =
    shape_cases (λ s. code_scope s.inside ≡ scope_below (code_knot s.knot) h.kind) scope h members spline_parts parts
    refl
    (λ _. group members)
    (λ _ spline. sym (cond-true (is_among h.kind (24 ∷ 27 ∷ [])) Scope.Parts Scope.Members spline))
    (λ _ shared. let kind : h.kind ≡ 34 = eqb-true h.kind 34 ((and_parts (h.kind == 34) (is_all scope) shared).0) in
    sym (ap (λ (k : ℕ). cond (is_among k (24 ∷ 27 ∷ [])) Scope.Parts Scope.Members) kind))
  where
    group : (o : Option ℕ) → code_scope (group_or_loose o).inside ≡ scope_below (code_knot (group_or_loose o).knot) h.kind
    group None = refl
    group (Some k) = refl

-- one head is read: its mark, and then the marks of the list below it and of what is left of its own
module _ (f : OpenList) (fs : List OpenList) (at : ℕ) (h : Row) (r : List Row) (inside : at < f.end) where
  own : List Row
  own = take (f.end - at - 1) r

  abbrev found : Shape
  found = shape itself (defined_scope f.scope) h (take (f.end - at - 1) r)

  abbrev pub mark_here : Mark
  mark_here = record { knot = found.knot; depth = f.depth; parent = f.parent; end = at + 1 + found.count }

  abbrev pub list_here : OpenList
  list_here = record { scope = code_scope found.inside; end = at + 1 + found.count; depth = f.depth + 1; parent = Some at }

  module _ (long : f.end ≤ at + 1 + length r) where
    k : ℕ
    k = found.count

    count : k ≤ f.end - at - 1
    unfolding k
    count = let most = count_within itself (defined_scope f.scope) h (take (f.end - at - 1) r) in omega (arith, length-take (f.end - at - 1) r)

    front : take k (take (f.end - at - 1) r) ≡ take k r
    front = take-take k (f.end - at - 1) r count

    back : drop k (take (f.end - at - 1) r) ≡ take (f.end - (at + 1 + k)) (drop k r)
    back =
        let e : f.end - at - 1 ≡ k + (f.end - (at + 1 + k)) = let c = count in omega arith in
        ap (λ (n : ℕ). drop k (take n r)) e ∙ drop-take k (f.end - (at + 1 + k)) r

    -- what is below the head and what is behind it
    below : Forest Row
    below = nest itself found.inside (take k r)

    behind : Forest Row
    behind = nest itself (defined_scope f.scope) (take (f.end - (at + 1 + k)) (drop k r))

    size_below : end_of at below ≡ at + 1 + k
    unfolding below
    size_below =
        let c = count in
        omega (arith, ap (length {A = Row}) (flat-nest itself found.inside (take k r)), length-take k r)

    trees : nest itself (defined_scope f.scope) (take (f.end - at) (h ∷ r)) ≡ Tree found.knot h below behind
    unfolding below behind k
    trees =
        let e : f.end - at ≡ suc (f.end - at - 1) = omega arith in
        ap (λ (n : ℕ). nest itself (defined_scope f.scope) (take n (h ∷ r))) e
        ∙ nest_cons itself (defined_scope f.scope) h (take (f.end - at - 1) r)
        ∙ ap (λ (x : List Row). Tree found.knot h (nest itself found.inside x) (nest itself (defined_scope f.scope) (drop k (take (f.end - at - 1) r)))) front
        ∙ ap (λ (x : List Row). Tree found.knot h (nest itself found.inside (take k r)) (nest itself (defined_scope f.scope) x)) back

    all_marks : marks (nest itself (defined_scope f.scope) (take (f.end - at) (h ∷ r))) at f.depth f.parent
        ≡ mark_here ∷ (marks below (at + 1) (f.depth + 1) (Some at) ++ marks behind (at + 1 + k) f.depth f.parent)
    unfolding k
    all_marks =
        ap (λ (t : Forest Row). marks t at f.depth f.parent) trees
        ∙ ap (λ (n : ℕ). record {
          knot = found.knot;
          depth = f.depth;
          parent = f.parent;
          end =
              n;
        } ∷ (marks below (at + 1) (f.depth + 1) (Some at) ++ marks behind n f.depth f.parent)) size_below

    rest_at : at + (f.end - at) ≡ at + 1 + k + (f.end - (at + 1 + k))
    rest_at = let c = count in omega arith

    rest_rows : drop (f.end - at) (h ∷ r) ≡ drop (f.end - (at + 1 + k)) (drop k r)
    rest_rows =
        let c = count in
        let e : f.end - at ≡ suc (k + (f.end - (at + 1 + k))) = omega arith in
        ap (λ (n : ℕ). drop n (h ∷ r)) e ∙ sym (drop-drop (f.end - (at + 1 + k)) k r)

    tail : List Mark
    tail = resume fs (at + 1 + k + (f.end - (at + 1 + k))) (drop (f.end - (at + 1 + k)) (drop k r))

    before_tail : resume (f ∷ fs) at (h ∷ r)
        ≡ mark_here ∷ (marks below (at + 1) (f.depth + 1) (Some at) ++ (marks behind (at + 1 + k) f.depth f.parent ++ tail))
    unfolding tail
    before_tail =
        ap (λ (ms : List Mark). ms ++ resume fs (at + (f.end - at)) (drop (f.end - at) (h ∷ r))) all_marks
        ∙ ap (λ (n : ℕ). (mark_here ∷ (marks below (at + 1) (f.depth + 1) (Some at) ++ marks behind (at + 1 + k) f.depth f.parent))
        ++ resume fs n (drop (f.end - at) (h ∷ r))) rest_at
        ∙ ap (λ (x : List Row). (mark_here ∷ (marks below (at + 1) (f.depth + 1) (Some at) ++ marks behind (at + 1 + k) f.depth f.parent))
        ++ resume fs (at + 1 + k + (f.end - (at + 1 + k))) x) rest_rows
        ∙ ap (λ (ms : List Mark). mark_here ∷ ms)
        (append_assoc (marks below (at + 1) (f.depth + 1) (Some at)) (marks behind (at + 1 + k) f.depth f.parent) tail)

    -- the same marks from the list below the head on
    inner_end : at + 1 + k - (at + 1) ≡ k
    inner_end = omega arith

    after : resume (list_here ∷ (f ∷ fs)) (at + 1) r ≡ marks below (at + 1) (f.depth + 1) (Some at) ++ (marks behind (at + 1 + k) f.depth f.parent ++ tail)
    unfolding tail below behind k
    after =
        ap (λ (s : nesting.Scope). marks (nest itself s (take (at + 1 + k - (at + 1)) r)) (at + 1) (f.depth + 1) (Some at)
        ++ resume (f ∷ fs) (at + 1 + (at + 1 + k - (at + 1))) (drop (at + 1 + k - (at + 1)) r)) (scope_back found.inside)
        ∙ ap (λ (n : ℕ). marks (nest itself found.inside (take n r)) (at + 1) (f.depth + 1) (Some at) ++ resume (f ∷ fs) (at + 1 + n) (drop n r)) inner_end

    pub enters : resume (f ∷ fs) at (h ∷ r) ≡ mark_here ∷ resume (list_here ∷ (f ∷ fs)) (at + 1) r
    enters = before_tail ∙ ap (λ (ms : List Mark). mark_here ∷ ms) (sym after)
