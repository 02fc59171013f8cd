-- What is found backwards over the elements of one tree is what the tree shows.
use Rattle.std.proofs.Common.{◌≡◌, ℕ, suc, ◌+◌, ◌-◌, ◌<◌, ◌≤◌, List, [], ◌∷◌, ◌++◌, length, refl, sym, ap, ◌∙◌, subst, arith, append_assoc, length-append}
use Rattle.std.proofs.Common.{inl, inr}
use Rattle.std.specs.Prelude.{Option, Some, None, option_map, ◌==◌}
use Rattle.std.proofs.lemmas.List.{append-nil, length-drop}
use Rattle.std.proofs.lemmas.Option.{slice_get_within}
use Rattle.std.proofs.lemmas.Bool.{cond-true, cond-false, cases_lt, eq-eqb, eqb-true}
use Rattle.dgn_drawing.specs.declared.mask.Mask.{Mask}
use Rattle.dgn_drawing.specs.Element.{Element}
use Rattle.dgn_drawing.specs.Rows.{row_of}
use Rattle.dgn_drawing.specs.Nesting.{Knot, Leaf, Group, Run, Loose, Forest, NoTree, Tree, flat, forest}
use Rattle.dgn_drawing.specs.Numbering.{Mark, end_of, marks, marks_of, mark_of}
use Rattle.dgn_drawing.specs.Shown.{items, tree_from}
use Rattle.nest_tree.proofs.NestingSteps.{flat-forest}
use Rattle.level_view.specs.Back.{read_back}
use Rattle.level_view.proofs.BareHeads.{IsBare, AreBare, forest_bare}
use Rattle.level_view.proofs.ItemsBack.{Stands, length-marks, head_marked, below_stands, behind_stands, trees_found, all_stand}

-- the parent of a mark, where there is one
abbrev pub parent_at : Option Mark → Option (Option ℕ)
parent_at m = option_map (λ (m : Mark). m.parent) m

some_parent : (o : Option Mark) → parent_at o ≡ Some None → (m : Mark) × (o ≡ Some m)
some_parent None is = absurd (let e = is in cc)
some_parent (Some m) is = (m, refl)

module _ (es : List Element) where
  -- each element of trees that stand below a header has a parent
  pub not_root : (f : Forest Element) (n depth p k : ℕ) → Stands es f n depth (Some p) → n ≤ k → k < n + length (flat f) → (q : ℕ)
      × (parent_at (mark_of row_of es k) ≡ Some (Some q))
  not_root NoTree n depth p k stands low high = absurd (omega arith)
  not_root (Tree knot e below behind) n depth p k stands low high =
      elim (cases_lt n k) [
        | inr here ↦ (
          p,
          let same : k ≡ n = omega arith in
              ap (λ (i : ℕ). parent_at (mark_of row_of es i)) same ∙ ap parent_at (head_marked es knot e below behind n depth (Some p) stands),
        )
        | inl after ↦ elim (cases_lt k (end_of n below)) [
          | inl inner ↦ not_root below (n + 1) (depth + 1) n k (below_stands es knot e below behind n depth (Some p) stands) (omega arith) (omega arith)
          | inr outer ↦
              not_root behind (end_of n below) depth p k (behind_stands es knot e below behind n depth (Some p) stands) outer
              (omega (arith, length-append (flat below) (flat behind)))
        ]
      ]

-- nothing is below a leaf
leaf_bare : {A : Type 0} (knot : Knot) (below : Forest A) → knot ≡ Leaf → IsBare knot below → below ≡ NoTree
leaf_bare Leaf below is bare = bare
leaf_bare Group below is bare = absurd cc
leaf_bare Run below is bare = absurd cc
leaf_bare Loose below is bare = absurd cc

-- the elements of one tree, which has that mark
pub record IsTree (dim : ℕ) (mask : Mask) (es : List Element) (root : ℕ) (f : Forest Element) (n : ℕ) : Type 0 where
  pub mark : Mark
  pub marked : mark_of row_of es root ≡ Some mark
  pub ordered : root < mark.end
  pub within : mark.end ≤ length es
  pub depth : mark.depth ≡ 0
  pub alone : mark.knot ≡ Leaf → mark.end ≡ root + 1
  pub found : read_back dim mask es root (mark.end - root) ≡ items dim mask root 0 (tree_from root n f)

module _ (dim : ℕ) (mask : Mask) (es : List Element) (root : ℕ) (is_root : parent_at (mark_of row_of es root) ≡ Some None) where
  first_tree : (knot : Knot) (e : Element) (below behind : Forest Element) → AreBare (Tree knot e below behind)
      → Stands es (Tree knot e below behind) root 0 None → IsTree dim mask es root (Tree knot e below behind) root
  first_tree knot e below behind bare stands =
      let alone : Stands es (Tree knot e below NoTree) root 0 None = record {
        marks_behind = marks behind (end_of root below) 0 None ++ stands.marks_behind;
        behind = flat behind ++ stands.behind;
        marked = stands.marked ∙ ap (λ (ms : List Mark). record { knot = knot; depth = 0; parent = None; end = end_of root below } ∷ ms)
            (append_assoc (marks below (root + 1) 1 (Some root)) (marks behind (end_of root below) 0 None) stands.marks_behind
            ∙ ap (λ (ms : List Mark). ms ++ (marks behind (end_of root below) 0 None ++ stands.marks_behind))
            (sym (append-nil (marks below (root + 1) 1 (Some root)))));
        listed = stands.listed ∙ ap (λ (l : List Element). e ∷ l)
            (append_assoc (flat below) (flat behind) stands.behind
            ∙ ap (λ (l : List Element). l ++ (flat behind ++ stands.behind)) (sym (append-nil (flat below))));
      } in
      let steps : end_of root below - root ≡ suc (length (flat below ++ [])) + 0 = omega (arith, length-append (flat below) []) in
      let same : tree_from root root (Tree knot e below behind) ≡ Tree knot e below NoTree =
      cond-true (root == root) (Tree knot e below NoTree) (tree_from root (end_of root below) behind) (eq-eqb root root refl) in
      record {
        mark = record { knot = knot; depth = 0; parent = None; end = end_of root below };
        marked = head_marked es knot e below behind root 0 None stands;
        ordered = omega arith;
        within = omega (
          arith,
          ap (length {A = Element}) stands.listed,
          length-drop root es,
          length-append (flat below ++ flat behind) stands.behind,
          length-append (flat below) (flat behind),
        );
        depth = refl;
        alone = λ leaf. ap (λ (f : Forest Element). end_of root f) (leaf_bare knot below leaf bare.0) ∙ omega arith;
        found = ap (read_back dim mask es root) steps ∙ trees_found dim mask es (Tree knot e below NoTree) root 0 None (bare.0, bare.1, tt) alone 0
            ∙ append-nil (items dim mask root 0 (Tree knot e below NoTree)) ∙ ap (items dim mask root 0) (sym same);
      }

  tree_at : (f : Forest Element) (n : ℕ) → AreBare f → Stands es f n 0 None → n ≤ root → root < n + length (flat f) → IsTree dim mask es root f n
  tree_at NoTree n bare stands low high = absurd (omega arith)
  tree_at (Tree knot e below behind) n bare stands low high =
      elim (cases_lt n root) [
        | inr here ↦
            let same : root ≡ n = omega arith in
            subst (λ (k : ℕ). IsTree dim mask es root (Tree knot e below behind) k) same
            (first_tree knot e below behind bare (subst (λ (k : ℕ). Stands es (Tree knot e below behind) k 0 None) (sym same) stands))
        | inl after ↦ elim (cases_lt root (end_of n below)) [
          | inl inner ↦
              let has = not_root es below (n + 1) 1 n root (below_stands es knot e below behind n 0 None stands) (omega arith) (omega arith) in
              absurd (let one = has.1 in let two = is_root in cc)
          | inr outer ↦
              let rest = tree_at behind (end_of n below) bare.2 (behind_stands es knot e below behind n 0 None stands) outer
              (omega (arith, length-append (flat below) (flat behind))) in
              let skipped : tree_from root n (Tree knot e below behind) ≡ tree_from root (end_of n below) behind =
              cond-false (n == root) (Tree knot e below NoTree) (tree_from root (end_of n below) behind) (grind (arith, eqb-true)) in
              record {
                mark = rest.mark;
                marked = rest.marked;
                ordered = rest.ordered;
                within = rest.within;
                depth = rest.depth;
                alone = rest.alone;
                found = rest.found ∙ ap (items dim mask root 0) (sym skipped);
              }
        ]
      ]

  pub root_found : root < length es → IsTree dim mask es root (forest row_of es) 0
  root_found known =
      tree_at (forest row_of es) 0 (forest_bare row_of es) (all_stand es) (omega arith) (omega (arith, ap (length {A = Element}) (flat-forest row_of es)))

-- a root is an element
pub root_known : (es : List Element) (root : ℕ) → parent_at (mark_of row_of es root) ≡ Some None → root < length es
root_known es root is_root =
    let m = some_parent (mark_of row_of es root) is_root in
    omega (
      arith,
      slice_get_within (marks_of (forest row_of es)) root m.0 m.1,
      length-marks (forest row_of es) 0 0 None,
      ap (length {A = Element}) (flat-forest row_of es),
    )
