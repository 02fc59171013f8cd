-- What is read back over the elements of trees is the hulls of the trees, and what is told of them.
use Rattle.std.proofs.Common.{◌≡◌, ℕ, suc, ◌+◌, ◌<◌, ◌≤◌, List, [], ◌∷◌, ◌++◌, length, Option, Some, None, Bool, true, false, cond, refl, sym, ap, ◌∙◌}
use Rattle.std.proofs.Common.{subst, arith, append_assoc, length-append}
use Rattle.std.specs.Prelude.{slice_get}
use Rattle.std.specs.List.{AllByRecursion}
use Rattle.std.proofs.lemmas.List.{append-nil}
use Rattle.std.proofs.lemmas.Bool.{cond_both}
use Rattle.range_code.specs.declared.Box3.{Box3}
use Rattle.dgn_drawing.specs.Element.{Element}
use Rattle.dgn_drawing.specs.Rows.{row_of}
use Rattle.dgn_drawing.specs.Nesting.{Knot, Forest, NoTree, Tree, flat, forest}
use Rattle.dgn_drawing.specs.Numbering.{Mark, end_of, mark_of}
use Rattle.nest_tree.proofs.GrownNestings.{all_both}
use Rattle.nest_tree.proofs.NestingSteps.{flat-forest}
use Rattle.level_view.proofs.ItemsBack.{Stands, head_marked, head_listed, below_stands, behind_stands, all_stand}
use Rattle.dgn_audit.specs.declared.reported.Reported.{Reported}
use Rattle.dgn_audit.specs.declared.finding.Finding.{Finding}
use Rattle.dgn_audit.specs.declared.open_box.OpenBox.{OpenBox}
use Rattle.dgn_audit.specs.Hulls.{hull_join, tree_hull, hull_of}
use Rattle.dgn_audit.specs.Findings.{is_kept, finding_of, finding_as, findings_in}
use Rattle.dgn_audit.specs.OpenBoxes.{box_for, without, with_hulls, past}
use Rattle.dgn_audit.proofs.ReadBack.{Pass, findings_before, read_one, read_marked, read_back}
use Rattle.dgn_audit.proofs.HeaderBoxes.{TopBelow, IsBefore, top_on, before_on, top_hulls, members_box, members_without, hulls_joined, passed}

-- what is told of one element has its number
alone_each : (P : ℕ → Type 0) (keep : Reported) (dim n : ℕ) (knot : Knot) (e : Element) (hull : Option Box3) → P n
    → AllByRecursion (λ (f : Finding). P f.number) (finding_as keep dim knot n e hull)
alone_each P keep dim n knot e None has = tt
alone_each P keep dim n knot e (Some hull) has =
    cond_both (is_kept keep dim knot e hull) (finding_of dim n e hull ∷ []) [] (λ (l : List Finding). AllByRecursion (λ (f : Finding). P f.number) l)
    (λ _. (has, tt)) (λ _. tt)

-- what holds of all numbers of trees holds of those that are told of
pub finding_each : (P : ℕ → Type 0) (keep : Reported) (dim n : ℕ) (f : Forest Element) → ((k : ℕ) → n ≤ k → k < n + length (flat f) → P k)
    → AllByRecursion (λ (x : Finding). P x.number) (findings_in keep dim n f)
finding_each P keep dim n NoTree each = tt
finding_each P keep dim n (Tree knot e below behind) each =
    let inner = finding_each P keep dim (n + 1) below
    (λ k from to. each k (omega (arith, from)) (omega (arith, to, length-append (flat below) (flat behind)))) in
    let outer = finding_each P keep dim (end_of n below) behind
    (λ k from to. each k (omega (arith, from)) (omega (arith, to, length-append (flat below) (flat behind)))) in
    let head = alone_each P keep dim n knot e (tree_hull dim knot e (hull_of dim below)) (each n (omega arith) (omega arith)) in
    let tree : AllByRecursion (λ (x : Finding). P x.number)
    (cond e.deleted [] (finding_as keep dim knot n e (tree_hull dim knot e (hull_of dim below)) ++ findings_in keep dim (n + 1) below)) =
    cond_both e.deleted [] (finding_as keep dim knot n e (tree_hull dim knot e (hull_of dim below)) ++ findings_in keep dim (n + 1) below)
    (λ (l : List Finding). AllByRecursion (λ (x : Finding). P x.number) l)
    (λ _. tt) (λ _. all_both (λ (x : Finding). P x.number)
    (finding_as keep dim knot n e (tree_hull dim knot e (hull_of dim below))) (findings_in keep dim (n + 1) below) head inner) in
    all_both (λ (x : Finding). P x.number)
    (cond e.deleted [] (finding_as keep dim knot n e (tree_hull dim knot e (hull_of dim below)) ++ findings_in keep dim (n + 1) below))
    (findings_in keep dim (end_of n below) behind) tree outer

-- numbers from m on are numbers from a lesser one on
raised : (m k : ℕ) (xs : List Finding) → k ≤ m → AllByRecursion (λ (f : Finding). m ≤ f.number) xs → AllByRecursion (λ (f : Finding). k ≤ f.number) xs
raised m k [] less each = tt
raised m k (x ∷ xs) less each = (omega (arith, less, each.0), raised m k xs less each.1)

-- what was read behind trees that stand from number n on and end before m
pub record IsReadBehind (n m : ℕ) (pass : Pass) : Type 0 where
  pub top : TopBelow n pass.open_boxes
  pub high : AllByRecursion (λ (f : Finding). m ≤ f.number) pass.noted

-- what is read of trees, whose header has that number, before it
abbrev pub joined_to : Reported → ℕ → ℕ → Option ℕ → Forest Element → Pass → Pass
joined_to keep dim n parent f pass = record {
  open_boxes = with_hulls parent (hull_of dim f) pass.open_boxes;
  noted = findings_in keep dim n f ++ pass.noted;
}

no_hull : (parent : Option ℕ) (os : List OpenBox) → with_hulls parent None os ≡ os
no_hull None os = refl
no_hull (Some p) os = refl

module _ (keep : Reported) (dim : ℕ) where
  -- a head before what is read of what stands below it and behind it
  head_joins : (knot : Knot) (e : Element) (below behind : Forest Element) (n depth : ℕ) (parent : Option ℕ) (pass : Pass) → IsBefore n parent
      → IsReadBehind n (n + length (flat (Tree knot e below behind))) pass
      → read_one keep dim n (record { knot = knot; depth = depth; parent = parent; end = end_of n below }) e
      (joined_to keep dim (n + 1) (Some n) below (joined_to keep dim (end_of n below) parent behind pass))
      ≡ joined_to keep dim n parent (Tree knot e below behind) pass
  head_joins knot e below behind n depth parent pass before is =
      let top : TopBelow n (with_hulls parent (hull_of dim behind) pass.open_boxes) = top_hulls n parent (hull_of dim behind) pass.open_boxes before is.top in
      let box : box_for n (with_hulls (Some n) (hull_of dim below) (with_hulls parent (hull_of dim behind) pass.open_boxes)) ≡ hull_of dim below =
      members_box n (hull_of dim below) (with_hulls parent (hull_of dim behind) pass.open_boxes) top in
      let left : without n (with_hulls (Some n) (hull_of dim below) (with_hulls parent (hull_of dim behind) pass.open_boxes))
      ≡ with_hulls parent (hull_of dim behind) pass.open_boxes =
      members_without n (hull_of dim below) (with_hulls parent (hull_of dim behind) pass.open_boxes) top in
      let boxes : with_hulls parent
      (tree_hull dim knot e (box_for n (with_hulls (Some n) (hull_of dim below) (with_hulls parent (hull_of dim behind) pass.open_boxes))))
      (without n (with_hulls (Some n) (hull_of dim below) (with_hulls parent (hull_of dim behind) pass.open_boxes)))
      ≡ with_hulls parent (hull_join (tree_hull dim knot e (hull_of dim below)) (hull_of dim behind)) pass.open_boxes =
      ap (λ (m : Option Box3). with_hulls parent (tree_hull dim knot e m)
      (without n (with_hulls (Some n) (hull_of dim below) (with_hulls parent (hull_of dim behind) pass.open_boxes)))) box
      ∙ ap (with_hulls parent (tree_hull dim knot e (hull_of dim below))) left
      ∙ hulls_joined parent (tree_hull dim knot e (hull_of dim below)) (hull_of dim behind) pass.open_boxes in
      let low : AllByRecursion (λ (f : Finding). f.number < end_of n below) (findings_in keep dim (n + 1) below) =
      finding_each (λ k. k < end_of n below) keep dim (n + 1) below (λ k from to. to) in
      let high : AllByRecursion (λ (f : Finding). end_of n below ≤ f.number) (findings_in keep dim (end_of n below) behind ++ pass.noted) =
      all_both (λ (f : Finding). end_of n below ≤ f.number) (findings_in keep dim (end_of n below) behind) pass.noted
      (finding_each (λ k. end_of n below ≤ k) keep dim (end_of n below) behind (λ k from to. from))
      (raised (n + length (flat (Tree knot e below behind))) (end_of n below) pass.noted (omega (arith, length-append (flat below) (flat behind))) is.high) in
      let noted : findings_before keep dim n (record { knot = knot; depth = depth; parent = parent; end = end_of n below }) e
      (box_for n (with_hulls (Some n) (hull_of dim below) (with_hulls parent (hull_of dim behind) pass.open_boxes)))
      (findings_in keep dim (n + 1) below ++ (findings_in keep dim (end_of n below) behind ++ pass.noted))
      ≡ findings_in keep dim n (Tree knot e below behind) ++ pass.noted =
      ap (λ (m : Option Box3). findings_before keep dim n (record { knot = knot; depth = depth; parent = parent; end = end_of n below }) e m
      (findings_in keep dim (n + 1) below ++ (findings_in keep dim (end_of n below) behind ++ pass.noted))) box
      ∙ by_deleted e.deleted (findings_in keep dim (n + 1) below) low high in
      ap (λ (b : List OpenBox). record {
        open_boxes = b;
        noted =
            findings_before keep dim n (record { knot = knot; depth = depth; parent = parent; end = end_of n below }) e
            (box_for n (with_hulls (Some n) (hull_of dim below) (with_hulls parent (hull_of dim behind) pass.open_boxes)))
            (findings_in keep dim (n + 1) below ++ (findings_in keep dim (end_of n below) behind ++ pass.noted));
      }) boxes
      ∙ ap (λ (l : List Finding). record {
        open_boxes =
            with_hulls parent (hull_join (tree_hull dim knot e (hull_of dim below)) (hull_of dim behind)) pass.open_boxes;
        noted = l;
      }) noted
    where
      by_deleted : (t : Bool) (inner : List Finding) → AllByRecursion (λ (f : Finding). f.number < end_of n below) inner
          → AllByRecursion (λ (f : Finding). end_of n below ≤ f.number) (findings_in keep dim (end_of n below) behind ++ pass.noted)
          → cond t (past (end_of n below) (inner ++ (findings_in keep dim (end_of n below) behind ++ pass.noted)))
          (finding_as keep dim knot n e (tree_hull dim knot e (hull_of dim below)) ++ (inner ++ (findings_in keep dim (end_of n below) behind ++ pass.noted)))
          ≡ (cond t [] (finding_as keep dim knot n e (tree_hull dim knot e (hull_of dim below)) ++ inner) ++ findings_in keep dim (end_of n below) behind)
          ++ pass.noted
      by_deleted true inner low high = passed (end_of n below) inner (findings_in keep dim (end_of n below) behind ++ pass.noted) low high
      by_deleted false inner low high =
          sym (append_assoc (finding_as keep dim knot n e (tree_hull dim knot e (hull_of dim below))) inner
          (findings_in keep dim (end_of n below) behind ++ pass.noted))
          ∙ sym (append_assoc (finding_as keep dim knot n e (tree_hull dim knot e (hull_of dim below)) ++ inner) (findings_in keep dim (end_of n below) behind)
          pass.noted)

  module _ (es : List Element) where
    -- what is read back over the elements of trees
    pub trees_read : (f : Forest Element) (n depth : ℕ) (parent : Option ℕ) → Stands es f n depth parent → IsBefore n parent → (count : ℕ)
        → IsReadBehind n (n + length (flat f)) (read_back keep dim es (n + length (flat f)) count)
        → read_back keep dim es n (length (flat f) + count) ≡ joined_to keep dim n parent f (read_back keep dim es (n + length (flat f)) count)
    trees_read NoTree n depth parent stands before count is =
        let none : 0 + count ≡ count = omega arith in
        let here : n + 0 ≡ n = omega arith in
        ap (read_back keep dim es n) none ∙ ap (λ (k : ℕ). read_back keep dim es k count) (sym here)
        ∙ ap (λ (os : List OpenBox). record { open_boxes = os; noted = (read_back keep dim es (n + 0) count).noted })
        (sym (no_hull parent (read_back keep dim es (n + 0) count).open_boxes))
    trees_read (Tree knot e below behind) n depth parent stands before count is =
        let long : length (flat (Tree knot e below behind)) ≡ suc (length (flat below) + length (flat behind)) =
        omega (arith, length-append (flat below) (flat behind)) in
        let steps : length (flat (Tree knot e below behind)) + count ≡ suc (length (flat below) + (length (flat behind) + count)) = omega (arith, long) in
        let after : end_of n below + length (flat behind) ≡ n + length (flat (Tree knot e below behind)) = omega (arith, long) in
        let mid : n + 1 + length (flat below) ≡ end_of n below = omega arith in
        let rest_behind : IsReadBehind (end_of n below) (end_of n below + length (flat behind))
        (read_back keep dim es (end_of n below + length (flat behind)) count) =
        subst (λ (k : ℕ). IsReadBehind (end_of n below) k (read_back keep dim es k count)) (sym after)
        (record {
          top = top_on n (end_of n below) (read_back keep dim es (n + length (flat (Tree knot e below behind))) count).open_boxes (omega arith)
              is.top;
          high = is.high;
        }) in
        let at_behind : read_back keep dim es (end_of n below) (length (flat behind) + count)
        ≡ joined_to keep dim (end_of n below) parent behind (read_back keep dim es (n + length (flat (Tree knot e below behind))) count)
        = trees_read behind (end_of n below) depth parent (behind_stands es knot e below behind n depth parent stands)
        (before_on n (end_of n below) parent (omega arith) before) count rest_behind
        ∙ ap (λ (k : ℕ). joined_to keep dim (end_of n below) parent behind (read_back keep dim es k count)) after in
        let behind_is : IsReadBehind (n + 1) (end_of n below)
        (joined_to keep dim (end_of n below) parent behind (read_back keep dim es (n + length (flat (Tree knot e below behind))) count)) = record {
          top = top_hulls (n + 1) parent (hull_of dim behind) (read_back keep dim es (n + length (flat (Tree knot e below behind))) count).open_boxes
              (before_on n (n + 1) parent (omega arith) before)
              (top_on n (n + 1) (read_back keep dim es (n + length (flat (Tree knot e below behind))) count).open_boxes (omega arith) is.top);
          high = all_both (λ (f : Finding). end_of n below ≤ f.number) (findings_in keep dim (end_of n below) behind)
              (read_back keep dim es (n + length (flat (Tree knot e below behind))) count).noted
              (finding_each (λ k. end_of n below ≤ k) keep dim (end_of n below) behind (λ k from to. from))
              (raised (n + length (flat (Tree knot e below behind))) (end_of n below)
              (read_back keep dim es (n + length (flat (Tree knot e below behind))) count).noted (omega (arith, long)) is.high);
        } in
        let rest_below : IsReadBehind (n + 1) (n + 1 + length (flat below))
        (read_back keep dim es (n + 1 + length (flat below)) (length (flat behind) + count)) =
        subst (λ (k : ℕ). IsReadBehind (n + 1) k (read_back keep dim es k (length (flat behind) + count))) (sym mid)
        (subst (IsReadBehind (n + 1) (end_of n below)) (sym at_behind) behind_is) in
        let at_below : read_back keep dim es (n + 1) (length (flat below) + (length (flat behind) + count))
        ≡ joined_to keep dim (n + 1) (Some n) below
        (joined_to keep dim (end_of n below) parent behind (read_back keep dim es (n + length (flat (Tree knot e below behind))) count))
        = trees_read below (n + 1) (depth + 1) (Some n) (below_stands es knot e below behind n depth parent stands) (omega arith)
        (length (flat behind) + count) rest_below
        ∙ ap (λ (k : ℕ). joined_to keep dim (n + 1) (Some n) below (read_back keep dim es k (length (flat behind) + count))) mid
        ∙ ap (joined_to keep dim (n + 1) (Some n) below) at_behind in
        ap (read_back keep dim es n) steps
        ∙ ap (read_marked keep dim n (mark_of row_of es n) (slice_get es n)) at_below
        ∙ ap (λ (m : Option Mark). read_marked keep dim n m (slice_get es n)
        (joined_to keep dim (n + 1) (Some n) below
        (joined_to keep dim (end_of n below) parent behind (read_back keep dim es (n + length (flat (Tree knot e below behind))) count))))
        (head_marked es knot e below behind n depth parent stands)
        ∙ ap (λ (o : Option Element). read_marked keep dim n (Some (record { knot = knot; depth = depth; parent = parent; end = end_of n below })) o
        (joined_to keep dim (n + 1) (Some n) below
        (joined_to keep dim (end_of n below) parent behind (read_back keep dim es (n + length (flat (Tree knot e below behind))) count))))
        (head_listed es knot e below behind n depth parent stands)
        ∙ head_joins knot e below behind n depth parent (read_back keep dim es (n + length (flat (Tree knot e below behind))) count) before is

    -- of all elements: the findings
    pub all_read : (read_back keep dim es 0 (length es)).noted ≡ findings_in keep dim 0 (forest row_of es)
    all_read =
        let long : length es ≡ length (flat (forest row_of es)) + 0 = omega (arith, ap (length {A = Element}) (flat-forest row_of es)) in
        ap (λ (k : ℕ). (read_back keep dim es 0 k).noted) long
        ∙ ap (λ (p : Pass). p.noted) (trees_read (forest row_of es) 0 0 None (all_stand es) tt 0 (record { top = tt; high = tt }))
        ∙ append-nil (findings_in keep dim 0 (forest row_of es))

    -- of one tree that stands among them
    pub part_read : (knot : Knot) (e : Element) (below : Forest Element) (n depth : ℕ) (parent : Option ℕ)
        → Stands es (Tree knot e below NoTree) n depth parent → IsBefore n parent
        → (count : ℕ) → count ≡ suc (length (flat below)) → (read_back keep dim es n count).noted ≡ findings_in keep dim n (Tree knot e below NoTree)
    part_read knot e below n depth parent stands before count is =
        let none : length (flat below ++ []) ≡ length (flat below) = ap (length {A = Element}) (append-nil (flat below)) in
        let long : count ≡ length (flat (Tree knot e below NoTree)) + 0 = omega (arith, is, none) in
        ap (λ (k : ℕ). (read_back keep dim es n k).noted) long
        ∙ ap (λ (p : Pass). p.noted) (trees_read (Tree knot e below NoTree) n depth parent stands before 0 (record { top = tt; high = tt }))
        ∙ append-nil (findings_in keep dim n (Tree knot e below NoTree))
