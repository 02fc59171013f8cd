-- Where the part of an element stands among the elements of a drawing and among its bytes.
use Rattle.std.proofs.Common.{◌≡◌, ℕ, ◌+◌, ◌-◌, ◌<◌, ◌≤◌, List, [], ◌∷◌, ◌++◌, length, take, drop, Bool, false, cond, refl, sym, ap, ◌∙◌, arith}
use Rattle.std.proofs.Common.{append_assoc, length-append}
use Rattle.std.specs.Prelude.{Option, Some, option_map, slice_get}
use Rattle.std.specs.Option.{option_to_list}
use Rattle.std.proofs.lemmas.Grind.{flat_map-append}
use Rattle.std.proofs.lemmas.List.{append-nil, take_at, drop_at}
use Rattle.dgn_drawing.specs.Element.{Element}
use Rattle.dgn_drawing.specs.Spelling.{spell, spelling}
use Rattle.dgn_drawing.specs.Rows.{row_of}
use Rattle.dgn_drawing.specs.Nesting.{Forest, NoTree, Tree, flat, forest}
use Rattle.dgn_drawing.specs.Numbering.{Mark, mark_of}
use Rattle.elem_index.specs.Offsets.{offset_of}
use Rattle.edit_ops.specs.Trees.{Live, tree_at, live_from, live_tree, found_at}
use Rattle.edit_ops.proofs.PartPlace.{IsPlaced, placed, first_left}

-- trees without an element are none
no_elements : {A : Type 0} (f : Forest A) → length (flat f) ≡ 0 → f ≡ NoTree
no_elements NoTree none = refl
no_elements (Tree knot h below behind) none = absurd (let x = none in cc)

-- the part of element n
module _ (es : List Element) (n : ℕ) (known : n < length es) where
  p : IsPlaced es n
  p = placed es n known

  -- its elements
  abbrev part : List Element
  part = p.head ∷ flat p.below

  part_is : flat (tree_at n (forest row_of es)) ≡ part
  part_is = ap flat p.tree ∙ ap (λ (l : List Element). p.head ∷ l) (append-nil (flat p.below))

  bytes_three : spelling es ≡ spelling p.front ++ (spelling part ++ spelling p.behind)
  bytes_three = ap spelling p.parts ∙ flat_map-append spell p.front (part ++ p.behind)
      ∙ ap (λ (b : List ℕ). spelling p.front ++ b) (flat_map-append spell part p.behind)

  starts : offset_of es n ≡ length (spelling p.front)
  starts = ap (λ (l : List Element). length (spelling l)) (ap (take n) p.parts ∙ take_at p.front (part ++ p.behind) n p.count)

  -- it begins among the bytes of the drawing
  pub part_starts : offset_of es n ≤ length (spelling es)
  part_starts = omega (arith, starts, ap (length {A = ℕ}) bytes_three, length-append (spelling p.front) (spelling part ++ spelling p.behind))

  -- where it ends
  module _ (end : ℕ) (ends_at : Some end ≡ option_map (λ (m : Mark). m.end) (mark_of row_of es n)) where
    end_is : end ≡ n + length part
    end_is =
        let some : Some end ≡ Some p.mark.end = ends_at ∙ ap (option_map (λ (m : Mark). m.end)) p.marked in
        let same : end ≡ p.mark.end = cc in
        omega (arith, same, p.end)

    -- it ends among the elements
    pub part_ends : end ≤ length es
    part_ends = omega (arith, end_is, p.count, ap (length {A = Element}) p.parts, length-append p.front (part ++ p.behind), length-append part p.behind)

    ends_by : offset_of es end ≡ length (spelling p.front) + length (spelling part)
    ends_by =
        let long : length (p.front ++ part) ≡ end = omega (arith, end_is, p.count, length-append p.front part) in
        let front : take end es ≡ p.front ++ part =
        ap (take end) (p.parts ∙ sym (append_assoc p.front part p.behind)) ∙ take_at (p.front ++ part) p.behind end long in
        ap (λ (l : List Element). length (spelling l)) front ∙ ap (length {A = ℕ}) (flat_map-append spell p.front part)
        ∙ length-append (spelling p.front) (spelling part)

    -- behind as many bytes as it has
    pub part_size : offset_of es end ≡ offset_of es n + length (spelling (flat (tree_at n (forest row_of es))))
    part_size = omega (arith, starts, ends_by, ap (λ (l : List Element). length (spelling l)) part_is)

    -- all of them bytes of the drawing
    pub part_inside : offset_of es end ≤ length (spelling es)
    part_inside =
        omega (
          arith,
          ends_by,
          ap (length {A = ℕ}) bytes_three,
          length-append (spelling p.front) (spelling part ++ spelling p.behind),
          length-append (spelling part) (spelling p.behind),
        )

    -- which stand there
    pub part_bytes : take (offset_of es end - offset_of es n) (drop (offset_of es n) (spelling es)) ≡ spelling (flat (tree_at n (forest row_of es)))
    part_bytes =
        let size : length (spelling part) ≡ offset_of es end - offset_of es n = omega (arith, starts, ends_by) in
        ap (λ (b : List ℕ). take (offset_of es end - offset_of es n) (drop (offset_of es n) b)) bytes_three
        ∙ ap (take (offset_of es end - offset_of es n)) (drop_at (spelling p.front) (spelling part ++ spelling p.behind) (offset_of es n) (sym starts))
        ∙ take_at (spelling part) (spelling p.behind) (offset_of es end - offset_of es n) size
        ∙ ap spelling (sym part_is)

    -- behind its head
    pub part_above : n < end
    part_above = omega (arith, end_is)

    -- where it is its head alone
    module _ (alone : end - n ≡ 1) where
      none_below : p.below ≡ NoTree
      none_below = no_elements p.below (omega (arith, end_is, alone))

      tree_alone : tree_at n (forest row_of es) ≡ Tree p.knot p.head NoTree NoTree
      tree_alone = p.tree ∙ ap (λ (f : Forest Element). Tree p.knot p.head f NoTree) none_below

      head_there : slice_get es n ≡ Some p.head
      head_there = first_left es n p.head (flat p.below ++ p.behind) (ap (drop n) p.parts ∙ drop_at p.front (part ++ p.behind) n p.count)

      module _ (e : Element) (there : slice_get es n ≡ Some e) where
        head_is : p.head ≡ e
        head_is = let both : Some p.head ≡ Some e = sym head_there ∙ there in cc

        -- its bytes are those of the element
        pub alone_bytes : spelling (flat (tree_at n (forest row_of es))) ≡ spell e
        alone_bytes = ap (λ (f : Forest Element). spelling (flat f)) tree_alone ∙ append-nil (spell p.head) ∙ ap spell head_is

        -- which is the one live element
        pub alone_live : e.deleted ≡ false → live_tree es n ≡ option_to_list (found_at es n)
        alone_live alive =
            let here : Live = record { number = n; place = offset_of es n; element = p.head } in
            ap (live_from n (offset_of es n)) tree_alone
            ∙ ap (λ (b : Bool). cond b [] (here ∷ []) ++ []) (ap (λ (x : Element). x.deleted) head_is ∙ alive)
            ∙ sym (ap (λ (o : Option Element). option_to_list (option_map (λ (x : Element). record { number = n; place = offset_of es n; element = x }) o))
            head_there)
