-- The copy of a part: its bytes, its length, and that it nests behind the drawing as the part does.
use Rattle.std.proofs.Common.{◌≡◌, ℕ, ◌+◌, ◌/◌, ◌%◌, ◌<◌, ◌==◌, List, [], ◌∷◌, ◌++◌, length, drop, Bool, true, false, cond, refl, sym, ap, ◌∙◌, subst}
use Rattle.std.proofs.Common.{length-append, arith}
use Rattle.std.specs.Prelude.{slice_get, slice_index, slice_set, Some}
use Rattle.std.specs.List.{AllByRecursion}
use Rattle.std.proofs.lemmas.List.{drop_at}
use Rattle.std.proofs.lemmas.Bool.{eqb-true, false_from_ne_true}
use Rattle.dgn_words.specs.Numbers.{word_bytes}
use Rattle.patch_bytes.specs.Puts.{Put, write, Span}
use Rattle.dgn_layout.specs.Classes.{class_of, is_among}
use Rattle.dgn_layout.specs.Spots.{has_spots}
use Rattle.dgn_drawing.specs.declared.row.Row.{Row}
use Rattle.dgn_drawing.specs.Element.{Element}
use Rattle.dgn_drawing.specs.Spelling.{bit, second_byte, body_bytes, spell, spelling, size_of}
use Rattle.dgn_drawing.specs.WellFormed.{IsWellFormed}
use Rattle.dgn_drawing.specs.Rows.{row_of}
use Rattle.dgn_drawing.specs.Changes.{freed}
use Rattle.dgn_drawing.specs.Nesting.{Forest, NoTree, Tree, flat, forest, forest_map, joined, BeginsFree}
use Rattle.dgn_drawing.proofs.FreedRecords.{freed_put}
use Rattle.nest_tree.proofs.NestingSteps.{flat-forest}
use Rattle.elem_index.specs.Offsets.{offset_of}
use Rattle.edit_ops.specs.Trees.{tree_at, live_map, live_tree}
use Rattle.edit_ops.specs.Applying.{head_freed, copied}
use Rattle.edit_ops.specs.Rules.{Rule}
use Rattle.edit_ops.specs.Written.{live_puts}
use Rattle.edit_ops.proofs.PartPlace.{IsPlaced, placed, first_left}
use Rattle.edit_ops.proofs.EachLive.{tree_each, live_tree_each}
use Rattle.edit_ops.proofs.RowsKept.{live_looks, live_map_each}
use Rattle.edit_ops.proofs.TextTurns.{Turns}
use Rattle.edit_ops.proofs.LoweredPuts.{turned_is}
use Rattle.edit_ops.proofs.LivePuts.{IsPut, turns_as, forest_turned}
use Rattle.edit_ops.proofs.KeptRules.{Keeps}
use Rattle.edit_ops.proofs.EditedBytes.{all_both, all_so}
use Rattle.edit_ops.proofs.PartNestsAlone.{among_each, row_freed, part_appended}

-- an element with spots begins no run
begins_no_run : (kind : ℕ) → has_spots (class_of kind) ≡ true → is_among kind (24 ∷ 27 ∷ []) ≡ false
begins_no_run kind spots = false_from_ne_true (is_among kind (24 ∷ 27 ∷ []))
    (λ is. let none = among_each (λ k. has_spots (class_of k) ≡ false) kind (24 ∷ 27 ∷ []) is (refl, (refl, tt)) in cc)

defines_no_cell : (kind : ℕ) → has_spots (class_of kind) ≡ true → (kind == 34) ≡ false
defines_no_cell kind spots = false_from_ne_true (kind == 34)
    (λ is. let none : has_spots (class_of kind) ≡ false = ap (λ (k : ℕ). has_spots (class_of k)) (eqb-true kind 34 is) in cc)

-- a first byte without its highest bit
byte_freed : (level : ℕ) (six marked : Bool) → level < 64 → (level + bit 64 six + bit 128 marked) % 128 ≡ level + bit 64 six + bit 128 false
byte_freed level true true small = omega (arith, small)
byte_freed level true false small = omega (arith, small)
byte_freed level false true small = omega (arith, small)
byte_freed level false false small = omega (arith, small)

module _ (dim : ℕ) where
  -- a freed head is well formed
  freed_each : (f : Forest Element) → AllByRecursion (IsWellFormed dim) (flat f) → AllByRecursion (IsWellFormed dim) (flat (head_freed f))
  freed_each NoTree good = tt
  freed_each (Tree knot h below behind) good = ((freed_put dim h good.0).good, good.1)

  -- and as large
  freed_long : (f : Forest Element) → AllByRecursion (IsWellFormed dim) (flat f) → length (spelling (flat (head_freed f))) ≡ length (spelling (flat f))
  freed_long NoTree good = refl
  freed_long (Tree knot h below behind) good =
      let size : size_of (freed h) ≡ size_of h = ap (λ (r : Row). r.size) (freed_put dim h good.0).row in
      omega (
        arith,
        size,
        length-append (spell (freed h)) (spelling (flat below ++ flat behind)),
        length-append (spell h) (spelling (flat below ++ flat behind)),
      )

  -- its bytes are those with the first one freed of bit C
  freed_bytes : (f : Forest Element) → AllByRecursion (IsWellFormed dim) (flat f)
      → slice_set (spelling (flat f)) 0 (slice_index (spelling (flat f)) 0 % 128) ≡ spelling (flat (head_freed f))
  unfolding spell
  freed_bytes NoTree good = refl
  freed_bytes (Tree knot h below behind) good =
      ap (λ (b : ℕ). b ∷ (second_byte h ∷ ((word_bytes (length (body_bytes h.body) / 2) ++ body_bytes h.body) ++ spelling (flat below ++ flat behind))))
      (byte_freed h.level h.bit6 h.cbit good.0.level)

-- it begins without bit C
pub freed_first : (f : Forest Element) → BeginsFree row_of (flat (head_freed f))
freed_first NoTree = tt
freed_first (Tree knot h below behind) = refl

module _ (dim : ℕ) (es : List Element) (r : Rule) (Ready : Element → Type 0) (keeps : Keeps dim r Ready) (n : ℕ)
    (each : AllByRecursion (IsWellFormed dim) es) (able : AllByRecursion (λ v. Ready v.element) (live_tree es n)) where
  -- the part, and the part with its live elements changed
  abbrev part : Forest Element
  part = tree_at n (forest row_of es)

  abbrev changed : Forest Element
  changed = live_map (λ member. member.deleted) r.made (tree_at n (forest row_of es))

  part_good : AllByRecursion (IsWellFormed dim) (flat part)
  part_good = tree_each (IsWellFormed dim) n (forest row_of es) (subst (AllByRecursion (IsWellFormed dim)) (sym (flat-forest row_of es)) each)

  -- what the edit puts is right for each live element
  each_put : AllByRecursion (λ v. IsPut dim r v.element) (live_tree es n)
  each_put = all_both (λ v. IsWellFormed dim v.element) (λ v. Ready v.element) (λ v. IsPut dim r v.element)
      (λ v good ready. keeps.live v.element good ready) (live_tree es n) (live_tree_each (IsWellFormed dim) es n each) able

  -- so the puts turn the bytes of the part
  pub part_turned : Turns (offset_of es n) (spelling (flat part)) (live_puts r (live_tree es n)) (spelling (flat changed))
  part_turned = forest_turned dim r Ready keeps.live part n (offset_of es n) part_good able

  pub changed_good : AllByRecursion (IsWellFormed dim) (flat changed)
  changed_good = live_map_each r.made (IsWellFormed dim) n (offset_of es n) part part_good
      (all_so (λ v. IsPut dim r v.element) (λ v. IsWellFormed dim (r.made v.element)) (λ v is. is.good) (live_tree es n) each_put)

  -- and its rows stay
  changed_looks : forest_map row_of changed ≡ forest_map row_of part
  changed_looks = live_looks r.made n (offset_of es n) part
      (all_so (λ v. IsPut dim r v.element) (λ v. row_of (r.made v.element) ≡ row_of v.element) (λ v is. is.row) (live_tree es n) each_put)

  pub copied_good : AllByRecursion (IsWellFormed dim) (flat (copied r es n))
  copied_good = freed_each dim changed changed_good

  -- the copy is as long as the part
  pub copied_long : length (spelling (flat (copied r es n))) ≡ length (spelling (flat (tree_at n (forest row_of es))))
  copied_long = freed_long dim changed changed_good ∙ sym part_turned.same

  -- where the puts of the edit are laid in the bytes of the part, they rise in it
  module _ (start : ℕ) (bytes : List ℕ) (puts : List Put) (at : start ≡ offset_of es n) (bytes_are : bytes ≡ spelling (flat (tree_at n (forest row_of es))))
      (puts_are : puts ≡ live_puts r (live_tree es n)) where
    turned_so : Turns start bytes puts (spelling (flat changed))
    turned_so =
        subst (λ (k : ℕ). Turns k bytes puts (spelling (flat changed))) (sym at)
        (turns_as (offset_of es n) _ _ _ _ _ _ (sym bytes_are) (sym puts_are) refl part_turned)

    pub puts_rise : Span start puts (start + length bytes)
    puts_rise = turned_so.span

    -- and what they give is, with the head freed, the bytes of the copy
    pub bytes_copied : (laid : List ℕ) → ((a : List ℕ) → length a ≡ start → write (a ++ bytes) puts ≡ a ++ laid)
        → slice_set laid 0 (slice_index laid 0 % 128) ≡ spelling (flat (copied r es n))
    bytes_copied laid give =
        ap (λ (b : List ℕ). slice_set b 0 (slice_index b 0 % 128)) (turned_is start bytes (spelling (flat changed)) laid puts turned_so give)
        ∙ freed_bytes dim changed changed_good

  module _ (known : n < length es) (later : 0 < n) (head : Element) (there : slice_get es n ≡ Some head) (spots : has_spots (class_of head.kind) ≡ true) where
    -- the copy nests behind the drawing as the copied part
    pub copied_nests : forest row_of (es ++ flat (copied r es n)) ≡ joined (forest row_of es) (copied r es n)
    copied_nests =
        let p : IsPlaced es n = placed es n known in
        let left : drop n es ≡ (p.head ∷ flat p.below) ++ p.behind = ap (drop n) p.parts ∙ drop_at p.front ((p.head ∷ flat p.below) ++ p.behind) n p.count in
        let both : Some p.head ≡ Some head = sym (first_left es n p.head (flat p.below ++ p.behind) left) ∙ there in
        let same : p.head ≡ head = cc in
        let movable : has_spots (class_of p.head.kind) ≡ true = ap (λ (x : Element). has_spots (class_of x.kind)) same ∙ spots in
        let there_is : changed ≡ live_map (λ member. member.deleted) r.made (Tree p.knot p.head p.below NoTree) =
        ap (live_map (λ member. member.deleted) r.made) p.tree in
        let other : Element = cond p.head.deleted p.head (r.made p.head) in
        let inner : Forest Element = cond p.head.deleted p.below (live_map (λ member. member.deleted) r.made p.below) in
        let looks : Tree p.knot (row_of other) (forest_map row_of inner) NoTree ≡ Tree p.knot (row_of p.head) (forest_map row_of p.below) NoTree =
        ap (forest_map row_of) (sym there_is) ∙ changed_looks ∙ ap (forest_map row_of) p.tree in
        let row : row_of other ≡ row_of p.head = cc in
        let rows : forest_map row_of inner ≡ forest_map row_of p.below = cc in
        let good : IsWellFormed dim other = (subst (λ (f : Forest Element). AllByRecursion (IsWellFormed dim) (flat f)) there_is changed_good).0 in
        subst (λ (f : Forest Element). forest row_of (es ++ flat (head_freed f)) ≡ joined (forest row_of es) (head_freed f)) (sym there_is)
        (part_appended es n p.knot p.head (freed other) p.below inner later known p.tree (begins_no_run p.head.kind movable)
        (defines_no_cell p.head.kind movable)
        ((freed_put dim other good).row ∙ ap row_freed row) rows)
