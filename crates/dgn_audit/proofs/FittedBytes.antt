-- What a fit puts turns the bytes of a drawing into those of the fitted one.
use Rattle.std.proofs.Common.{◌≡◌, ℕ, zero, suc, ◌+◌, ◌<◌, ◌==◌, List, [], ◌∷◌, ◌++◌, length, take, drop, map, Option, Some, None, Bool, true, false, cond}
use Rattle.std.proofs.Common.{refl, sym, ap, ◌∙◌, subst, arith, append_assoc, length-append}
use Rattle.std.specs.List.{AllByRecursion, flat_map}
use Rattle.std.proofs.lemmas.Grind.{flat_map-append}
use Rattle.std.proofs.lemmas.List.{append-nil, map-append, take_at}
use Rattle.std.proofs.lemmas.Bool.{cond_both}
use Rattle.range_code.specs.declared.Box3.{Box3}
use Rattle.dgn_layout.specs.Classes.{class_of}
use Rattle.dgn_layout.specs.Spots.{range_spots}
use Rattle.patch_bytes.specs.Puts.{Put}
use Rattle.dgn_drawing.specs.Element.{Display, Parts, Body, Silent, Shown, Element, Line, Points, Text, Node, Cell, Header, Plain}
use Rattle.dgn_drawing.specs.Spelling.{spell, spelling, size_of}
use Rattle.dgn_drawing.specs.WellFormed.{IsDimension, IsPoint, HasParts, HasBody, IsWellFormed}
use Rattle.dgn_drawing.specs.Changes.{points_in, with_range}
use Rattle.dgn_drawing.specs.SpotNumbers.{number_in, range_puts}
use Rattle.dgn_drawing.specs.Rows.{row_of}
use Rattle.dgn_drawing.specs.Nesting.{Knot, Leaf, Group, Run, Loose, Forest, NoTree, Tree, flat, forest}
use Rattle.dgn_drawing.specs.Numbering.{end_of, root_of}
use Rattle.nest_tree.proofs.GrownNestings.{all_both}
use Rattle.nest_tree.proofs.NestingSteps.{flat-forest}
use Rattle.elem_index.specs.Offsets.{offset_of}
use Rattle.level_view.proofs.ItemsBack.{Stands, below_stands, behind_stands}
use Rattle.edit_ops.specs.Trees.{tree_at, Live, above_from}
use Rattle.edit_ops.specs.Fields.{Field, spot_fields, filled}
use Rattle.edit_ops.proofs.ReadableElements.{IsShown}
use Rattle.edit_ops.proofs.EachLive.{each_first, each_last, tree_each}
use Rattle.edit_ops.proofs.TextTurns.{Turns, turns_none, turns_then, turned_reads, whole_turned, whole_span}
use Rattle.edit_ops.proofs.LivePuts.{field_of, number_fields, spelled_tree, turns_as}
use Rattle.edit_ops.proofs.EditedBytes.{filled_reads}
use Rattle.edit_ops.proofs.TreesExchanged.{above_turned}
use Rattle.dgn_audit.specs.declared.reported.Reported.TheVariants as keeps
use Rattle.dgn_audit.specs.declared.finding.Finding.{Finding}
use Rattle.dgn_audit.specs.Hulls.{hull_join, on_axes, box_of, is_vertices, points_hull, range_hull, hull_in, tree_hull, hull_of}
use Rattle.dgn_audit.specs.Findings.{is_fitted, finding_of, finding_as, findings_in, fitted_in}
use Rattle.dgn_audit.specs.Fitting.{head_fitted, fitted, fitted_forest, fit_puts, root_fields, fit_root}
use Rattle.edit_ops.specs.declared.causes.cause.Cause.{Cause}
use Rattle.edit_ops.specs.Applying.{applied_unless}
use Rattle.dgn_audit.specs.Planned.{IsPlanOfRoot, IsFitPlan}
use Rattle.dgn_audit.proofs.TreePlaces.{IsRooted, rooted}
use Rattle.dgn_drawing.proofs.RangesPut.{IsBox, joined_good}
use Rattle.dgn_audit.proofs.RangesPut.{ranged, flat_good}

-- a box, if there is one, has points for corners
abbrev pub IsGood : Option Box3 → Type 0
IsGood None = Unit {0}
IsGood (Some r) = IsBox r

join_good : (a b : Option Box3) → IsGood a → IsGood b → IsGood (hull_join a b)
join_good None b one two = two
join_good (Some a) None one two = one
join_good (Some a) (Some b) one two = joined_good a b one two

points_good : (dim n : ℕ) (ps : List (List _)) → AllByRecursion (IsPoint n) ps → IsGood (points_hull dim ps)
points_good dim n [] each = tt
points_good dim n (p ∷ ps) each =
    join_good (Some (box_of dim p)) (points_hull dim ps) (record { low = flat_good dim p each.0.on_plane; high = flat_good dim p each.0.on_plane })
    (points_good dim n ps each.1)

parts_good : (dim : ℕ) (parts : Parts) → HasParts dim parts → IsGood (points_hull dim (points_in parts))
parts_good dim (Line points) has = points_good dim dim points has.1
parts_good dim (Points points) has = points_good dim dim points has.1
parts_good dim (Text run origin spare chars) has = points_good dim dim (origin ∷ []) (has.point, tt)
parts_good dim (Node total run origin) has = points_good dim dim (origin ∷ []) (has.point, tt)
parts_good dim (Cell total name run origin) has = points_good dim dim (origin ∷ []) (has.point, tt)
parts_good dim (Header total number) has = tt
parts_good dim Plain has = tt

range_good : (dim kind : ℕ) (d : Display) → IsPoint 3 d.low → IsPoint 3 d.high → IsGood (range_hull dim kind d)
range_good dim kind d low high =
    cond_both (kind == 34) None (Some (on_axes dim (record { lo = d.low; hi = d.high }))) IsGood (λ _. tt)
    (λ _. record { low = flat_good dim d.low low.on_plane; high = flat_good dim d.high high.on_plane })

body_good : (dim : ℕ) (knot : Knot) (kind : ℕ) (b : Body) (members : Option Box3) → HasBody dim b → IsGood members → IsGood (hull_in dim knot kind b members)
body_good dim knot kind (Silent rest) members has held = tt
body_good dim Leaf kind (Shown d parts rest) members has held =
    cond_both (is_vertices (class_of kind)) (points_hull dim (points_in parts)) (range_hull dim kind d) IsGood (λ _. parts_good dim parts has.1)
    (λ _. range_good dim kind d has.0.low has.0.high)
body_good dim Group kind (Shown d parts rest) members has held = held
body_good dim Run kind (Shown d parts rest) members has held = range_good dim kind d has.0.low has.0.high
body_good dim Loose kind (Shown d parts rest) members has held = tt

pub tree_good : (dim : ℕ) (knot : Knot) (e : Element) (members : Option Box3) → IsWellFormed dim e → IsGood members → IsGood (tree_hull dim knot e members)
tree_good dim knot e members good held =
    cond_both e.deleted None (hull_in dim knot e.kind e.body members) IsGood (λ _. tt) (λ _. body_good dim knot e.kind e.body members good.parts held)

-- hulls of well formed elements have points for corners
pub hulls_good : (dim : ℕ) (f : Forest Element) → AllByRecursion (IsWellFormed dim) (flat f) → IsGood (hull_of dim f)
hulls_good dim NoTree each = tt
hulls_good dim (Tree knot e below behind) each =
    join_good (tree_hull dim knot e (hull_of dim below)) (hull_of dim behind)
    (tree_good dim knot e (hull_of dim below) each.0 (hulls_good dim below (each_first (IsWellFormed dim) (flat below) (flat behind) each.1)))
    (hulls_good dim behind (each_last (IsWellFormed dim) (flat below) (flat behind) each.1))

-- a tree with a hull has a head of which more is read than nothing
body_shown : (dim : ℕ) (knot : Knot) (kind : ℕ) (b : Body) (members : Option Box3) (hull : Box3) → hull_in dim knot kind b members ≡ Some hull
    → (d : Display) × (parts : Parts) × (rest : List ℕ) × (b ≡ Shown d parts rest)
body_shown dim knot kind (Silent rest) members hull is = absurd (let x = is in cc)
body_shown dim knot kind (Shown d parts rest) members hull is = (d, parts, rest, refl)

pub hull_shown : (dim : ℕ) (knot : Knot) (e : Element) (members : Option Box3) (hull : Box3) → tree_hull dim knot e members ≡ Some hull → IsShown e
hull_shown dim knot e members hull is = by_deleted e.deleted is
  where
    by_deleted : (t : Bool) → cond t None (hull_in dim knot e.kind e.body members) ≡ Some hull → IsShown e
    by_deleted true some = absurd (let x = some in cc)
    by_deleted false some =
        let four = body_shown dim knot e.kind e.body members hull some in
        record { display = four.0; parts = four.1; rest = four.2; body = four.3 }

-- what a fit puts into a live element at place p, by its hull
abbrev pub head_puts : ℕ → ℕ → Knot → Element → Option Box3 → List Put
head_puts dim p knot e None = []
head_puts dim p knot e (Some hull) = cond (is_fitted knot e.kind) (range_puts dim hull p) []

-- and into trees that begin at place p
abbrev pub puts_from : ℕ → ℕ → Forest Element → List Put
puts_from dim p NoTree = []
puts_from dim p (Tree knot e below behind) =
    cond e.deleted [] (head_puts dim p knot e (tree_hull dim knot e (hull_of dim below)) ++ puts_from dim (p + size_of e) below)
    ++ puts_from dim (p + (size_of e + length (spelling (flat below)))) behind

-- a live element with its hull: what is put turns it, and it stays well formed and nests as it did
pub record IsHeadPut (dim : ℕ) (knot : Knot) (e : Element) (hull : Option Box3) : Type 0 where
  pub turned : (p : ℕ) → Turns p (spell e) (head_puts dim p knot e hull) (spell (head_fitted dim knot e hull))
  pub good : IsWellFormed dim (head_fitted dim knot e hull)
  pub row : row_of (head_fitted dim knot e hull) ≡ row_of e

module _ (dim : ℕ) (axes : IsDimension dim) where
  pub head_put : (knot : Knot) (e : Element) (members hull : Option Box3) → hull ≡ tree_hull dim knot e members → IsGood hull → IsWellFormed dim e
      → IsHeadPut dim knot e hull
  head_put knot e members None is held good = record { turned = λ p. turns_none p (spell e); good = good; row = refl }
  head_put knot e members (Some hull) is held good =
      let put = ranged dim hull e axes held good (hull_shown dim knot e members hull (sym is)) in
      record {
        turned = λ p. by_fitted p (is_fitted knot e.kind) (put.turned p);
        good = cond_both (is_fitted knot e.kind) (with_range dim hull e) e (IsWellFormed dim) (λ _. put.good) (λ _. good);
        row = cond_both (is_fitted knot e.kind) (with_range dim hull e) e (λ (x : Element). row_of x ≡ row_of e) (λ _. put.row) (λ _. refl);
      }
    where
      by_fitted : (p : ℕ) (t : Bool) → Turns p (spell e) (range_puts dim hull p) (spell (with_range dim hull e))
          → Turns p (spell e) (cond t (range_puts dim hull p) []) (spell (cond t (with_range dim hull e) e))
      by_fitted p true turned = turned
      by_fitted p false turned = turns_none p (spell e)

  -- a dead head keeps what is below it
  dead_kept : (e : Element) (t : Bool) (p : ℕ) (knot : Knot) (hull : Option Box3) (below changed : Forest Element) (ps : List Put) → e.deleted ≡ t
      → head_fitted dim knot e (cond t None hull) ≡ head_fitted dim knot e (cond t None hull) → IsHeadPut dim knot e (cond t None hull)
      → Turns (p + size_of e) (spelling (flat below)) ps (spelling (flat changed))
      → Turns p (spell e ++ spelling (flat below)) (cond t [] (head_puts dim p knot e (cond t None hull) ++ ps))
      (spell (head_fitted dim knot e (cond t None hull)) ++ spelling (flat (cond t below changed)))
  dead_kept e true p knot hull below changed ps is same put inner = turns_none p (spell e ++ spelling (flat below))
  dead_kept e false p knot hull below changed ps is same put inner =
      turns_then p (p + size_of e) (spell e) (spelling (flat below)) (spell (head_fitted dim knot e hull)) (spelling (flat changed))
      (head_puts dim p knot e hull) ps refl (put.turned p) inner

  -- trees that begin at place p
  pub fitted_turned : (f : Forest Element) (p : ℕ) → AllByRecursion (IsWellFormed dim) (flat f)
      → Turns p (spelling (flat f)) (puts_from dim p f) (spelling (flat (fitted dim f)))
  fitted_turned NoTree p each = turns_none p []
  fitted_turned (Tree knot e below behind) p each =
      let in_below = each_first (IsWellFormed dim) (flat below) (flat behind) each.1 in
      let in_behind = each_last (IsWellFormed dim) (flat below) (flat behind) each.1 in
      let put = head_put knot e (hull_of dim below) (tree_hull dim knot e (hull_of dim below)) refl
      (tree_good dim knot e (hull_of dim below) each.0 (hulls_good dim below in_below)) each.0 in
      let head = dead_kept e e.deleted p knot (hull_in dim knot e.kind e.body (hull_of dim below)) below (fitted dim below)
      (puts_from dim (p + size_of e) below) refl refl put (fitted_turned below (p + size_of e) in_below) in
      let rest = fitted_turned behind (p + (size_of e + length (spelling (flat below)))) in_behind in
      let both = turns_then p (p + (size_of e + length (spelling (flat below)))) _ _ _ _ _ _
      (omega (arith, length-append (spell e) (spelling (flat below)))) head rest in
      turns_as p _ _ _ _ _ _ (spelled_tree e (flat below) (flat behind)) refl (spelled_tree _ _ _) both

  -- they stay well formed
  pub fitted_each : (f : Forest Element) → AllByRecursion (IsWellFormed dim) (flat f) → AllByRecursion (IsWellFormed dim) (flat (fitted dim f))
  fitted_each NoTree each = tt
  fitted_each (Tree knot e below behind) each =
      let in_below = each_first (IsWellFormed dim) (flat below) (flat behind) each.1 in
      let in_behind = each_last (IsWellFormed dim) (flat below) (flat behind) each.1 in
      let put = head_put knot e (hull_of dim below) (tree_hull dim knot e (hull_of dim below)) refl
      (tree_good dim knot e (hull_of dim below) each.0 (hulls_good dim below in_below)) each.0 in
      let inner : AllByRecursion (IsWellFormed dim) (flat (cond e.deleted below (fitted dim below))) =
      cond_both e.deleted below (fitted dim below) (λ (g : Forest Element). AllByRecursion (IsWellFormed dim) (flat g)) (λ _. in_below)
      (λ _. fitted_each below in_below) in
      (put.good, all_both (IsWellFormed dim) (flat (cond e.deleted below (fitted dim below))) (flat (fitted dim behind)) inner (fitted_each behind in_behind))

-- where the bytes of an element that follows begin
take_front : {A : Type 0} (es front rest : List A) (n : ℕ) → drop n es ≡ front ++ rest → take (n + length front) es ≡ take n es ++ front
take_front {A} es front rest zero is =
    let at : 0 + length front ≡ length front = omega arith in
    ap (λ (k : ℕ). take k es) at ∙ ap (take (length front)) is ∙ take_at front rest (length front) refl
take_front {A} [] [] rest (suc n) is =
    let none : List A = [] in
    let at : suc n + 0 ≡ suc n = omega arith in
    ap (λ (k : ℕ). take k none) at
take_front {A} [] (x ∷ front) rest (suc n) is = absurd (let e = is in cc)
take_front {A} (y ∷ es) front rest (suc n) is =
    let at : suc n + length front ≡ suc (n + length front) = omega arith in
    ap (λ (k : ℕ). take k (y ∷ es)) at ∙ ap (λ (l : List A). y ∷ l) (take_front es front rest n is)

offset_front : (es front rest : List Element) (n m : ℕ) → drop n es ≡ front ++ rest → m ≡ n + length front
    → offset_of es m ≡ offset_of es n + length (spelling front)
offset_front es front rest n m is at =
    ap (λ (k : ℕ). length (spelling (take k es))) at
    ∙ ap (λ (l : List Element). length (spelling l)) (take_front es front rest n is)
    ∙ ap (length {A = ℕ}) (flat_map-append spell (take n es) front) ∙ length-append (spelling (take n es)) (spelling front)

module _ (dim : ℕ) (es : List Element) where
  -- what is put into fitted elements, which are told of by their numbers
  abbrev puts_of : List Finding → List Put
  puts_of fs = flat_map (λ f. range_puts dim f.hull (offset_of es f.number)) fs

  alone_puts : (knot : Knot) (n : ℕ) (e : Element) (hull : Option Box3)
      → puts_of (finding_as keeps.Fitted dim knot n e hull) ≡ head_puts dim (offset_of es n) knot e hull
  alone_puts knot n e None = refl
  alone_puts knot n e (Some hull) = by_fitted (is_fitted knot e.kind)
    where
      by_fitted : (t : Bool) → puts_of (cond t (finding_of dim n e hull ∷ []) []) ≡ cond t (range_puts dim hull (offset_of es n)) []
      by_fitted true = append-nil (range_puts dim hull (offset_of es n))
      by_fitted false = refl

  -- they are those of the trees
  pub finding_puts : (f : Forest Element) (n depth : ℕ) (parent : Option ℕ) → Stands es f n depth parent
      → puts_of (findings_in keeps.Fitted dim n f) ≡ puts_from dim (offset_of es n) f
  finding_puts NoTree n depth parent stands = refl
  finding_puts (Tree knot e below behind) n depth parent stands =
      let hull : Option Box3 = tree_hull dim knot e (hull_of dim below) in
      let inner_at : offset_of es (n + 1) ≡ offset_of es n + size_of e =
      offset_front es (e ∷ []) ((flat below ++ flat behind) ++ stands.behind) n (n + 1) stands.listed refl
      ∙ ap (λ (b : List ℕ). offset_of es n + length b) (append-nil (spell e)) in
      let outer_at : offset_of es (end_of n below) ≡ offset_of es n + (size_of e + length (spelling (flat below))) =
      offset_front es (e ∷ flat below) (flat behind ++ stands.behind) n (end_of n below)
      (stands.listed ∙ ap (λ (l : List Element). e ∷ l) (append_assoc (flat below) (flat behind) stands.behind)) (omega arith)
      ∙ ap (λ (k : ℕ). offset_of es n + k) (length-append (spell e) (spelling (flat below))) in
      let inner = finding_puts below (n + 1) (depth + 1) (Some n) (below_stands es knot e below behind n depth parent stands)
      ∙ ap (λ (p : ℕ). puts_from dim p below) inner_at in
      let outer = finding_puts behind (end_of n below) depth parent (behind_stands es knot e below behind n depth parent stands)
      ∙ ap (λ (p : ℕ). puts_from dim p behind) outer_at in
      flat_map-append (λ (x : Finding). range_puts dim x.hull (offset_of es x.number))
      (cond e.deleted [] (finding_as keeps.Fitted dim knot n e (tree_hull dim knot e (hull_of dim below)) ++ findings_in keeps.Fitted dim (n + 1) below))
      (findings_in keeps.Fitted dim (end_of n below) behind)
      ∙ ap (λ (ps : List Put). puts_of
      (cond e.deleted [] (finding_as keeps.Fitted dim knot n e (tree_hull dim knot e (hull_of dim below)) ++ findings_in keeps.Fitted dim (n + 1) below)) ++ ps)
      outer
      ∙ ap (λ (ps : List Put). ps ++ puts_from dim (offset_of es n + (size_of e + length (spelling (flat below)))) behind)
      (by_deleted e.deleted (tree_hull dim knot e (hull_of dim below)) (findings_in keeps.Fitted dim (n + 1) below)
      (puts_from dim (offset_of es n + size_of e) below) inner)
    where
      by_deleted : (t : Bool) (hull : Option Box3) (fs : List Finding) (ps : List Put) → puts_of fs ≡ ps
          → puts_of (cond t [] (finding_as keeps.Fitted dim knot n e hull ++ fs)) ≡ cond t [] (head_puts dim (offset_of es n) knot e hull ++ ps)
      by_deleted true hull fs ps is = refl
      by_deleted false hull fs ps is =
          flat_map-append (λ (x : Finding). range_puts dim x.hull (offset_of es x.number)) (finding_as keeps.Fitted dim knot n e hull) fs
          ∙ ap (λ (qs : List Put). qs ++ puts_of fs) (alone_puts knot n e hull)
          ∙ ap (λ (qs : List Put). head_puts dim (offset_of es n) knot e hull ++ qs) is

  -- they are laid over the fields
  pub puts_fields : (fs : List Finding) → map field_of (puts_of fs) ≡ flat_map (λ f. spot_fields (offset_of es f.number) (range_spots dim)) fs
  puts_fields [] = refl
  puts_fields (f ∷ fs) =
      map-append field_of (range_puts dim f.hull (offset_of es f.number)) (puts_of fs)
      ∙ ap (λ (l : List Field). l ++ map field_of (puts_of fs)) (number_fields (number_in f.hull) (offset_of es f.number) (range_spots dim))
      ∙ ap (λ (l : List Field). spot_fields (offset_of es f.number) (range_spots dim) ++ l) (puts_fields fs)

-- nothing is put into headers
abbrev no_puts : List Put
no_puts = []

none_put : (vs : List Live) → flat_map (λ (v : Live). no_puts) vs ≡ []
none_put [] = refl
none_put (v ∷ vs) = none_put vs

module _ (dim : ℕ) (axes : IsDimension dim) (es : List Element) (each : AllByRecursion (IsWellFormed dim) es) (n : ℕ) (known : n < length es) where
  good_trees : AllByRecursion (IsWellFormed dim) (flat (forest row_of es))
  good_trees = subst (AllByRecursion (IsWellFormed dim)) (sym (flat-forest row_of es)) each

  part : IsRooted es n n (forest row_of es)
  part = rooted es n known

  part_puts : fit_puts dim es (fitted_in dim es n) ≡ puts_from dim (offset_of es n) (tree_at n (forest row_of es))
  part_puts =
      ap (λ (f : Forest Element). puts_of dim es (findings_in keeps.Fitted dim n f)) part.tree
      ∙ finding_puts dim es (Tree part.knot part.head part.below NoTree) n part.depth part.parent part.stands
      ∙ ap (puts_from dim (offset_of es n)) (sym part.tree)

  -- it turns the bytes of the part
  pub part_turned : Turns (offset_of es n) (spelling (flat (tree_at n (forest row_of es)))) (fit_puts dim es (fitted_in dim es n))
      (spelling (flat (fitted dim (tree_at n (forest row_of es)))))
  part_turned =
      subst (λ (ps : List Put). Turns (offset_of es n) (spelling (flat (tree_at n (forest row_of es)))) ps
      (spelling (flat (fitted dim (tree_at n (forest row_of es)))))) (sym part_puts)
      (fitted_turned dim axes (tree_at n (forest row_of es)) (offset_of es n) (tree_each (IsWellFormed dim) n (forest row_of es) good_trees))

  heads_turn : (vs : List Live) → AllByRecursion (λ (v : Live). Turns v.place (spell v.element) [] (spell v.element)) vs
  heads_turn [] = tt
  heads_turn (v ∷ vs) = (turns_none v.place (spell v.element), heads_turn vs)

  -- what a fit puts into the part of element n turns the bytes of the drawing
  pub drawing_turned : Turns 0 (spelling es) (fit_puts dim es (fitted_in dim es n)) (spelling (flat (fitted_forest dim es n)))
  drawing_turned =
      let at : offset_of es n ≡ 0 + length (spelling (take n (flat (forest row_of es)))) =
      omega (arith, ap (λ (l : List Element). length (spelling (take n l))) (flat-forest row_of es)) in
      let early : n < length (flat (forest row_of es)) = omega (arith, known, ap (length {A = Element}) (flat-forest row_of es)) in
      turns_as 0 _ _ _ _ _ _ (ap spelling (flat-forest row_of es))
      (ap (λ (ps : List Put). ps ++ fit_puts dim es (fitted_in dim es n)) (none_put (above_from n 0 0 (forest row_of es)))) refl
      (above_turned (λ header. header) (fitted dim) (λ p e. []) (fit_puts dim es (fitted_in dim es n)) n 0 0 (offset_of es n) (forest row_of es) early at
      (heads_turn (above_from n 0 0 (forest row_of es))) part_turned)

  -- and is its fields with the bytes that the fitted drawing has there
  pub puts_filled : fit_puts dim es (fitted_in dim es n) ≡ filled (spelling (flat (fitted_forest dim es n))) (root_fields dim es (Some n))
  puts_filled =
      sym (turned_reads (spelling es) (spelling (flat (fitted_forest dim es n))) (fit_puts dim es (fitted_in dim es n))
      (whole_span (spelling es) (spelling (flat (fitted_forest dim es n))) (fit_puts dim es (fitted_in dim es n)) drawing_turned)
      (whole_turned (spelling es) (spelling (flat (fitted_forest dim es n))) (fit_puts dim es (fitted_in dim es n)) drawing_turned))
      ∙ filled_reads (spelling (flat (fitted_forest dim es n))) (fit_puts dim es (fitted_in dim es n))
      ∙ ap (filled (spelling (flat (fitted_forest dim es n)))) (puts_fields dim es (fitted_in dim es n))

  -- so the plan of a fit of its tree is right
  pub root_planned : (m : ℕ) (patches : List Put) → Some n ≡ root_of row_of es m → IsPlanOfRoot dim es n patches → IsFitPlan dim es m patches
  root_planned m patches at is =
      record {
        made = flat (fitted_forest dim es n);
        done = ap (fit_root dim es m) (sym at) ∙ ap (λ (c : Option Cause). applied_unless c (flat (fitted_forest dim es n))) is.free;
        are = is.are ∙ puts_filled ∙ ap (λ (o : Option ℕ). filled (spelling (flat (fitted_forest dim es n))) (root_fields dim es o)) at;
      }
