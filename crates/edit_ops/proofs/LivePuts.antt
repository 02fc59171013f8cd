-- What an edit puts into its live elements turns their bytes into those of the changed elements.
use Rattle.std.proofs.Common.{◌≡◌, ℕ, ℤ, ◌+◌, ◌≤◌, List, [], ◌∷◌, ◌++◌, length, map, Bool, true, false, refl, sym, ap, ◌∙◌, subst, append_assoc, arith}
use Rattle.std.proofs.Common.{length-append}
use Rattle.std.specs.Prelude.{if◌then◌else◌}
use Rattle.std.specs.List.{AllByRecursion}
use Rattle.std.proofs.lemmas.Grind.{flat_map-append}
use Rattle.std.proofs.lemmas.List.{map-append}
use Rattle.dgn_words.specs.Numbers.{put, long_bytes, range_long_bytes}
use Rattle.dgn_layout.specs.Classes.{class_of}
use Rattle.dgn_layout.specs.Spots.{spots_of, has_spots, Rise as SpotsRise}
use Rattle.dgn_layout.specs.declared.spot.Spot.{Spot}
use Rattle.patch_bytes.specs.Puts.{Put, lay, write, Span}
use Rattle.dgn_drawing.specs.declared.edit.Edit.{Edit}
use Rattle.dgn_drawing.specs.declared.edit.Edit.TheVariants as edit
use Rattle.dgn_drawing.specs.Values.{Displacement, LookChange, IsLook}
use Rattle.dgn_drawing.specs.Element.{Body, Element}
use Rattle.dgn_drawing.specs.Spelling.{second_byte, spell, spelling, size_of}
use Rattle.dgn_drawing.specs.SpotNumbers.{sum_at, number_bytes, displaced_put}
use Rattle.dgn_drawing.specs.WellFormed.{IsDimension, IsWellFormed}
use Rattle.dgn_drawing.specs.Changes.{look_changed, look_bytes, recolour, mark, shift, stays_on_plane}
use Rattle.dgn_drawing.specs.Rows.{row_of}
use Rattle.dgn_drawing.specs.Numbering.{end_of}
use Rattle.dgn_drawing.specs.Nesting.{Forest, NoTree, Tree, flat, forest_map}
use Rattle.dgn_drawing.proofs.Looks.{looks_put}
use Rattle.edit_ops.specs.Trees.{Live, live_map, live_from, every_from, Reach, Living, Every, Head, reach_map, reached_from}
use Rattle.edit_ops.specs.Applying.{IsEdit}
use Rattle.edit_ops.specs.Fields.{Field, spot_fields}
use Rattle.edit_ops.specs.EditedFields.{live_fields}
use Rattle.edit_ops.specs.Rules.{Rule, rule_of, displacing, recolouring, sum_put, look_put}
use Rattle.edit_ops.specs.Written.{live_puts, IsReady}
use Rattle.dgn_drawing.proofs.SpotValues.{spots_sit}
use Rattle.dgn_drawing.proofs.DisplacedRecords.{shift_put}
use Rattle.dgn_drawing.proofs.MarkedRecords.{mark_put}
use Rattle.edit_ops.proofs.ReadableElements.{IsShown, is_shown, shown_long, size-body}
use Rattle.edit_ops.proofs.TextTurns.{moved, Turns, turns_none, turns_inside, turns_then}

-- where a put is laid
abbrev pub field_of : Put → Field
field_of q = record { at = q.at; len = length q.bytes }

-- a number at a spot has four bytes
number_size : (offset : Bool) (v : ℤ) → length (if offset then range_long_bytes v else long_bytes v) ≡ 4
number_size true v = refl
number_size false v = refl

-- so what is put at a spot has four bytes
spot_bytes : (s : Spot) (v : ℤ) → length (number_bytes s v) ≡ 4
spot_bytes s v = number_size s.offset v

-- the number that is put at each spot
module _ (number : Spot → ℤ) where
  -- it is put at its spot
  abbrev pub spot_put : Spot → Put
  spot_put s = record { at = s.at; bytes = number_bytes s (number s) }

  -- and there in an element that begins at byte p
  abbrev pub spot_put_at : ℕ → Spot → Put
  spot_put_at p s = record { at = p + s.at; bytes = number_bytes s (number s) }

  -- the puts of an element are those of its own text, further on
  pub moved_numbers : (p : ℕ) (ss : List Spot) → map (moved p) (map spot_put ss) ≡ map (spot_put_at p) ss
  moved_numbers p [] = refl
  moved_numbers p (s ∷ ss) = ap (λ (qs : List Put). spot_put_at p s ∷ qs) (moved_numbers p ss)

  -- they rise as the spots do
  pub numbers_rise : (m : ℕ) (ss : List Spot) (n : ℕ) → SpotsRise n ss m → Span n (map spot_put ss) m
  numbers_rise m [] n rise = rise
  numbers_rise m (s ∷ ss) n rise =
      (rise.0, subst (λ (k : ℕ). Span (s.at + k) (map spot_put ss) m) (sym (spot_bytes s (number s))) (numbers_rise m ss (s.at + 4) rise.1))

  -- and are laid at the spots
  pub number_fields : (p : ℕ) (ss : List Spot) → map field_of (map (spot_put_at p) ss) ≡ spot_fields p ss
  number_fields p [] = refl
  number_fields p (s ∷ ss) =
      ap (λ (k : ℕ). record { at = p + s.at; len = k } ∷ map field_of (map (spot_put_at p) ss)) (spot_bytes s (number s))
      ∙ ap (λ (fs : List Field). record { at = p + s.at; len = 4 } ∷ fs) (number_fields p ss)

-- what rises from a place on rises from any place before it
pub span_from : (n p m : ℕ) (ps : List Put) → n ≤ p → Span p ps m → Span n ps m
span_from n p m [] le s = omega (arith, s)
span_from n p m (q ∷ qs) le s = (let f = s.0 in omega arith, s.1)

-- bytes written over others are one put
pub put_written : (b x : List ℕ) (p : ℕ) → put b p x ≡ write b (record { at = p; bytes = x } ∷ [])
unfolding lay
put_written b x p = refl

-- what a row puts into an element: it turns the element's bytes into those of the changed one, which is well
-- formed and nests as it did, and is laid over the element's fields
pub record IsPut (dim : ℕ) (r : Rule) (v : Element) : Type 0 where
  pub turned : (p : ℕ) → Turns p (spell v) (r.puts p v) (spell (r.made v))
  pub good : IsWellFormed dim (r.made v)
  pub row : row_of (r.made v) ≡ row_of v
  pub fields : (p : ℕ) → map field_of (r.puts p v) ≡ r.fields p v

-- another look of a shown element
looked : (dim : ℕ) (change : LookChange) (v : Element) → IsLook change → IsWellFormed dim v → IsShown v → IsPut dim (recolouring change) v
looked dim change v fits good shown =
    let look = looks_put dim change v shown.display shown.parts shown.rest fits good shown.body in
    let bytes : List ℕ = look_bytes (look_changed change shown.display) in
    let long : 36 ≤ size_of v = shown_long dim v good shown in
    let one = λ (p : ℕ). turns_inside p (spell v) (spell (recolour change v)) (record { at = 34; bytes = bytes } ∷ []) (omega arith, omega (arith, long))
    (look.spelled ∙ put_written (spell v) bytes 34) in
    record {
      turned = λ p. subst (λ (b : Body). Turns p (spell v) (look_put change p b) (spell (recolour change v))) (sym shown.body) (one p);
      good = look.good;
      row = look.row;
      fields = λ p. ap (λ (b : Body). map field_of (look_put change p b)) shown.body;
    }

-- of an element that can be moved, and stays on the plane
shifted : (dim : ℕ) (by : Displacement) (v : Element) → IsDimension dim → IsWellFormed dim v → has_spots (class_of v.kind) ≡ true
    → stays_on_plane dim by v ≡ true → IsPut dim (displacing dim by) v
shifted dim by v axes good spots stays =
    let ss : List Spot = spots_of dim v.kind (spell v) in
    let sums = shift_put dim by v axes good spots stays in
    let rise = numbers_rise (sum_at by (spell v)) (size_of v) ss 4 (spots_sit dim v axes good spots).rise in
    let span : Span 0 (map (displaced_put by (spell v)) ss) (size_of v) = span_from 0 4 (size_of v) _ (omega arith) rise in
    let one = λ (p : ℕ). turns_inside p (spell v) (spell (shift dim by v)) (map (displaced_put by (spell v)) ss) span sums.spelled in
    record {
      turned = λ p. subst (λ (ps : List Put). Turns p (spell v) ps (spell (shift dim by v))) (moved_numbers (sum_at by (spell v)) p ss) (one p);
      good = sums.good;
      row = sums.row;
      fields = λ p. number_fields (sum_at by (spell v)) p ss;
    }

-- an edit against which nothing stands
pub element_put : (dim : ℕ) → IsDimension dim → (e : Edit) → IsEdit e → (v : Element) → IsWellFormed dim v → IsReady dim e v → IsPut dim (rule_of dim e) v
element_put dim axes (edit.Move n by) fits v good ready =
    let s = shifted dim by v axes good ready.0 ready.1 in
    record { turned = s.turned; good = s.good; row = s.row; fields = s.fields }
element_put dim axes (edit.Copy n by) fits v good ready = shifted dim by v axes good ready.0 ready.1
element_put dim axes (edit.Append new) fits v good ready = record { turned = λ p. turns_none p (spell v); good = good; row = refl; fields = λ p. refl }
element_put dim axes (edit.Sym n change) fits v good ready = looked dim change v fits good (is_shown dim v good ready)
element_put dim axes (edit.Delete n) fits v good ready =
    let marked = mark_put dim v good ready in
    let long = size-body v in
    record {
      turned = λ p. turns_inside p (spell v) (spell (mark v)) (record { at = 1; bytes = second_byte (mark v) ∷ [] } ∷ []) (omega arith, omega arith)
          marked.spelled;
      good = marked.good;
      row = marked.row;
      fields = λ p. refl;
    }

-- what holds of each of two lists joined
pub all_parts : {X : Type 0} (P : X → Type 0) (xs ys : List X) → AllByRecursion P (xs ++ ys) → AllByRecursion P xs × AllByRecursion P ys
all_parts P [] ys all = (tt, all)
all_parts P (x ∷ xs) ys all = let more = all_parts P xs ys all.1 in ((all.0, more.0), more.1)

-- a head with what is below it, and what is behind
pub spelled_tree : (h : Element) (below behind : List Element) → (spell h ++ spelling below) ++ spelling behind ≡ spelling (h ∷ (below ++ behind))
spelled_tree h below behind =
    append_assoc (spell h) (spelling below) (spelling behind) ∙ ap (λ (b : List ℕ). spell h ++ b) (sym (flat_map-append spell below behind))

-- the same, said otherwise
pub turns_as : (p : ℕ) (x x' y y' : List ℕ) (ps qs : List Put) → x ≡ x' → ps ≡ qs → y ≡ y' → Turns p x ps y → Turns p x' qs y'
turns_as p x x' y y' ps qs e f g one =
    subst (λ (z : List ℕ). Turns p z qs y') e (subst (λ (z : List Put). Turns p x z y') f (subst (λ (z : List ℕ). Turns p x ps z) g one))

-- a row that puts into each element against which nothing stands what it should
module _ (dim : ℕ) (r : Rule) (Ready : Element → Type 0) (put_right : (v : Element) → IsWellFormed dim v → Ready v → IsPut dim r v) where
  -- a head and all below it: a dead one keeps them
  head_turned : (h : Element) (n p : ℕ) (below changed : Forest Element) (vs : List Live) (deleted : Bool) → IsWellFormed dim h
      → AllByRecursion (λ v. Ready v.element) (if deleted then [] else record { number = n; place = p; element = h } ∷ vs)
      → (AllByRecursion (λ v. Ready v.element) vs → Turns (p + size_of h) (spelling (flat below)) (live_puts r vs) (spelling (flat changed)))
      → Turns p (spell h ++ spelling (flat below)) (live_puts r (if deleted then [] else record { number = n; place = p; element = h } ∷ vs))
      (spell (if deleted then h else r.made h) ++ spelling (flat (if deleted then below else changed)))
  head_turned h n p below changed vs true good ready more = turns_none p (spell h ++ spelling (flat below))
  head_turned h n p below changed vs false good ready more =
      turns_then p (p + size_of h) (spell h) (spelling (flat below)) (spell (r.made h)) (spelling (flat changed)) (r.puts p h)
      (live_puts r vs) refl
      ((put_right h good ready.0).turned p) (more ready.1)

  -- trees that begin at place p
  pub forest_turned : (f : Forest Element) (n p : ℕ) → AllByRecursion (IsWellFormed dim) (flat f)
      → AllByRecursion (λ v. Ready v.element) (live_from n p f)
      → Turns p (spelling (flat f)) (live_puts r (live_from n p f)) (spelling (flat (live_map (λ member. member.deleted) r.made f)))
  forest_turned NoTree n p good ready = turns_none p []
  forest_turned (Tree knot h below behind) n p good ready =
      let q : ℕ = p + (size_of h + length (spelling (flat below))) in
      let both = all_parts (IsWellFormed dim) (flat below) (flat behind) good.1 in
      let vs : List Live = live_from (n + 1) (p + size_of h) below in
      let head : List Live = if h.deleted then [] else record { number = n; place = p; element = h } ∷ vs in
      let last : List Live = live_from (n + 1 + length (flat below)) q behind in
      let parts = all_parts (λ (v : Live). Ready v.element) head last ready in
      let above = head_turned h n p below (live_map (λ member. member.deleted) r.made below) vs h.deleted good.0 parts.0
      (forest_turned below (n + 1) (p + size_of h) both.0) in
      let rest = forest_turned behind (n + 1 + length (flat below)) q both.1 parts.1 in
      let joined = turns_then p q _ _ _ _ _ _ (omega (arith, length-append (spell h) (spelling (flat below)))) above rest in
      turns_as p _ _ _ _ _ _ (spelled_tree h (flat below) (flat behind)) (sym (flat_map-append (λ (v : Live). r.puts v.place v.element) head last))
      (spelled_tree _ _ _) joined

  -- the same of each of all their elements
  every_turned : (f : Forest Element) (n p : ℕ) → AllByRecursion (IsWellFormed dim) (flat f)
      → AllByRecursion (λ v. Ready v.element) (every_from n p f)
      → Turns p (spelling (flat f)) (live_puts r (every_from n p f)) (spelling (flat (forest_map r.made f)))
  every_turned NoTree n p good ready = turns_none p []
  every_turned (Tree knot h below behind) n p good ready =
      let q : ℕ = p + (size_of h + length (spelling (flat below))) in
      let inside : List Live = every_from (n + 1) (p + size_of h) below in
      let past : List Live = every_from (end_of n below) q behind in
      let both = all_parts (IsWellFormed dim) (flat below) (flat behind) good.1 in
      let parts = all_parts (λ (v : Live). Ready v.element) inside past ready.1 in
      let above = turns_then p (p + size_of h) (spell h) (spelling (flat below)) (spell (r.made h)) (spelling (flat (forest_map r.made below)))
      (r.puts p h) (live_puts r inside) refl ((put_right h good.0 ready.0).turned p) (every_turned below (n + 1) (p + size_of h) both.0 parts.0) in
      let rest = every_turned behind (end_of n below) q both.1 parts.1 in
      let joined = turns_then p q _ _ _ _ _ _ (omega (arith, length-append (spell h) (spelling (flat below)))) above rest in
      turns_as p _ _ _ _ _ _ (spelled_tree h (flat below) (flat behind))
      (append_assoc (r.puts p h) (live_puts r inside) (live_puts r past)
      ∙ ap (λ (ps : List Put). r.puts p h ++ ps) (sym (flat_map-append (λ (v : Live). r.puts v.place v.element) inside past)))
      (spelled_tree _ _ _) joined

  -- so of each that the row reaches
  pub reach_turned : (reach : Reach) (f : Forest Element) (n p : ℕ) → AllByRecursion (IsWellFormed dim) (flat f)
      → AllByRecursion (λ v. Ready v.element) (reached_from reach n p f)
      → Turns p (spelling (flat f)) (live_puts r (reached_from reach n p f)) (spelling (flat (reach_map reach r.made f)))
  reach_turned Living f n p good ready = forest_turned f n p good ready
  reach_turned Every f n p good ready = every_turned f n p good ready
  reach_turned Head NoTree n p good ready = turns_none p []
  reach_turned Head (Tree knot h below behind) n p good ready =
      let rest : List ℕ = spelling (flat below ++ flat behind) in
      turns_then p (p + size_of h) (spell h) rest (spell (r.made h)) rest (r.puts p h) [] refl ((put_right h good.0 ready.0).turned p)
      (turns_none (p + size_of h) rest)

  -- what is put into live elements is laid over their fields
  pub fields_put : (vs : List Live) → AllByRecursion (λ v. IsWellFormed dim v.element) vs
      → AllByRecursion (λ v. Ready v.element) vs → map field_of (live_puts r vs) ≡ live_fields r vs
  fields_put [] good ready = refl
  fields_put (v ∷ vs) good ready =
      map-append field_of (r.puts v.place v.element) (live_puts r vs)
      ∙ ap (λ (fs : List Field). fs ++ map field_of (live_puts r vs)) ((put_right v.element good.0 ready.0).fields v.place)
      ∙ ap (λ (fs : List Field). r.fields v.place v.element ++ fs) (fields_put vs good.1 ready.1)
