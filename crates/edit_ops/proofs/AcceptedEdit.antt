-- An edit that isn't refused: its element is there, is live and isn't the first, and nothing stands against it.
use Rattle.std.proofs.Common.{◌≡◌, ℕ, zero, suc, ◌<◌, ◌==◌, List, [], ◌∷◌, ◌++◌, length, drop, Bool, true, false, cond, refl, sym, ap, ◌∙◌, subst, arith}
use Rattle.std.specs.Prelude.{nat_lt, slice_get, option_map, Option, Some, None}
use Rattle.std.specs.Option.{option_or, option_to_list}
use Rattle.std.specs.List.{AllByRecursion}
use Rattle.std.proofs.lemmas.List.{drop_at}
use Rattle.std.proofs.lemmas.Bool.{ltb-true}
use Rattle.dgn_layout.specs.declared.types.Class.{Class}
use Rattle.dgn_layout.specs.Classes.{class_of, is_silent}
use Rattle.dgn_layout.specs.Spots.{has_spots}
use Rattle.dgn_drawing.specs.declared.edit.Edit.{Edit}
use Rattle.dgn_drawing.specs.declared.edit.Edit.TheVariants as edit
use Rattle.dgn_drawing.specs.Values.{Displacement}
use Rattle.dgn_drawing.specs.Element.{Element}
use Rattle.dgn_drawing.specs.WellFormed.{IsWellFormed}
use Rattle.dgn_drawing.specs.Changes.{stays_on_plane}
use Rattle.dgn_drawing.specs.Rows.{row_of}
use Rattle.dgn_drawing.specs.Nesting.{NoTree, flat}
use Rattle.dgn_drawing.specs.Numbering.{root_of}
use Rattle.dgn_drawing.specs.Opening.{BeginsWithTcb}
use Rattle.elem_index.specs.Offsets.{offset_of}
use Rattle.edit_ops.specs.declared.causes.cause.Cause.{Cause}
use Rattle.edit_ops.specs.declared.causes.cause.Cause.TheVariants as causes
use Rattle.edit_ops.specs.declared.causes.test.Test.{Test}
use Rattle.edit_ops.specs.declared.causes.test.Test.TheVariants as tests
use Rattle.edit_ops.specs.Trees.{Live, live_from, live_tree, above_tree, found_at, path_to}
use Rattle.edit_ops.specs.Causes.{unknown, broken, broken_in, silent, unmovable, lookless, unmarkable, cause_at, first_cause, first_of}
use Rattle.edit_ops.specs.Causes.{part_cause, causes_of, target_of, target_cause, cause_of}
use Rattle.edit_ops.specs.Applying.{Done, applied_unless, apply, changed_forest}
use Rattle.edit_ops.specs.Written.{IsReady}
use Rattle.edit_ops.proofs.ReadableElements.{silent_class}
use Rattle.edit_ops.proofs.PartPlace.{IsPlaced, placed, first_left}
use Rattle.edit_ops.proofs.EachLive.{each_first, each_last, live_alive}
use Rattle.edit_ops.proofs.EditedBytes.{all_both, all_so}

-- no cause in turn: neither the first nor the next
pub none_both : (a b : Option Cause) → option_or a b ≡ None → (a ≡ None) × (b ≡ None)
none_both None b is = (refl, is)
none_both (Some c) b is = absurd (let x = is in cc)

-- nor any of some
pub none_of : (cs : List (Option Cause)) → first_of cs ≡ None → AllByRecursion (λ c. c ≡ None) cs
none_of [] is = tt
none_of (c ∷ cs) is = let both = none_both c (first_of cs) is in (both.0, none_of cs both.1)

-- a test against which no live element falls has nothing against each
pub none_first : (dim : ℕ) (test : Test) (vs : List Live) → first_cause dim test vs ≡ None → AllByRecursion (λ v. cause_at dim test
    v.number v.element ≡ None) vs
none_first dim test [] is = tt
none_first dim test (v ∷ vs) is = let both = none_both (cause_at dim test v.number v.element) (first_cause dim test vs) is in
    (both.0, none_first dim test vs both.1)

-- an element that can be moved has spots
pub movable : (m : ℕ) (c : Class) → unmovable m c ≡ None → has_spots c ≡ true
movable m Class.Vertices is = refl
movable m Class.Words is = refl
movable m Class.Counted is = refl
movable m Class.Run is = absurd (let x = is in cc)
movable m Class.Floating is = absurd (let x = is in cc)
movable m Class.Boxed is = absurd (let x = is in cc)
movable m Class.Silent is = absurd (let x = is in cc)

-- one that has a look isn't silent
pub looks : (m : ℕ) (c : Class) → lookless m c ≡ None → is_silent c ≡ false
looks m Class.Vertices is = refl
looks m Class.Words is = refl
looks m Class.Counted is = refl
looks m Class.Run is = absurd (let x = is in cc)
looks m Class.Floating is = refl
looks m Class.Boxed is = refl
looks m Class.Silent is = absurd (let x = is in cc)

-- a cause that is given where a test is met, and isn't given
pub unmet : (t : Bool) (c : Cause) → cond t (Some c) None ≡ None → t ≡ false
unmet true c is = absurd (let x = is in cc)
unmet false c is = refl

-- or where it isn't met
pub met : (t : Bool) (c : Cause) → cond t None (Some c) ≡ None → t ≡ true
met true c is = refl
met false c is = absurd (let x = is in cc)

-- one that can be marked isn't of type 127
pub markable : (m kind : ℕ) → unmarkable m kind ≡ None → ¬ (kind ≡ 127)
markable m kind is = λ same.
    let off : (kind == 127) ≡ false = unmet (kind == 127) (causes.Opaque m) is in
    let on : (kind == 127) ≡ true = ap (λ (k : ℕ). k == 127) same in
    cc

-- live elements that can be moved, and that stay on the plane, are ready for a move or a copy
movables : (dim : ℕ) (by : Displacement) (e : Edit)
    → ((v : Element) → has_spots (class_of v.kind) ≡ true → stays_on_plane dim by v ≡ true → IsReady dim e v)
    → (vs : List Live) → first_cause dim tests.Moves vs ≡ None → first_cause dim (tests.StaysOnPlane by) vs ≡ None
    → AllByRecursion (λ v. IsReady dim e v.element) vs
movables dim by e able vs moves leaves =
    all_both (λ v. cause_at dim tests.Moves v.number v.element ≡ None) (λ v. cause_at dim (tests.StaysOnPlane by) v.number v.element ≡ None)
    (λ v. IsReady dim e v.element)
    (λ v moves stays. able v.element (movable v.number (class_of v.element.kind) moves)
    (met (stays_on_plane dim by v.element) (causes.OffPlane v.number) stays))
    vs (none_first dim tests.Moves vs moves) (none_first dim (tests.StaysOnPlane by) vs leaves)

-- so nothing stands against the copy of each live element where each can be moved and stays on the plane
pub copy_ready : (dim : ℕ) (by : Displacement) (n : ℕ) (vs : List Live)
    → option_or (first_cause dim tests.Moves vs) (first_cause dim (tests.StaysOnPlane by) vs) ≡ None
    → AllByRecursion (λ v. IsReady dim (edit.Copy n by) v.element) vs
copy_ready dim by n vs is =
    let both = none_both (first_cause dim tests.Moves vs) (first_cause dim (tests.StaysOnPlane by) vs) is in
    movables dim by (edit.Copy n by) (λ v spots stays. (spots, stays)) vs both.0 both.1

-- nothing stands against an edit of each live element of its part where none of its causes stands
pub ready : (dim : ℕ) (es : List Element) (rest : ℕ) (e : Edit) (n : ℕ) → target_of e ≡ Some n → first_of (causes_of dim es rest e) ≡ None
    → AllByRecursion (λ v. IsReady dim e v.element) (live_tree es n)
ready dim es rest (edit.Move m by) n named is =
    let same : m ≡ n = cc in
    let each = none_of (causes_of dim es rest (edit.Move m by)) is in
    subst (λ (k : ℕ). AllByRecursion (λ v. IsReady dim (edit.Move m by) v.element) (live_tree es k)) same
    (movables dim by (edit.Move m by) (λ v spots stays. (spots, stays)) (live_tree es m) each.1.1.1.0 each.1.1.1.1.0)
ready dim es rest (edit.Copy m by) n named is =
    let same : m ≡ n = cc in
    let each = none_of (causes_of dim es rest (edit.Copy m by)) is in
    subst (λ (k : ℕ). AllByRecursion (λ v. IsReady dim (edit.Copy m by) v.element) (live_tree es k)) same
    (movables dim by (edit.Copy m by) (λ v spots stays. (spots, stays)) (live_tree es m) each.1.0 each.1.1.0)
ready dim es rest (edit.Sym m change) n named is =
    let same : m ≡ n = cc in
    let each = none_of (causes_of dim es rest (edit.Sym m change)) is in
    subst (λ (k : ℕ). AllByRecursion (λ v. IsReady dim (edit.Sym m change) v.element) (live_tree es k)) same
    (all_so (λ v. cause_at dim tests.Looks v.number v.element ≡ None) (λ v. IsReady dim (edit.Sym m change) v.element)
    (λ v has. looks v.number (class_of v.element.kind) has) (live_tree es m) (none_first dim tests.Looks (live_tree es m) each.1.0))
ready dim es rest (edit.Delete m) n named is =
    let same : m ≡ n = cc in
    let each = none_of (causes_of dim es rest (edit.Delete m)) is in
    subst (λ (k : ℕ). AllByRecursion (λ v. IsReady dim (edit.Delete m) v.element) (live_tree es k)) same
    (all_so (λ v. cause_at dim tests.Marks v.number v.element ≡ None) (λ v. IsReady dim (edit.Delete m) v.element)
    (λ v has. markable v.number v.element.kind has) (live_tree es m) (none_first dim tests.Marks (live_tree es m) each.1.1.0))
ready dim es rest (edit.Append new) n named is = absurd (let x = named in cc)

-- a silent class has no spots
no_spots : (c : Class) → is_silent c ≡ true → has_spots c ≡ true → ⊥
no_spots Class.Silent silent spots = cc
no_spots Class.Vertices silent spots = cc
no_spots Class.Words silent spots = cc
no_spots Class.Counted silent spots = cc
no_spots Class.Run silent spots = cc
no_spots Class.Floating silent spots = cc
no_spots Class.Boxed silent spots = cc

-- nothing is edited of which nothing is read
not_silent : (dim : ℕ) (es : List Element) (rest : ℕ) (e : Edit) (n : ℕ) (x : Element) → target_of e ≡ Some n → slice_get es n ≡ Some x
    → first_of (causes_of dim es rest e) ≡ None → IsReady dim e x → is_silent (class_of x.kind) ≡ true → ⊥
not_silent dim es rest (edit.Move m by) n x named there is able silent = no_spots (class_of x.kind) silent able.0
not_silent dim es rest (edit.Copy m by) n x named there is able silent = no_spots (class_of x.kind) silent able.0
not_silent dim es rest (edit.Sym m change) n x named there is able silent = let l : is_silent (class_of x.kind) ≡ false = able in cc
not_silent dim es rest (edit.Delete m) n x named there is able quiet =
    let same : m ≡ n = cc in
    let each = none_of (causes_of dim es rest (edit.Delete m)) is in
    let read : cond (is_silent (class_of x.kind)) (Some (causes.Opaque m)) None ≡ None =
    ap (silent m) (sym there ∙ ap (slice_get es) (sym same)) ∙ each.1.0 in
    let loud : is_silent (class_of x.kind) ≡ false = unmet (is_silent (class_of x.kind)) (causes.Opaque m) read in
    cc
not_silent dim es rest (edit.Append new) n x named there is able silent = let y = named in cc

-- the element is there, and is the first of the live elements of its part if it is live
pub record IsThere (es : List Element) (n : ℕ) : Type 0 where
  pub head : Element
  pub there : slice_get es n ≡ Some head
  pub first : head.deleted ≡ false → (vs : List Live) × (live_tree es n ≡ record { number = n; place = offset_of es n; element = head } ∷ vs)

pub is_there : (es : List Element) (n : ℕ) → n < length es → IsThere es n
is_there es n known =
    let p : IsPlaced es n = placed es n known in
    let left : drop n es ≡ (p.head ∷ flat p.below) ++ p.behind = ap (drop n) p.parts ∙ drop_at p.front ((p.head ∷ flat p.below) ++ p.behind) n p.count in
    record {
      head = p.head;
      there = first_left es n p.head (flat p.below ++ p.behind) left;
      first = λ alive. (_, ap (live_from n (offset_of es n)) p.tree ∙ live_alive n (offset_of es n) p.knot p.head p.below NoTree alive);
    }

-- an element that isn't refused for its part: it is live, and so are the headers above it, and its tree isn't broken
pub record IsKept (es : List Element) (n : ℕ) : Type 0 where
  pub known : n < length es
  pub head : Element
  pub there : slice_get es n ≡ Some head
  pub alive : head.deleted ≡ false
  pub headers_alive : AllByRecursion (λ v. v.element.deleted ≡ false) (above_tree es n)
  pub sound : broken (broken_in es (root_of row_of es n)) ≡ None
  pub first : (vs : List Live) × (live_tree es n ≡ record { number = n; place = offset_of es n; element = head } ∷ vs)

-- an element that isn't marked deleted, nor is a header above it
pub record IsAlive (es : List Element) (n : ℕ) : Type 0 where
  pub head : Element
  pub there : slice_get es n ≡ Some head
  pub alive : head.deleted ≡ false
  pub headers_alive : AllByRecursion (λ v. v.element.deleted ≡ false) (above_tree es n)
  pub first : (vs : List Live) × (live_tree es n ≡ record { number = n; place = offset_of es n; element = head } ∷ vs)

-- where none of them is
pub path_alive : (dim : ℕ) (es : List Element) (n : ℕ) → n < length es → first_cause dim tests.NotDeleted (path_to es n) ≡ None → IsAlive es n
path_alive dim es n known none =
    let x : IsThere es n = is_there es n known in
    let P : Live → Type 0 = λ v. v.element.deleted ≡ false in
    let each : AllByRecursion P (path_to es n) = all_so (λ v. cause_at dim tests.NotDeleted v.number v.element ≡ None) P
    (λ v is. unmet v.element.deleted (causes.Deleted v.number) is) (path_to es n) (none_first dim tests.NotDeleted (path_to es n) none) in
    let last : AllByRecursion P (option_to_list (found_at es n)) = each_last P (above_tree es n) (option_to_list (found_at es n)) each in
    let one = subst (λ (o : Option Element). AllByRecursion P
    (option_to_list (option_map (λ (e : Element). record { number = n; place = offset_of es n; element = e }) o))) x.there last in
    record {
      head = x.head;
      there = x.there;
      alive = one.0;
      headers_alive = each_first P (above_tree es n) (option_to_list (found_at es n)) each;
      first = x.first one.0;
    }

-- where neither it is unknown nor something keeps its part
pub kept : (dim : ℕ) (es : List Element) (n : ℕ) → n < length es → part_cause dim es n ≡ None → IsKept es n
kept dim es n known is =
    let both = none_both (broken (broken_in es (root_of row_of es n))) (first_cause dim tests.NotDeleted (path_to es n)) is in
    let a : IsAlive es n = path_alive dim es n known both.1 in
    record {
      known = known;
      head = a.head;
      there = a.there;
      alive = a.alive;
      headers_alive = a.headers_alive;
      sound = both.0;
      first = a.first;
    }

-- an edit that isn't refused: its element is there, is live, isn't the first, and nothing stands against it nor
-- against any live element of its part
pub record IsAccepted (dim : ℕ) (es : List Element) (e : Edit) (n : ℕ) : Type 0 where
  pub known : n < length es
  pub later : 0 < n
  pub head : Element
  pub there : slice_get es n ≡ Some head
  pub alive : head.deleted ≡ false
  pub head_able : IsReady dim e head
  pub able : AllByRecursion (λ v. IsReady dim e v.element) (live_tree es n)
  pub headers_alive : AllByRecursion (λ v. v.element.deleted ≡ false) (above_tree es n)
  pub sound : broken (broken_in es (root_of row_of es n)) ≡ None

-- nothing stands against an edit of the head, where it doesn't against any live element
pub head_ready : (dim : ℕ) (es : List Element) (e : Edit) (n : ℕ) → AllByRecursion (λ v. IsReady dim e v.element) (live_tree es n) → (k : IsKept es n)
    → IsReady dim e k.head
head_ready dim es e n able k = (subst (AllByRecursion (λ v. IsReady dim e v.element)) k.first.1 able).0

-- the first element is silent, so it isn't edited
pub not_first : (dim : ℕ) (es : List Element) (n : ℕ) (x : Element) → AllByRecursion (IsWellFormed dim) es → BeginsWithTcb es
    → slice_get es n ≡ Some x → (is_silent (class_of x.kind) ≡ true → ⊥) → 0 < n
not_first dim [] n x each first there loud = absurd first
not_first dim (y ∷ es) zero x each first there loud =
    let same : y ≡ x = let t = there in cc in
    absurd (loud (subst (λ (z : Element). is_silent (class_of z.kind) ≡ true) same (silent_class dim y each.0 first.silent)))
not_first dim (y ∷ es) (suc n) x each first there loud = omega arith

-- without a cause, of a named element
pub named_cause : (dim : ℕ) (es : List Element) (rest : ℕ) (e : Edit) (n : ℕ) → target_of e ≡ Some n → cause_of dim es rest e ≡ None
    → (unknown n es ≡ None) × (part_cause dim es n ≡ None) × (first_of (causes_of dim es rest e) ≡ None)
named_cause dim es rest e n named is =
    let both = none_both (target_cause dim es (target_of e)) (first_of (causes_of dim es rest e)) is in
    let target : target_cause dim es (Some n) ≡ None = ap (target_cause dim es) (sym named) ∙ both.0 in
    let two = none_both (unknown n es) (part_cause dim es n) target in
    (two.0, two.1, both.1)

-- an edit without a cause is accepted
pub accepted : (dim : ℕ) (es : List Element) (rest : ℕ) (e : Edit) (n : ℕ) → target_of e ≡ Some n → AllByRecursion (IsWellFormed dim) es → BeginsWithTcb es
    → cause_of dim es rest e ≡ None → IsAccepted dim es e n
accepted dim es rest e n named each first is =
    let three = named_cause dim es rest e n named is in
    let known : n < length es = ltb-true n (length es) (met (nat_lt n (length es)) (causes.Unknown n) three.0) in
    let k : IsKept es n = kept dim es n known three.1 in
    let able = ready dim es rest e n named three.2 in
    let head_able = head_ready dim es e n able k in
    record {
      known = known;
      later = not_first dim es n k.head each first k.there (not_silent dim es rest e n k.head named k.there three.2 head_able);
      head = k.head;
      there = k.there;
      alive = k.alive;
      head_able = head_able;
      able = able;
      headers_alive = k.headers_alive;
      sound = k.sound;
    }

-- what is done has no cause, and leaves the elements of the changed trees
pub done_unless : (c : Option Cause) (left made : List Element) → applied_unless c left ≡ Done made → (c ≡ None) × (made ≡ left)
done_unless None left made is = let x = is in (refl, cc)
done_unless (Some c) left made is = absurd (let x = is in cc)

pub done_is : (dim : ℕ) (es : List Element) (rest : ℕ) (e : Edit) (made : List Element) → apply dim es rest e ≡ Done made
    → (cause_of dim es rest e ≡ None) × (made ≡ flat (changed_forest dim es e))
done_is dim es rest e made done = done_unless (cause_of dim es rest e) (flat (changed_forest dim es e)) made done

-- and what has no cause is done
pub done_without_cause : (dim : ℕ) (es : List Element) (rest : ℕ) (e : Edit) → cause_of dim es rest e ≡ None
    → apply dim es rest e ≡ Done (flat (changed_forest dim es e))
done_without_cause dim es rest e none = ap (λ (c : Option Cause). applied_unless c (flat (changed_forest dim es e))) none
