-- Where nothing refuses a revision, nothing stands against the elements that its row reaches, and what is left is what it
-- should be.
use Rattle.std.proofs.Common.{◌≡◌, ℕ, zero, suc, ◌+◌, ◌<◌, ◌≤◌, List, [], ◌∷◌, ◌++◌, length, drop, get_or, Bool, true, false, cond}
use Rattle.std.proofs.Common.{refl, sym, ap, ◌∙◌, subst, arith, inl, inr}
use Rattle.std.specs.Prelude.{nat_lt, slice_get, Option, Some, None}
use Rattle.std.specs.Option.{option_or}
use Rattle.std.specs.List.{AllByRecursion}
use Rattle.std.proofs.lemmas.List.{drop_at}
use Rattle.std.proofs.lemmas.Bool.{cases_Bool, ltb-false, and_parts, eqb-true}
use Rattle.dgn_layout.specs.declared.types.Class.{Class}
use Rattle.dgn_layout.specs.Classes.{class_of, is_silent}
use Rattle.dgn_drawing.specs.Element.{Element}
use Rattle.dgn_drawing.specs.Spelling.{bit, spell, second_byte, spelling, size_of}
use Rattle.dgn_drawing.specs.WellFormed.{IsWellFormed}
use Rattle.dgn_drawing.specs.Rows.{row_of}
use Rattle.dgn_drawing.specs.Nesting.{Knot, Forest, NoTree, Tree, flat, forest}
use Rattle.dgn_drawing.specs.Numbering.{end_of}
use Rattle.dgn_drawing.specs.Opening.{BeginsWithTcb, IsTcb}
use Rattle.elem_index.specs.Offsets.{offset_of}
use Rattle.dgn_revision.specs.Revising.{room, row_of_points, longer_size}
use Rattle.edit_ops.specs.declared.causes.cause.Cause.{Cause}
use Rattle.edit_ops.specs.declared.causes.cause.Cause.TheVariants as causes
use Rattle.edit_ops.specs.declared.causes.revise_cause.ReviseCause.{ReviseCause}
use Rattle.edit_ops.specs.declared.causes.revise_cause.ReviseCause.TheVariants as revise
use Rattle.edit_ops.specs.declared.causes.test.Test.TheVariants as tests
use Rattle.edit_ops.specs.Trees.{Live, Reach, Living, Head, live_from, reached_from, reached, tree_at, path_to}
use Rattle.edit_ops.specs.Causes.{silent, first_cause}
use Rattle.edit_ops.specs.Rules.{Rule}
use Rattle.edit_ops.specs.RevisionRules.{has_room}
use Rattle.edit_ops.specs.RevisionCauses.{given, unpointed_in, whole_line, marked_of, all_live, no_vertex, no_room, MOST_ELEMENT}
use Rattle.edit_ops.specs.RevisionCauses.{first_standing}
use Rattle.edit_ops.proofs.PartPlace.{IsPlaced, placed, first_left}
use Rattle.edit_ops.proofs.EachLive.{each_both, live_dead, live_alive, live_behind}
use Rattle.edit_ops.proofs.AcceptedEdit.{unmet, is_there, IsThere, IsAlive, path_alive, not_first}
use Rattle.edit_ops.proofs.PartChanged.{IsTarget}

-- no cause in turn: neither the first nor the next
pub neither : (a b : Option ReviseCause) → option_or a b ≡ None → (a ≡ None) × (b ≡ None)
neither None b is = (refl, is)
neither (Some c) b is = absurd (let x = is in cc)

-- nor any of some
pub none_standing : (cs : List (Option ReviseCause)) → first_standing cs ≡ None → AllByRecursion (λ c. c ≡ None) cs
none_standing [] is = tt
none_standing (c ∷ cs) is = let both = neither c (first_standing cs) is in (both.0, none_standing cs both.1)

-- a cause that isn't given
pub not_given : (c : Option Cause) → given c ≡ None → c ≡ None
not_given None is = refl
not_given (Some c) is = absurd (let x = is in cc)

-- live elements aren't marked deleted
live_not_deleted : (n p : ℕ) (f : Forest Element) → AllByRecursion (λ (v : Live). v.element.deleted ≡ false) (live_from n p f)
live_not_deleted n p NoTree = tt
live_not_deleted n p (Tree knot e below behind) =
    let P : Live → Type 0 = λ v. v.element.deleted ≡ false in
    let inner = live_not_deleted (n + 1) (p + size_of e) below in
    let outer = live_not_deleted (end_of n below) (p + (size_of e + length (spelling (flat below)))) behind in
    elim (cases_Bool e.deleted) [
      | inl dead ↦ subst (AllByRecursion P) (sym (live_dead n p knot e below behind dead)) outer
      | inr alive ↦
          subst (AllByRecursion P) (sym (live_alive n p knot e below behind alive))
          (alive, each_both P (live_from (n + 1) (p + size_of e) below) (live_behind n p e below behind) inner outer)
    ]

-- anything is known of nothing
all_any : (vs : List Live) → AllByRecursion (λ (v : Live). Unit {0}) vs
all_any [] = tt
all_any (v ∷ vs) = (tt, all_any vs)

-- the head of the part of an element that is there is that element
placed_head : (es : List Element) (n : ℕ) (head : Element) → (known : n < length es) → slice_get es n ≡ Some head → (placed es n known).head ≡ head
placed_head es n head known there =
    let p : IsPlaced es n = placed es n known in
    let left : drop n es ≡ (p.head ∷ flat p.below) ++ p.behind = ap (drop n) p.parts ∙ drop_at p.front ((p.head ∷ flat p.below) ++ p.behind) n p.count in
    let both : Some p.head ≡ Some head = sym (first_left es n p.head (flat p.below ++ p.behind) left) ∙ there in
    cc

-- what holds of it holds of each element that a change reaches which changes it alone
head_reached : (P : Element → Type 0) (es : List Element) (n : ℕ) (head : Element) → n < length es → slice_get es n ≡ Some head → P head
    → AllByRecursion (λ (v : Live). P v.element) (reached Head es n)
head_reached P es n head known there holds =
    let p : IsPlaced es n = placed es n known in
    let one : AllByRecursion (λ (v : Live). P v.element) (reached_from Head n (offset_of es n) (Tree p.knot p.head p.below NoTree)) =
    (subst P (sym (placed_head es n head known there)) holds, tt) in
    subst (λ (f : Forest Element). AllByRecursion (λ (v : Live). P v.element) (reached_from Head n (offset_of es n) f)) (sym p.tree) one

-- a second byte of 9 has no mark
mark_clear : (kind : ℕ) (deleted : Bool) → kind + bit 128 deleted ≡ 9 → deleted ≡ false
mark_clear kind true is = absurd (omega (arith, is))
mark_clear kind false is = refl

second_spelled : (e : Element) → get_or (spell e) 1 0 ≡ second_byte e
unfolding spell
second_spelled e = refl

-- the TCB isn't marked deleted
tcb_alive : (e : Element) → IsTcb e → e.deleted ≡ false
tcb_alive e tcb =
    let whole = and_parts _ _ tcb.begins in
    let front = and_parts _ _ whole.0 in
    let two = and_parts _ _ front.0 in
    mark_clear e.kind e.deleted (sym (second_spelled e) ∙ eqb-true (get_or (spell e) 1 0) 9 two.1)

-- so where something is marked deleted that is in the part of an element or above it, it isn't the first
undeleted_later : (es : List Element) (n : ℕ) → BeginsWithTcb es → all_live n (marked_of (whole_line es n)) ≡ None → 0 < n
undeleted_later [] n first some = absurd first
undeleted_later (x ∷ xs) (suc n) first some = omega arith
undeleted_later (x ∷ xs) zero first some =
    let one : Live = record { number = 0; place = offset_of (x ∷ xs) 0; element = x } in
    let none : Some (revise.Live 0) ≡ None = sym (ap (λ (b : Bool). all_live 0 (cond b (one ∷ []) [])) (tcb_alive x first)) ∙ some in
    cc

-- an element of a row of points that is read isn't silent
pub pointed_read : (n : ℕ) (c : Class) → unpointed_in n c ≡ None → is_silent c ≡ false
pointed_read n Class.Vertices is = refl
pointed_read n Class.Words is = absurd (let x = is in cc)
pointed_read n Class.Counted is = absurd (let x = is in cc)
pointed_read n Class.Run is = absurd (let x = is in cc)
pointed_read n Class.Floating is = absurd (let x = is in cc)
pointed_read n Class.Boxed is = absurd (let x = is in cc)
pointed_read n Class.Silent is = absurd (let x = is in cc)

-- what isn't so, by a test
turned_round : (t : Bool) → cond t false true ≡ true → t ≡ false
turned_round true is = absurd (let x = is in cc)
turned_round false is = refl

pub room_enough : (dim : ℕ) (chars : List ℕ) (e : Element) → has_room dim chars (Some e) ≡ true → length chars ≤ room dim e
room_enough dim chars e is = ltb-false (room dim e) (length chars) (turned_round (nat_lt (room dim e) (length chars)) is)

-- without room, and with no cause, an element can have so many bytes
size_left : (b c d : Bool) (x : ReviseCause) → b ≡ false → cond b None (cond c (Some x) (cond d (Some x) None)) ≡ None → d ≡ false
size_left true c d x without is = absurd (let y = without in cc)
size_left false true d x without is = absurd (let y = is in cc)
size_left false false true x without is = absurd (let y = is in cc)
size_left false false false x without is = refl

pub size_enough : (dim n : ℕ) (above : List Live) (chars : List ℕ) (e : Element) → has_room dim chars (Some e) ≡ false
    → no_room dim above chars n (Some e) ≡ None → longer_size dim (length chars) e ≤ MOST_ELEMENT
size_enough dim n above chars e without is =
    ltb-false MOST_ELEMENT (longer_size dim (length chars) e)
    (size_left (has_room dim chars (Some e)) (nat_lt 0 (length above)) (nat_lt MOST_ELEMENT (longer_size dim (length chars) e)) (revise.NoRoom n) without is)

pub points_enough : (n index : ℕ) (e : Element) → no_vertex n index (Some e) ≡ None → index ≤ length (row_of_points e.body)
points_enough n index e is = ltb-false (length (row_of_points e.body)) index (none_so (nat_lt (length (row_of_points e.body)) index) is)
  where
    none_so : (t : Bool) → cond t (Some (revise.NoVertex n)) None ≡ None → t ≡ false
    none_so true some = absurd (let x = some in cc)
    none_so false some = refl

module _ (dim : ℕ) (es : List Element) (each : AllByRecursion (IsWellFormed dim) es) (first : BeginsWithTcb es) (n : ℕ) (known : n < length es) where
  -- the target of a change of the live elements
  pub living_target : (r : Rule) → r.reach ≡ Living → first_cause dim tests.NotDeleted (path_to es n) ≡ None → silent n (slice_get es n) ≡ None
      → IsTarget es r (λ e. e.deleted ≡ false) n
  living_target r living alive loud =
      let a : IsAlive es n = path_alive dim es n known alive in
      let read : cond (is_silent (class_of a.head.kind)) (Some (causes.Opaque n)) None ≡ None = ap (silent n) (sym a.there) ∙ loud in
      let spoken : is_silent (class_of a.head.kind) ≡ false = unmet (is_silent (class_of a.head.kind)) (causes.Opaque n) read in
      record {
        known = known;
        later = not_first dim es n a.head each first a.there (λ quiet. let x = spoken in let y = quiet in cc);
        head = a.head;
        there = a.there;
        head_able = a.alive;
        able = subst (λ (reach : Reach). AllByRecursion (λ (v : Live). v.element.deleted ≡ false) (reached reach es n)) (sym living)
            (live_not_deleted n (offset_of es n) (tree_at n (forest row_of es)));
      }

  -- of one of all elements, of which one is marked deleted, or a header above
  pub every_target : (r : Rule) → all_live n (marked_of (whole_line es n)) ≡ None → IsTarget es r (λ e. Unit {0}) n
  every_target r some =
      let x : IsThere es n = is_there es n known in
      record {
        known = known;
        later = undeleted_later es n first some;
        head = x.head;
        there = x.there;
        head_able = tt;
        able = all_any (reached r.reach es n);
      }

  -- of one of the head alone
  pub head_target : (r : Rule) (Ready : Element → Type 0) (head : Element) → r.reach ≡ Head → slice_get es n ≡ Some head
      → (is_silent (class_of head.kind) ≡ true → ⊥) → Ready head → IsTarget es r Ready n
  head_target r Ready head alone there loud able = record {
    known = known;
    later = not_first dim es n head each first there loud;
    head = head;
    there = there;
    head_able = able;
    able = subst (λ (reach : Reach). AllByRecursion (λ (v : Live). Ready v.element) (reached reach es n)) (sym alone)
        (head_reached Ready es n head known there able);
  }
