-- How a design becomes whole again: the walk that goes on from its last kept offset.
use Rattle.std.proofs.Common.{◌≡◌, ℕ, suc, ◌+◌, ◌<◌, ◌≤◌, true, List, [], ◌∷◌, ◌++◌, length, take, drop, sym, ap, ◌∙◌, subst, arith, inl, inr}
use Rattle.std.proofs.Common.{length-append, length-drop}
use Rattle.std.specs.Prelude.{vec_len, vec_capacity, slice_index_or}
use Rattle.std.proofs.lemmas.List.{append-nil, take_all, take_more, length-take, get_or-take, get_or_default}
use Rattle.std.proofs.lemmas.Option.{get_or_from_slice_get}
use Rattle.std.proofs.lemmas.Bool.{cases_lt}
use Rattle.dgn_layout.specs.Classes.{class_of}
use Rattle.elem_head.specs.Head.{size_of as size_said, kind_of}
use Rattle.dgn_drawing.specs.Element.{Element}
use Rattle.dgn_drawing.specs.Spelling.{spell, spelling, size_of}
use Rattle.dgn_drawing.specs.WellFormed.{IsDimension, IsWellFormed}
use Rattle.dgn_drawing.specs.Nesting.{is_counted}
use Rattle.dgn_drawing.specs.Opening.{elements_of}
use Rattle.dgn_drawing.proofs.RecordsRead.{size_said-spell}
use Rattle.dgn_drawing.proofs.FirstElements.{dimension_is, not_empty}
use Rattle.dgn_drawing.proofs.Fronts.{body_spelled}
use Rattle.dgn_drawing.proofs.Offsets.{drop-offset}
use Rattle.elem_index.specs.declared.design.Design.{Design}
use Rattle.elem_index.specs.Offsets.{offset_of, offsets_of}
use Rattle.elem_index.specs.Kinds.{Kind}
use Rattle.elem_index.specs.Design.{kept_of, kind_at, kinds_in, elements, IsOpen, IsWhole, HasGrown, IsKeptAlso, SameText}
use Rattle.elem_index.proofs.KindBytes.{length-kinds_in, kinds_in-more, kinds_in-take, kind_at-spell, counted_long}
use Rattle.elem_index.proofs.Places.{length-offsets, get_or-offsets, stands_at, offset_past, each_at, take_one_more}
use Rattle.dgn_drawing.specs.declared.limits.TheConstants.{MOST_DESIGN}

-- one more of the first offsets
offsets_more : (es : List Element) (kept : List ℕ) (at : ℕ) → length kept < length es → kept ≡ take (length kept) (offsets_of es)
    → at ≡ offset_of es (length kept)
    → kept ++ at ∷ [] ≡ take (length kept + 1) (offsets_of es)
offsets_more es kept at within first place =
    let inside : length kept < length (offsets_of es) = omega (arith, length-offsets es) in
    cc (get_or-offsets es (length kept) within, take_more (offsets_of es) (length kept) 0 inside)

-- what is kept of the first elements is theirs, and the next one begins at the place
pub record Left (d : Design) (at : ℕ) : Type 0 where
  pub front : HasGrown d
  pub place : at ≡ offset_of (elements d) (length (kept_of d))

-- dimension and bytes are the same, whatever room there is
pub record SameBytes (d e : Design) : Type 0 where
  pub dim : e.dim ≡ d.dim
  pub body : e.body.items ≡ d.body.items
  pub tail : e.tail.items ≡ d.tail.items

-- a design of the same text is one of the same bytes
pub same_bytes : (d e : Design) → SameText d e → SameBytes d e
same_bytes d e same = record { dim = same.dim; body = ap (λ v. v.items) same.body; tail = ap (λ v. v.items) same.tail }

-- a design of the same bytes has the same elements
pub elements_same : (d e : Design) → SameBytes d e → elements e ≡ elements d
elements_same d e same = ap (λ (n : ℕ). elements_of n e.body.items) same.dim ∙ ap (λ (b : List ℕ). elements_of d.dim b) same.body

-- and is open
pub open_same : (d e : Design) → SameBytes d e → IsOpen d → IsOpen e
open_same d e same is_open =
    record {
      few = omega (arith, ap (length {A = ℕ}) same.body, ap (length {A = ℕ}) same.tail, is_open.few);
      opens = rw (same.tail, same.dim, same.body) is_open.opens;
    }

-- at the offset of element n stands a head that says its size, of at least four bytes, all of them in the body, and
-- its byte and total
pub record Heads (d : Design) (n : ℕ) : Type 0 where
  pub size : ℕ
  pub next : offset_of (elements d) (n + 1) ≡ offset_of (elements d) n + size
  pub four : 4 ≤ size
  pub inside : offset_of (elements d) n + size ≤ length d.body.items
  pub said : size_said (drop (offset_of (elements d) n) d.body.items) ≡ size
  pub kind : take (n + 1) (kinds_in (elements d)) ≡ take n (kinds_in (elements d)) ++ kind_at (drop (offset_of (elements d) n) d.body.items) ∷ []
  pub counted : is_counted (class_of (kind_of (drop (offset_of (elements d) n) d.body.items))) ≡ true
      → 40 ≤ length (drop (offset_of (elements d) n) d.body.items)

-- what an open design says of its elements
module _ (d : Design) (is_open : IsOpen d) where
  -- the design's dimension is one
  axes : IsDimension d.dim
  axes = subst IsDimension (sym is_open.opens.axes) (dimension_is (d.body.items ++ d.tail.items))

  -- their spellings are the body
  pub spelled : spelling (elements d) ≡ d.body.items
  spelled = body_spelled d.body.items d.tail.items d.dim (elements d) is_open.opens

  -- and each has its head
  pub heads_at : (n : ℕ) → n < length (elements d) → Heads d n
  heads_at n known =
      let standing = stands_at (elements d) n known in
      let e : Element = standing.0 in
      let good : IsWellFormed d.dim e = each_at (IsWellFormed d.dim) (elements d) n e is_open.opens.each standing.1.found in
      let behind : List ℕ = spelling (drop (suc n) (elements d)) ++ [] in
      let bytes : drop (offset_of (elements d) n) d.body.items ≡ spell e ++ behind =
      ap (drop (offset_of (elements d) n)) (sym (append-nil (spelling (elements d)) ∙ spelled)) ∙ drop-offset (elements d) [] n e known
      ∙ ap (λ (x : Element). spell x ++ behind) (get_or_from_slice_get (elements d) n e e standing.1.found) in
      record {
        size = size_of e;
        next = standing.1.next;
        four = not_empty d.dim e axes good [];
        inside = omega (arith, standing.1.inside, ap (length {A = ℕ}) spelled);
        said = ap size_said bytes ∙ size_said-spell d.dim e axes good behind;
        kind =
            rw (
              bytes,
              kind_at-spell d.dim e axes good behind,
              ← kinds_in-take n (elements d),
              ← kinds_in-more (take n (elements d)) e,
              ← kinds_in-take (n + 1) (elements d),
            )
            (ap kinds_in (take_one_more (elements d) n e standing.1.found));
        counted = rw bytes (counted_long d.dim e axes good behind);
      }

-- no more is kept than there are elements
front_within : (d : Design) → HasGrown d → length (kept_of d) ≤ length (elements d)
front_within d front =
    omega (arith, ap (length {A = ℕ}) front.first, length-take (length (kept_of d)) (offsets_of (elements d)), length-offsets (elements d))

-- before the end of the body stands one more element
module _ (d : Design) (at : ℕ) (left : Left d at) where
  -- the body ends where the elements do
  ends : length d.body.items ≡ length (spelling (elements d))
  ends = sym (ap (length {A = ℕ}) (spelled d left.front.is_open))

  -- so not all offsets are kept
  more_left : at < length d.body.items → length (kept_of d) < length (elements d)
  more_left before = elim (cases_lt (length (kept_of d)) (length (elements d))) [
    | inl within ↦ within
    | inr past ↦
        absurd (omega (arith, left.place, ends, offset_past (elements d) (length (kept_of d)) past))
  ]

  -- for which there is room
  pub room_here : at < length d.body.items → vec_len d.kept < vec_capacity d.kept
  room_here before = omega (arith, more_left before, left.front.room, d.kept.ok.0)

  pub kinds_room_here : at < length d.body.items → 0 < d.kinds.spare
  kinds_room_here before = omega (arith, more_left before, left.front.room)

  -- with its head
  pub head_here : at < length d.body.items → 4 ≤ length (drop at d.body.items)
  head_here before =
      let h = heads_at d left.front.is_open (length (kept_of d)) (more_left before) in
      omega (arith, left.place, h.four, h.inside, length-drop at d.body.items)

  -- and a total, where its type counts its members
  pub counted_here : at < length d.body.items → is_counted (class_of (kind_of (drop at d.body.items))) ≡ true → 40 ≤ length (drop at d.body.items)
  counted_here before = rw left.place (heads_at d left.front.is_open (length (kept_of d)) (more_left before)).counted

  -- and its end
  pub end_here : (size : ℕ) → at < length d.body.items → size ≡ size_said (drop at d.body.items) → at + size ≤ MOST_DESIGN
  end_here size before said =
      let h = heads_at d left.front.is_open (length (kept_of d)) (more_left before) in
      let sized : size ≡ h.size = cc (left.place, h.said) in
      omega (arith, left.place, sized, h.inside, left.front.is_open.few)

  -- whose offset is kept: the place behind it is that of the next
  pub left_more : (e : Design) (size : ℕ) → at < length d.body.items → size ≡ size_said (drop at d.body.items) → SameText d e → (kind : Kind)
      → kind ≡ kind_at (drop at d.body.items) → IsKeptAlso d e at kind
      → Left e (at + size)
  left_more e size before said same kind kind_is also =
      let n : ℕ = length (kept_of d) in
      let known = more_left before in
      let h = heads_at d left.front.is_open n known in
      let es : elements e ≡ elements d = elements_same d e (same_bytes d e same) in
      let long : length (kept_of e) ≡ n + 1 = omega (arith, ap (length {A = ℕ}) also.kept, length-append (kept_of d) (at ∷ [])) in
      let sized : size ≡ h.size = cc (left.place, h.said) in
      let next : at + size ≡ offset_of (elements d) (n + 1) = omega (arith, left.place, sized, h.next) in
      let count = ap (length {A = Element}) es in
      record {
        front = record {
          is_open = open_same d e (same_bytes d e same) left.front.is_open;
          first = rw (long, es) (also.kept ∙ offsets_more (elements d) (kept_of d) at known left.front.first left.place);
          kinds = rw (long, es, h.kind, ← left.place, ← kind_is, ← left.front.kinds) also.kinds;
          room = omega (arith, count, long, known, left.front.room, also.room, also.kinds_room, d.kept.ok.0, e.kept.ok.0);
        };
        place = rw (long, es) next;
      }

  -- at the end of the body no element is left
  none_left : length d.body.items ≤ at → length (elements d) ≤ length (kept_of d)
  none_left past = elim (cases_lt (length (kept_of d)) (length (elements d))) [
    | inl known ↦ (let h = heads_at d left.front.is_open (length (kept_of d)) known in absurd (omega (arith, left.place, h.four, h.inside)))
    | inr all ↦ all
  ]

  -- so the design is whole
  pub left_whole : length d.body.items ≤ at → IsWhole d
  left_whole past = record {
    is_open = left.front.is_open;
    kept = left.front.first ∙ take_all (length (kept_of d)) (offsets_of (elements d)) (omega (arith, none_left past, length-offsets (elements d)));
    kinds = left.front.kinds ∙ take_all (length (kept_of d)) (kinds_in (elements d)) (omega (arith, none_left past, length-kinds_in (elements d)));
  }

-- the element whose offset was kept last, whose head says its size: the walk goes on behind it
module _ (d : Design) (front : HasGrown d) (n last : ℕ) (long : length (kept_of d) ≡ n + 1) (is : last ≡ slice_index_or (kept_of d) n last) where
  last_heads : Heads d n
  last_heads = heads_at d front.is_open n (omega (arith, front_within d front, long))

  last_place : last ≡ offset_of (elements d) n
  last_place =
      cc (
        is,
        get_or_default (kept_of d) n last 0 (omega (arith, long)),
        front.first,
        get_or-take (length (kept_of d)) (offsets_of (elements d)) n 0 (omega (arith, long)),
        get_or-offsets (elements d) n (omega (arith, front_within d front, long)),
      )

  pub last_inside : last ≤ length d.body.items
  last_inside = omega (arith, last_place, last_heads.inside)

  pub last_head : 4 ≤ length (drop last d.body.items)
  last_head = omega (arith, last_place, last_heads.four, last_heads.inside, length-drop last d.body.items)

  module _ (size : ℕ) (said : size ≡ size_said (drop last d.body.items)) where
    sized : size ≡ last_heads.size
    sized = said ∙ ap (λ (k : ℕ). size_said (drop k d.body.items)) last_place ∙ last_heads.said

    pub last_within : last + size ≤ MOST_DESIGN
    last_within = omega (arith, last_place, sized, last_heads.inside, front.is_open.few)

    pub last_end : last + size ≡ offset_of (elements d) (length (kept_of d))
    last_end =
        let next : last + size ≡ offset_of (elements d) (n + 1) = omega (arith, last_place, sized, last_heads.next) in
        next ∙ ap (offset_of (elements d)) (sym long)
