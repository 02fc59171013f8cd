-- Headers put right. Some programs write headers whose total leaves out their own attribute data, and complex elements that
-- stand by themselves with bit C. A list of elements is gone through as the nesting goes through it; a header whose
-- members are found only with its attribute data counted gets that total, and one that belongs to no header before it
-- loses bit C. A locked header stays as it is.
use Rattle.std.specs.Prelude.{ℕ, zero, suc, ◌≡◌, ◌+◌, ◌*◌, ◌/◌, ◌==◌, ◌&&◌, ◌||◌, nat_lt, nat_le, int_le, not, Bool, true, false, if◌then◌else◌}
use Rattle.std.specs.Prelude.{Option, Some, None, option_map, List, [], ◌∷◌, ◌++◌, length, take, drop}
use Rattle.range_code.specs.declared.Box3.{Box3}
use Rattle.range_code.specs.Ranges.{on_axis, join_of}
use Rattle.dgn_layout.specs.Classes.{class_of, is_among}
use Rattle.dgn_layout.specs.declared.TheConstants.{SHARED_CELL}
use Rattle.patch_bytes.specs.Puts.{Put}
use Rattle.dgn_drawing.specs.Element.{Parts, Node, Cell, Header, Body, Silent, Shown, Element}
use Rattle.dgn_drawing.specs.Spelling.{first_byte, size_of}
use Rattle.dgn_drawing.specs.Changes.{range_in}
use Rattle.dgn_drawing.specs.Rows.{row_of, total_of}
use Rattle.dgn_words.specs.Numbers.{word_bytes}
use Rattle.dgn_drawing.specs.Nesting.{is_counted, member_count, bytes_of, front_count, has_bit, is_spline_part}
use Rattle.dgn_revision.specs.Revising.{attribute_data_in}
use Rattle.edit_ops.specs.Causes.{is_locked}
use Rattle.edit_ops.specs.Fields.{Field}
use Rattle.dgn_mend.specs.declared.change.Change.{Change}

-- the body of a header with another total
abbrev pub parts_totalled : ℕ → Parts → Parts
parts_totalled total (Node old run origin) = Node total run origin
parts_totalled total (Cell old name run origin) = Cell total name run origin
parts_totalled total (Header old number) = Header total number
parts_totalled total other = other

abbrev pub body_totalled : ℕ → Body → Body
body_totalled total (Silent rest) = Silent rest
body_totalled total (Shown display parts rest) = Shown display (parts_totalled total parts) rest

-- a header with this total, and without bit C where it is freed; a locked one stays
abbrev pub put_right : Bool → ℕ → Element → Element
put_right frees total h =
    if is_locked h.body then h else record h { cbit = h.cbit && not frees; body = body_totalled total h.body }

-- how many words of attribute data a header has of its own
abbrev pub own_words : Element → ℕ
own_words h = length (attribute_data_in h h.body) / 2

-- how many of the elements behind a header are its members with this total, if it fits any number of them
abbrev pub fits : Element → ℕ → List Element → Option ℕ
fits h total r = member_count row_of (record (row_of h) { total = total }) r

-- the first of two answers that there is
abbrev pub or_else : {A : Type 0} → Option A → Option A → Option A
or_else None other = other
or_else (Some a) other = Some a

-- a total and how many members it asks for
abbrev pub with_total : ℕ → Option ℕ → Option (ℕ × ℕ)
with_total total members = option_map (λ (k : ℕ). (total, k)) members

-- the total that a header is to have and its members: by its own total, or by that with its attribute data counted
abbrev pub found : Element → List Element → Option (ℕ × ℕ)
found h r =
    or_else (with_total (total_of h.body) (fits h (total_of h.body) r))
    (if nat_lt 0 (own_words h) && nat_lt (total_of h.body + own_words h) 65536
    then with_total (total_of h.body + own_words h) (fits h (total_of h.body + own_words h) r) else None)

-- the members of a header whose total is too great for its word: the least number of times 65536 from j on that is lost,
-- of so many, without its attribute data or else with them
abbrev pub lost_from : ℕ → Element → List Element → ℕ → Option ℕ
lost_from zero h r j = None
lost_from (suc count) h r j =
    or_else (fits h (65536 * j + total_of h.body) r)
    (or_else (fits h (65536 * j + total_of h.body + own_words h) r) (lost_from count h r (suc j)))

abbrev pub overflowing : Element → List Element → Option ℕ
overflowing h r = lost_from (bytes_of row_of (h ∷ r)) h r 1

-- the range of a header, and the range that joins those of several
abbrev pub body_range : Body → Box3
body_range (Silent rest) = record { lo = []; hi = [] }
body_range (Shown display parts rest) = range_in display

abbrev pub joined_range : Element → List Element → Box3
joined_range h [] = body_range h.body
joined_range h (w ∷ ws) = join_of (body_range h.body) (joined_range w ws)

-- whether one range lies in another, on the first axes
abbrev pub lies_in : ℕ → Box3 → Box3 → Bool
lies_in zero a b = true
lies_in (suc n) a b = (int_le (on_axis b.lo n) (on_axis a.lo n) && int_le (on_axis a.hi n) (on_axis b.hi n)) && lies_in n a b

-- whether a header can belong to one of those before it that wait for members
abbrev pub is_claimed : ℕ → List Element → Element → Bool
is_claimed dim [] h = false
is_claimed dim (w ∷ ws) h = not (is_among h.kind (12 ∷ 14 ∷ 18 ∷ 19 ∷ [])) || lies_in dim (body_range h.body) (joined_range w ws)

-- what becomes of a first element; how many of the elements behind it stand below it, and whether these are gone through
-- or stay; and which headers wait from there on
pub record Taken : Type 0 where
  pub head : Element
  pub below : ℕ
  pub goes : Bool
  pub waiting : List Element

abbrev pub passed : Element → ℕ → Bool → List Element → Taken
passed h below goes waiting = record { head = h; below = below; goes = goes; waiting = waiting }

-- the headers that still wait at an element: none where a tree begins
abbrev pub still_waiting : Bool → Element → List Element → List Element
still_waiting top h waiting = if top && not h.cbit then [] else waiting

-- whether a header is to lose bit C
abbrev pub frees : ℕ → Bool → List Element → Element → Bool
frees dim top waiting h = top && (h.cbit && not (is_claimed dim waiting h))

-- a counted header, by what is found behind it
abbrev pub counted_taken : ℕ → Bool → List Element → Element → Option (ℕ × ℕ) → Option ℕ → Taken
counted_taken dim top waiting h (Some members) lost =
    passed (put_right (frees dim top waiting h) members.0 h) members.1 true (if frees dim top waiting h then [] else waiting)
counted_taken dim top waiting h None (Some k) = passed h k false waiting
counted_taken dim top waiting h None None = passed h 0 false (if top then waiting ++ (h ∷ []) else waiting)

-- any first element, with the headers that still wait at it
abbrev pub taken : ℕ → Bool → List Element → Element → List Element → Taken
taken dim top waiting h r =
    if is_counted (class_of h.kind) then counted_taken dim top waiting h (found h r) (overflowing h r)
    else if is_among h.kind (24 ∷ 27 ∷ []) then passed h (front_count (λ e. is_spline_part (row_of e)) r) false waiting
    else if h.kind == SHARED_CELL && top then passed h (front_count (λ e. has_bit (row_of e)) r) true waiting
    else passed h 0 false waiting

-- the elements of a list with its headers put right, of which at most n are gone through. The list is at the top, or stands
-- below a header; these headers wait for members
unfoldable pub mended_within : ℕ → ℕ → Bool → List Element → List Element → List Element
mended_within zero dim top waiting l = l
mended_within (suc n) dim top waiting [] = []
mended_within (suc n) dim top waiting (h ∷ r) =
    (taken dim top (still_waiting top h waiting) h r).head
    ∷ ((if (taken dim top (still_waiting top h waiting) h r).goes
    then mended_within n dim false [] (take (taken dim top (still_waiting top h waiting) h r).below r)
    else take (taken dim top (still_waiting top h waiting) h r).below r)
    ++ mended_within n dim top (taken dim top (still_waiting top h waiting) h r).waiting (drop (taken dim top (still_waiting top h waiting) h r).below r))

abbrev pub mended : ℕ → Bool → List Element → List Element → List Element
mended dim top waiting l = mended_within (length l) dim top waiting l

-- the elements of a file after mending: the first stays
abbrev pub mend : ℕ → List Element → List Element
mend dim [] = []
mend dim (e ∷ es) = e ∷ mended dim true [] es

-- whether an element has changed: its total, or its bit C
abbrev pub has_changed : Element → Element → Bool
has_changed e m = not (total_of e.body == total_of m.body) || (e.cbit && not m.cbit)

-- the headers that change, where elements numbered from n on become others
abbrev pub changes_from : ℕ → List Element → List Element → List Change
changes_from n (e ∷ es) (m ∷ ms) =
    if has_changed e m
    then record { number = n; old = total_of e.body; new = total_of m.body; freed = e.cbit && not m.cbit } ∷ changes_from (n + 1) es ms
    else changes_from (n + 1) es ms
changes_from n es ms = []

abbrev pub changes : ℕ → List Element → List Change
changes dim es = changes_from 0 es (mend dim es)

-- what is put into a header that changes and stands at a place: byte 0, and its total at bytes 36 and 37
abbrev pub header_puts : ℕ → Element → List Put
header_puts place m = record { at = place; bytes = first_byte m ∷ [] } ∷ record { at = place + 36; bytes = word_bytes (total_of m.body) } ∷ []

-- the fields that these are laid over
abbrev pub header_fields : ℕ → List Field
header_fields place = record { at = place; len = 1 } ∷ record { at = place + 36; len = 2 } ∷ []

abbrev pub puts_from : ℕ → List Element → List Element → List Put
puts_from place (e ∷ es) (m ∷ ms) =
    if has_changed e m then header_puts place m ++ puts_from (place + size_of e) es ms else puts_from (place + size_of e) es ms
puts_from place es ms = []

abbrev pub mend_puts : ℕ → List Element → List Put
mend_puts dim es = puts_from 0 es (mend dim es)

abbrev pub fields_from : ℕ → List Element → List Element → List Field
fields_from place (e ∷ es) (m ∷ ms) =
    if has_changed e m then header_fields place ++ fields_from (place + size_of e) es ms else fields_from (place + size_of e) es ms
fields_from place es ms = []

abbrev pub mend_fields : ℕ → List Element → List Field
mend_fields dim es = fields_from 0 es (mend dim es)
