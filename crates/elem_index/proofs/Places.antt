-- What a whole design says of its elements: how many there are, and where each stands in the body.
use Rattle.std.proofs.Common.{◌≡◌, ℕ, zero, suc, ◌+◌, ◌-◌, ◌<◌, ◌≤◌, List, [], ◌∷◌, ◌++◌, length, take, drop, map, get_or, refl, sym, ap, ◌∙◌, subst, arith}
use Rattle.std.proofs.Common.{true, false, length-append, zero-add, inl, inr}
use Rattle.std.specs.Prelude.{slice_get, vec_len, Option, Some, None, option_map, IfSome, IsFalse, Bool, not}
use Rattle.std.specs.List.{AllByRecursion}
use Rattle.std.specs.declared.result.Result.TheVariants.{Ok}
use Rattle.std.proofs.lemmas.List.{append-nil, take_at, drop_at, take-append-drop, drop-drop, take_all, take_more, length-map}
use Rattle.dgn_layout.specs.declared.types.Class.{Class}
use Rattle.dgn_layout.specs.Classes.{class_of}
use Rattle.group_head.specs.Headers.{total_at}
use Rattle.dgn_drawing.specs.Element.{Element}
use Rattle.dgn_drawing.specs.Spelling.{spell, spelling, size_of}
use Rattle.dgn_drawing.specs.WellFormed.{IsDimension, IsWellFormed}
use Rattle.dgn_drawing.specs.Faults.{HasNoFaultIn, HasNoFault}
use Rattle.dgn_drawing.proofs.RecordsRead.{size_said-spell, element_fault-spell}
use Rattle.dgn_drawing.proofs.Rows.{row_at-spell}
use Rattle.dgn_drawing.proofs.BodyEnds.{total_within}
use Rattle.elem_head.specs.Head.{kind_of, size_of as size_said}
use Rattle.dgn_drawing.specs.Nesting.{is_counted}
use Rattle.dgn_drawing.specs.Rows.{row_of, row_at, total_in}
use Rattle.dgn_drawing.specs.Opening.{dimension, Opens}
use Rattle.dgn_drawing.proofs.FirstElements.{dimension_is}
use Rattle.dgn_drawing.proofs.Fronts.{opens_elements, opens_of, body_spelled, four_each}
use Rattle.dgn_drawing.proofs.Offsets.{length-offsets_from, get_or-offsets_from}
use Rattle.dgn_drawing.specs.declared.row.Row.{Row}
use Rattle.std.proofs.lemmas.Option.{slice_get_within, get_or_from_slice_get}
use Rattle.std.proofs.lemmas.Bool.{cases_lt, both_ways}
use Rattle.elem_index.specs.declared.design.Design.{Design}
use Rattle.elem_index.specs.Offsets.{offset_of, offsets_of}
use Rattle.elem_index.specs.Opened.{opening}
use Rattle.elem_index.specs.Design.{elements, kinds_in, IsCounted, IsWhole}
use Rattle.elem_index.specs.Answers.{IsRun, opened_of}
use Rattle.dgn_drawing.specs.declared.limits.TheConstants.{MOST_DESIGN}

-- a run that is split at its end is a whole design
module _ (d : Design) (f : List ℕ) (p : ℕ) (run : IsRun f d.kept.items d.kinds.items p) (few : length f ≤ MOST_DESIGN) (axes : d.dim ≡ dimension f)
    (body : d.body.items ≡ take p f) (tail : d.tail.items ≡ drop p f) where
  both : f ≡ d.body.items ++ d.tail.items
  both = rw (body, tail) (sym (take-append-drop p f))

  opens_both : Opens (d.body.items ++ d.tail.items) d.dim run.elements d.tail.items
  opens_both = rw (body, tail, axes, take-append-drop p f) run.opens

  same_elements : elements d ≡ run.elements
  same_elements = opens_elements d.body.items d.tail.items d.dim run.elements opens_both

  pub run_whole : IsWhole d
  run_whole = record {
    is_open = record {
      few = omega (arith, ap (length {A = ℕ}) both, length-append d.body.items d.tail.items);
      opens = opens_of d.body.items d.tail.items d.dim run.elements opens_both;
    };
    kept = run.offsets ∙ ap offsets_of (sym same_elements);
    kinds = run.bytes ∙ ap kinds_in (sym same_elements);
  }

  pub run_opens : opening f ≡ Ok (opened_of d)
  run_opens = cc (run.found, same_elements)

-- there are as many offsets as elements
pub length-offsets : (es : List Element) → length (offsets_of es) ≡ length es
length-offsets es = length-offsets_from 0 (map size_of es) ∙ length-map es size_of

-- each is where its element begins
pub get_or-offsets : (es : List Element) (n : ℕ) → n < length es → get_or (offsets_of es) n 0 ≡ offset_of es n
get_or-offsets es n within = get_or-offsets_from 0 n es within ∙ zero-add _

-- the dimension of a file that opens is one that a design file can have
pub opened_axes : (f : List ℕ) (dim : ℕ) (es : List Element) (t : List ℕ) → Opens f dim es t → IsDimension dim
opened_axes f dim es t opens = subst IsDimension (sym opens.axes) (dimension_is f)

-- a whole design's elements, offsets and body
module _ (d : Design) (whole : IsWhole d) where
  pub opening_of : Opens (d.body.items ++ d.tail.items) d.dim (elements d) d.tail.items
  opening_of = whole.is_open.opens

  pub axes_of : IsDimension d.dim
  axes_of = opened_axes (d.body.items ++ d.tail.items) d.dim (elements d) d.tail.items opening_of

  pub body_is : spelling (elements d) ≡ d.body.items
  body_is = body_spelled d.body.items d.tail.items d.dim (elements d) opening_of

  pub length-kept : length d.kept.items ≡ length (elements d)
  length-kept = ap (length {A = ℕ}) whole.kept ∙ length-offsets (elements d)

  pub length-elements : vec_len d.kept ≡ length (elements d)
  length-elements = omega (arith, d.kept.ok.0, length-kept)

  -- there are no more elements than bytes
  pub few_elements : length (elements d) ≤ MOST_DESIGN
  few_elements = omega (arith, four_each d.dim axes_of (elements d) opening_of.each, ap (length {A = ℕ}) body_is, whole.is_open.few)

  -- the offset of each element is kept
  pub get_or-kept : (n : ℕ) → n < length (elements d) → get_or d.kept.items n 0 ≡ offset_of (elements d) n
  get_or-kept n within = cc (get_or-offsets (elements d) n within)

-- where element n stands among its spellings
pub record Stands (es : List Element) (n : ℕ) (e : Element) : Type 0 where
  pub found : slice_get es n ≡ Some e
  pub next : offset_of es (n + 1) ≡ offset_of es n + size_of e
  pub bytes : take (size_of e) (drop (offset_of es n) (spelling es)) ≡ spell e
  pub inside : offset_of es n + size_of e ≤ length (spelling es)

pub stands_at : (es : List Element) (n : ℕ) → n < length es → (e : Element) × Stands es n e
stands_at [] n within = absurd (omega arith)
stands_at (x ∷ es) zero within = (
  x,
  record {
    found = refl;
    next = omega (arith, length-append (spell x) []);
    bytes = take_at (spell x) (spelling es) (size_of x) refl;
    inside = omega (arith, length-append (spell x) (spelling es));
  },
)
stands_at (x ∷ es) (suc n) within =
    let below = stands_at es n (omega arith) in
    let stands = below.1 in
    let here = length-append (spell x) (spelling (take n es)) in
    let there = length-append (spell x) (spelling (take (n + 1) es)) in
    let all = length-append (spell x) (spelling es) in
    let behind : drop (offset_of (x ∷ es) (suc n)) (spelling (x ∷ es)) ≡ drop (offset_of es n) (spelling es) =
    ap (λ (k : ℕ). drop k (spelling (x ∷ es))) here ∙ sym (drop-drop (offset_of es n) (size_of x) (spelling (x ∷ es)))
    ∙ ap (drop (offset_of es n)) (drop_at (spell x) (spelling es) (size_of x) refl) in
    let next = stands.next in
    let inside = stands.inside in
    let more : offset_of (x ∷ es) (suc n + 1) ≡ length (spelling (x ∷ take (n + 1) es)) = let e : suc n + 1 ≡ suc (n + 1) = omega arith in
    ap (offset_of (x ∷ es)) e in (
      below.0,
      record {
        found = stands.found;
        next = omega arith;
        bytes = ap (take (size_of below.0)) behind ∙ stands.bytes;
        inside = omega arith;
      },
    )

-- behind all elements the body ends
pub offset_past : (es : List Element) (n : ℕ) → length es ≤ n → offset_of es n ≡ length (spelling es)
offset_past es n past = ap (λ (l : List Element). length (spelling l)) (take_all n es past)

-- each element of a whole design is sound, and its row is read from its bytes
pub each_at : (P : Element → Type 0) (es : List Element) (n : ℕ) (e : Element) → AllByRecursion P es → slice_get es n ≡ Some e → P e
each_at P [] n e each found = absurd (let f = found in cc)
each_at P (x ∷ es) zero e each found = let same : x ≡ e = cc in subst P same each.0
each_at P (x ∷ es) (suc n) e each found = each_at P es n e each.1 found

pub sound_in : (dim : ℕ) (e : Element) → IsDimension dim → IsWellFormed dim e → HasNoFaultIn dim (spell e)
sound_in dim e axes good = record {
  size = sym (size_said-spell dim e axes good []) ∙ ap size_said (append-nil (spell e));
  fault = element_fault-spell dim e axes good;
}

pub sound_spell : (dim : ℕ) (e : Element) → IsDimension dim → IsWellFormed dim e → HasNoFault (spell e)
sound_spell dim e (inl two) good = inl (subst (λ (n : ℕ). HasNoFaultIn n (spell e)) two (sound_in dim e (inl two) good))
sound_spell dim e (inr three) good = inr (subst (λ (n : ℕ). HasNoFaultIn n (spell e)) three (sound_in dim e (inr three) good))

-- the bytes of an element of a whole design, between its offset and the next
module _ (d : Design) (whole : IsWhole d) (n : ℕ) (known : n < length (elements d)) (start end : ℕ) (begins : start ≡ offset_of (elements d) n)
    (ends : end ≡ offset_of (elements d) (n + 1)) where
  standing : (e : Element) × Stands (elements d) n e
  standing = stands_at (elements d) n known

  pub in_order : start ≤ end
  in_order = omega (arith, standing.1.next)

  pub inside_body : end ≤ length d.body.items
  inside_body = omega (arith, standing.1.next, standing.1.inside, ap (length {A = ℕ}) (body_is d whole))

  size_is : end - start ≡ size_of standing.0
  size_is = omega (arith, standing.1.next)

  pub piece_is : (b : List ℕ) → b ≡ d.body.items → Some (take (end - start) (drop start b)) ≡ option_map spell (slice_get (elements d) n)
  piece_is b same = cc (size_is, body_is d whole, standing.1.bytes, standing.1.found)

-- the last element ends where the body does
pub last_ends : (d : Design) → IsWhole d → (n : ℕ) → length (elements d) ≤ n + 1 → vec_len d.body ≡ offset_of (elements d) (n + 1)
last_ends d whole n last = omega (arith, d.body.ok.0, ap (length {A = ℕ}) (body_is d whole), offset_past (elements d) (n + 1) last)

-- a number that isn't past all elements is one of an element
pub known_from : (n m : ℕ) → (m ≤ n → true ≡ false) → n < m
known_from n m never = elim (cases_lt n m) [ inl within ↦ within | inr past ↦ absurd (both_ways true (never past) refl) ]

-- the element whose spelling is given is the one there
taken : (r : Option Element) (b : List ℕ) → Some b ≡ option_map spell r → (e : Element) × (r ≡ Some e) × (b ≡ spell e)
taken None b is = absurd (let f = is in cc)
taken (Some e) b is = (e, refl, cc)

pub take_one_more : (es : List Element) (n : ℕ) (e : Element) → slice_get es n ≡ Some e → take (n + 1) es ≡ take n es ++ e ∷ []
take_one_more es n e found = cc (take_more es n e (slice_get_within es n e found), get_or_from_slice_get es n e e found)

pub is_false : (b : Bool) → not b ≡ true → IsFalse b
is_false false is = refl
is_false true is = absurd (both_ways false refl is)

-- a class that counts members is the one of counted headers
pub counted_class : (c : Class) → is_counted c ≡ true → c ≡ Class.Counted
counted_class Class.Silent is = absurd (cc)
counted_class Class.Vertices is = absurd (cc)
counted_class Class.Words is = absurd (cc)
counted_class Class.Counted is = refl
counted_class Class.Run is = absurd (cc)
counted_class Class.Floating is = absurd (cc)
counted_class Class.Boxed is = absurd (cc)

-- the bytes of an element of a whole design are sound, and its row is read from them
module _ (d : Design) (whole : IsWhole d) (n : ℕ) (b : List ℕ) (is : Some b ≡ option_map spell (slice_get (elements d) n)) where
  pub this : (e : Element) × (slice_get (elements d) n ≡ Some e) × (b ≡ spell e)
  this = taken (slice_get (elements d) n) b is

  good : IsWellFormed d.dim this.0
  good = each_at (IsWellFormed d.dim) (elements d) n this.0 (opening_of d whole).each this.1

  pub sound_here : HasNoFault b
  sound_here = subst HasNoFault (sym this.2) (sound_spell d.dim this.0 (axes_of d whole) good)

  pub row_read : row_at b ≡ row_of this.0
  row_read = ap row_at this.2 ∙ row_at-spell d.dim this.0 (axes_of d whole) good

  -- where it counts its members, they hold its total
  module _ (counted : IfSome (slice_get (elements d) n) IsCounted) where
    class_here : class_of (kind_of b) ≡ Class.Counted
    class_here =
        let here : IsCounted this.0 = subst (λ (r : Option Element). IfSome r IsCounted) this.1 counted in
        counted_class (class_of (kind_of b)) (ap (λ (r : Row). is_counted (class_of r.kind)) row_read ∙ here)

    pub total_inside : 40 ≤ length b
    total_inside = total_within b sound_here class_here

    pub total_read : (total : ℕ) → total ≡ total_at b
        → option_map (λ (e : Element). (row_of e).total) (slice_get (elements d) n) ≡ Some total
    total_read total read =
        let same : (row_at b).total ≡ total_at b = ap (λ (c : Class). total_in c b) class_here in
        ap (option_map (λ (e : Element). (row_of e).total)) this.1
        ∙ ap Some (sym (ap (λ (r : Row). r.total) row_read) ∙ same ∙ sym read)
