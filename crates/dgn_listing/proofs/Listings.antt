-- What the listings say of an element is what its bytes and its place say.
use Rattle.std.proofs.Common.{ℕ, ◌≡◌, ◌+◌, ◌≤◌, List, [], ◌∷◌, ◌++◌, length, map, take, nat_eq, cond, refl, sym, ap, ◌∙◌, subst, arith, length-take}
use Rattle.std.specs.Prelude.{Option, Some, None, Bool, option_map, slice_get}
use Rattle.std.specs.Option.{unwrap_or}
use Rattle.std.specs.Map.{lookup}
use Rattle.std.proofs.lemmas.List.{map-append, length-map, take_more}
use Rattle.std.proofs.lemmas.Option.{get_or_from_slice_get, slice_get_within}
use Rattle.std.proofs.lemmas.List.Sums.{sum_by-append}
use Rattle.indexmap.specs.IndexMap.{insert_entry}
use Rattle.elem_head.specs.declared.types.Head.{Head}
use Rattle.elem_head.specs.Head.{head_of}
use Rattle.dgn_drawing.specs.Element.{Element}
use Rattle.dgn_drawing.specs.Spelling.{spell}
use Rattle.elem_index.specs.declared.design.Design.{Design}
use Rattle.elem_index.specs.Offsets.{offset_of}
use Rattle.elem_index.specs.Design.{elements, IsWhole}
use Rattle.dgn_listing.specs.declared.listed.Listed.{Listed}
use Rattle.dgn_listing.specs.Counts.{times, counts}
use Rattle.dgn_listing.specs.RefTexts.{is_ref, ref_count}
use Rattle.dgn_listing.specs.ElementTexts.{listed_of, listed_at}
use Rattle.dgn_listing.proofs.CountsGrow.{counts-more, lookup-counts, times-few}
use Rattle.dgn_listing.proofs.LineFields.{HeadIs, taken, head_is}

-- the elements before one that is found, and that one
take_found : {X : Type 0} (xs : List X) (i : ℕ) (x : X) → slice_get xs i ≡ Some x → take (i + 1) xs ≡ take i xs ++ x ∷ []
take_found {X} xs i x found = take_more xs i x (slice_get_within xs i x found) ∙ ap (λ (y : X). take i xs ++ y ∷ []) (get_or_from_slice_get xs i x x found)

-- what is read of the bytes
abbrev pub read_of : ℕ → ℕ → ℕ → ℕ → ℕ → Bool → Bool → Listed
read_of n at size kind level cbit deleted = record { number = n; offset = at; size = size; kind = kind; level = level; cbit = cbit; deleted = deleted }

listed_from : (n at : ℕ) (e : Element) (b : List ℕ) (head : Head) → HeadIs e head → b ≡ spell e
    → read_of n at (length b) head.kind head.level head.cbit head.deleted ≡ listed_of n at e
listed_from n at e b head is spelled =
    let kind_is = is.kind in
    let level_is = is.level in
    let cbit_is = is.cbit in
    let deleted_is = is.deleted in
    let size_is : length b ≡ length (spell e) = ap (length {A = ℕ}) spelled in
    cc

pub listed_is : (d : Design) → IsWhole d → (n at : ℕ) (b : List ℕ) (head : Head) → Some b ≡ option_map spell (slice_get (elements d) n)
    → at ≡ offset_of (elements d) n → head ≡ head_of b
    → Some (read_of n at (length b) head.kind head.level head.cbit head.deleted) ≡ listed_at (elements d) n
listed_is d whole n at b head is place read =
    let this = taken (slice_get (elements d) n) b is in
    let here : HeadIs this.0 head = subst (HeadIs this.0) (sym (read ∙ ap head_of this.2)) (head_is d whole n this.0 this.1) in
    ap (λ (l : Listed). Some l) (listed_from n at this.0 b head here this.2)
    ∙ (ap (λ (p : ℕ). Some (listed_of n p this.0)) place ∙ ap (option_map (listed_of n (offset_of (elements d) n))) (sym this.1))

-- which element is said of
pub record IsListed (es : List Element) (n : ℕ) (l : Listed) : Type 0 where
  pub element : Element
  pub found : slice_get es n ≡ Some element
  pub level : l.level ≡ element.level
  pub kind : l.kind ≡ element.kind

listed_in : (es : List Element) (n at : ℕ) (l : Listed) (o : Option Element) → slice_get es n ≡ o → Some l ≡ option_map (listed_of n at) o → IsListed es n l
listed_in es n at l None found is = absurd (let f = is in cc)
listed_in es n at l (Some e) found is =
    let same : l ≡ listed_of n at e = cc in
    record { element = e; found = found; level = ap (λ (x : Listed). x.level) same; kind = ap (λ (x : Listed). x.kind) same }

pub listed_found : (es : List Element) (n : ℕ) (l : Listed) → Some l ≡ listed_at es n → IsListed es n l
listed_found es n l is = listed_in es n (offset_of es n) l (slice_get es n) refl is

-- one element more is counted
pub counted_more : (f : Element → ℕ) (es : List Element) (n : ℕ) (e : Element) (k : ℕ) (entries : List (ℕ × ℕ)) → slice_get es n ≡ Some e → k ≡ f e
    → entries ≡ counts (map f (take n es))
    → insert_entry nat_eq entries k (unwrap_or (lookup (nat_eq k) entries) 0 + 1) ≡ counts (map f (take (n + 1) es))
counted_more f es n e k entries found is before =
    let all : map f (take (n + 1) es) ≡ map f (take n es) ++ k ∷ [] =
    ap (map f) (take_found es n e found) ∙ (map-append f (take n es) (e ∷ []) ∙ ap (λ (j : ℕ). map f (take n es) ++ j ∷ []) (sym is))
    in
    ap (λ (es : List (ℕ × ℕ)). insert_entry nat_eq es k (unwrap_or (lookup (nat_eq k) es) 0 + 1)) before
    ∙ (ap (λ (m : ℕ). insert_entry nat_eq (counts (map f (take n es))) k (m + 1)) (lookup-counts k (map f (take n es)))
    ∙ (sym (counts-more (map f (take n es)) k) ∙ ap counts (sym all)))

pub counted_few : (f : Element → ℕ) (es : List Element) (n k : ℕ) (entries : List (ℕ × ℕ)) → entries ≡ counts (map f (take n es))
    → unwrap_or (lookup (nat_eq k) entries) 0 ≤ n
counted_few f es n k entries before =
    let times_is : unwrap_or (lookup (nat_eq k) entries) 0 ≡ times k (map f (take n es)) =
    ap (λ (es : List (ℕ × ℕ)). unwrap_or (lookup (nat_eq k) es) 0) before ∙ lookup-counts k (map f (take n es))
    in
    omega (arith, times-few k (map f (take n es)), length-map (take n es) f, length-take n es)

-- one element more is counted among those that may attach a reference file, where it is such a one
pub ref_more : (es : List Element) (n : ℕ) (l : Listed) → Some l ≡ listed_at es n
    → ref_count (take (n + 1) es) ≡ ref_count (take n es) + (0 + cond (is_ref l.kind l.level) 1 0)
ref_more es n l is =
    let here = listed_found es n l is in
    let one : cond (is_ref here.element.kind here.element.level) 1 0 ≡ cond (is_ref l.kind l.level) 1 0 =
    sym (ap (λ (k : ℕ). cond (is_ref k l.level) 1 0) here.kind ∙ ap (λ (v : ℕ). cond (is_ref here.element.kind v) 1 0) here.level)
    in
    ap ref_count (take_found es n here.element here.found)
    ∙ (sum_by-append (λ (e : Element). cond (is_ref e.kind e.level) 1 0) (take n es) (here.element ∷ []) ∙ ap (λ (m : ℕ). ref_count (take n es) + (0 + m)) one)
