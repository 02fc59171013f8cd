-- A list of bytes and totals, by the bytes and the totals of those that count their members.
use Rattle.std.proofs.Common.{◌≡◌, ℕ, suc, ◌+◌, ◌≤◌, ◌<◌, Bool, true, false, List, [], ◌∷◌, ◌++◌, length, take, drop, map, get_or, refl, sym, ap, ◌∙◌, arith}
use Rattle.std.proofs.Common.{cond}
use Rattle.std.proofs.lemmas.List.{append-nil, take-append-drop, length-take, length-take-le, take_more, take_at}
use Rattle.dgn_drawing.specs.Spelling.{bit}
use Rattle.elem_index.specs.Kinds.{Kind, has_total, total_count, kinds_by, totals_kept}

-- there are as many as bytes
pub length-kinds_by : (bytes totals : List ℕ) → length (kinds_by bytes totals) ≡ length bytes
length-kinds_by [] totals = refl
length-kinds_by (byte ∷ bytes) totals = ap suc (length-kinds_by bytes (drop (bit 1 (has_total byte)) totals))

-- of which these are the bytes
pub bytes-kinds_by : (bytes totals : List ℕ) → map (λ (kind : Kind). kind.byte) (kinds_by bytes totals) ≡ bytes
bytes-kinds_by [] totals = refl
bytes-kinds_by (byte ∷ bytes) totals = ap (λ (l : List ℕ). byte ∷ l) (bytes-kinds_by bytes (drop (bit 1 (has_total byte)) totals))

pub total_count-append : (xs ys : List ℕ) → total_count (xs ++ ys) ≡ total_count xs + total_count ys
total_count-append [] ys = omega arith
total_count-append (x ∷ xs) ys = omega (arith, total_count-append xs ys)

-- how many say such a type with one more
pub count-more : (bytes : List ℕ) (byte : ℕ) (t : Bool) → has_total byte ≡ t → total_count (bytes ++ byte ∷ []) ≡ total_count bytes + bit 1 t
count-more bytes byte t is = omega (arith, total_count-append bytes (byte ∷ []), ap (bit 1) is)

total_count-le : (bytes : List ℕ) → total_count bytes ≤ length bytes
total_count-le [] = omega arith
total_count-le (byte ∷ bytes) = omega (arith, total_count-le bytes, at_most_one (has_total byte))
  where
    at_most_one : (t : Bool) → bit 1 t ≤ 1
    at_most_one true = omega arith
    at_most_one false = omega arith

-- how many of the first bytes say such a type, and of those up to the next one
pub count-first : (bytes : List ℕ) (i : ℕ) → total_count (take i bytes) ≤ i
count-first bytes i = omega (arith, total_count-le (take i bytes), length-take i bytes)

pub count-next : (bytes : List ℕ) (i : ℕ) (t : Bool) → i < length bytes → has_total (get_or bytes i 0) ≡ t
    → total_count (take (i + 1) bytes) ≡ total_count (take i bytes) + bit 1 t
count-next bytes i t within is = ap total_count (take_more bytes i 0 within) ∙ count-more (take i bytes) (get_or bytes i 0) t is

-- where one is first that counts its members or not, its total is the first of the totals or there is none
module _ (count : ℕ) where
  first_left : (t : Bool) (totals : List ℕ) → length totals ≡ bit 1 t + count → length (drop (bit 1 t) totals) ≡ count
  first_left true [] long = absurd (omega (arith, long))
  first_left true (total ∷ totals) long = omega (arith, long)
  first_left false totals long = omega (arith, long)

  first_total : (t : Bool) (totals more : List ℕ) → length totals ≡ bit 1 t + count
      → cond t (get_or (totals ++ more) 0 0) 0 ≡ cond t (get_or totals 0 0) 0
  first_total true [] more long = absurd (omega (arith, long))
  first_total true (total ∷ totals) more long = refl
  first_total false totals more long = refl

  first_behind : (t : Bool) (totals more : List ℕ) → length totals ≡ bit 1 t + count
      → drop (bit 1 t) (totals ++ more) ≡ drop (bit 1 t) totals ++ more
  first_behind true [] more long = absurd (omega (arith, long))
  first_behind true (total ∷ totals) more long = refl
  first_behind false totals more long = refl

  first_kept : (t : Bool) (totals rest : List ℕ) → length totals ≡ bit 1 t + count → rest ≡ drop (bit 1 t) totals
      → cond t (cond t (get_or totals 0 0) 0 ∷ rest) rest ≡ totals
  first_kept true [] rest long is = absurd (omega (arith, long))
  first_kept true (total ∷ totals) rest long is = ap (λ (l : List ℕ). total ∷ l) is
  first_kept false totals rest long is = is

-- and these the totals, where there are as many as count their members
pub totals-kinds_by : (bytes totals : List ℕ) → length totals ≡ total_count bytes → totals_kept (kinds_by bytes totals) ≡ totals
totals-kinds_by [] [] long = refl
totals-kinds_by [] (total ∷ totals) long = absurd (omega (arith, long))
totals-kinds_by (byte ∷ bytes) totals long =
    let t : Bool = has_total byte in
    first_kept (total_count bytes) t totals (totals_kept (kinds_by bytes (drop (bit 1 t) totals))) long
    (totals-kinds_by bytes (drop (bit 1 t) totals) (first_left (total_count bytes) t totals long))

-- two lists, one behind the other
pub kinds_by-append : (xs ys totals more : List ℕ) → length totals ≡ total_count xs
    → kinds_by (xs ++ ys) (totals ++ more) ≡ kinds_by xs totals ++ kinds_by ys more
kinds_by-append [] ys [] more long = refl
kinds_by-append [] ys (total ∷ totals) more long = absurd (omega (arith, long))
kinds_by-append (x ∷ xs) ys totals more long =
    let t : Bool = has_total x in
    rw (
      first_total (total_count xs) t totals more long,
      first_behind (total_count xs) t totals more long,
      kinds_by-append xs ys (drop (bit 1 t) totals) more (first_left (total_count xs) t totals long),
    )

-- one more that counts no members
pub kinds_by-more : (bytes totals : List ℕ) (byte : ℕ) → length totals ≡ total_count bytes → has_total byte ≡ false
    → kinds_by (bytes ++ byte ∷ []) totals ≡ kinds_by bytes totals ++ record { byte = byte; total = 0 } ∷ []
kinds_by-more bytes totals byte long none =
    ap (kinds_by (bytes ++ byte ∷ [])) (sym (append-nil totals)) ∙ kinds_by-append bytes (byte ∷ []) totals [] long
    ∙ ap (λ (t : Bool). kinds_by bytes totals ++ record { byte = byte; total = cond t 0 0 } ∷ []) none

-- and one that does
pub kinds_by-counted : (bytes totals : List ℕ) (byte total : ℕ) → length totals ≡ total_count bytes → has_total byte ≡ true
    → kinds_by (bytes ++ byte ∷ []) (totals ++ total ∷ []) ≡ kinds_by bytes totals ++ record { byte = byte; total = total } ∷ []
kinds_by-counted bytes totals byte total long some =
    kinds_by-append bytes (byte ∷ []) totals (total ∷ []) long
    ∙ ap (λ (t : Bool). kinds_by bytes totals ++ record { byte = byte; total = cond t total 0 } ∷ []) some

-- the first ones, where as many totals are cut off as bytes cut off count their members
module _ (bytes totals : List ℕ) (count : ℕ) (long : length totals ≡ total_count bytes) (within : count ≤ length bytes) where
  pub count_first : total_count (take count bytes) + total_count (drop count bytes) ≡ length totals
  count_first = sym (total_count-append (take count bytes) (drop count bytes)) ∙ ap total_count (take-append-drop count bytes) ∙ sym long

  module _ (left : ℕ) (is : left + total_count (drop count bytes) ≡ length totals) where
    pub length-first_totals : length (take left totals) ≡ total_count (take count bytes)
    length-first_totals = omega (arith, length-take-le left totals (omega (arith, is)), is, count_first)

    pub kinds_by-take : kinds_by (take count bytes) (take left totals) ≡ take count (kinds_by bytes totals)
    kinds_by-take =
        let front : List Kind = kinds_by (take count bytes) (take left totals) in
        let behind : List Kind = kinds_by (drop count bytes) (drop left totals) in
        let many : length front ≡ count = length-kinds_by (take count bytes) (take left totals) ∙ length-take-le count bytes within in
        let all : kinds_by bytes totals ≡ front ++ behind =
        ap (λ (l : List ℕ). kinds_by l totals) (sym (take-append-drop count bytes))
        ∙ ap (kinds_by (take count bytes ++ drop count bytes)) (sym (take-append-drop left totals))
        ∙ kinds_by-append (take count bytes) (drop count bytes) (take left totals) (drop left totals) length-first_totals in
        sym (take_at front behind count many) ∙ ap (take count) (sym all)
