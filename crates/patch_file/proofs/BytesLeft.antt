-- Where reading stops there are no more bytes left than the file has.
use Rattle.std.proofs.Common.{◌≡◌, ℕ, zero, suc, ◌+◌, ◌≤◌, Bool, true, false, cond, ltb, eqb, List, [], ◌∷◌, length, take, drop, Result, Ok, Err, subst}
use Rattle.std.proofs.Common.{arith, length-drop}
use Rattle.std.specs.List.{starts_with}
use Rattle.std.specs.Int.{w32, from_le_bytes}
use Rattle.patch_file.specs.Spelling.{Packed, mark}
use Rattle.patch_file.specs.Reading.{◌>>=◌, bytes_at, number_at, byte_at, head_at, keeps_rules, exchange_at, field_at, fields_at, entry_at, entries_at}
use Rattle.patch_file.specs.Reading.{patch_of}

-- a reader leaves at most n bytes, or stops with at most so many left
abbrev pub Stays : {A : Type 0} → ℕ → Result (A × List ℕ) ℕ → Type 0
Stays n (Ok x) = length x.1 ≤ n
Stays n (Err left) = left ≤ n

then_stays : {A B : Type 0} (n : ℕ) (r : Result (A × List ℕ) ℕ) (f : (A × List ℕ) → Result (B × List ℕ) ℕ) → Stays n r
    → ((x : A × List ℕ) → length x.1 ≤ n → Stays n (f x)) → Stays n (r >>= f)
then_stays n (Ok x) f s more = more x s
then_stays n (Err left) f s more = s

test_stays : {A : Type 0} (n : ℕ) (b : Bool) (left : ℕ) (r : Result (A × List ℕ) ℕ) → left ≤ n → Stays n r → Stays n (cond b (Err left) r)
test_stays n true left r le s = le
test_stays n false left r le s = s

pass_stays : {A : Type 0} (n : ℕ) (b : Bool) (left : ℕ) (r : Result (A × List ℕ) ℕ) → left ≤ n → Stays n r → Stays n (cond b r (Err left))
pass_stays n true left r le s = s
pass_stays n false left r le s = le

bytes_stay : (n left k : ℕ) (bytes : List ℕ) → length bytes ≤ n → left ≤ n → Stays n (bytes_at left k bytes)
bytes_stay n left k bytes le l = test_stays n (ltb (length bytes) k) left (Ok (take k bytes, drop k bytes)) l (omega (arith, length-drop k bytes))

number_stays : (n left : ℕ) (bytes : List ℕ) → length bytes ≤ n → left ≤ n → Stays n (number_at left bytes)
number_stays n left bytes le l =
    test_stays n (ltb (length bytes) 4) left (Ok (from_le_bytes w32 (take 4 bytes), drop 4 bytes)) l (omega (arith, length-drop 4 bytes))

byte_stays : (n left : ℕ) (bytes : List ℕ) → length bytes ≤ n → left ≤ n → Stays n (byte_at left bytes)
byte_stays n left [] le l = l
byte_stays n left (b ∷ rest) le l = omega arith

head_stays : (n : ℕ) (bytes : List ℕ) → length bytes ≤ n → Stays n (head_at bytes)
unfolding head_at
head_stays n bytes le =
    let left : ℕ = length bytes in
    then_stays n (number_at left bytes)
    (λ len. number_at left len.1 >>= λ fields. number_at left fields.1 >>= λ append. Ok ((len.0, fields.0, append.0), append.1))
    (number_stays n left bytes le le)
    (λ len l1. then_stays n (number_at left len.1) (λ fields. number_at left fields.1 >>= λ append. Ok ((len.0, fields.0, append.0), append.1))
    (number_stays n left len.1 l1 le)
    (λ fields l2. then_stays n (number_at left fields.1) (λ append. Ok ((len.0, fields.0, append.0), append.1)) (number_stays n left fields.1 l2 le)
    (λ append l3. l3)))

exchange_stays : (n left at count : ℕ) (bytes : List ℕ) → length bytes ≤ n → left ≤ n → Stays n (exchange_at left at count bytes)
unfolding exchange_at
exchange_stays n left at count bytes le l =
    then_stays n (bytes_at left count bytes) (λ was. bytes_at left count was.1 >>= λ put. Ok (record { at = at; was = was.0; put = put.0 }, put.1))
    (bytes_stay n left count bytes le l)
    (λ was l1. then_stays n (bytes_at left count was.1) (λ put. Ok (record { at = at; was = was.0; put = put.0 }, put.1))
    (bytes_stay n left count was.1 l1 l) (λ put l2. l2))

field_stays : (n from len : ℕ) (bytes : List ℕ) → length bytes ≤ n → Stays n (field_at from len bytes)
unfolding field_at
field_stays n from len bytes le =
    let left : ℕ = length bytes in
    then_stays n (number_at left bytes)
    (λ at. byte_at left at.1 >>= λ count. cond (keeps_rules from len at.0 count.0) (exchange_at left at.0 count.0 count.1) (Err left))
    (number_stays n left bytes le le)
    (λ at l1. then_stays n (byte_at left at.1) (λ count. cond (keeps_rules from len at.0 count.0) (exchange_at left at.0 count.0 count.1) (Err left))
    (byte_stays n left at.1 l1 le)
    (λ count l2. pass_stays n (keeps_rules from len at.0 count.0) left (exchange_at left at.0 count.0 count.1) le
    (exchange_stays n left at.0 count.0 count.1 l2 le)))

fields_stay : (n from len k : ℕ) (bytes : List ℕ) → length bytes ≤ n → Stays n (fields_at from len k bytes)
unfolding fields_at
fields_stay n from len zero bytes le = le
fields_stay n from len (suc k) bytes le =
    then_stays n (field_at from len bytes)
    (λ first. fields_at (first.0.at + length first.0.was) len k first.1 >>= λ others. Ok (first.0 ∷ others.0, others.1)) (field_stays n from len bytes le)
    (λ first l1. then_stays n (fields_at (first.0.at + length first.0.was) len k first.1) (λ others. Ok (first.0 ∷ others.0, others.1))
    (fields_stay n (first.0.at + length first.0.was) len k first.1 l1) (λ others l2. l2))

entry_stays : (n : ℕ) (bytes : List ℕ) → length bytes ≤ n → Stays n (entry_at bytes)
unfolding entry_at
entry_stays n bytes le =
    then_stays n (head_at bytes)
    (λ head. fields_at 0 head.0.0 head.0.1 head.1 >>= λ fields. bytes_at (length fields.1) head.0.2 fields.1 >>= λ append. Ok
    (record { len = head.0.0; fields = fields.0; append = append.0 }, append.1)) (head_stays n bytes le)
    (λ head l1. then_stays n (fields_at 0 head.0.0 head.0.1 head.1)
    (λ fields. bytes_at (length fields.1) head.0.2 fields.1 >>= λ append. Ok (record { len = head.0.0; fields = fields.0; append = append.0 }, append.1))
    (fields_stay n 0 head.0.0 head.0.1 head.1 l1)
    (λ fields l2. then_stays n (bytes_at (length fields.1) head.0.2 fields.1)
    (λ append. Ok (record { len = head.0.0; fields = fields.0; append = append.0 }, append.1)) (bytes_stay n (length fields.1) head.0.2 fields.1 l2 l2)
    (λ append l3. l3)))

entries_stay : (n k : ℕ) (bytes : List ℕ) → length bytes ≤ n → Stays n (entries_at k bytes)
unfolding entries_at
entries_stay n zero bytes le = le
entries_stay n (suc k) bytes le =
    then_stays n (entry_at bytes) (λ first. entries_at k first.1 >>= λ others. Ok (first.0 ∷ others.0, others.1)) (entry_stays n bytes le)
    (λ first l1. then_stays n (entries_at k first.1) (λ others. Ok (first.0 ∷ others.0, others.1)) (entries_stay n k first.1 l1) (λ others l2. l2))

-- the same of a reader whose answer is no pair
abbrev pub StopsBy : {A : Type 0} → ℕ → Result A ℕ → Type 0
StopsBy n (Ok x) = Unit {0}
StopsBy n (Err left) = left ≤ n

then_stops : {A B : Type 0} (n : ℕ) (r : Result (A × List ℕ) ℕ) (f : (A × List ℕ) → Result B ℕ) → Stays n r
    → ((x : A × List ℕ) → length x.1 ≤ n → StopsBy n (f x)) → StopsBy n (r >>= f)
then_stops n (Ok x) f s more = more x s
then_stops n (Err left) f s more = s

ended_stops : {A : Type 0} (n : ℕ) (b : Bool) (x : A) (left : ℕ) → left ≤ n → StopsBy n (cond b (Ok x) (Err left))
ended_stops n true x left le = tt
ended_stops n false x left le = le

-- what follows the mark
behind_mark : (n : ℕ) (b : Bool) (rest : List ℕ) (left : ℕ) (f : List ℕ → Result (List Packed) ℕ) → left ≤ n → StopsBy n (f rest)
    → StopsBy n (cond b (Ok rest) (Err left) >>= f)
behind_mark n true rest left f le s = s
behind_mark n false rest left f le s = le

patch_stops : (bytes : List ℕ) → StopsBy (length bytes) (patch_of bytes)
unfolding patch_of
patch_stops bytes =
    let n : ℕ = length bytes in
    let rest : List ℕ = drop 8 bytes in
    let le : length (drop 8 bytes) ≤ length bytes = omega (arith, length-drop 8 bytes) in
    behind_mark n (starts_with eqb bytes mark) rest n
    (λ rest. number_at (length rest) rest >>= λ count. entries_at count.0 count.1 >>= λ x. cond (eqb (length x.1) 0) (Ok x.0) (Err (length x.1)))
    (omega arith)
    (then_stops n (number_at (length rest) rest) (λ count. entries_at count.0 count.1 >>= λ x. cond (eqb (length x.1) 0) (Ok x.0) (Err (length x.1)))
    (number_stays n (length rest) rest le le)
    (λ count l1. then_stops n (entries_at count.0 count.1) (λ x. cond (eqb (length x.1) 0) (Ok x.0) (Err (length x.1))) (entries_stay n count.0 count.1 l1)
    (λ x l2. ended_stops n (eqb (length x.1) 0) x.0 (length x.1) l2)))

pub left_within : (bytes : List ℕ) (left : ℕ) → patch_of bytes ≡ Err left → left ≤ length bytes
left_within bytes left e = subst (StopsBy {A = List Packed} (length bytes)) e (patch_stops bytes)
