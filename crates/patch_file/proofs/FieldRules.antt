-- What is read as the fields of an entry keeps the rules.
use Rattle.std.proofs.Common.{◌≡◌, ℕ, zero, suc, ◌+◌, ◌≤◌, true, cond, ltb, leb, ◌&&◌, List, [], ◌∷◌, ◌++◌, length, take, drop, Ok, Err, refl, sym, ap}
use Rattle.std.proofs.Common.{subst, ◌∙◌, append_assoc, arith}
use Rattle.std.proofs.lemmas.Bool.{ltb-false, leb-true, and_parts}
use Rattle.std.proofs.lemmas.List.{length-take, take-append-drop}
use Rattle.patch_file.specs.Exchanges.{Exchange, KeepsRules, AllKeepRules}
use Rattle.patch_file.specs.Reading.{◌>>=◌, bytes_at, number_at, byte_at, exchange_at, field_at, fields_at, keeps_rules}
use Rattle.patch_file.proofs.ReadSteps.{bind_ok, guard_ok, pass_ok, ok_is, ok_was}

pub record IsPart (n : ℕ) (bytes : List ℕ) (x : List ℕ × List ℕ) : Type 0 where
  pub long : length x.0 ≡ n
  pub parts : bytes ≡ x.0 ++ x.1

pub bytes_take : (left n : ℕ) (bytes : List ℕ) (x : List ℕ × List ℕ) → bytes_at left n bytes ≡ Ok x → IsPart n bytes x
bytes_take left n bytes x e =
    let g = guard_ok (ltb (length bytes) n) left (take n bytes, drop n bytes) x e in
    let long : n ≤ length bytes = ltb-false _ _ g.0 in
    subst (IsPart n bytes) g.1 (record { long = omega (arith, length-take n bytes); parts = sym (take-append-drop n bytes) })

-- the bytes of a field that is read, behind its place and their number
pub record IsExchange (at count : ℕ) (bytes : List ℕ) (x : Exchange × List ℕ) : Type 0 where
  pub place : x.0.at ≡ at
  pub long : length x.0.was ≡ count
  pub same : length x.0.put ≡ count
  pub parts : bytes ≡ (x.0.was ++ x.0.put) ++ x.1

pub exchange_takes : (left at count : ℕ) (bytes : List ℕ) (x : Exchange × List ℕ) → exchange_at left at count bytes ≡ Ok x → IsExchange at count bytes x
unfolding exchange_at
exchange_takes left at count bytes x e =
    let a = bind_ok (bytes_at left count bytes) (λ was. bytes_at left count was.1 >>= λ put. Ok (record { at = at; was = was.0; put = put.0 }, put.1)) x e in
    let b = bind_ok (bytes_at left count a.0.1) (λ put. Ok (record { at = at; was = a.0.0; put = put.0 }, put.1)) x a.2 in
    let was = bytes_take left count bytes a.0 a.1 in
    let put = bytes_take left count a.0.1 b.0 b.1 in
    let made : Exchange × List ℕ = (record { at = at; was = a.0.0; put = b.0.0 }, b.0.1) in
    subst (IsExchange at count bytes) (ok_is made x b.2) (record {
      place = refl;
      long = was.long;
      same = put.long;
      parts = was.parts ∙ ap (λ (t : List ℕ). a.0.0 ++ t) put.parts ∙ sym (append_assoc a.0.0 b.0.0 b.0.1);
    })

-- the parts of a field that is read
pub record IsField (from len : ℕ) (bytes : List ℕ) (x : Exchange × List ℕ) : Type 0 where
  pub place : ℕ × List ℕ
  pub count : ℕ × List ℕ
  pub number : number_at (length bytes) bytes ≡ Ok place
  pub byte : byte_at (length bytes) place.1 ≡ Ok count
  pub kept : keeps_rules from len place.0 count.0 ≡ true
  pub exchange : IsExchange place.0 count.0 count.1 x

pub field_parts : (from len : ℕ) (bytes : List ℕ) (x : Exchange × List ℕ) → field_at from len bytes ≡ Ok x → IsField from len bytes x
unfolding field_at
field_parts from len bytes x e =
    let left : ℕ = length bytes in
    let a = bind_ok (number_at left bytes)
    (λ at. byte_at left at.1 >>= λ count. cond (keeps_rules from len at.0 count.0) (exchange_at left at.0 count.0 count.1) (Err left)) x e in
    let b = bind_ok (byte_at left a.0.1) (λ count. cond (keeps_rules from len a.0.0 count.0) (exchange_at left a.0.0 count.0 count.1) (Err left)) x a.2 in
    let g = pass_ok (keeps_rules from len a.0.0 b.0.0) left (exchange_at left a.0.0 b.0.0 b.0.1) x b.2 in
    record {
      place = a.0;
      count = b.0;
      number = a.1;
      byte = b.1;
      kept = g.0;
      exchange = exchange_takes left a.0.0 b.0.0 b.0.1 x g.1;
    }

pub field_rules : (from len : ℕ) (bytes : List ℕ) (x : Exchange × List ℕ) → field_at from len bytes ≡ Ok x → KeepsRules from len x.0
field_rules from len bytes x e =
    let p = field_parts from len bytes x e in
    let at : ℕ = p.place.0 in
    let count : ℕ = p.count.0 in
    let d = and_parts (leb 1 count && leb count 4 && leb from at) (leb (at + count) len) p.kept in
    let c = and_parts (leb 1 count && leb count 4) (leb from at) d.0 in
    let b = and_parts (leb 1 count) (leb count 4) c.0 in
    let least = leb-true 1 count b.0 in
    let most = leb-true count 4 b.1 in
    let behind = leb-true from at c.1 in
    let within = leb-true (at + count) len d.1 in
    let x' = p.exchange in
    let place = x'.place in
    let long = x'.long in
    record {
      least = omega arith;
      most = omega arith;
      same = x'.same ∙ sym long;
      behind = omega arith;
      within = omega arith;
    }

-- the parts of fields that are read, the first and the others
pub record AreFields (from len n : ℕ) (bytes : List ℕ) (x : List Exchange × List ℕ) : Type 0 where
  pub first : Exchange × List ℕ
  pub others : List Exchange × List ℕ
  pub one : field_at from len bytes ≡ Ok first
  pub more : fields_at (first.0.at + length first.0.was) len n first.1 ≡ Ok others
  pub both : x ≡ (first.0 ∷ others.0, others.1)

pub fields_parts : (from len n : ℕ) (bytes : List ℕ) (x : List Exchange × List ℕ) → fields_at from len (suc n) bytes ≡ Ok x → AreFields from len n bytes x
unfolding fields_at
fields_parts from len n bytes x e =
    let a = bind_ok (field_at from len bytes)
    (λ first. fields_at (first.0.at + length first.0.was) len n first.1 >>= λ others. Ok (first.0 ∷ others.0, others.1)) x e in
    let b = bind_ok (fields_at (a.0.0.at + length a.0.0.was) len n a.0.1) (λ others. Ok (a.0.0 ∷ others.0, others.1)) x a.2 in
    let made : List Exchange × List ℕ = (a.0.0 ∷ b.0.0, b.0.1) in
    record { first = a.0; others = b.0; one = a.1; more = b.1; both = ok_was made x b.2 }

pub fields_none : (from len : ℕ) (bytes : List ℕ) (x : List Exchange × List ℕ) → fields_at from len 0 bytes ≡ Ok x → x ≡ ([], bytes)
unfolding fields_at
fields_none from len bytes x e = let made : List Exchange × List ℕ = ([], bytes) in ok_was made x e

pub fields_rules : (from len n : ℕ) (bytes : List ℕ) (x : List Exchange × List ℕ) → fields_at from len n bytes ≡ Ok x → AllKeepRules from len x.0
fields_rules from len zero bytes x e = subst (λ (y : List Exchange × List ℕ). AllKeepRules from len y.0) (sym (fields_none from len bytes x e)) tt
fields_rules from len (suc n) bytes x e =
    let p = fields_parts from len n bytes x e in
    subst (λ (y : List Exchange × List ℕ). AllKeepRules from len y.0) (sym p.both)
    (field_rules from len bytes p.first p.one, fields_rules (p.first.0.at + length p.first.0.was) len n p.first.1 p.others p.more)
