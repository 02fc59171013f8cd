-- The members that are counted are those of the definition, and there are no others.
use Rattle.std.proofs.Common.{◌≡◌, ℕ, zero, suc, ◌+◌, ◌-◌, ◌≤◌, ◌<◌, List, [], ◌∷◌, length, take, refl, sym, ap, ◌∙◌, subst, arith, true, Bool, cond, inl, inr}
use Rattle.std.specs.Prelude.{Option, Some, None, option_map, ◌==◌, ◌&&◌, nat_le, IsTrue, ◌↔◌, ◌⊎◌}
use Rattle.std.specs.List.{AllByRecursion}
use Rattle.std.proofs.lemmas.Bool.{cond-true, cond-false, cases_Bool, cases_eq, eq-eqb, ne_eqb, and_from, and_parts, leb-true, le-leb}
use Rattle.dgn_drawing.specs.declared.row.Row.{Row}
use Rattle.dgn_drawing.specs.Nesting.{bytes_of, whole_of, AreMembers, filling, member_count}

module _ {A : Type 0} (row : A → Row) where
  -- each of the elements has a byte
  abbrev pub HasBytes : List A → Type 0
  HasBytes l = AllByRecursion (λ e. 0 < (row e).size) l

  -- so many elements from the front have bit C and just so many bytes
  pub record Fills (bytes : ℕ) (l : List A) (k : ℕ) : Type 0 where
    pub within : k ≤ length l
    pub marked : AllByRecursion (λ e. IsTrue ((row e).cbit)) (take k l)
    pub bytes_are : bytes_of row (take k l) ≡ bytes

abbrev step : ℕ → Bool → ℕ → Option ℕ → Option ℕ
step bytes cbit size rest = cond (bytes == 0) (Some 0) (cond (cbit && nat_le size bytes) (option_map suc rest) None)

step_zero : (bytes : ℕ) (cbit : Bool) (size : ℕ) (rest : Option ℕ) → bytes ≡ 0 → step bytes cbit size rest ≡ Some 0
step_zero bytes cbit size rest none = cond-true (bytes == 0) _ _ (eq-eqb bytes 0 none)

step_more : (bytes : ℕ) (cbit : Bool) (size : ℕ) (rest : Option ℕ) → (bytes ≡ 0 → ⊥) → cbit ≡ true → size ≤ bytes
    → step bytes cbit size rest ≡ option_map suc rest
step_more bytes cbit size rest some marked small =
    cond-false (bytes == 0) _ _ (ne_eqb bytes 0 some)
    ∙ cond-true (cbit && nat_le size bytes) _ _ (and_from cbit (nat_le size bytes) marked (le-leb size bytes small))

record IsMore (bytes : ℕ) (cbit : Bool) (size : ℕ) (rest : Option ℕ) (k : ℕ) : Type 0 where
  before : ℕ
  count : k ≡ suc before
  some : bytes ≡ 0 → ⊥
  marked : cbit ≡ true
  small : size ≤ bytes
  rest_is : rest ≡ Some before

some_before : (rest : Option ℕ) (k : ℕ) → option_map suc rest ≡ Some k → (m : ℕ) × (k ≡ suc m) × (rest ≡ Some m)
some_before None k is = absurd (let f = is in cc)
some_before (Some m) k is = (m, let e : suc m ≡ k = cc in sym e, refl)

step_cases : (bytes : ℕ) (cbit : Bool) (size : ℕ) (rest : Option ℕ) (k : ℕ) → step bytes cbit size rest ≡ Some k → ((bytes ≡ 0) × (k ≡ 0))
    ⊎ IsMore bytes cbit size rest k
step_cases bytes cbit size rest k is =
    elim (cases_eq bytes 0) [
      | inl none ↦ inl (none, let e : Some 0 ≡ Some k = sym (step_zero bytes cbit size rest none) ∙ is in let f : 0 ≡ k = cc in sym f)
      | inr some ↦
          let inner : cond (cbit && nat_le size bytes) (option_map suc rest) None ≡ Some k = sym (cond-false (bytes == 0) _ _ (ne_eqb bytes 0 some)) ∙ is in
          elim (cases_Bool (cbit && nat_le size bytes)) [
            | inl holds ↦
                let both = and_parts cbit (nat_le size bytes) holds in
                let found = some_before rest k (sym (cond-true (cbit && nat_le size bytes) _ _ holds) ∙ inner) in
                inr (record { before = found.0; count = found.1; some = some; marked = both.0; small = leb-true size bytes both.1; rest_is = found.2 })
            | inr fails ↦ absurd (let e : None ≡ Some k = sym (cond-false (cbit && nat_le size bytes) _ _ fails) ∙ inner in cc)
          ]
    ]

module _ {A : Type 0} (row : A → Row) where
  pub filling_fills : (bytes : ℕ) (l : List A) (k : ℕ) → filling row bytes l ≡ Some k → Fills row bytes l k
  filling_fills bytes [] k is =
      elim (cases_eq bytes 0) [
        | inl none ↦
            let e : Some 0 ≡ Some k = sym (cond-true (bytes == 0) (Some 0) None (eq-eqb bytes 0 none)) ∙ is in
            let f : 0 ≡ k = cc in
            subst (Fills row bytes []) f (record { within = omega arith; marked = tt; bytes_are = sym none })
        | inr some ↦ absurd (let e : None ≡ Some k = sym (cond-false (bytes == 0) (Some 0) None (ne_eqb bytes 0 some)) ∙ is in cc)
      ]
  filling_fills bytes (e ∷ l) k is =
      elim (step_cases bytes ((row e).cbit) ((row e).size) (filling row (bytes - (row e).size) l) k is) [
        | inl zeroes ↦ subst (Fills row bytes (e ∷ l)) (sym zeroes.1) (record { within = omega arith; marked = tt; bytes_are = sym zeroes.0 })
        | inr m ↦
            let rest = filling_fills (bytes - (row e).size) l m.before m.rest_is in
            let small = m.small in
            let fits = rest.within in
            let sum = rest.bytes_are in
            subst (Fills row bytes (e ∷ l)) (sym m.count) (record { within = omega arith; marked = (m.marked, rest.marked); bytes_are = omega arith })
      ]

  pub fills_filling : (bytes : ℕ) (l : List A) (k : ℕ) → HasBytes row l → Fills row bytes l k → filling row bytes l ≡ Some k
  fills_filling bytes [] zero each fills = cond-true (bytes == 0) (Some 0) None (eq-eqb bytes 0 (sym fills.bytes_are))
  fills_filling bytes [] (suc k) each fills = absurd (let within = fills.within in omega arith)
  fills_filling bytes (e ∷ l) zero each fills = step_zero bytes ((row e).cbit) ((row e).size) (filling row (bytes - (row e).size) l) (sym fills.bytes_are)
  fills_filling bytes (e ∷ l) (suc k) each fills =
      let within = fills.within in
      let sum : (row e).size + bytes_of row (take k l) ≡ bytes = fills.bytes_are in
      let some : 0 < (row e).size = each.0 in
      let rest = fills_filling (bytes - (row e).size) l k each.1 (record { within = omega arith; marked = fills.marked.1; bytes_are = omega arith }) in
      step_more bytes ((row e).cbit) ((row e).size) (filling row (bytes - (row e).size) l) (λ none. absurd (omega arith)) fills.marked.0 (omega arith)
      ∙ ap (option_map suc) rest

  -- a header has so many members, counted or by the definition
  pub members_are : (h : A) (r : List A) (k : ℕ) → HasBytes row r → (member_count row (row h) r ≡ Some k) ↔ AreMembers row h r k
  members_are h r k each = (
    λ is. elim (cases_Bool (nat_le (row h).size (whole_of (row h)))) [
      | inl holds ↦
          let small = leb-true ((row h).size) (whole_of (row h)) holds in
          let fills = filling_fills (whole_of (row h) - (row h).size) r k
          (sym (cond-true (nat_le (row h).size (whole_of (row h))) (filling row (whole_of (row h) - (row h).size) r) None holds) ∙ is) in
          let sum = fills.bytes_are in
          record { within = fills.within; marked = fills.marked; bytes = omega arith }
      | inr fails ↦ absurd (let e : None ≡ Some k =
          sym (cond-false (nat_le (row h).size (whole_of (row h))) (filling row (whole_of (row h) - (row h).size) r) None fails) ∙ is in cc)
    ],
    λ members.
        let sum = members.bytes in
        let small : (row h).size ≤ whole_of (row h) = omega arith in
        let fills : Fills row (whole_of (row h) - (row h).size) r k = record { within = members.within; marked = members.marked; bytes_are = omega arith } in
        cond-true (nat_le (row h).size (whole_of (row h))) _ _ (le-leb ((row h).size) (whole_of (row h)) small)
        ∙ fills_filling (whole_of (row h) - (row h).size) r k each fills,
  )
