-- Where all entries stand, and which is the first that does not.
use Rattle.std.proofs.Common.{◌≡◌, ℕ, ◌+◌, ◌≤◌, Bool, true, false, List, [], ◌∷◌, ◌++◌, length, refl, sym, ap, ◌∙◌}
use Rattle.std.proofs.Common.{arith}
use Rattle.std.specs.Prelude.{nat_lt}
use Rattle.std.proofs.lemmas.Bool.Decides.{nat_tests}
use Rattle.patch_file.specs.Spelling.{Packed}
use Rattle.patch_file.specs.Standing.{Stands, put_on, AllStand, put_all}
use Rattle.dgn_drawing.specs.declared.limits.TheConstants.{MOST_DESIGN}
use Rattle.dgn_tool.specs.Applied.{does_stand, Made, Differs, Overruns, put_from, AllFit}
use Rattle.dgn_laws.specs.PatchLaws.{DiffersAt}
use Rattle.dgn_tool.proofs.EntriesPutOn.{stands_decided, differs, goes_on}

-- Lists of entries.

-- all of them stand and keep the limit
pub all_made : (tail k : ℕ) (b : List ℕ) (es : List Packed) → AllStand b es → AllFit tail b es → put_from tail k b es ≡ Made (put_all b es)
all_made tail k b [] stand fit = refl
all_made tail k b (e ∷ es) stand fit = goes_on tail k b e es stand.0 fit.0 ∙ all_made tail (k + 1) (put_on b e) es stand.1 fit.1

-- so do those before one that doesn't stand
first_differs : (tail k : ℕ) (b : List ℕ) (before : List Packed) (e : Packed) (behind : List Packed) → AllStand b before → AllFit tail b before
    → ¬ Stands (put_all b before) e → put_from tail k b (before ++ e ∷ behind) ≡ Differs (k + length before)
first_differs tail k b [] e behind stand fit not_so = differs tail k b e behind not_so ∙ ap Differs (omega arith)
first_differs tail k b (x ∷ before) e behind stand fit not_so =
    goes_on tail k b x (before ++ e ∷ behind) stand.0 fit.0
    ∙ first_differs tail (k + 1) (put_on b x) before e behind stand.1 fit.1 not_so
    ∙ ap Differs (omega arith)

pub where_one_differs : (tail : ℕ) (b : List ℕ) (es : List Packed) (k : ℕ) → DiffersAt tail b es k → put_from tail 1 b es ≡ Differs k
where_one_differs tail b es k at =
    ap (put_from tail 1 b) at.parts ∙ first_differs tail 1 b at.before at.entry at.behind at.stand at.fit at.differs ∙ ap Differs (sym at.number)

-- the same, counted from k
record DiffersFrom (tail k : ℕ) (b : List ℕ) (es : List Packed) (j : ℕ) : Type 0 where
  before : List Packed
  entry : Packed
  behind : List Packed
  parts : es ≡ before ++ entry ∷ behind
  number : j ≡ k + length before
  stand : AllStand b before
  fit : AllFit tail b before
  differs : ¬ Stands (put_all b before) entry

one_more : (tail k : ℕ) (b : List ℕ) (e : Packed) (es : List Packed) (j : ℕ) → Stands b e → length (put_on b e) + tail ≤ MOST_DESIGN
    → DiffersFrom tail (k + 1) (put_on b e) es j → DiffersFrom tail k b (e ∷ es) j
one_more tail k b e es j so few at =
    let n = at.number in
    record {
      before = e ∷ at.before;
      entry = at.entry;
      behind = at.behind;
      parts = ap (λ (l : List Packed). e ∷ l) at.parts;
      number = omega arith;
      stand = (so, at.stand);
      fit = (few, at.fit);
      differs = at.differs;
    }

found_from : (tail k : ℕ) (b : List ℕ) (es : List Packed) (j : ℕ) → put_from tail k b es ≡ Differs j → DiffersFrom tail k b es j
found_from tail k b [] j is = absurd (cc)
found_from tail k b (e ∷ es) j is = by (found_from tail (k + 1) (put_on b e) es j) (does_stand b e) (nat_lt MOST_DESIGN (length (put_on b e) + tail)) refl refl
  where
    by : (put_from tail (k + 1) (put_on b e) es ≡ Differs j → DiffersFrom tail (k + 1) (put_on b e) es j) → (x y : Bool) → does_stand b e ≡ x
        → nat_lt MOST_DESIGN (length (put_on b e) + tail) ≡ y → DiffersFrom tail k b (e ∷ es) j
    by rest false y s l =
        let now : put_from tail k b (e ∷ es) ≡ Differs k = rw s refl in
        let same : Differs k ≡ Differs j = sym now ∙ is in
        let number : k ≡ j = cc in
        record {
          before = [];
          entry = e;
          behind = es;
          parts = refl;
          number = omega arith;
          stand = tt;
          fit = tt;
          differs = λ so. let t : does_stand b e ≡ true = (stands_decided b e).1 so in absurd (cc);
        }
    by rest true true s l =
        let now : put_from tail k b (e ∷ es) ≡ Overruns = rw (s, l) refl in
        let same : Overruns ≡ Differs j = sym now ∙ is in
        absurd (cc)
    by rest true false s l =
        let so : Stands b e = (stands_decided b e).0 s in
        let few : length (put_on b e) + tail ≤ MOST_DESIGN = grind (arith, nat_tests) in
        one_more tail k b e es j so few (rest (sym (goes_on tail k b e es so few) ∙ is))

pub one_differs : (tail : ℕ) (b : List ℕ) (es : List Packed) (k : ℕ) → put_from tail 1 b es ≡ Differs k → DiffersAt tail b es k
one_differs tail b es k is =
    let at = found_from tail 1 b es k is in
    record {
      before = at.before;
      entry = at.entry;
      behind = at.behind;
      parts = at.parts;
      number = at.number;
      stand = at.stand;
      fit = at.fit;
      differs =
          at.differs;
    }
