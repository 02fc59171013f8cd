-- Elements are numbered, and found to be broken, as their rows are.
use Rattle.std.proofs.Common.{◌≡◌, ℕ, zero, suc, ◌+◌, ◌-◌, List, [], ◌∷◌, length, map, cond, refl, sym, ap, ◌∙◌}
use Rattle.std.specs.Prelude.{Option, Some, None, option_map, slice_get, Bool, nat_lt}
use Rattle.std.proofs.lemmas.List.{length-map}
use Rattle.dgn_drawing.specs.declared.row.Row.{Row}
use Rattle.dgn_drawing.specs.Element.{Element}
use Rattle.dgn_drawing.specs.Rows.{row_of}
use Rattle.dgn_drawing.specs.Nesting.{Forest, forest, itself}
use Rattle.dgn_drawing.specs.Numbering.{Mark, marks_of, mark_of, is_broken_as, is_broken, first_from, first_broken_of, headers_of, first_or, root_of}
use Rattle.elem_index.specs.declared.design.Design.{Design}
use Rattle.elem_index.specs.Design.{elements}
use Rattle.nest_tree.proofs.HeaderChains.{headers_by_rows}
use Rattle.nest_tree.proofs.ByRows.{forest_rows, marks-map}

-- elements are numbered as their rows are
pub marks_by_rows : (es : List Element) → marks_of (forest row_of es) ≡ marks_of (forest itself (map row_of es))
marks_by_rows es = sym (marks-map row_of (forest row_of es) 0 0 None) ∙ ap (λ (f : Forest Row). marks_of f) (forest_rows row_of es)

mark_by_rows : (es : List Element) (n : ℕ) → mark_of row_of es n ≡ mark_of itself (map row_of es) n
mark_by_rows es n = ap (λ (ms : List Mark). slice_get ms n) (marks_by_rows es)

-- so the same of them are broken
row_at : (es : List Element) (n : ℕ) → slice_get (map row_of es) n ≡ option_map row_of (slice_get es n)
row_at [] n = refl
row_at (e ∷ es) zero = refl
row_at (e ∷ es) (suc n) = row_at es n

broken_as : (n : ℕ) (m : Option Mark) (o : Option Element) → is_broken_as row_of n m o ≡ is_broken_as itself n m (option_map row_of o)
broken_as n None None = refl
broken_as n None (Some e) = refl
broken_as n (Some m) None = refl
broken_as n (Some m) (Some e) = refl

is_broken_by_rows : (es : List Element) (n : ℕ) → is_broken row_of es n ≡ is_broken itself (map row_of es) n
is_broken_by_rows es n =
    broken_as n (mark_of row_of es n) (slice_get es n)
    ∙ ap (λ (m : Option Mark). is_broken_as itself n m (option_map row_of (slice_get es n))) (mark_by_rows es n)
    ∙ ap (λ (o : Option Row). is_broken_as itself n (mark_of itself (map row_of es) n) o) (sym (row_at es n))

-- and the first of them is the same
first_same : (p q : ℕ → Bool) → ((k : ℕ) → p k ≡ q k) → (n count : ℕ) → first_from p n count ≡ first_from q n count
first_same p q same n zero = refl
first_same p q same n (suc count) =
    ap (λ (b : Bool). cond b (Some n) (first_from p (n + 1) count)) (same n)
    ∙ ap (λ (o : Option ℕ). cond (q n) (Some n) o) (first_same p q same (n + 1) count)

first_broken_in : (es : List Element) (n : ℕ) (m : Option Mark)
    → option_map (λ (x : Mark). first_from (is_broken row_of es) n (x.end - n)) m
    ≡ option_map (λ (x : Mark). first_from (is_broken itself (map row_of es)) n (x.end - n)) m
first_broken_in es n None = refl
first_broken_in es n (Some m) = ap Some (first_same (is_broken row_of es) (is_broken itself (map row_of es)) (is_broken_by_rows es) n (m.end - n))

first_broken_by_rows : (es : List Element) (n : ℕ) → first_broken_of row_of es n ≡ first_broken_of itself (map row_of es) n
first_broken_by_rows es n =
    first_broken_in es n (mark_of row_of es n)
    ∙ ap (λ (m : Option Mark). option_map (λ (x : Mark). first_from (is_broken itself (map row_of es)) n (x.end - n)) m) (mark_by_rows es n)

-- the root of the tree that holds an element is that of its row
root_by_rows : (es : List Element) (n : ℕ) → root_of row_of es n ≡ root_of itself (map row_of es) n
root_by_rows es n =
    ap (λ (hs : List ℕ). cond (nat_lt n (length es)) (Some (first_or n hs)) None) (sym (headers_by_rows row_of es n))
    ∙ ap (λ (k : ℕ). cond (nat_lt n k) (Some (first_or n (headers_of itself (map row_of es) n))) None) (sym (length-map es row_of))

-- so what a drawing's nesting answers of rows holds of its elements
module _ (d inside : Design) (is : inside ≡ d) (rows : List Row) (nesting : rows ≡ map row_of (elements inside)) (n : ℕ) where
  rows_are : rows ≡ map row_of (elements d)
  rows_are = nesting ∙ ap (λ (x : Design). map row_of (elements x)) is

  pub same_mark : mark_of itself rows n ≡ mark_of row_of (elements d) n
  same_mark = ap (λ (r : List Row). mark_of itself r n) rows_are ∙ sym (mark_by_rows (elements d) n)

  pub same_root : root_of itself rows n ≡ root_of row_of (elements d) n
  same_root = ap (λ (r : List Row). root_of itself r n) rows_are ∙ sym (root_by_rows (elements d) n)

  pub same_broken : first_broken_of itself rows n ≡ first_broken_of row_of (elements d) n
  same_broken = ap (λ (r : List Row). first_broken_of itself r n) rows_are ∙ sym (first_broken_by_rows (elements d) n)
