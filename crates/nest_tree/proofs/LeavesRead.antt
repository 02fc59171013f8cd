-- What is kept of leaves of a list, one behind the other.
use Rattle.std.proofs.Common.{◌≡◌, ℕ, zero, suc, ◌+◌, ◌-◌, ◌≤◌, ◌<◌, List, [], ◌∷◌, ◌++◌, length, get_or, drop, replicate, refl, sym, ap, ◌∙◌, subst, arith}
use Rattle.std.proofs.Common.{true, false, Bool}
use Rattle.std.specs.Prelude.{Option, Some, None, is_none, not, ◌&&◌, ◌==◌, option_map, slice_get}
use Rattle.std.specs.List.{range_with_len}
use Rattle.std.proofs.lemmas.List.{append_assoc, append-nil, get_or-drop}
use Rattle.std.proofs.lemmas.Option.{slice_get-get_or}
use Rattle.std.proofs.lemmas.Bool.{ne_eqb}
use Rattle.dgn_layout.specs.Classes.{class_of}
use Rattle.dgn_drawing.specs.declared.row.Row.{Row}
use Rattle.dgn_drawing.specs.Nesting.{leaf, is_header, itself}
use Rattle.dgn_drawing.specs.Numbering.{is_broken}
use Rattle.nest_tree.specs.declared.knot.Knot.{Knot}
use Rattle.nest_tree.specs.declared.scan.Scan.{Scan}
use Rattle.nest_tree.specs.declared.open_list.OpenList.{OpenList}
use Rattle.nest_tree.specs.NestEntries.{NestEntry}
use Rattle.nest_tree.specs.Places.{ArePlaces, Going, broken_by_entry}
use Rattle.nest_tree.specs.Read.{AreRead, orphans_from}
use Rattle.nest_tree.specs.Passing.{passing}
use Rattle.nest_tree.specs.Shapes.{code_shape, shape_in, rows_between}
use Rattle.nest_tree.specs.Sources.{no_row, AreLeaves, IsScan}
use Rattle.nest_tree.proofs.BrokenList.{broken_kept, sound_passed}
use Rattle.nest_tree.proofs.KeptRows.{counted_none}
use Rattle.nest_tree.proofs.LeafShapes.{not_counted}
use Rattle.nest_tree.proofs.ListStacks.{going_ends, going_past, known_entry, leaf_read}
use Rattle.nest_tree.proofs.OpenLists.{one_more}

-- what is kept of a leaf
abbrev pub leaf_entry : OpenList → NestEntry
leaf_entry f = record { parent = f.parent; depth = f.depth; knot = Knot.Leaf }

mid_false : (b c : Bool) → (b && false && c) ≡ false
mid_false true c = refl
mid_false false c = refl

last_false : (b : Bool) → (b && true && false) ≡ false
last_false true = refl
last_false false = refl

some_number : (n : ℕ) → 0 < n → not (n == 0) ≡ true
some_number n some = ap not (ne_eqb n 0 (λ none. absurd (omega arith)))

-- it is broken where it is a root with bit C, but for element 0
told : (n depth : ℕ) (parent : Option ℕ) (cbit orphans : Bool) → 0 < n → (is_none parent ≡ true → cbit ≡ orphans) → (orphans ≡ true → is_none parent ≡ true)
    → broken_by_entry n (record { parent = parent; depth = depth; knot = Knot.Leaf }) cbit ≡ orphans
told n depth None cbit true some same roots =
    ap (λ (b : Bool). not (n == 0) && true && b) (same refl) ∙ ap (λ (b : Bool). b && true && true) (some_number n some)
told n depth None cbit false some same roots = ap (λ (b : Bool). not (n == 0) && true && b) (same refl) ∙ last_false (not (n == 0))
told n depth (Some p) cbit true some same roots = absurd (let e : false ≡ true = roots refl in cc)
told n depth (Some p) cbit false some same roots = mid_false (not (n == 0)) cbit

none_more : (orphans : Bool) (at : ℕ) (broken : List ℕ) → broken ++ orphans_from orphans at 0 ≡ broken
none_more true at broken = append-nil broken
none_more false at broken = append-nil broken

one_more_broken : (orphans : Bool) (at n : ℕ) (broken : List ℕ)
    → (broken ++ orphans_from orphans at 1) ++ orphans_from orphans (at + 1) n ≡ broken ++ orphans_from orphans at (suc n)
one_more_broken true at n broken = append_assoc broken (at ∷ []) (range_with_len (at + 1) n)
one_more_broken false at n broken = append-nil (broken ++ [])

record Leaves (rows : List Row) (at n : ℕ) (f : OpenList) (orphans : Bool) (ends : List ℕ) (entries : List NestEntry) (broken : List ℕ) : Type 0 where
  read : AreRead rows (at + n) (ends ++ range_with_len (at + 1) n) (entries ++ replicate n (leaf_entry f)) (broken ++ orphans_from orphans at n)
  going : Going rows (at + n) f

-- one of them
module _ (rows : List Row) (at : ℕ) (f : OpenList) (orphans : Bool) (ends : List ℕ) (entries : List NestEntry) (broken : List ℕ) (going : Going rows at f)
    (inside : at < f.end) (some : 0 < at) (this : (is_header (class_of (get_or rows at no_row).kind) ≡ false)
    × (is_none f.parent ≡ true → (get_or rows at no_row).cbit ≡ orphans)) (roots : orphans ≡ true → is_none f.parent ≡ true)
    (read : AreRead rows at ends entries broken) where
  here : Some (get_or rows at no_row) ≡ slice_get rows at
  here = let bound = going_ends rows at f going in sym (slice_get-get_or rows at no_row (omega arith))

  shape : code_shape leaf ≡ code_shape (shape_in f.scope (rows_between rows at f.end))
  shape = leaf_read rows at f going inside (get_or rows at no_row) here this.0

  listed : (b : Bool) → b ≡ orphans → broken ++ orphans_from b at 1 ≡ passing (is_broken itself rows) 0 (at + 1)
  listed true is =
      broken_kept rows at (leaf_entry f) (get_or rows at no_row).cbit (known_entry rows at f going inside (code_shape leaf) shape)
      (ap (option_map (λ (r : Row). r.cbit)) here) broken (broken ++ at ∷ []) read.are_broken
      (told at f.depth f.parent (get_or rows at no_row).cbit orphans some this.1 roots ∙ sym is) refl
  listed false is =
      append-nil broken
      ∙ sound_passed rows at (leaf_entry f) (get_or rows at no_row).cbit (known_entry rows at f going inside (code_shape leaf) shape)
      (ap (option_map (λ (r : Row). r.cbit)) here) broken broken read.are_broken
      (told at f.depth f.parent (get_or rows at no_row).cbit orphans some this.1 roots ∙ sym is) refl

  one_read : AreRead rows (at + 1) (ends ++ (at + 1) ∷ []) (entries ++ leaf_entry f ∷ []) (broken ++ orphans_from orphans at 1)
  one_read =
      let place : at + 1 + 0 ≡ at + 1 = omega arith in
      record {
        places = subst (λ (k : ℕ). ArePlaces rows (at + 1) (ends ++ k ∷ []) (entries ++ leaf_entry f ∷ [])) place
            (one_more rows at f going inside (code_shape leaf) shape ends entries read.places);
        are_broken = listed orphans refl;
      }

  one_past : Going rows (at + 1) f
  one_past = going_past rows at f going inside (code_shape leaf) shape refl

leaves_read : (n : ℕ) (rows : List Row) (at : ℕ) (f : OpenList) (orphans : Bool) (ends : List ℕ) (entries : List NestEntry) (broken : List ℕ)
    → Going rows at f → at + n ≤ f.end → 0 < at → AreLeaves (is_none f.parent) orphans rows at (at + n) → (orphans ≡ true → is_none f.parent ≡ true)
    → AreRead rows at ends entries broken → Leaves rows at n f orphans ends entries broken
leaves_read zero rows at f orphans ends entries broken going within some leaves roots read =
    let e : at ≡ at + 0 = omega arith in
    record {
      read = subst (λ (k : ℕ). AreRead rows k (ends ++ []) (entries ++ []) (broken ++ orphans_from orphans at 0)) e
          (subst (λ (l : List ℕ). AreRead rows at l (entries ++ []) (broken ++ orphans_from orphans at 0)) (sym (append-nil ends))
          (subst (λ (l : List NestEntry). AreRead rows at ends l (broken ++ orphans_from orphans at 0)) (sym (append-nil entries))
          (subst (λ (l : List ℕ). AreRead rows at ends entries l) (sym (none_more orphans at broken)) read)));
      going = subst (λ (k : ℕ). Going rows k f) e going;
    }
leaves_read (suc n) rows at f orphans ends entries broken going within some leaves roots read =
    let inside : at < f.end = omega arith in
    let this = leaves at (omega arith) (omega arith) in
    let next : at + 1 + n ≡ at + suc n = omega arith in
    let rest = leaves_read n rows (at + 1) f orphans (ends ++ (at + 1) ∷ []) (entries ++ leaf_entry f ∷ []) (broken ++ orphans_from orphans at 1)
    (one_past rows at f orphans ends entries broken going inside some this roots read) (omega arith) (omega arith)
    (λ k low high. leaves k (omega arith) (omega arith)) roots
    (one_read rows at f orphans ends entries broken going inside some this roots read) in
    record {
      read = subst (λ (k : ℕ). AreRead rows k (ends ++ range_with_len (at + 1) (suc n)) (entries ++ replicate (suc n) (leaf_entry f))
          (broken ++ orphans_from orphans at (suc n))) next
          (subst (λ (l : List ℕ). AreRead rows (at + 1 + n) l (entries ++ replicate (suc n) (leaf_entry f)) (broken ++ orphans_from orphans at (suc n)))
          (append_assoc ends ((at + 1) ∷ []) (range_with_len (at + 1 + 1) n))
          (subst (λ (l : List NestEntry). AreRead rows (at + 1 + n) ((ends ++ (at + 1) ∷ []) ++ range_with_len (at + 1 + 1) n) l
          (broken ++ orphans_from orphans at (suc n)))
          (append_assoc entries (leaf_entry f ∷ []) (replicate n (leaf_entry f)))
          (subst (λ (l : List ℕ). AreRead rows (at + 1 + n) ((ends ++ (at + 1) ∷ []) ++ range_with_len (at + 1 + 1) n)
          ((entries ++ leaf_entry f ∷ []) ++ replicate n (leaf_entry f)) l) (one_more_broken orphans at n broken) rest.read)));
      going = subst (λ (k : ℕ). Going rows k f) next rest.going;
    }

pub leaves_kept : (n : ℕ) (rows : List Row) (at : ℕ) (f : OpenList) (orphans : Bool) (ends ends_new : List ℕ) (entries entries_new : List NestEntry)
    (broken broken_new : List ℕ) → Going rows at f → at + n ≤ f.end → 0 < at → AreLeaves (is_none f.parent) orphans rows at (at + n)
    → (orphans ≡ true → is_none f.parent ≡ true) → AreRead rows at ends entries broken
    → ends_new ≡ ends ++ range_with_len (at + 1) n → entries_new ≡ entries ++ replicate n (leaf_entry f) → broken_new ≡ broken ++ orphans_from orphans at n
    → AreRead rows (at + n) ends_new entries_new broken_new
leaves_kept n rows at f orphans ends ends_new entries entries_new broken broken_new going within some leaves roots read ends_are entries_are broken_are =
    subst (λ (l : List ℕ). AreRead rows (at + n) l entries_new broken_new) (sym ends_are)
    (subst (λ (l : List NestEntry). AreRead rows (at + n) (ends ++ range_with_len (at + 1) n) l broken_new) (sym entries_are)
    (subst (λ (l : List ℕ). AreRead rows (at + n) (ends ++ range_with_len (at + 1) n) (entries ++ replicate n (leaf_entry f)) l) (sym broken_are)
    (leaves_read n rows at f orphans ends entries broken going within some leaves roots read).read))

pub leaves_past : (n : ℕ) (rows : List Row) (at : ℕ) (f : OpenList) (orphans : Bool) (ends : List ℕ) (entries : List NestEntry) (broken : List ℕ)
    → Going rows at f → at + n ≤ f.end → 0 < at → AreLeaves (is_none f.parent) orphans rows at (at + n) → (orphans ≡ true → is_none f.parent ≡ true)
    → AreRead rows at ends entries broken → Going rows (at + n) f
leaves_past n rows at f orphans ends entries broken going within some leaves roots read =
    (leaves_read n rows at f orphans ends entries broken going within some leaves roots read).going

-- leaves among the rows from one number on are leaves of all
pub leaves_of : (list rows : List Row) (first : ℕ) → rows ≡ drop first list → (roots orphans : Bool) (i j : ℕ) → AreLeaves roots orphans rows i j
    → (m n : ℕ) → m ≡ first + i → n ≡ first + j → AreLeaves roots orphans list m n
leaves_of list rows first are roots orphans i j leaves m n from to k low high =
    let place : first + (k - first) ≡ k = omega arith in
    let this = leaves (k - first) (omega arith) (omega arith) in
    let same : get_or rows (k - first) no_row ≡ get_or list k no_row =
    ap (λ (l : List Row). get_or l (k - first) no_row) are ∙ get_or-drop first list (k - first) no_row ∙ ap (λ (x : ℕ). get_or list x no_row) place in (
      ap (λ (r : Row). is_header (class_of r.kind)) (sym same) ∙ this.0,
      λ root. ap (λ (r : Row). r.cbit) (sym same) ∙ this.1 root,
    )

-- what is known ahead of leaves is known behind them
pub scan_past : (n : ℕ) (rows : List Row) (i : ℕ) (a : Scan) (roots orphans : Bool) → IsScan rows i a → AreLeaves roots orphans rows i
    (i + n) → i + n ≤ length rows
    → IsScan rows (i + n) a
scan_past zero rows i a roots orphans known leaves within = let e : i ≡ i + 0 = omega arith in subst (λ (k : ℕ). IsScan rows k a) e known
scan_past (suc n) rows i a roots orphans known leaves within =
    let this = leaves i (omega arith) (omega arith) in
    let next : i + 1 + n ≡ i + suc n = omega arith in
    let first : IsScan rows (i + 1) a = record {
      counted = known.counted ∙ sym (counted_none rows i (omega arith) (not_counted (class_of (get_or rows i no_row).kind) this.0));
      near = known.near;
      within = known.within;
      marked = λ k from before. known.marked k (omega arith) before;
    } in
    subst (λ (k : ℕ). IsScan rows k a) next
    (scan_past n rows (i + 1) a roots orphans first (λ k low high. leaves k (omega arith) (omega arith)) (omega arith))
