-- A nesting that follows the elements that bytes spell, block by block.
use Rattle.std.proofs.Common.{◌≡◌, ℕ, ◌+◌, ◌≤◌, List, [], ◌∷◌, ◌++◌, length, drop, map, refl, sym, ap, ◌∙◌, subst, arith, length-append, append_assoc}
use Rattle.std.specs.Prelude.{IsFalse}
use Rattle.std.specs.List.{AllByRecursion}
use Rattle.std.proofs.lemmas.List.{append-nil, length-drop}
use Rattle.dgn_drawing.specs.declared.row.Row.{Row}
use Rattle.dgn_drawing.specs.Element.{Element}
use Rattle.dgn_drawing.specs.Spelling.{spell, spelling}
use Rattle.dgn_drawing.specs.Rows.{row_of}
use Rattle.dgn_drawing.specs.Nesting.{BeginsFree, itself}
use Rattle.nest_tree.specs.Shapes.{IsRow}
use Rattle.nest_tree.proofs.NestableRows.{each_row}
use Rattle.dgn_session.specs.CarryingOut.{Spells, IsSpelling, IsBlock, ExtendsRows, Grows}
use Rattle.dgn_session.proofs.SpelledRows.{four}

-- the elements that are left, and the rows of those that the nesting has followed
pub record Follows (dim : ℕ) (es : List Element) (rest : List ℕ) (old new : List Row) : Type 0 where
  pub others : List Element
  pub spells : Spells dim others rest
  pub are : new ++ map row_of others ≡ old ++ map row_of es

-- so far, whatever elements the bytes spell
pub record HasFollowed (b rest : List ℕ) (old new : List Row) (count : ℕ) : Type 0 where
  pub spelled : IsSpelling rest
  pub follows : (dim : ℕ) (es : List Element) → Spells dim es b → Follows dim es rest old new
  pub behind : ExtendsRows old new
  pub many : length new ≡ length old + count
  pub few : count + length rest ≤ length b

each_front : (xs ys : List Row) → AllByRecursion IsRow (xs ++ ys) → AllByRecursion IsRow xs
each_front [] ys each = tt
each_front (x ∷ xs) ys each = (each.0, each_front xs ys each.1)

-- the first of some rows is that of the elements that begin with them
free_front : (rows : List Row) (others es : List Element) → rows ++ map row_of others ≡ map row_of es → BeginsFree row_of es → BeginsFree itself rows
free_front [] others es are free = tt
free_front (r ∷ rows) others [] are free = absurd (let none : r ∷ (rows ++ map row_of others) ≡ [] = are in cc)
free_front (r ∷ rows) others (e ∷ es) are free =
    let same : r ∷ (rows ++ map row_of others) ≡ row_of e ∷ map row_of es = are in
    let first : r ≡ row_of e = cc in
    subst (λ (q : Row). IsFalse q.cbit) (sym first) free

free_append : (xs ys : List Row) → BeginsFree itself xs → BeginsFree itself ys → BeginsFree itself (xs ++ ys)
free_append [] ys first second = second
free_append (x ∷ xs) ys first second = first

-- where no bytes are left, no elements are
none_behind : (dim : ℕ) (others : List Element) (rest : List ℕ) → Spells dim others rest → length rest ≡ 0 → others ≡ []
none_behind dim [] rest spells none = refl
none_behind dim (e ∷ others) rest spells none =
    absurd (omega (arith, four dim e spells.axes spells.each.0, ap (length {A = ℕ}) spells.text, length-append (spell e) (spelling others)))

module _ (b rest : List ℕ) (old new : List Row) (count : ℕ) (has : HasFollowed b rest old new count) (rows : List Row) (size : ℕ)
    (block : IsBlock rest rows size) where
  -- a block of what is left may be nested behind the others
  pub block_each : AllByRecursion IsRow rows
  block_each =
      let dim = has.spelled.0 in
      let es = has.spelled.1 in
      let spells = has.spelled.2 in
      let begins = block.begins dim es spells in
      each_front rows (map row_of begins.others) (subst (AllByRecursion IsRow) (sym begins.are) (each_row dim spells.axes es spells.each))

  pub block_free : BeginsFree itself rows
  block_free =
      let begins = block.begins has.spelled.0 has.spelled.1 has.spelled.2 in
      free_front rows begins.others has.spelled.1 begins.are has.spelled.3

  -- and then the nesting has followed the block too
  pub followed_more : (grown : List Row) (behind : List ℕ) (many : ℕ) → grown ≡ new ++ rows → behind ≡ drop size rest → many ≡ length rows
      → HasFollowed b behind old grown (count + many)
  followed_more grown behind many are left long =
      let more = has.behind in
      let first = block.begins has.spelled.0 has.spelled.1 has.spelled.2 in
      let within = block.within in
      let few = block.few in
      let so_far = has.few in
      record {
        spelled = (has.spelled.0, first.others, subst (Spells has.spelled.0 first.others) (sym left) first.spells, first.free);
        follows = λ dim es spells.
            let f = has.follows dim es spells in
            let next = block.begins dim f.others f.spells in
            record {
              others = next.others;
              spells = subst (Spells dim next.others) (sym left) next.spells;
              are =
                  ap (λ (l : List Row). l ++ map row_of next.others) are ∙ append_assoc new rows (map row_of next.others)
                  ∙ ap (λ (l : List Row). new ++ l) next.are ∙ f.are;
            };
        behind = record {
          more = more.more ++ rows;
          are = are ∙ ap (λ (l : List Row). l ++ rows) more.are ∙ append_assoc old more.more rows;
          free = free_append more.more rows more.free block_free;
        };
        many = omega (arith, ap (length {A = Row}) are, length-append new rows, has.many);
        few = omega (arith, ap (length {A = ℕ}) left, length-drop size rest);
      }

-- where no bytes are left, it has followed all elements
pub followed_all : (b rest : List ℕ) (old new : List Row) (count : ℕ) → HasFollowed b rest old new count → length rest ≡ 0 → Grows b old new count
followed_all b rest old new count has none = record {
  are = λ dim es spells.
      let f = has.follows dim es spells in
      sym (append-nil new) ∙ ap (λ (l : List Element). new ++ map row_of l) (sym (none_behind dim f.others rest f.spells none)) ∙ f.are;
  many = has.many;
}
