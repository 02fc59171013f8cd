-- The display is what the trees of the roots show.
use Rattle.std.proofs.Common.{◌≡◌, ℕ, ◌+◌, ◌≤◌, List, [], ◌∷◌, ◌++◌, refl, sym, ap, ◌∙◌, arith}
use Rattle.std.specs.Prelude.{◌==◌, None}
use Rattle.std.specs.List.{flat_map, AllByRecursion}
use Rattle.std.proofs.lemmas.List.{append-nil}
use Rattle.std.proofs.lemmas.Bool.{cond-true, cond-false, eq-eqb, ne_eqb}
use Rattle.dgn_drawing.specs.declared.types.item.Item.{Item}
use Rattle.dgn_drawing.specs.declared.mask.Mask.{Mask}
use Rattle.dgn_drawing.specs.Element.{Element}
use Rattle.dgn_drawing.specs.Rows.{row_of}
use Rattle.dgn_drawing.specs.Nesting.{Forest, NoTree, Tree, forest}
use Rattle.dgn_drawing.specs.Numbering.{end_of}
use Rattle.dgn_drawing.specs.Shown.{shown_tree, items, shown, tree_from, tree_shown, roots, IsRoot}
use Rattle.level_view.proofs.ItemsBack.{Stands, head_marked, behind_stands, all_stand}
use Rattle.level_view.proofs.TreeItems.{parent_at}

pub roots_from : {A : Type 0} (k n : ℕ) (f : Forest A) → k ≤ n → AllByRecursion (λ r. k ≤ r) (roots n f)
roots_from k n NoTree low = tt
roots_from k n (Tree knot h below behind) low = (low, roots_from k (end_of n below) behind (omega arith))

same_each : (f g : ℕ → List Item) (P : ℕ → Type 0) (ns : List ℕ) → ((n : ℕ) → P n → f n ≡ g n) → AllByRecursion P ns → flat_map f ns ≡ flat_map g ns
same_each f g P [] same each = refl
same_each f g P (n ∷ ns) same each =
    ap (λ (x : List Item). x ++ flat_map f ns) (same n each.0) ∙ ap (λ (x : List Item). g n ++ x) (same_each f g P ns same each.1)

module _ (dim : ℕ) (mask : Mask) where
  trees_join : (f : Forest Element) (n : ℕ) → items dim mask n 0 f ≡ flat_map (λ r. items dim mask r 0 (tree_from r n f)) (roots n f)
  trees_join NoTree n = refl
  trees_join (Tree knot e below behind) n =
      let first : tree_from n n (Tree knot e below behind) ≡ Tree knot e below NoTree =
      cond-true (n == n) (Tree knot e below NoTree) (tree_from n (end_of n below) behind) (eq-eqb n n refl) in
      let head : items dim mask n 0 (tree_from n n (Tree knot e below behind)) ≡ shown_tree dim mask knot n 0 e (items dim mask (n + 1) 1 below) =
      ap (items dim mask n 0) first ∙ append-nil (shown_tree dim mask knot n 0 e (items dim mask (n + 1) 1 below)) in
      let rest : flat_map (λ r. items dim mask r 0 (tree_from r (end_of n below) behind)) (roots (end_of n below) behind)
      ≡ flat_map (λ r. items dim mask r 0 (tree_from r n (Tree knot e below behind))) (roots (end_of n below) behind) =
      same_each (λ r. items dim mask r 0 (tree_from r (end_of n below) behind)) (λ r. items dim mask r 0 (tree_from r n (Tree knot e below behind)))
      (λ r. n + 1 ≤ r) (roots (end_of n below) behind)
      (λ r after. ap (items dim mask r 0)
      (sym (cond-false (n == r) (Tree knot e below NoTree) (tree_from r (end_of n below) behind) (ne_eqb n r (omega arith)))))
      (roots_from (n + 1) (end_of n below) behind (omega arith)) in
      ap (λ (x : List Item). shown_tree dim mask knot n 0 e (items dim mask (n + 1) 1 below) ++ x) (trees_join behind (end_of n below) ∙ rest)
      ∙ ap (λ (x : List Item). x ++ flat_map (λ r. items dim mask r 0 (tree_from r n (Tree knot e below behind))) (roots (end_of n below) behind)) (sym head)

  pub display_joins : (es : List Element) → shown dim mask es ≡ flat_map (λ n. tree_shown dim mask es n) (roots 0 (forest row_of es))
  display_joins es = trees_join (forest row_of es) 0

roots_are : (es : List Element) (f : Forest Element) (n : ℕ) → Stands es f n 0 None → AllByRecursion (λ r. IsRoot row_of es r) (roots n f)
roots_are es NoTree n stands = tt
roots_are es (Tree knot e below behind) n stands = (
  ap parent_at (head_marked es knot e below behind n 0 None stands),
  roots_are es behind (end_of n below) (behind_stands es knot e below behind n 0 None stands),
)

pub all_roots : (es : List Element) → AllByRecursion (λ r. IsRoot row_of es r) (roots 0 (forest row_of es))
all_roots es = roots_are es (forest row_of es) 0 (all_stand es)
