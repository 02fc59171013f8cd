-- Trees whose rows nest as their own elements' rows do are the trees of their elements.
use Rattle.std.proofs.Common.{◌≡◌, ◌++◌, length, take, drop, map, refl, sym, ap, ◌∙◌}
use Rattle.std.proofs.lemmas.List.{take_at, drop_at, length-map}
use Rattle.dgn_drawing.specs.declared.row.Row.{Row}
use Rattle.dgn_drawing.specs.Nesting.{Forest, NoTree, Tree, forest, forest_map, flat, itself}
use Rattle.nest_tree.proofs.NestingSteps.{flat-forest}
use Rattle.nest_tree.proofs.ByRows.{forest_rows, flat-map}

length-flat : {A : Type 0} (row : A → Row) (f g : Forest A) → forest_map row f ≡ forest_map row g → length (flat f) ≡ length (flat g)
length-flat row f g same =
    sym (length-map (flat f) row) ∙ ap (length {A = Row}) (sym (flat-map row f) ∙ ap flat same ∙ flat-map row g) ∙ length-map (flat g) row

-- trees of one form over the same elements are the same
same_forest : {A : Type 0} (row : A → Row) (f g : Forest A) → forest_map row f ≡ forest_map row g → flat f ≡ flat g → f ≡ g
same_forest row NoTree NoTree same order = refl
same_forest row NoTree (Tree k h b r) same order = absurd (let e = same in cc)
same_forest row (Tree k h b r) NoTree same order = absurd (let e = same in cc)
same_forest {A} row (Tree k h b r) (Tree k' h' b' r') same order =
    let knot : k ≡ k' = cc in
    let below : forest_map row b ≡ forest_map row b' = cc in
    let behind : forest_map row r ≡ forest_map row r' = cc in
    let head : h ≡ h' = cc in
    let rest : flat b ++ flat r ≡ flat b' ++ flat r' = cc in
    let long : length (flat b') ≡ length (flat b) = sym (length-flat row b b' below) in
    let first : flat b ≡ flat b' =
    sym (take_at (flat b) (flat r) (length (flat b)) refl) ∙ ap (take (length (flat b))) rest ∙ take_at (flat b') (flat r') (length (flat b)) long in
    let last : flat r ≡ flat r' =
    sym (drop_at (flat b) (flat r) (length (flat b)) refl) ∙ ap (drop (length (flat b))) rest ∙ drop_at (flat b') (flat r') (length (flat b)) long in
    let inner = same_forest row b b' below first in
    let outer = same_forest row r r' behind last in
    cc

pub known : {A : Type 0} (row : A → Row) (f : Forest A) → forest_map row f ≡ forest itself (map row (flat f)) → f ≡ forest row (flat f)
known row f same = same_forest row f (forest row (flat f)) (same ∙ sym (forest_rows row (flat f))) (sym (flat-forest row (flat f)))
