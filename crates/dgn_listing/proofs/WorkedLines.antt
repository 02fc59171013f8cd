-- The lines of worked drawings compute.
use Rattle.std.proofs.Common.{◌≡◌, ◌++◌, ◌∷◌, [], ℕ, pos, negsuc, codes, refl, true, false}
use Rattle.std.specs.Prelude.{Bool}
use Rattle.std.specs.Fmt.{digits}
use Rattle.nest_tree.specs.declared.knot.Knot.{Knot}
use Rattle.dgn_drawing.specs.declared.types.item.Item.{Item}
use Rattle.dgn_drawing.specs.declared.types.item_body.ItemBody.{ItemBody}
use Rattle.dgn_listing.specs.declared.tree_line.TreeLine.{TreeLine}
use Rattle.dgn_listing.specs.Lines.{line_feed}
use Rattle.dgn_listing.specs.ItemTexts.{item_text, items_text}
use Rattle.dgn_listing.specs.TreeTexts.{line_text}

-- an item with a plain look
abbrev plain : ℕ → ℕ → ℕ → ℕ → ℕ → ItemBody → Item
plain axes number depth kind level body = record {
  number = number;
  depth = depth;
  kind = kind;
  level = level;
  symb = record { color = 0; weight = 0; style = 0 };
  axes = axes;
  range = record { lo = pos 5 ∷ pos 5 ∷ pos 0 ∷ []; hi = pos 9 ∷ pos 9 ∷ pos 0 ∷ [] };
  body = body;
}

a_line : item_text (plain 2 1 0 3 1 (ItemBody.Path ((pos 10 ∷ negsuc 4 ∷ pos 0 ∷ []) ∷ (pos 110 ∷ pos 45 ∷ pos 0 ∷ []) ∷ [])))
    ≡ codes "1 0 3 1 0 0 0 path 10,-5 110,45" ++ line_feed
unfolding digits
a_line = refl

a_line_in_space : item_text (plain 3 1 0 3 1 (ItemBody.Path ((pos 1 ∷ pos 2 ∷ pos 3 ∷ []) ∷ (pos 11 ∷ pos 12 ∷ pos 13 ∷ []) ∷ [])))
    ≡ codes "1 0 3 1 0 0 0 path 1,2,3 11,12,13" ++ line_feed
unfolding digits
a_line_in_space = refl

a_box : item_text (plain 2 3 1 16 1 ItemBody.Boxed) ≡ codes "3 1 16 1 0 0 0 box 5,5 9,9" ++ line_feed
unfolding digits
a_box = refl

a_text : item_text (plain 2 6 1 17 3 (ItemBody.Text (pos 0 ∷ negsuc 9 ∷ pos 0 ∷ []) (68 ∷ 92 ∷ 31 ∷ []))) ≡ codes "6 1 17 3 0 0 0 text 0,-10 D\\5c\\1f"
    ++ line_feed
unfolding digits
a_text = refl

a_node : items_text (plain 2 4 0 7 3 (ItemBody.Node (pos 0 ∷ pos 0 ∷ pos 0 ∷ [])) ∷ []) ≡ codes "4 0 7 3 0 0 0 node 0,0"
    ++ (line_feed ++ (codes "shown 1" ++ line_feed))
unfolding digits
a_node = refl

nothing : items_text [] ≡ codes "shown 0" ++ line_feed
unfolding digits
nothing = refl

-- an element of a tree
abbrev said : ℕ → ℕ → Knot → Bool → Bool → TreeLine
said number kind knot deleted orphan = record { number = number; depth = 0; kind = kind; level = 1; knot = knot; deleted = deleted; orphan = orphan }

a_loose_header : line_text (said 1 2 Knot.Loose false false) ≡ codes "1 0 2 1 loose live" ++ line_feed
unfolding digits
a_loose_header = refl

an_orphan : line_text (said 2 3 Knot.Leaf true true) ≡ codes "2 0 3 1 leaf deleted orphan" ++ line_feed
unfolding digits
an_orphan = refl
