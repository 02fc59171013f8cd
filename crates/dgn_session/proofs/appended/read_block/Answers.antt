use Rattle.std.proofs.Common.{◌≡◌, ℕ, ◌+◌, ◌*◌, [], ◌∷◌, length, length-append, ap, ◌∙◌, arith}
use Rattle.dgn_drawing.specs.declared.row.Row.{Row}
use Rattle.elem_head.specs.declared.types.Head.{Head}
use Rattle.elem_head.specs.Head.{size_of}
use Rattle.elem_index.proofs.Places.{is_false}
use Rattle.dgn_session.proofs.SpelledRows.{head_there, first_there, sound_first, left_more, next_within, block_before, block_at_end}
use Rattle.dgn_session.proofs.appended.read_block.Goals as goal

pub head-requires : goal.head-requires
head-requires c =
    head_there c.args.bytes.now c.elements.rows.items c.elements.at c.split_at.result.1.now c.elements.invariant.left c.split_at.ensures.back
    c.elements-test.true c.requires

pub split_at-requires-in-elements : goal.split_at-requires-in-elements
split_at-requires-in-elements c =
    let words = c.from.ensures ∙ ap (λ (h : Head). h.words) c.head.ensures in
    let said : 4 + 2 * c.from.result ≡ size_of c.split_at.result.1.now = ap (λ (n : ℕ). 4 + 2 * n) words in
    first_there c.args.bytes.now c.elements.rows.items c.elements.at c.split_at.result.1.now c.elements.invariant.left c.split_at.ensures.back
    c.elements-test.true c.requires (4 + 2 * c.from.result) said

pub row_of-row-requires : goal.row_of-row-requires
row_of-row-requires c =
    let words = c.from.ensures ∙ ap (λ (h : Head). h.words) c.head.ensures in
    let said : 4 + 2 * c.from.result ≡ size_of c.split_at.result.1.now = ap (λ (n : ℕ). 4 + 2 * n) words in
    sound_first c.args.bytes.now c.elements.rows.items c.elements.at c.split_at.result.1.now c.elements.invariant.left c.split_at.ensures.back
    c.elements-test.true c.requires (4 + 2 * c.from.result) c.split_at-in-elements.result.0.now said c.split_at-in-elements.ensures.front

pub elements-preserved : goal.elements-preserved
elements-preserved c =
    let words = c.from.ensures ∙ ap (λ (h : Head). h.words) c.head.ensures in
    let said : 4 + 2 * c.from.result ≡ size_of c.split_at.result.1.now = ap (λ (n : ℕ). 4 + 2 * n) words in
    record {
      left = left_more c.args.bytes.now c.elements.rows.items c.elements.at c.split_at.result.1.now c.elements.invariant.left c.split_at.ensures.back
          c.elements-test.true (4 + 2 * c.from.result)
          c.split_at-in-elements.result.0.now c.row_of-row.result c.push_row.new.rows.items said c.split_at-in-elements.ensures.front c.row_of-row.ensures
          c.in_ok-push_row.ensures;
      few = omega (
        arith,
        ap (length {A = Row}) c.in_ok-push_row.ensures,
        length-append c.elements.rows.items (c.row_of-row.result ∷ []),
        c.elements.invariant.few,
      );
      within = next_within c.args.bytes.now c.elements.rows.items c.elements.at c.split_at.result.1.now c.elements.invariant.left c.split_at.ensures.back
          c.elements-test.true c.requires (4 + 2 * c.from.result) said;
    }

-- a block that ends before an element without bit C
pub returns-then-not-row : goal.returns-then-not-row
returns-then-not-row c =
    let words = c.from.ensures ∙ ap (λ (h : Head). h.words) c.head.ensures in
    let said : 4 + 2 * c.from.result ≡ size_of c.split_at.result.1.now = ap (λ (n : ℕ). 4 + 2 * n) words in
    record {
      block = record {
        begins = block_before c.args.bytes.now c.elements.rows.items c.elements.at c.split_at.result.1.now c.elements.invariant.left c.split_at.ensures.back
            c.elements-test.true (4 + 2 * c.from.result)
            c.split_at-in-elements.result.0.now c.row_of-row.result said c.split_at-in-elements.ensures.front c.row_of-row.ensures
            (is_false c.row_of-row.result.cbit c.if-not-row.true);
        some = λ _. omega (arith, c.elements.invariant.few, c.if-len-ge-BLOCK.true, c.len.ensures);
        within = c.elements.invariant.within;
        few = c.elements.invariant.few;
      };
    }

-- and one that ends with the bytes
pub returns : goal.returns
returns c = record {
  block = record {
    begins = block_at_end c.args.bytes.now c.elements.rows.items c.elements.at c.elements.invariant.left c.elements-test.false;
    some = λ some. omega (arith, some, c.elements-test.false);
    within = c.elements.invariant.within;
    few = c.elements.invariant.few;
  };
}
