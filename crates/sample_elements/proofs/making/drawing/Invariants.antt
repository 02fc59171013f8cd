use Rattle.std.proofs.Common.{◌≡◌, ◌++◌, map, drop}
use Rattle.sample_elements.specs.Samples.{tcb, concatenated}
use Rattle.sample_elements.proofs.making.drawing.Given as goal

abbrev pub invariant-loop-piece : goal.invariant-loop-piece
invariant-loop-piece l =
    l.bytes.items ++ concatenated (map (λ piece. piece.now) (drop l.piece-index l.pieces))
    ≡ tcb l.fn.first l.fn.mark ++ concatenated (map (λ piece. piece.now) l.fn.pieces)
