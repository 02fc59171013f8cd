use Rattle.std.proofs.Common.{rules}
use Rattle.dgn_words.proofs.Rows.{longs_from_fn}
use Rattle.dgn_words.proofs.longs.Goals as goal

pub returns : goal.returns
returns g c = longs_from_fn _ _ _ _ (λ k v f' called. search rules) _ _ c.from_fn.ensures.items
