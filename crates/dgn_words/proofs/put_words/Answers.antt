use Rattle.std.proofs.Common.{ap, ◌∙◌, List, ℕ}
use Rattle.dgn_words.specs.Numbers.{put}
use Rattle.dgn_words.proofs.Writes.{put_mid-front, turned, turned_bytes}
use Rattle.dgn_words.proofs.put_words.Goals as goal

pub returns : goal.returns
returns c =
    rw c.write_u32.ensures (put_mid-front c.args.at c.args.b.now (turned_bytes c.args.u) c.requires
    ∙ ap (λ (x : List ℕ). put c.args.b.now c.args.at x) (turned c.args.u c.ranges.u.fits))
