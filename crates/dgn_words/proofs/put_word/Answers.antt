use Rattle.dgn_words.specs.Numbers.{word_bytes}
use Rattle.dgn_words.proofs.Writes.{put_mid-front}
use Rattle.dgn_words.proofs.put_word.Goals as goal

pub returns : goal.returns
returns c = rw c.write_u16.ensures (put_mid-front c.args.at c.args.b.now (word_bytes c.args.v) c.requires)
