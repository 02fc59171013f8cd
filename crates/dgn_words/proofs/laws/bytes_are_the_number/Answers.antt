use Rattle.dgn_words.proofs.NumberBytes.{words_are_spelled, longs_are_spelled, range_longs_are_spelled}
use Rattle.dgn_words.proofs.laws.bytes_are_the_number.Goals as goal

pub returns-clause-words : goal.returns-clause-words
returns-clause-words c = words_are_spelled

pub returns-clause-longs : goal.returns-clause-longs
returns-clause-longs c = longs_are_spelled

pub returns-clause-range_longs : goal.returns-clause-range_longs
returns-clause-range_longs c = range_longs_are_spelled
