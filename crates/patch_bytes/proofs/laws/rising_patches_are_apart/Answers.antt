use Rattle.patch_bytes.proofs.RisingPuts.{span_within, span_apart, span_more}
use Rattle.patch_bytes.proofs.laws.rising_patches_are_apart.Goals as goal

pub returns-clause-apart : goal.returns-clause-apart
returns-clause-apart c = λ n m ps s. (span_within m ps n s, span_apart m ps n s)

pub returns-clause-join : goal.returns-clause-join
returns-clause-join c = λ n k m ps qs s t. span_more k m ps qs n s t
