use Rattle.std.proofs.Common.{rules, append_assoc}
use Rattle.dgn_generator.specs.Generator.{generated_elements}
use Rattle.dgn_generator.proofs.generate.Goals as goal

pub returns : goal.returns
unfolding generated_elements
returns c = search (rules, append_assoc)
