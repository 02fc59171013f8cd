-- A request of the program, as what the words ask for.
use Rattle.std.specs.Prelude.{◌≤◌}
use Rattle.dgn_tool.specs.Request as asked
use Rattle.dgn_tool.specs.declared.request.Request.{Request}
use Rattle.dgn_tool.specs.declared.request.Request.TheVariants.{Edit, Check, Gen, Pack, Apply}

abbrev pub seen : Request → asked.Request
seen (Edit input script output) = asked.Edit input.now script.now output.now
seen (Check input) = asked.Check input.now
seen (Gen seed count output) = asked.Gen seed count output.now
seen (Pack input script patch) = asked.Pack input.now script.now patch.now
seen (Apply input patch output) = asked.Apply input.now patch.now output.now

-- a drawing is generated with 1 to 200000 elements behind its TCB
abbrev pub IsCounted : Request → Type 0
IsCounted (Gen seed count output) = (1 ≤ count) × (count ≤ 200000)
IsCounted other = Unit {0}
