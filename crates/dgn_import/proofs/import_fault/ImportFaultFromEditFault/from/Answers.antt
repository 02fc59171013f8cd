use Rattle.std.proofs.Common.{rules}
use Rattle.dgn_import.proofs.import_fault.ImportFaultFromEditFault.from.Goals as goal

pub returns-in-Refused : goal.returns-in-Refused
returns-in-Refused c = search rules
