use Rattle.patch_bytes.proofs.Loops.{HasWritten}
use Rattle.dgn_listing.specs.FindingTexts.{finding_line}
use Rattle.dgn_listing.proofs.findings.put_finding_lines.Given as goal

abbrev pub invariant-loop-finding : goal.invariant-loop-finding
invariant-loop-finding l = HasWritten finding_line l.list l.finding-index l.fn.out.items l.out.items
