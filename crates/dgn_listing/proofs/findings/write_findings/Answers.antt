use Rattle.patch_bytes.proofs.Fronts.{next}
use Rattle.dgn_listing.proofs.findings.write_findings.Goals as goal

pub returns : goal.returns
returns c = next c.in_ok-put_finding_lines.ensures c.put_ending.ensures
