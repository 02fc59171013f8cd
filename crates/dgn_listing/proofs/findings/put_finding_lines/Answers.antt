use Rattle.std.proofs.Common.{refl}
use Rattle.patch_bytes.proofs.Loops.{among, one_more, all_written}
use Rattle.dgn_listing.proofs.findings.put_finding_lines.Goals as goal

pub returns-in_err-put_finding : goal.returns-in_err-put_finding
returns-in_err-put_finding c = among _ c.loop-finding.invariant c.loop-finding-test.true refl c.in_err-put_finding.ensures c.from_residual.ensures.0

pub loop-finding-preserved : goal.loop-finding-preserved
loop-finding-preserved c = one_more _ c.loop-finding.invariant c.loop-finding-test.true refl c.in_ok-put_finding.ensures

pub returns : goal.returns
returns c = all_written c.loop-finding.invariant c.loop-finding-test.false
