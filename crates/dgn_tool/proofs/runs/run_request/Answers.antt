use Rattle.std.proofs.Common.{Some, Ok, Err, refl, sym, subst}
use Rattle.dgn_desk.specs.Seen.{seen}
use Rattle.dgn_tool.specs.declared.request.Request.{Request}
use Rattle.dgn_tool.specs.Ends.{ComesTo}
use Rattle.dgn_tool.specs.Generation.{generation}
use Rattle.dgn_tool.specs.Outcome.{reading_of}
use Rattle.dgn_tool.specs.Readings.{at_once, ending_of}
use Rattle.dgn_tool.specs.RequestView as view
use Rattle.dgn_tool.proofs.ReadingsInTurn.{comes_so}
use Rattle.dgn_tool.proofs.RunParts.{reads_nothing}
use Rattle.dgn_tool.proofs.runs.run_request.Goals as goal

pub returns-in-Gen : goal.returns-in-Gen
returns-in-Gen g c =
    let o = generation c.in-Gen.seed c.in-Gen.count c.in-Gen.output.now in
    let old = seen g.D.Desk c.args.desk.now in
    let new = seen g.D.Desk c.generate_file.new.desk in
    record {
      ends = subst (λ (r : Request). ComesTo (λ files. ending_of (reading_of (Some (view.seen r)) files)) (Err c.of.result) old new) (sym c.in-Gen.is)
          (comes_so (λ _. ending_of (at_once (Ok o))) o c.generate_file.result c.of.result _ _ (λ _. refl) c.of.ensures c.generate_file.ensures);
      reads = λ fault. absurd (reads_nothing c.generate_file.result c.of.result c.of.ensures fault);
    }
