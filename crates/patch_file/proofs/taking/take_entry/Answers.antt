use Rattle.std.proofs.Common.{◌≡◌, length, map, ap, sym, ◌∙◌, subst}
use Rattle.std.specs.List.{AllByRecursion}
use Rattle.patch_bytes.specs.Puts.{AreWithin}
use Rattle.patch_bytes.proofs.RisingPuts.{span_within}
use Rattle.patch_file.specs.Exchanges.{IsSized, AllKeepRules}
use Rattle.patch_file.specs.Standing.{exchanged}
use Rattle.patch_file.proofs.Puts.{within_more, taken_rules}
use Rattle.patch_file.proofs.taking.take_entry.Goals as goal

pub all_exchanged-requires : goal.all_exchanged-requires
all_exchanged-requires c =
    let e = c.args.e.now in
    subst (AreWithin (length c.args.body.now)) (sym c.as_slice.ensures)
    (within_more e.len (length c.args.body.now) e.patches c.requires.long (span_within e.len e.patches 0 c.requires.rising))

-- patches that rise are taken as fields that rise
pub invariant_of-result : goal.invariant_of-result
invariant_of-result c =
    let e = c.args.e.now in
    let b = c.args.body.now in
    let are : c.in_ok-fields.fields ≡ map (exchanged c.args.body.now) e.patches = c.in_ok-fields.ensures.exchanges
    ∙ ap (map (exchanged b)) c.as_slice.ensures in
    record {
      rules = subst (AllKeepRules 0 e.len) (sym are)
          (taken_rules b 0 e.len e.patches c.requires.rising (subst (AllByRecursion IsSized) are c.in_ok-fields.ensures.sized));
    }
