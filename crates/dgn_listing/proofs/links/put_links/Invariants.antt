use Rattle.std.proofs.Common.{◌≡◌, ◌++◌, length}
use Rattle.std.specs.List.{flat_map}
use Rattle.dgn_linkage.specs.Linkages.{linkages_of}
use Rattle.dgn_linkage.specs.Links.{links_left}
use Rattle.dgn_listing.specs.LinkTexts.{link_text}
use Rattle.dgn_listing.proofs.links.put_links.Given as goal

-- the linkages so far and those that are left are all linkages
abbrev pub invariant-links : goal.invariant-links
invariant-links l = record {
  written : l.out.items ≡ l.fn.out.items ++ flat_map (link_text l.start) l.yielded;
  all : l.yielded ++ links_left l.link-iterator ≡ linkages_of l.attributes;
  counted : l.count ≡ length l.yielded;
}
