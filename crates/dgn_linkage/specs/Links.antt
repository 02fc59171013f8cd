-- What the iterator over linkages still gives.
use Rattle.std.specs.Prelude.{List, drop}
use Rattle.dgn_linkage.specs.declared.types.link.Link.{Link}
use Rattle.dgn_linkage.specs.declared.types.links.Links.{Links}
use Rattle.dgn_linkage.specs.Linkages.{linkages_from}

-- the linkages that are left
abbrev pub links_left : Links → List Link
links_left l = linkages_from l.at (drop l.at l.bytes.now)
