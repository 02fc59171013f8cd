use Rattle.dgn_listing.proofs.LineFields.{long_enough}
use Rattle.dgn_listing.proofs.Listings.{listed_is}
use Rattle.dgn_listing.proofs.listed.listed_at.Goals as goal

pub head-head-requires : goal.head-head-requires
head-head-requires c = long_enough c.args.d.now c.is_whole.ensures c.args.n c.in_ok-bytes.bytes.now c.in_ok-bytes.ensures.bytes

pub returns : goal.returns
returns c =
    listed_is c.args.d.now c.is_whole.ensures c.args.n c.in_ok-offset.offset c.in_ok-bytes.bytes.now c.head-head.result c.in_ok-bytes.ensures.bytes
    c.in_ok-offset.ensures.place c.head-head.ensures
