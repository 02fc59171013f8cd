use Rattle.dgn_listing.proofs.AttributeData.{links-spell}
use Rattle.dgn_listing.proofs.laws.links_are_of_the_record.Goals as goal

pub returns : goal.returns
returns c = λ dim e axes good. links-spell dim e axes good
