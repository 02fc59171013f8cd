use Rattle.std.proofs.Common.{rules, ◌≡◌}
use Rattle.elem_index.specs.Design.{elements}
use Rattle.elem_index.proofs.Places.{sound_here}
use Rattle.dgn_listing.specs.LinkTexts.{links_text_in}
use Rattle.dgn_answers.specs.Texts.{links_said}
use Rattle.dgn_answers.proofs.Links.{links_answered}
use Rattle.dgn_answers.proofs.listings.answer_links.Goals as goal

pub write_links-requires : goal.write_links-requires
write_links-requires c = sound_here c.drawing.result c.drawing.ensures.whole c.args.n c.in-Some.bytes.now c.in-Some.ensures.bytes

pub returns-in_err-write_links-in-Some : goal.returns-in_err-write_links-in-Some
returns-in_err-write_links-in-Some c =
    let said : links_text_in c.in-Some.bytes.now ≡ links_said (elements c.drawing.result) c.args.n =
    links_answered c.drawing.result c.drawing.ensures.whole c.args.n c.in-Some.bytes.now c.in-Some.ensures.bytes in
    search rules

pub returns-in_ok-write_links-in-Some : goal.returns-in_ok-write_links-in-Some
returns-in_ok-write_links-in-Some c =
    let said : links_text_in c.in-Some.bytes.now ≡ links_said (elements c.drawing.result) c.args.n =
    links_answered c.drawing.result c.drawing.ensures.whole c.args.n c.in-Some.bytes.now c.in-Some.ensures.bytes in
    search rules
