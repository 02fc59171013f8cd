use Rattle.std.proofs.Common.{◌≡◌, ◌++◌, ◌∷◌, List, length, length-append, ℕ, codes, sym, ap, ◌∙◌, append_assoc, arith}
use Rattle.std.specs.List.{flat_map}
use Rattle.std.proofs.lemmas.List.{append-nil}
use Rattle.std.proofs.lemmas.List.Concat.{flat_map-append}
use Rattle.dgn_linkage.specs.declared.types.link.Link.{Link}
use Rattle.dgn_linkage.specs.Linkages.{linkages_of}
use Rattle.dgn_linkage.specs.Links.{links_left}
use Rattle.patch_bytes.proofs.Fronts.{behind, stopped, as_text}
use Rattle.dgn_listing.specs.Lines.{ending_text}
use Rattle.dgn_listing.specs.LinkTexts.{link_text}
use Rattle.dgn_listing.proofs.AttributeData.{few_linkages, linkage_within}
use Rattle.dgn_listing.proofs.links.put_links.Goals as goal

pub put_link-requires : goal.put_link-requires
put_link-requires c =
    let parts : c.links.yielded ++ c.in-Some.link ∷ links_left c.next.new.self ≡ linkages_of c.args.attributes.now =
    ap (λ (ls : List Link). c.links.yielded ++ ls) (sym c.in-Some.ensures.steps) ∙ c.links.invariant.all in
    omega (arith, linkage_within c.args.attributes.now c.links.yielded c.in-Some.link (links_left c.next.new.self) parts)

pub returns-in_err-put_link : goal.returns-in_err-put_link
returns-in_err-put_link c =
    let text : Link → List ℕ = link_text c.args.start in
    let left : List Link = links_left c.next.new.self in
    let all : List Link = linkages_of c.args.attributes.now in
    let ending : List ℕ = ending_text (codes "links") (length all) in
    let parts : c.links.yielded ++ c.in-Some.link ∷ left ≡ all = ap (λ (ls : List Link). c.links.yielded ++ ls) (sym c.in-Some.ensures.steps)
    ∙ c.links.invariant.all in
    as_text (behind (flat_map text c.links.yielded) c.links.invariant.written
    (stopped (flat_map text left ++ ending) c.in_err-put_link.ensures c.from_residual.ensures.0))
    (ap (λ (t : List ℕ). flat_map text c.links.yielded ++ t) (sym (append_assoc (text c.in-Some.link) (flat_map text left) ending))
    ∙ sym (append_assoc (flat_map text c.links.yielded) (text c.in-Some.link ++ flat_map text left) ending)
    ∙ ap (λ (t : List ℕ). t ++ ending) (sym (flat_map-append text c.links.yielded (c.in-Some.link ∷ left)) ∙ ap (flat_map text) parts))

pub overflow_add-count : goal.overflow_add-count
overflow_add-count c =
    let parts : c.links.yielded ++ c.in-Some.link ∷ links_left c.next.new.self ≡ linkages_of c.args.attributes.now =
    ap (λ (ls : List Link). c.links.yielded ++ ls) (sym c.in-Some.ensures.steps) ∙ c.links.invariant.all in
    omega (arith, ap (length {A = Link}) parts, length-append c.links.yielded (c.in-Some.link ∷ links_left c.next.new.self), few_linkages c.args.attributes.now)

pub returns : goal.returns
returns c =
    let all : c.links.yielded ≡ linkages_of c.args.attributes.now =
    sym (append-nil c.links.yielded) ∙ (ap (λ (ls : List Link). c.links.yielded ++ ls) (sym c.in-None.ensures.steps.0) ∙ c.links.invariant.all) in
    let count : c.links.count ≡ length (linkages_of c.args.attributes.now) = c.links.invariant.counted ∙ ap (length {A = Link}) all in
    as_text (behind (flat_map (link_text c.args.start) c.links.yielded) c.links.invariant.written c.put_ending.ensures)
    (ap (λ (ls : List Link). flat_map (link_text c.args.start) ls ++ ending_text (codes "links") c.links.count) all
    ∙ ap (λ (k : ℕ). flat_map (link_text c.args.start) (linkages_of c.args.attributes.now) ++ ending_text (codes "links") k) count)
