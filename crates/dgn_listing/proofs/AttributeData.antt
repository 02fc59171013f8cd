-- The attribute data of a sound element lie within it, and are those of its record.
use Rattle.std.proofs.Common.{ℕ, ◌≡◌, ◌+◌, ◌*◌, ◌≤◌, ◌==◌, ◌||◌, not, nat_lt, Bool, true, false, List, [], ◌∷◌, ◌++◌, length, refl, sym, ap, ◌∙◌, subst}
use Rattle.std.proofs.Common.{inl, inr, arith, ltb-false, ⊎_elim}
use Rattle.std.specs.Prelude.{Option, Some, None, Err, if◌then◌else◌, IsTrue, IsFalse, OnSome, IfNone, IfSome}
use Rattle.std.proofs.lemmas.Bool.{cases_Bool}
use Rattle.std.proofs.lemmas.Bool.Decides.{nat_tests}
use Rattle.elem_head.specs.Head.{kind_of, properties_of, has_attributes, attributes_start}
use Rattle.dgn_layout.specs.declared.types.Class.{Class}
use Rattle.dgn_layout.specs.Classes.{class_of, is_silent}
use Rattle.dgn_linkage.specs.declared.types.link.Link.{Link}
use Rattle.dgn_linkage.specs.Linkages.{linkages_of}
use Rattle.dgn_linkage.specs.Laws.{Fill}
use Rattle.dgn_linkage.proofs.LinkageSteps.{rules_of, fills}
use Rattle.dgn_drawing.specs.declared.body_fault.BodyFault.{BodyFault}
use Rattle.dgn_drawing.specs.Element.{Parts, Line, Points, Text, Node, Cell, Header, Plain, Body, Silent, Shown, Element, form_of_body, form_of_parts}
use Rattle.dgn_drawing.specs.Spelling.{spell}
use Rattle.dgn_drawing.specs.WellFormed.{IsDimension, IsWellFormed, says_attributes}
use Rattle.dgn_drawing.specs.Forms.{form_in, form_of}
use Rattle.dgn_drawing.specs.Reading.{form_at, end_at, index_of}
use Rattle.dgn_drawing.specs.Faults.{HasNoFaultIn, HasNoFault, is_shown, is_short, breaks_attribute_rule, element_fault}
use Rattle.dgn_drawing.specs.Laws.{BodySits}
use Rattle.dgn_drawing.proofs.BodyEnds.{sound_end}
use Rattle.dgn_drawing.proofs.BytesSpelled.{shown_after}
use Rattle.dgn_drawing.proofs.RecordsRead.{form-spell}
use Rattle.dgn_drawing.proofs.FieldPlaces.{all-sits}
use Rattle.dgn_listing.specs.LinkTexts.{data_start, data_start_in, data_text, links_text, links_text_in}

-- an element is silent exactly where its class is
shown_class : (c : Class) (kind : ℕ) → is_shown (form_in c kind) ≡ not (is_silent c)
shown_class Class.Vertices kind =
    let line : (kind == 3) ≡ true → is_shown (form_in Class.Vertices kind) ≡ true = λ e. rw e refl in
    let points : (kind == 3) ≡ false → is_shown (form_in Class.Vertices kind) ≡ true = λ e. rw e refl in
    ⊎_elim line points (cases_Bool (kind == 3))
shown_class Class.Words kind = refl
shown_class Class.Counted kind =
    let cell : (kind == 2) ≡ true → is_shown (form_in Class.Counted kind) ≡ true = λ e. rw e refl in
    let node : (kind == 2) ≡ false → (kind == 7) ≡ true → is_shown (form_in Class.Counted kind) ≡ true = λ e f. rw (e, f) refl in
    let header : (kind == 2) ≡ false → (kind == 7) ≡ false → is_shown (form_in Class.Counted kind) ≡ true = λ e f. rw (e, f) refl in
    ⊎_elim cell (λ e. ⊎_elim (node e) (header e) (cases_Bool (kind == 7))) (cases_Bool (kind == 2))
shown_class Class.Run kind = refl
shown_class Class.Floating kind = refl
shown_class Class.Boxed kind = refl
shown_class Class.Silent kind = refl

pub shown_at : (b : List ℕ) → is_shown (form_at b) ≡ not (is_silent (class_of (kind_of b)))
unfolding form_of
shown_at b = shown_class (class_of (kind_of b)) (kind_of b)

-- an element that isn't silent has a display part, and its attribute data begin within it
pub record IsLoud (b : List ℕ) : Type 0 where
  pub long : 36 ≤ length b
  pub within : has_attributes b ≡ true → attributes_start b ≤ length b

or_true : (t : Bool) → (t || true) ≡ true
or_true true = refl
or_true false = refl

loud_in : (dim : ℕ) (b : List ℕ) → IsDimension dim → HasNoFaultIn dim b → is_shown (form_at b) ≡ true → IsLoud b
loud_in dim b axes sound shown =
    let end = sound_end dim b sound in
    let after = shown_after dim b axes shown in
    record {
      long = omega arith;
      within = λ has. elim (cases_Bool (nat_lt (length b) (attributes_start b))) [
        | inl beyond ↦ absurd (
            let long : is_short dim b ≡ false = grind (arith, nat_tests) in
            let either : (nat_lt (attributes_start b) (end_at dim b) || nat_lt (length b) (attributes_start b)) ≡ true =
            rw beyond (or_true (nat_lt (attributes_start b) (end_at dim b))) in
            let breaks : breaks_attribute_rule dim b ≡ true = rw (shown, has, either) refl in
            let fault : element_fault dim b ≡ Err BodyFault.Attr = rw (long, breaks) refl in
            let e = sound.fault in cc)
        | inr behind ↦ ltb-false (length b) (attributes_start b) behind
      ];
    }

pub loud : (b : List ℕ) → HasNoFault b → is_silent (class_of (kind_of b)) ≡ false → IsLoud b
loud b (inl sound) heard = loud_in 2 b (inl refl) sound (shown_at b ∙ ap not heard)
loud b (inr sound) heard = loud_in 3 b (inr refl) sound (shown_at b ∙ ap not heard)

-- where the data begin, by what an answer says of it
pub start_none : (b : List ℕ) → is_silent (class_of (kind_of b)) ≡ true → None ≡ data_start_in b
start_none b silent = rw silent refl

pub start_found : (b : List ℕ) (r : Option ℕ) → is_silent (class_of (kind_of b)) ≡ false → OnSome r (IsTrue (has_attributes b))
    → IfNone r (IsFalse (has_attributes b)) → IfSome r (λ at. at ≡ attributes_start b) → r ≡ data_start_in b
start_found b None heard set clear at = rw (heard, clear) refl
start_found b (Some start) heard set clear at = rw (heard, set) (ap (λ (k : ℕ). Some k) at)

pub start_within : (b : List ℕ) (r : Option ℕ) → IsLoud b → OnSome r (IsTrue (has_attributes b)) → IfSome r (λ at. at ≡ attributes_start b)
    → IfSome r (λ at. at ≤ length b)
start_within b None loud set at = tt
start_within b (Some start) loud set at = let within = loud.within set in omega arith

-- linkages lie in their data, and are no more than its bytes
few : (at end : ℕ) (links : List Link) → Fill at end links → at + length links ≤ end
few at end [] fill = omega (arith, fill)
few at end (link ∷ links) fill = let rest = few (at + link.len) end links fill.2 in omega (arith, fill.1)

among : (at end : ℕ) (before : List Link) (link : Link) (behind : List Link) → Fill at end (before ++ link ∷ behind) → link.at ≤ end
among at end [] link behind fill = let rest = few (at + link.len) end behind fill.2 in omega (arith, fill.0, fill.1)
among at end (first ∷ before) link behind fill = among (at + first.len) end before link behind fill.2

filled : (b : List ℕ) → Fill 0 (length b) (linkages_of b)
filled b = fills 0 (length b) b (linkages_of b) (rules_of (length b) 0 b (omega arith)) (omega arith)

pub few_linkages : (b : List ℕ) → length (linkages_of b) ≤ length b
few_linkages b = let all = few 0 (length b) (linkages_of b) (filled b) in omega arith

pub linkage_within : (b : List ℕ) (before : List Link) (link : Link) (behind : List Link) → before ++ link ∷ behind ≡ linkages_of b → link.at ≤ length b
linkage_within b before link behind all = among 0 (length b) before link behind (subst (Fill 0 (length b)) (sym all) (filled b))

shown_parts : (parts : Parts) → is_shown (form_of_parts parts) ≡ true
shown_parts (Line points) = refl
shown_parts (Points points) = refl
shown_parts (Text run origin spare chars) = refl
shown_parts (Node total run origin) = refl
shown_parts (Cell total name run origin) = refl
shown_parts (Header total number) = refl
shown_parts Plain = refl

-- the attribute data of a record are those of its spelling
start-spell : (dim : ℕ) (e : Element) (body : Body) → e.body ≡ body → is_shown (form_at (spell e)) ≡ is_shown (form_of_body body) → BodySits dim e body
    → data_start_in (spell e) ≡ data_start body
start-spell dim e (Silent rest) is shown sits =
    let silent : not (is_silent (class_of (kind_of (spell e)))) ≡ false = sym (shown_at (spell e)) ∙ shown in
    rw silent refl
start-spell dim e (Shown d parts rest) is shown sits =
    let loud : not (is_silent (class_of (kind_of (spell e)))) ≡ true = sym (shown_at (spell e)) ∙ (shown ∙ shown_parts parts) in
    let index : index_of (spell e) ≡ d.index = sits.0.index in
    let properties : properties_of (spell e) ≡ d.properties = sits.0.properties in
    rw loud
    (ap (λ (p : ℕ). if says_attributes p then Some (attributes_start (spell e)) else None) properties
    ∙ ap (λ (k : ℕ). if says_attributes d.properties then Some (32 + 2 * k) else None) index)

pub links-spell : (dim : ℕ) (e : Element) → IsDimension dim → IsWellFormed dim e → links_text_in (spell e) ≡ links_text e
links-spell dim e axes good =
    ap (λ (start : Option ℕ). data_text start (spell e)) (start-spell dim e e.body refl (ap is_shown (form-spell dim e axes good)) (all-sits dim e axes good).1)
