-- An element whose body is turned into another that is as long.
use Rattle.std.proofs.Common.{◌≡◌, ℕ, ◌+◌, ◌/◌, List, [], ◌∷◌, ◌++◌, length, map, refl, sym, ap, ◌∙◌, subst, arith}
use Rattle.std.proofs.lemmas.List.{append-nil}
use Rattle.dgn_words.specs.Numbers.{word_bytes}
use Rattle.patch_bytes.specs.Puts.{Put, write, Span}
use Rattle.patch_bytes.proofs.RisingPuts.{span_more}
use Rattle.dgn_drawing.specs.Element.{Body, Element, form_of_body}
use Rattle.dgn_drawing.specs.Spelling.{first_byte, second_byte, body_bytes, spell, size_of}
use Rattle.dgn_drawing.specs.WellFormed.{HasBody, HasAttributesInPlace, IsWellFormed}
use Rattle.dgn_drawing.specs.Rows.{total_of}
use Rattle.dgn_drawing.proofs.Looks.{with_body}
use Rattle.dgn_revision.specs.Stretches.{Stretch, stretch_of}
use Rattle.dgn_revision.specs.Laws.{IsRevised}
use Rattle.dgn_revision.proofs.PiecesWritten.{Writes}

-- the first four bytes, where so many words follow
front : Element → ℕ → List ℕ
front e words = first_byte e ∷ second_byte e ∷ word_bytes words

-- what a body is turned into
pub record TurnsBody (dim : ℕ) (e : Element) (old new : Body) (ps : List Put) (fields : List Stretch) : Type 0 where
  pub wrote : Writes 4 (body_bytes old) ps (body_bytes new)
  pub over : map stretch_of ps ≡ fields
  pub parts : HasBody dim new
  pub form : form_of_body new ≡ form_of_body old
  pub total : total_of new ≡ total_of old
  pub attributes : size_of (with_body e new) ≡ size_of (with_body e old) → HasAttributesInPlace (with_body e new) new

module _ (dim : ℕ) (e : Element) (old new : Body) (ps : List Put) (fields : List Stretch) (good : IsWellFormed dim (with_body e old))
    (turned : TurnsBody dim e old new ps fields) where
  size-new : size_of (with_body e new) ≡ size_of (with_body e old)
  unfolding spell
  size-new = let same = turned.wrote.same in omega arith

  size-body : size_of (with_body e old) ≡ 4 + length (body_bytes old)
  unfolding spell
  size-body = omega arith

  spell-front : (b : Body) (words : ℕ) → length (body_bytes b) / 2 ≡ words → spell (with_body e b) ≡ front e words ++ (body_bytes b ++ [])
  unfolding spell front
  spell-front b words is = rw (is, append-nil (body_bytes b)) refl

  spelled_new : spell (with_body e new) ≡ write (spell (with_body e old)) ps
  unfolding front
  spelled_new =
      let words : ℕ = length (body_bytes old) / 2 in
      let same : length (body_bytes new) / 2 ≡ words = ap (λ (n : ℕ). n / 2) (sym turned.wrote.same) in
      spell-front new words same
      ∙ sym (turned.wrote.writes (front e words) [] refl)
      ∙ ap (λ (z : List ℕ). write z ps) (sym (spell-front old words refl))

  good_new : IsWellFormed dim (with_body e new)
  unfolding spell
  good_new = record {
    level = good.level;
    kind = good.kind;
    form = good.form ∙ sym turned.form;
    parts = turned.parts;
    even = rw size-new good.even;
    small = rw size-new good.small;
    no_mark = good.no_mark;
    attributes = turned.attributes size-new;
  }

  -- the element with the other body
  pub revised_body : IsRevised dim (with_body e old) (with_body e new) ps fields
  revised_body = record {
    spelled = spelled_new;
    rises = span_more 4 (size_of (with_body e old)) [] ps 0 (omega arith) (subst (λ (n : ℕ). Span 4 ps n) (sym size-body) turned.wrote.rises);
    over = turned.over;
    good = good_new;
    row = ap (λ (n : ℕ). record { size = n; kind = e.kind; cbit = e.cbit; total = total_of new }) size-new
        ∙ ap (λ (n : ℕ). record { size = size_of (with_body e old); kind = e.kind; cbit = e.cbit; total = n }) turned.total;
  }
