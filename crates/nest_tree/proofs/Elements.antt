-- The rows of well formed elements are rows of elements, of the sizes that their classes have at the least.
use Rattle.std.proofs.Common.{◌≡◌, ℕ, ◌≤◌, ◌<◌, [], refl, sym, ap, ◌∙◌, subst, arith, true, inl, inr}
use Rattle.std.specs.Prelude.{◌==◌}
use Rattle.std.proofs.lemmas.List.{append-nil}
use Rattle.std.proofs.lemmas.Bool.{cases_Bool}
use Rattle.elem_head.specs.Head.{size_of as size_said}
use Rattle.dgn_layout.specs.declared.types.Class.{Class}
use Rattle.dgn_layout.specs.Classes.{class_of}
use Rattle.dgn_drawing.specs.Forms.{form_in, form_of}
use Rattle.dgn_drawing.specs.Element.{Line, Points, Text, Node, Cell, Header, Plain, Body, Silent, Shown, Element}
use Rattle.dgn_drawing.specs.Spelling.{spell, size_of}
use Rattle.dgn_drawing.specs.WellFormed.{IsDimension, IsWellFormed, HasBody}
use Rattle.dgn_drawing.specs.Reading.{form_at}
use Rattle.dgn_drawing.specs.Faults.{is_shown, HasNoFaultIn, HasNoFault}
use Rattle.dgn_drawing.specs.Rows.{total_of}
use Rattle.dgn_drawing.proofs.RecordsRead.{kind-spell, size-spell, form-spell, size_said-spell, end_at-spell, element_fault-spell}
use Rattle.dgn_drawing.proofs.BytesSpelled.{shown_after}
use Rattle.dgn_drawing.proofs.BodyEnds.{total_within}
use Rattle.nest_tree.specs.Depths.{least_size}
use Rattle.nest_tree.specs.Laws.{HasElementRow}

shown_in : (c : Class) (kind : ℕ) → (c ≡ Class.Silent → ⊥) → is_shown (form_in c kind) ≡ true
shown_in Class.Vertices kind some = elim (cases_Bool (kind == 3)) [ inl a ↦ rw a refl | inr b ↦ rw b refl ]
shown_in Class.Words kind some = refl
shown_in Class.Counted kind some =
    elim (cases_Bool (kind == 2)) [
      | inl a ↦ rw a refl
      | inr b ↦ elim (cases_Bool (kind == 7)) [ inl c ↦ rw (b, c) refl | inr d ↦ rw (b, d) refl ]
    ]
shown_in Class.Run kind some = refl
shown_in Class.Floating kind some = refl
shown_in Class.Boxed kind some = refl
shown_in Class.Silent kind some = absurd (some refl)

total_word : (dim : ℕ) (b : Body) → HasBody dim b → total_of b < 65536
total_word dim (Silent rest) has = omega arith
total_word dim (Shown d (Line points) rest) has = omega arith
total_word dim (Shown d (Points points) rest) has = omega arith
total_word dim (Shown d (Text run origin spare chars) rest) has = omega arith
total_word dim (Shown d Plain rest) has = omega arith
total_word dim (Shown d (Node total run origin) rest) has = has.1.word
total_word dim (Shown d (Cell total name run origin) rest) has = has.1.word
total_word dim (Shown d (Header total number) rest) has = has.1.0

module _ (dim : ℕ) (e : Element) (axes : IsDimension dim) (good : IsWellFormed dim e) where
  sound : HasNoFaultIn dim (spell e)
  sound = record {
    size = sym (size_said-spell dim e axes good []) ∙ ap size_said (append-nil (spell e));
    fault = element_fault-spell dim e axes good;
  }

  four : 4 ≤ size_of e
  four = omega (arith, size-spell dim e axes good)

  shown : (c : Class) → class_of e.kind ≡ c → (c ≡ Class.Silent → ⊥) → 36 ≤ size_of e
  unfolding form_of
  shown c is some =
      let form : form_at (spell e) ≡ form_in c e.kind = form-spell dim e axes good ∙ sym good.form ∙ ap (λ (k : Class). form_in k e.kind) is in
      let begins = shown_after dim (spell e) axes (ap is_shown form ∙ shown_in c e.kind some) in
      omega (arith, end_at-spell dim e axes good)

  counted : class_of e.kind ≡ Class.Counted → 40 ≤ size_of e
  counted is = total_within (spell e) (either axes) (ap class_of (kind-spell dim e axes good) ∙ is)
    where
      either : IsDimension dim → HasNoFault (spell e)
      either (inl two) = inl (subst (λ (n : ℕ). HasNoFaultIn n (spell e)) two sound)
      either (inr three) = inr (subst (λ (n : ℕ). HasNoFaultIn n (spell e)) three sound)

  sized : (c : Class) → class_of e.kind ≡ c → least_size c ≤ size_of e
  sized Class.Counted is = counted is
  sized Class.Silent is = four
  sized Class.Vertices is = shown Class.Vertices is (λ never. absurd (cc))
  sized Class.Words is = shown Class.Words is (λ never. absurd (cc))
  sized Class.Run is = shown Class.Run is (λ never. absurd (cc))
  sized Class.Floating is = shown Class.Floating is (λ never. absurd (cc))
  sized Class.Boxed is = shown Class.Boxed is (λ never. absurd (cc))

  pub element_row : HasElementRow e
  element_row = record {
    is_row = record { large = four; typed = good.kind };
    sized = sized (class_of e.kind) refl;
    word = total_word dim e.body good.parts;
  }
