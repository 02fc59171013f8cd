-- The live elements of some numbers, one after the other.
use Rattle.std.proofs.Common.{◌≡◌, ℕ, ◌+◌, ◌<◌, List, [], ◌∷◌, ◌++◌, length, drop, get_or, Option, Some, None, refl, sym, ap, ◌∙◌, subst, append_assoc}
use Rattle.std.specs.Prelude.{slice_get, option_map}
use Rattle.std.specs.List.{AllByRecursion}
use Rattle.std.specs.Option.{option_or, option_to_list}
use Rattle.std.proofs.lemmas.List.{append-nil, drop_more}
use Rattle.std.proofs.lemmas.List.Concat.{flat_map-append}
use Rattle.dgn_drawing.specs.Element.{Element}
use Rattle.patch_bytes.specs.Puts.{Put}
use Rattle.elem_index.specs.Offsets.{offset_of}
use Rattle.edit_ops.specs.declared.causes.cause.Cause.{Cause}
use Rattle.edit_ops.specs.declared.causes.test.Test.{Test}
use Rattle.edit_ops.specs.Trees.{Live, found_at}
use Rattle.edit_ops.specs.Causes.{cause_at, first_cause}
use Rattle.edit_ops.specs.Asking.{cause_in}
use Rattle.edit_ops.specs.Rules.{Rule}
use Rattle.edit_ops.specs.Written.{lives_of, live_puts}
use Rattle.edit_ops.proofs.EachLive.{each_first, each_last}

-- the next of the numbers that are left
pub found_next : (es : List Element) (live : List ℕ) (i : ℕ) → i < length live → lives_of es (drop i live) ≡ option_to_list (found_at es (get_or live i 0))
    ++ lives_of es (drop (i + 1) live)
found_next es live i within = ap (lives_of es) (drop_more live i 0 within)

-- what a test has against the next and those behind it
first_of : (dim : ℕ) (test : Test) (es : List Element) (m : ℕ) (o : Option Element) (vs : List Live)
    → first_cause dim test (option_to_list (option_map (λ (e : Element). record { number = m; place = offset_of es m; element = e }) o) ++ vs)
    ≡ option_or (cause_in dim test m o) (first_cause dim test vs)
first_of dim test es m None vs = refl
first_of dim test es m (Some e) vs = refl

-- the first of three that is there, however they are taken together
pub or_assoc : (a b c : Option Cause) → option_or (option_or a b) c ≡ option_or a (option_or b c)
or_assoc None b c = refl
or_assoc (Some x) b c = refl

-- what a test has against the first of joined elements is what it has against the first list, and else against the second
pub cause_both : (dim : ℕ) (test : Test) (us vs : List Live) → first_cause dim test (us ++ vs) ≡ option_or (first_cause dim test us) (first_cause dim test vs)
cause_both dim test [] vs = refl
cause_both dim test (u ∷ us) vs =
    ap (λ (o : Option Cause). option_or (cause_at dim test u.number u.element) o) (cause_both dim test us vs)
    ∙ sym (or_assoc (cause_at dim test u.number u.element) (first_cause dim test us) (first_cause dim test vs))

-- nothing behind a cause leaves it
pub or_nothing : (a : Option Cause) → option_or a None ≡ a
or_nothing None = refl
or_nothing (Some c) = refl

-- what a test has against one element is what it has against that element alone
pub cause_alone : (dim : ℕ) (test : Test) (es : List Element) (m : ℕ)
    → first_cause dim test (option_to_list (found_at es m)) ≡ cause_in dim test m (slice_get es m)
cause_alone dim test es m =
    ap (first_cause dim test) (sym (append-nil (option_to_list (found_at es m))))
    ∙ first_of dim test es m (slice_get es m) []
    ∙ or_nothing (cause_in dim test m (slice_get es m))

-- what holds of each that is left holds of the next and of those behind it
pub each_next : (P : Live → Type 0) (es : List Element) (live : List ℕ) (i : ℕ) → i < length live → AllByRecursion P (lives_of es (drop i live))
    → AllByRecursion P (option_to_list (found_at es (get_or live i 0))) × AllByRecursion P (lives_of es (drop (i + 1) live))
each_next P es live i within each =
    let both = subst (AllByRecursion P) (found_next es live i within) each in (
      each_first P (option_to_list (found_at es (get_or live i 0))) (lives_of es (drop (i + 1) live)) both,
      each_last P (option_to_list (found_at es (get_or live i 0))) (lives_of es (drop (i + 1) live)) both,
    )

-- what is put into the next and those behind it
pub puts_next : (r : Rule) (es : List Element) (live : List ℕ) (i : ℕ) (done : List Put) → i < length live
    → (done ++ live_puts r (option_to_list (found_at es (get_or live i 0)))) ++ live_puts r (lives_of es (drop (i + 1) live)) ≡ done
    ++ live_puts r (lives_of es (drop i live))
puts_next r es live i done within =
    let next : List Live = option_to_list (found_at es (get_or live i 0)) in
    append_assoc done (live_puts r next) (live_puts r (lives_of es (drop (i + 1) live)))
    ∙ ap (λ (ps : List Put). done ++ ps)
    (sym (flat_map-append (λ v. r.puts v.place v.element) next (lives_of es (drop (i + 1) live)))
    ∙ ap (live_puts r) (sym (found_next es live i within)))
