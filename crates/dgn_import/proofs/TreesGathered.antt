-- The trees that are taken, one after the other: what is gathered of the roots so far, and behind the last one of all.
use Rattle.std.proofs.Common.{◌≡◌, ℕ, ◌+◌, ◌<◌, ◌≤◌, List, [], ◌∷◌, ◌++◌, length, true, false, Option, Some, None, refl, sym, ap, ◌∙◌, append_assoc}
use Rattle.std.proofs.Common.{length-append, arith}
use Rattle.std.specs.Prelude.{option_map}
use Rattle.std.specs.Option.{option_or}
use Rattle.std.proofs.lemmas.List.{append-nil}
use Rattle.dgn_drawing.specs.Values.{Displacement}
use Rattle.dgn_drawing.specs.Element.{Element}
use Rattle.dgn_drawing.specs.Rows.{row_of}
use Rattle.dgn_drawing.specs.Spelling.{spelling}
use Rattle.dgn_drawing.specs.Nesting.{NoTree, flat}
use Rattle.dgn_drawing.specs.Numbering.{Mark, mark_of}
use Rattle.edit_ops.proofs.TreesBehind.{first_spelled}
use Rattle.edit_ops.specs.declared.causes.cause.Cause.{Cause}
use Rattle.edit_ops.specs.declared.causes.edit_fault.EditFault.{EditFault}
use Rattle.edit_ops.specs.declared.causes.edit_fault.EditFault.TheVariants as faults
use Rattle.edit_ops.specs.Copying.{IsStopped}
use Rattle.dgn_import.specs.Answers.{TellsFault, fault_of_tree}
use Rattle.dgn_import.specs.Gathering.{Trees, is_taken, taken, import_tree, import_trees, import_cause, cause_of_roots, gathering_unless, gathered_trees}
use Rattle.level_view.proofs.TakenRoots.{StandsAt, stands_first, all_found, first_passes, further, stands_taken, stands_left, chosen_few}

or_three : {A : Type 0} (a b c : Option A) → option_or a (option_or b c) ≡ option_or (option_or a b) c
or_three None b c = refl
or_three (Some x) b c = refl

module _ (dim : ℕ) (es : List Element) (by : Option Displacement) where
  abbrev text_of : List ℕ → List ℕ
  text_of ns = spelling (flat (import_trees dim es by ns))

  -- the trees of some roots, and of more behind them
  text_both : (ns ms : List ℕ) → text_of (ns ++ ms) ≡ text_of ns ++ text_of ms
  text_both [] ms = refl
  text_both (n ∷ ns) ms =
      let one : List ℕ = spelling (flat (import_tree dim es by n)) in
      first_spelled (import_tree dim es by n) (import_trees dim es by (ns ++ ms))
      ∙ ap (λ (b : List ℕ). one ++ b) (text_both ns ms)
      ∙ sym (append_assoc one (text_of ns) (text_of ms))
      ∙ ap (λ (b : List ℕ). b ++ text_of ms) (sym (first_spelled (import_tree dim es by n) (import_trees dim es by ns)))

  text_one : (n : ℕ) → text_of (n ∷ []) ≡ spelling (flat (import_tree dim es by n))
  text_one n = first_spelled (import_tree dim es by n) NoTree ∙ append-nil (spelling (flat (import_tree dim es by n)))

  -- and the first cause of them
  cause_both : (ns ms : List ℕ) → cause_of_roots dim es by (ns ++ ms) ≡ option_or (cause_of_roots dim es by ns) (cause_of_roots dim es by ms)
  cause_both [] ms = refl
  cause_both (n ∷ ns) ms =
      ap (option_or (import_cause dim es by n)) (cause_both ns ms)
      ∙ or_three (import_cause dim es by n) (cause_of_roots dim es by ns) (cause_of_roots dim es by ms)

  -- the trees that are taken of the roots before number k, which nothing refuses
  pub record AreGathered (k : ℕ) (bytes : List ℕ) (count : ℕ) : Type 0 where
    pub done : List ℕ
    pub at : StandsAt es (is_taken es) k done
    pub text : bytes ≡ text_of done
    pub none : cause_of_roots dim es by done ≡ None
    pub counted : count ≡ length done

  pub none_gathered : (bytes : List ℕ) → bytes ≡ [] → AreGathered 0 bytes 0
  none_gathered bytes none = record { done = []; at = stands_first es (is_taken es); text = none; none = refl; counted = refl }

  module _ (k count : ℕ) (bytes : List ℕ) (are : AreGathered k bytes count) (known : k < length es) where
    module _ (passes : is_taken es k ≡ true) where
      abbrev rest : List ℕ
      rest = (first_passes es (is_taken es) k are.done are.at known passes).0

      all : are.done ++ k ∷ rest ≡ taken es
      all = ap (λ (ns : List ℕ). are.done ++ ns) (sym (first_passes es (is_taken es) k are.done are.at known passes).1) ∙ are.at.all

      -- there are more elements than trees so far
      pub more_elements : count < length es
      more_elements = omega (arith, are.counted, ap (length {A = ℕ}) all, length-append are.done (k ∷ rest), chosen_few es (is_taken es))

      first_refused : (c : Cause) → import_cause dim es by k ≡ Some c → cause_of_roots dim es by (taken es) ≡ Some c
      first_refused c is =
          ap (cause_of_roots dim es by) (sym all)
          ∙ cause_both are.done (k ∷ rest)
          ∙ ap (λ (o : Option Cause). option_or o (cause_of_roots dim es by (k ∷ rest))) are.none
          ∙ ap (λ (o : Option Cause). option_or o (cause_of_roots dim es by rest)) is

      -- where the tree of the root is refused, it is the first
      pub next_refused : (fault : EditFault) → IsStopped (import_cause dim es by k) fault → TellsFault (gathered_trees dim es by) (fault_of_tree fault)
      next_refused (faults.Refused cause) is =
          ap (λ (c : Option Cause). gathering_unless c (import_trees dim es by (taken es)) (length (taken es))) (first_refused cause is)
      next_refused faults.Memory is = tt

    module _ (end : ℕ) (ends : Some end ≡ option_map (λ (m : Mark). m.end) (mark_of row_of es k)) where
      pub goes_on : k < end
      goes_on = further es (is_taken es) k end are.done are.at known ends

      -- a root whose tree isn't taken
      pub next_left : is_taken es k ≡ false → AreGathered end bytes count
      next_left fails = record {
        done = are.done;
        at = stands_left es (is_taken es) k end are.done are.at known ends fails;
        text = are.text;
        none = are.none;
        counted = are.counted;
      }

      -- the tree of a root that is put behind the others
      pub next_gathered : is_taken es k ≡ true → (after : List ℕ) → import_cause dim es by k ≡ None → after ≡ bytes
          ++ spelling (flat (import_tree dim es by k))
          → AreGathered end after (count + 1)
      next_gathered passes after sound is = record {
        done = are.done ++ k ∷ [];
        at = stands_taken es (is_taken es) k end are.done are.at known ends passes;
        text =
            is
            ∙ ap (λ (b : List ℕ). b ++ spelling (flat (import_tree dim es by k))) are.text
            ∙ ap (λ (b : List ℕ). text_of are.done ++ b) (sym (text_one k))
            ∙ sym (text_both are.done (k ∷ []));
        none =
            cause_both are.done (k ∷ [])
            ∙ ap (λ (o : Option Cause). option_or o (cause_of_roots dim es by (k ∷ []))) are.none
            ∙ ap (λ (o : Option Cause). option_or o None) sound;
        counted = omega (arith, are.counted, length-append are.done (k ∷ []));
      }

  -- behind the last root all are
  module _ (k count : ℕ) (bytes : List ℕ) (are : AreGathered k bytes count) (past : length es ≤ k) where
    done_all : are.done ≡ taken es
    done_all = all_found es (is_taken es) k are.done past are.at

    pub all_gathered : gathered_trees dim es by ≡ Trees bytes count
    all_gathered =
        ap (λ (c : Option Cause). gathering_unless c (import_trees dim es by (taken es)) (length (taken es)))
        (ap (cause_of_roots dim es by) (sym done_all) ∙ are.none)
        ∙ ap (λ (b : List ℕ). Trees b (length (taken es))) (sym (are.text ∙ ap text_of done_all))
        ∙ ap (Trees bytes) (sym (are.counted ∙ ap (length {A = ℕ}) done_all))
