-- What is gathered: its bytes are those of trees that can stand behind a drawing of the dimension.
use Rattle.std.proofs.Common.{◌≡◌, ℕ, ◌==◌, List, length, true, false, Option, Some, None, Result, Ok, Err, refl, sym, ap, ◌∙◌, subst, inl, inr}
use Rattle.std.specs.Prelude.{IfOk, IfSome}
use Rattle.std.proofs.lemmas.Bool.{cases_Bool, cond-true, cond-false, eqb-true, and_parts}
use Rattle.dgn_drawing.specs.Values.{Displacement, IsShift}
use Rattle.dgn_drawing.specs.Element.{Element}
use Rattle.dgn_drawing.specs.Spelling.{spelling}
use Rattle.dgn_drawing.specs.WellFormed.{IsDimension}
use Rattle.dgn_drawing.specs.Nesting.{Forest, flat}
use Rattle.dgn_drawing.specs.Opening.{Opens}
use Rattle.dgn_drawing.proofs.FirstElements.{dimension_is}
use Rattle.edit_ops.specs.declared.causes.cause.Cause.{Cause}
use Rattle.dgn_import.specs.declared.gathered.Gathered.{Gathered}
use Rattle.dgn_import.specs.declared.import_fault.ImportFault.{ImportFault}
use Rattle.dgn_import.specs.Answers.{TellsGathering}
use Rattle.dgn_import.specs.Gathering.{Trees, Dimension, fits, gathering_unless, gathered_in, gathered_trees, taken, import_trees, cause_of_roots, AreTrees}
use Rattle.dgn_import.specs.Laws.{NestApart, GatheredTreesNestApart}
use Rattle.dgn_import.proofs.TakenTrees.{taken_each}
use Rattle.dgn_import.proofs.GatheredBytes.{trees_good, trees_free, trees_apart}

-- trees are gathered where nothing refuses them
given : (cause : Option Cause) (trees : Forest Element) (count : ℕ) (b : List ℕ) (k : ℕ) → gathering_unless cause trees count ≡ Trees b k → (cause ≡ None)
    × (b ≡ spelling (flat trees)) × (k ≡ count)
given None trees count b k is = (refl, cc, cc)
given (Some c) trees count b k is = absurd (let x = is in cc)

-- where the dimensions are one
pub same_dim : (dim own : ℕ) (by : Option Displacement) → fits dim own by ≡ true → own ≡ dim
same_dim dim own None is = eqb-true own dim is
same_dim dim own (Some by) is = eqb-true own dim (and_parts (own == dim) (by.axes == dim) is).0

-- what is gathered where they fit, and where they don't
pub fitting : (dim own : ℕ) (es : List Element) (by : Option Displacement) → fits dim own by ≡ true
    → gathered_in dim own es by ≡ gathered_trees own es by
fitting dim own es by is = cond-true (fits dim own by) _ _ is

pub other_dim : (dim own : ℕ) (es : List Element) (by : Option Displacement) → fits dim own by ≡ false → gathered_in dim own es by ≡ Dimension
other_dim dim own es by is = cond-false (fits dim own by) _ _ is

pub nest_apart : GatheredTreesNestApart
nest_apart f dim own es t by b count opens known is = elim (cases_Bool (fits dim own by)) [
  | inl fit ↦
      let found = given (cause_of_roots own es by (taken es)) (import_trees own es by (taken es)) (length (taken es)) b count
      (sym (fitting dim own es by fit) ∙ is) in
      let axes : IsDimension own = subst IsDimension (sym opens.axes) (dimension_is f) in
      let here : NestApart own es by b count = record {
        text = found.1;
        each = trees_good own es axes opens.each opens.first by known (taken es) (taken_each es) found.0;
        free = trees_free own es axes opens.each opens.first by known (taken es) (taken_each es) found.0;
        counted = found.2;
        apart = trees_apart own es axes opens.each opens.first by known (taken es) (taken_each es) found.0;
      } in
      subst (λ (d : ℕ). NestApart d es by b count) (same_dim dim own by fit) here
  | inr other ↦ absurd (let x : Dimension ≡ Trees b count = sym (other_dim dim own es by other) ∙ is in cc)
]

-- so the bytes are those of such trees
pub are_trees : (f : List ℕ) (dim own : ℕ) (es : List Element) (t : List ℕ) (by : Option Displacement) (b : List ℕ) (count : ℕ)
    → Opens f own es t → IfSome by IsShift → fits dim own by ≡ true → gathered_in dim own es by ≡ Trees b count → AreTrees dim b
are_trees f dim own es t by b count opens known fit is =
    let n : NestApart dim es by b count = nest_apart f dim own es t by b count opens known is in
    record {
      elements = flat (import_trees dim es by (taken es));
      axes = subst IsDimension (sym opens.axes ∙ same_dim dim own by fit) (dimension_is f);
      each = n.each;
      text = n.text;
      free = n.free;
    }

pub trees_ok : (f : List ℕ) (dim own : ℕ) (es : List Element) (t : List ℕ) (by : Option Displacement) → Opens f own es t → IfSome by IsShift
    → fits dim own by ≡ true → (r : Result Gathered ImportFault) → TellsGathering (gathered_in dim own es by) r → IfOk r (λ g. AreTrees dim g.bytes)
trees_ok f dim own es t by opens known fit (Ok g) is = are_trees f dim own es t by g.bytes g.trees opens known fit is
trees_ok f dim own es t by opens known fit (Err fault) is = tt
