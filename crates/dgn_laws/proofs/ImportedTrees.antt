-- What an import leaves of a state: the trees of its second file behind those that were there, or the state.
use Rattle.std.proofs.Common.{◌≡◌, ℕ, ◌+◌, ◌<◌, ◌≤◌, true, false, List, [], ◌∷◌, ◌++◌, length, Option, Some, None, Ok, Err, inl, inr, refl, sym, ap, ◌∙◌}
use Rattle.std.proofs.Common.{subst, arith}
use Rattle.std.specs.Prelude.{IfSome, Result, codes, ◌==◌}
use Rattle.std.proofs.lemmas.Bool.{cases_Bool, eqb-true, and_parts}
use Rattle.std.proofs.lemmas.Bool.Decides.{nat_tests}
use Rattle.std.proofs.lemmas.Grind.{flat_map-append}
use Rattle.dgn_drawing.specs.Element.{Element}
use Rattle.dgn_drawing.specs.Spelling.{spell, spelling}
use Rattle.dgn_drawing.specs.Rows.{row_of}
use Rattle.dgn_drawing.specs.Nesting.{Forest, flat, forest}
use Rattle.dgn_drawing.specs.Values.{Displacement, IsShift}
use Rattle.dgn_drawing.specs.WellFormed.{IsBytes, IsDimension}
use Rattle.dgn_drawing.specs.Opening.{Fault, Opens, elements_of}
use Rattle.dgn_drawing.proofs.FirstElements.{dimension_is}
use Rattle.dgn_drawing.proofs.Fronts.{elements-spelling}
use Rattle.dgn_drawing.specs.declared.limits.TheConstants.{MOST_DESIGN}
use Rattle.elem_index.specs.Opened.{Opened, opening}
use Rattle.elem_index.proofs.OpeningAnswers.{opens-opening, opening-opens}
use Rattle.edit_ops.specs.Causes.{too_long}
use Rattle.edit_ops.specs.declared.causes.cause.Cause.{Cause}
use Rattle.dgn_import.specs.Seconds.{as_second, second_of}
use Rattle.dgn_import.specs.Gathering.{Gathering, Trees, Bad, Dimension, Refused, fits, gathering_unless, gathered, gathered_in, taken, cause_of_roots}
use Rattle.dgn_import.specs.Laws.{NestApart}
use Rattle.dgn_import.proofs.GatheredTrees.{nest_apart, same_dim, fitting, other_dim}
use Rattle.dgn_session.specs.State.{State}
use Rattle.dgn_listing.specs.NumberedLines.{numbered}
use Rattle.dgn_answers.specs.Commands.{first_state}
use Rattle.dgn_answers.specs.Steps.{Step, after_all}
use Rattle.dgn_answers.specs.Imports.{Importing, Appends, Declines, unless_long, importing, importing_of, import_refused, import_left}
use Rattle.dgn_tool.specs.Laws.{steps_of_files}
use Rattle.dgn_laws.specs.ImportLaws.{trees_taken, CanFollow, TreesFollow, ImportsNestApart, ImportsOfRunsNestApart, RefusedImportsChangeNothing}
use Rattle.dgn_tool.proofs.OpenSeconds.{not_long, steps_given}
use Rattle.dgn_laws.proofs.FitFindings.{opens_after}

-- a displacement is given for the axes of a drawing that fits
axes_fit : (dim own : ℕ) (by : Option Displacement) → fits dim own by ≡ true → IfSome by (λ shift. shift.axes ≡ dim)
axes_fit dim own None fit = tt
axes_fit dim own (Some shift) fit = eqb-true shift.axes dim (and_parts (own == dim) (shift.axes == dim) fit).1

-- and one of the dimension fits where it is
fit_axes : (dim own : ℕ) (by : Option Displacement) → own ≡ dim → IfSome by (λ shift. shift.axes ≡ dim) → fits dim own by ≡ true
fit_axes dim own None same axes = grind (arith, nat_tests)
fit_axes dim own (Some shift) same axes = grind (arith, nat_tests)

-- where trees are gathered, nothing refuses one
none_refuses : (cause : Option Cause) (trees : Forest Element) (count : ℕ) (b : List ℕ) (k : ℕ) → gathering_unless cause trees count ≡ Trees b k → cause ≡ None
none_refuses None trees count b k is = refl
none_refuses (Some c) trees count b k is = absurd (let x = is in cc)

-- a drawing from which trees are gathered, whose bytes fit
module _ (s : State) (some : 0 < length s.top) (g : List ℕ) (by : Option Displacement) (known : IfSome by IsShift) (o : Opened)
    (opens : Opens g o.dim o.elements o.tail)
    (b : List ℕ) (count : ℕ) (is : gathered_in s.dim o.dim o.elements by ≡ Trees b count) (few : length (spelling s.top) + s.rest + length b ≤ MOST_DESIGN)
    (fit : fits s.dim o.dim by ≡ true) where
  same : o.dim ≡ s.dim
  same = same_dim s.dim o.dim by fit

  apart : NestApart o.dim o.elements by b count
  apart = subst (λ (dim : ℕ). NestApart dim o.elements by b count) (sym same) (nest_apart g s.dim o.dim o.elements o.tail by b count opens known is)

  axes : IsDimension o.dim
  axes = subst IsDimension (sym opens.axes) (dimension_is g)

  -- the elements of the bytes are those of the trees
  are : elements_of s.dim b ≡ flat (trees_taken o by)
  are =
      ap (λ (dim : ℕ). elements_of dim b) (sym same)
      ∙ ap (elements_of o.dim) apart.text
      ∙ elements-spelling o.dim axes (flat (trees_taken o by)) apart.each

  trees_follow : TreesFollow s g by (Appends b count)
  trees_follow = record {
    drawing = o;
    opens = opens;
    can = record {
      dimension = same;
      axes = axes_fit s.dim o.dim by fit;
      no_cause = none_refuses (cause_of_roots o.dim o.elements by (taken o.elements)) (trees_taken o by) (length (taken o.elements)) b count
          (sym (fitting s.dim o.dim o.elements by fit) ∙ is);
      fits = subst (λ (x : List ℕ). length (spelling s.top) + s.rest + length x ≤ MOST_DESIGN) apart.text few;
    };
    trees = ap (λ (es : List Element). forest row_of (s.top ++ es)) are ∙ apart.apart s.top some;
    bytes = flat_map-append spell s.top (elements_of s.dim b) ∙ ap (λ (es : List Element). spelling s.top ++ spelling es) are;
    said = ap (numbered (codes "ok ")) apart.counted;
  }

-- by what is gathered from it
module _ (s : State) (some : 0 < length s.top) (g : List ℕ) (by : Option Displacement) (known : IfSome by IsShift) (o : Opened)
    (opens : Opens g o.dim o.elements o.tail) where
  unless_follows : (b : List ℕ) (count : ℕ) → gathered_in s.dim o.dim o.elements by ≡ Trees b count → (cause : Option Cause)
      → too_long (length (spelling s.top) + s.rest + length b) ≡ cause
      → import_refused (unless_long cause b count) ≡ false → TreesFollow s g by (unless_long cause b count)
  unless_follows b count is None short accepted = elim (cases_Bool (fits s.dim o.dim by)) [
    | inl fit ↦ trees_follow s some g by known o opens b count is (not_long (length (spelling s.top) + s.rest + length b) short) fit
    | inr other ↦ absurd (let x : Dimension ≡ Trees b count = sym (other_dim s.dim o.dim o.elements by other) ∙ is in cc)
  ]
  unless_follows b count is (Some cause) long accepted = absurd (let x = accepted in cc)

  gathered_follows : (found : Gathering) → gathered_in s.dim o.dim o.elements by ≡ found → import_refused (importing s found) ≡ false
      → TreesFollow s g by (importing s found)
  gathered_follows (Trees b count) is accepted = unless_follows b count is (too_long (length (spelling s.top) + s.rest + length b)) refl accepted
  gathered_follows (Bad fault) is accepted = absurd (let x = accepted in cc)
  gathered_follows Dimension is accepted = absurd (let x = accepted in cc)
  gathered_follows (Refused cause) is accepted = absurd (let x = accepted in cc)

-- what is gathered from a file that opens is gathered from its elements
gathered_as : (dim : ℕ) (g : List ℕ) (by : Option Displacement) (o : Opened) → IsBytes g → Opens g o.dim o.elements o.tail
    → gathered dim (second_of g) by ≡ gathered_in dim o.dim o.elements by
gathered_as dim g by o bytes opens =
    let axes : IsDimension o.dim = subst IsDimension (sym opens.axes) (dimension_is g) in
    ap (λ (found : Result Opened Fault). gathered dim (as_second found) by) (opening-opens g o bytes opens)
    ∙ ap (λ (es : List Element). gathered_in dim o.dim es by) (elements-spelling o.dim axes o.elements opens.each)

-- a file whose import is accepted opens
opened_follows : (s : State) → 0 < length s.top → (g : List ℕ) (by : Option Displacement) → IsBytes g → IfSome by IsShift → (found : Result Opened Fault)
    → opening g ≡ found
    → import_refused (importing_of s (second_of g) by) ≡ false → TreesFollow s g by (importing_of s (second_of g) by)
opened_follows s some g by bytes known (Ok o) is accepted =
    let opens = opens-opening g o bytes is in
    let found_is : gathered s.dim (second_of g) by ≡ gathered_in s.dim o.dim o.elements by = gathered_as s.dim g by o bytes opens in
    subst (λ (found : Gathering). TreesFollow s g by (importing s found)) (sym found_is)
    (gathered_follows s some g by known o opens (gathered_in s.dim o.dim o.elements by) refl
    (ap (λ (found : Gathering). import_refused (importing s found)) (sym found_is) ∙ accepted))
opened_follows s some g by bytes known (Err fault) is accepted =
    let declined : import_refused (importing_of s (second_of g) by) ≡ true =
    ap (λ (found : Result Opened Fault). import_refused (importing_of s (as_second found) by)) is in
    absurd (let x : true ≡ false = sym declined ∙ accepted in cc)

pub imports_nest_apart : ImportsNestApart
imports_nest_apart s some g by bytes known accepted = opened_follows s some g by bytes known (opening g) refl accepted

-- a drawing that opens has an element
some_first : (f : List ℕ) (dim : ℕ) (es : List Element) (t : List ℕ) → Opens f dim es t → 0 < length es
some_first f dim [] t opens = absurd opens.first
some_first f dim (e ∷ es) t opens = omega arith

pub runs_nest_apart : ImportsOfRunsNestApart
runs_nest_apart f d cs files opens fits bytes =
    let gs : List Step = steps_of_files cs files in
    let s : State = after_all gs (first_state d) in
    let here = subst (λ (g : List ℕ). Opens g d.dim d.elements d.tail) opens.whole opens in
    imports_nest_apart s (some_first (spelling s.top ++ d.tail) s.dim s.top d.tail
    (opens_after d.tail gs (first_state d) refl (steps_given cs files fits bytes) here))

-- one that is refused leaves the state
left_same : (s : State) (came : Importing) → import_refused came ≡ true → import_left came s ≡ s
left_same s (Declines line) refused = refl
left_same s (Appends b count) refused = absurd (let x = refused in cc)

-- a file within its limit isn't too long
short_enough : (n : ℕ) → n ≤ MOST_DESIGN → too_long n ≡ None
short_enough n few = grind (arith, nat_tests)

-- trees that can stand behind a state do
accepts : (s : State) (g : List ℕ) (by : Option Displacement) (o : Opened) → IsBytes g → Opens g o.dim o.elements o.tail → CanFollow s o by
    → import_refused (importing_of s (second_of g) by) ≡ false
accepts s g by o bytes opens can =
    let count : ℕ = length (taken o.elements) in
    let b : List ℕ = spelling (flat (trees_taken o by)) in
    let trees : gathered s.dim (second_of g) by ≡ Trees b count =
    gathered_as s.dim g by o bytes opens
    ∙ fitting s.dim o.dim o.elements by (fit_axes s.dim o.dim by can.dimension can.axes)
    ∙ ap (λ (cause : Option Cause). gathering_unless cause (trees_taken o by) count) can.no_cause in
    ap (λ (found : Gathering). import_refused (importing s found)) trees
    ∙ ap (λ (cause : Option Cause). import_refused (unless_long cause b count)) (short_enough (length (spelling s.top) + s.rest + length b) can.fits)

pub refused_change_nothing : RefusedImportsChangeNothing
refused_change_nothing s g by bytes refused = record {
  same = left_same s (importing_of s (second_of g) by) refused;
  cannot = λ o opens can. absurd (let x : true ≡ false = sym refused ∙ accepts s g by o bytes opens can in cc);
}
