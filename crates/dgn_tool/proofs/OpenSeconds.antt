-- What an import appends: trees behind elements that open, from a second file that opens.
use Rattle.std.proofs.Common.{◌≡◌, ℕ, ◌+◌, ◌<◌, ◌≤◌, true, false, List, [], ◌∷◌, ◌++◌, length, map, drop, get_or, Option, Some, None, Ok, Err, inl, inr}
use Rattle.std.proofs.Common.{refl, sym, ap, ◌∙◌, subst, arith, length-append, nat_lt}
use Rattle.std.specs.Prelude.{All, IfSome, Result}
use Rattle.std.proofs.lemmas.Bool.{cases_Bool}
use Rattle.std.proofs.lemmas.Bool.Decides.{nat_tests}
use Rattle.std.proofs.lemmas.Grind.{flat_map-append}
use Rattle.std.proofs.lemmas.List.{get_or_append_left, drop_at}
use Rattle.std.proofs.lemmas.List.Elements.{All-nil, All-head, All-tail, All-cons}
use Rattle.patch_bytes.specs.Puts.{write}
use Rattle.dgn_drawing.specs.Element.{Element}
use Rattle.dgn_drawing.specs.Spelling.{spell, spelling}
use Rattle.dgn_drawing.specs.Values.{Displacement, IsShift}
use Rattle.dgn_drawing.specs.WellFormed.{IsBytes}
use Rattle.dgn_drawing.specs.Opening.{Fault, Opens, elements_of}
use Rattle.dgn_drawing.proofs.Fronts.{opens_of, elements-spelling}
use Rattle.dgn_drawing.specs.declared.limits.TheConstants.{MOST_DESIGN}
use Rattle.elem_index.specs.Opened.{Opened, opening}
use Rattle.elem_index.proofs.OpeningAnswers.{opens-opening}
use Rattle.edit_ops.specs.Causes.{too_long}
use Rattle.edit_ops.specs.declared.causes.cause.Cause.{Cause}
use Rattle.edit_ops.proofs.WhatIsLeft.{appended_opens}
use Rattle.dgn_import.specs.Seconds.{SecondValue, Drawing, Faulty, as_second, second_of}
use Rattle.dgn_import.specs.Gathering.{Gathering, Trees, Bad, Dimension, Refused, fits, gathered, AreTrees}
use Rattle.dgn_import.proofs.GatheredTrees.{are_trees, other_dim}
use Rattle.dgn_session.specs.State.{State}
use Rattle.dgn_drawing.specs.declared.command.Command.{Command}
use Rattle.dgn_drawing.specs.declared.command.Command.TheVariants as command
use Rattle.edit_ops.specs.Fields.{filled}
use Rattle.dgn_answers.specs.Imports.{Appends, unless_long, importing, importing_of}
use Rattle.dgn_answers.specs.Steps.{Step, Plain, Import, first_second, step_of, seconds_behind, steps_of}
use Rattle.dgn_tool.specs.Laws.{IsEditIn, steps_of_files}

-- a drawing of a second file opens
abbrev pub IsOpen : SecondValue → Type 0
IsOpen (Drawing own body tail) = Opens (body ++ tail) own (elements_of own body) tail
IsOpen (Faulty fault) = Unit {0}

-- what a step keeps of its values, and of its second file
abbrev pub IsStep : Step → Type 0
IsStep (Plain c) = IsEditIn c
IsStep (Import v by) = IfSome by IsShift × IsOpen v

-- what a file comes to is such
opened_so : (f : List ℕ) (found : Result Opened Fault) → IsBytes f → opening f ≡ found → IsOpen (as_second found)
opened_so f (Ok o) bytes is =
    let opens = opens-opening f o bytes is in
    opens_of (spelling o.elements) o.tail o.dim o.elements (subst (λ (g : List ℕ). Opens g o.dim o.elements o.tail) opens.whole opens)
opened_so f (Err fault) bytes is = tt

second_open : (f : List ℕ) → IsBytes f → IsOpen (second_of f)
second_open f bytes = opened_so f (opening f) bytes refl

seconds_open : (files : List (List ℕ)) → All IsBytes files → All IsOpen (map second_of files)
seconds_open [] bytes = All-nil IsOpen
seconds_open (f ∷ files) bytes =
    All-cons IsOpen (second_of f) (map second_of files) (second_open f (All-head IsBytes f files bytes)) (seconds_open files (All-tail IsBytes f files bytes))

first_open : (vs : List SecondValue) → All IsOpen vs → IsOpen (first_second vs)
first_open [] all = tt
first_open (v ∷ vs) all = All-head IsOpen v vs all

rest_open : (vs : List SecondValue) → All IsOpen vs → All IsOpen (drop 1 vs)
rest_open [] all = all
rest_open (v ∷ vs) all = All-tail IsOpen v vs all

-- a command is such a step, and leaves such files
one_given : (c : Command) (vs : List SecondValue) → IsEditIn c → All IsOpen vs → IsStep (step_of c vs) × All IsOpen (seconds_behind c vs)
one_given (command.Import name by) vs fits all = ((fits, first_open vs all), rest_open vs all)
one_given _ vs fits all = (fits, all)

all_given : (cs : List Command) (vs : List SecondValue) → All IsEditIn cs → All IsOpen vs → All IsStep (steps_of cs vs)
all_given [] vs fits all = All-nil IsStep
all_given (c ∷ cs) vs fits all =
    let one = one_given c vs (All-head IsEditIn c cs fits) all in
    All-cons IsStep (step_of c vs) (steps_of cs (seconds_behind c vs)) one.0 (all_given cs (seconds_behind c vs) (All-tail IsEditIn c cs fits) one.1)

pub steps_given : (cs : List Command) (files : List (List ℕ)) → All IsEditIn cs → All IsBytes files → All IsStep (steps_of_files cs files)
steps_given cs files fits bytes = all_given cs (map second_of files) fits (seconds_open files bytes)

-- what is appended is trees that fit the limit
unless_so : (cause : Option Cause) (b : List ℕ) (count : ℕ) (b' : List ℕ) (count' : ℕ) → unless_long cause b count ≡ Appends b' count' → (cause ≡ None)
    × (b ≡ b')
unless_so None b count b' count' is = (refl, let x = is in cc)
unless_so (Some cause) b count b' count' is = absurd (let x = is in cc)

-- what isn't too long keeps the limit
pub not_long : (n : ℕ) → too_long n ≡ None → n ≤ MOST_DESIGN
not_long n is = by (nat_lt MOST_DESIGN n) refl
  where
    by : (over : _) → nat_lt MOST_DESIGN n ≡ over → n ≤ MOST_DESIGN
    by true test = absurd (let x : too_long n ≡ None = is in let y : nat_lt MOST_DESIGN n ≡ true = test in grind (arith, nat_tests))
    by false test = grind (arith, nat_tests)

gathered_trees : (dim : ℕ) (v : SecondValue) (by : Option Displacement) (b : List ℕ) (count : ℕ) → gathered dim v by ≡ Trees b count → IfSome by IsShift
    → IsOpen v → AreTrees dim b
gathered_trees dim (Drawing own body tail) by b count is known opens = elim (cases_Bool (fits dim own by)) [
  | inl fit ↦ are_trees (body ++ tail) dim own (elements_of own body) tail by b count opens known fit is
  | inr other ↦ absurd (let x : Dimension ≡ Trees b count = sym (other_dim dim own (elements_of own body) by other) ∙ is in cc)
]
gathered_trees dim (Faulty fault) by b count is known opens = absurd (let x = is in cc)

appended_so : (s : State) (v : SecondValue) (by : Option Displacement) (found : Gathering) (b : List ℕ) (count : ℕ) → gathered s.dim v by ≡ found
    → importing s found ≡ Appends b count → IsStep (Import v by)
    → AreTrees s.dim b × (length (spelling s.top) + s.rest + length b ≤ MOST_DESIGN)
appended_so s v by (Trees b' count') b count found is fits =
    let so = unless_so (too_long (length (spelling s.top) + s.rest + length b')) b' count' b count is in
    let trees : AreTrees s.dim b' = gathered_trees s.dim v by b' count' found fits.0 fits.1 in
    let few : length (spelling s.top) + s.rest + length b' ≤ MOST_DESIGN = not_long (length (spelling s.top) + s.rest + length b') so.0 in
    subst (λ (x : List ℕ). AreTrees s.dim x × (length (spelling s.top) + s.rest + length x ≤ MOST_DESIGN)) so.1 (trees, few)
appended_so s v by (Bad fault) b count found is fits = absurd (let x = is in cc)
appended_so s v by Dimension b count found is fits = absurd (let x = is in cc)
appended_so s v by (Refused cause) b count found is fits = absurd (let x = is in cc)

pub appended : (s : State) (v : SecondValue) (by : Option Displacement) (b : List ℕ) (count : ℕ) → importing_of s v by ≡ Appends b count → IsStep (Import v by)
    → AreTrees s.dim b × (length (spelling s.top) + s.rest + length b ≤ MOST_DESIGN)
appended s v by b count is fits = appended_so s v by (gathered s.dim v by) b count refl is fits

-- trees behind elements that open
pub record Behind (dim : ℕ) (t : List ℕ) (on : List Element) (b : List ℕ) : Type 0 where
  pub opens : Opens (spelling (on ++ elements_of dim b) ++ t) dim (on ++ elements_of dim b) t
  pub long : length (spelling (on ++ elements_of dim b)) ≡ length (spelling on) + length b
  pub same : (p : ℕ) → p < length (spelling on) → get_or (spelling (on ++ elements_of dim b)) p 0 ≡ get_or (spelling on) p 0
  pub written : spelling (on ++ elements_of dim b) ≡ write (spelling on) (filled (spelling (on ++ elements_of dim b)) [])
      ++ drop (length (spelling on)) (spelling (on ++ elements_of dim b))

pub import_behind : (dim : ℕ) (t : List ℕ) (on : List Element) (b : List ℕ) → AreTrees dim b → Opens (spelling on ++ t) dim on t → Behind dim t on b
import_behind dim t on b trees opens =
    let are : trees.elements ≡ elements_of dim b = sym (ap (elements_of dim) trees.text ∙ elements-spelling dim trees.axes trees.elements trees.each) in
    let more : List Element = elements_of dim b in
    let whole : spelling (on ++ more) ≡ spelling on ++ spelling more = flat_map-append spell on more in
    let text : spelling more ≡ b = ap spelling (sym are) ∙ sym trees.text in
    record {
      opens = subst (λ (es : List Element). Opens (spelling (on ++ es) ++ t) dim (on ++ es) t) are
          (appended_opens (spelling on ++ t) dim on trees.elements t opens trees.each);
      long = omega (arith, ap (length {A = ℕ}) whole, length-append (spelling on) (spelling more), ap (length {A = ℕ}) text);
      same = λ p below. ap (λ (x : List ℕ). get_or x p 0) whole ∙ get_or_append_left (spelling on) (spelling more) 0 p below;
      written = whole ∙ ap (λ (x : List ℕ). spelling on ++ x)
          (sym (ap (drop (length (spelling on))) whole ∙ drop_at (spelling on) (spelling more) (length (spelling on)) refl));
    }
