-- Of the files that a run comes to read, the first that isn't there.
use Rattle.std.proofs.Common.{◌≡◌, ℕ, Bool, true, false, nat_lt, if◌then◌else◌, List, [], ◌∷◌, ◌++◌, length, codes, Option, Some, None, Result, Ok, Err}
use Rattle.std.proofs.Common.{◌≤◌, ◌<◌, get_or, arith, is_some, unwrap_or, map, IfOk, refl, sym, ap, ◌∙◌, subst}
use Rattle.std.specs.Prelude.{IsSome}
use Rattle.std.specs.Str.{bytes_eq}
use Rattle.std.specs.FinMap as maps
use Rattle.dgn_desk.specs.Content.{Files, bytes_of}
use Rattle.dgn_drawing.specs.declared.command.Command.{Command}
use Rattle.dgn_import.specs.Seconds.{SecondValue}
use Rattle.edit_script.specs.Script.{commands_of}
use Rattle.edit_script.specs.declared.fault.ScriptFault.{ScriptFault}
use Rattle.edit_script.specs.declared.fault.ScriptFault.TheVariants as faults
use Rattle.dgn_tool.specs.Ended.{Outcome}
use Rattle.dgn_tool.specs.Inputs.{drawing_in, commands_in, commands_read, second_in, seconds_behind, seconds_in, Inputs, inputs_in, entries_in}
use Rattle.elem_index.specs.Opened.{Opened}
use Rattle.dgn_answers.specs.Steps.{steps_of}
use Rattle.dgn_tool.specs.Applied.{patched}
use Rattle.dgn_tool.specs.Packing.{packed}
use Rattle.dgn_tool.specs.Outcome.{HasFiles, checked, edited}
use Rattle.dgn_tool.specs.Readings.{Source, Reading, at_once, behind_sources, ◌>>=◌, AreThere}
use Rattle.dgn_tool.specs.Request.{Request, Check, request_of, check_of, four_words}
use Rattle.dgn_tool.specs.SecondFiles.{names_in}
use Rattle.dgn_drawing.specs.declared.limits.TheConstants.{MOST_DESIGN}
use Rattle.edit_script.specs.declared.limits.TheConstants.{MOST_SCRIPT}
use Rattle.patch_file.specs.declared.limits.TheConstants.{MOST_PATCH}
use Rattle.dgnedit_lib.specs.Missing.{first_missing, missing_name, first_absent, sources_behind}
use Rattle.dgnedit_lib.proofs.Forms.{either, of_four}

-- behind a file alone nothing is read for an answer that is given at once
alone : {A B : Type 0} (s : Source) (r : Result A Outcome) (f : A → Result B Outcome) → (behind_sources (s ∷ []) r (λ x. at_once (f x))).sources ≡ s ∷ []
alone s (Ok x) f = refl
alone s (Err o) f = refl

no_more : {A B : Type 0} (before : List Source) (r : Result A Outcome) (f : A → Result B Outcome) → (behind_sources before r (λ x. at_once (f x))).sources ≡ before
no_more [] (Ok x) f = refl
no_more (s ∷ ss) (Ok x) f = ap (λ (rest : List Source). s ∷ rest) (no_more ss (Ok x) f)
no_more before (Err o) f = refl

-- a file that isn't there is the first that is missing
pub lacked : {A B : Type 0} (files : Files) (s : Source) (before : List Source) (r : Result A Outcome) (next : A → Reading B) → before ≡ s ∷ []
    → maps.get files s.name ≡ None → first_missing files (behind_sources before r next).sources ≡ s.name
lacked files s before (Ok x) next is none =
    subst (λ (b : List Source). first_missing files (b ++ (next x).sources) ≡ s.name) (sym is)
    (ap (λ (found : Option (List ℕ)). if is_some found then first_missing files (next x).sources else s.name) none)
lacked files s before (Err o) next is none =
    subst (λ (b : List Source). first_missing files b ≡ s.name) (sym is) (ap (λ (found : Option (List ℕ)). if is_some found then [] else s.name) none)

-- where it is there and some file isn't, it was read, and a file behind it is missing first
record GoesOn {A B : Type 0} (files : Files) (r : Result A Outcome) (next : A → Reading B) (sources : List Source) : Type 0 where
  x : A
  is : r ≡ Ok x
  lack : ¬ AreThere files (next x).sources
  same : first_missing files sources ≡ first_missing files (next x).sources

goes_on : {A B : Type 0} (files : Files) (s : Source) (bytes : List ℕ) (before : List Source) (r : Result A Outcome) (next : A → Reading B)
    → before ≡ s ∷ [] → maps.get files s.name ≡ Some bytes → ¬ AreThere files (behind_sources before r next).sources
    → GoesOn files r next (behind_sources before r next).sources
goes_on files s bytes before (Ok x) next is found lack = record {
  x = x;
  is = refl;
  lack = λ there. lack (subst (λ (b : List Source). AreThere files (b ++ (next x).sources)) (sym is) (subst IsSome (sym found) refl, there));
  same =
      subst (λ (b : List Source). first_missing files (b ++ (next x).sources) ≡ first_missing files (next x).sources) (sym is)
      (ap (λ (f : Option (List ℕ)). if is_some f then first_missing files (next x).sources else s.name) found);
}
goes_on files s bytes before (Err o) next is found lack = absurd (lack (subst (AreThere files) (sym is) (subst IsSome (sym found) refl, tt)))

-- of the second files the one of the first name that isn't there
abbrev second_source : List ℕ → Source
second_source name = record { name = name; limit = MOST_DESIGN }

import_first : (files : Files) (name : List ℕ) (names : List (List ℕ)) (before : List SecondValue) (found : Option (List ℕ)) → maps.get files name ≡ found
    → ((b : List SecondValue) → ¬ AreThere files (seconds_behind files b names).sources
    → first_missing files (seconds_behind files b names).sources ≡ first_absent files names)
    → ¬ AreThere files (seconds_behind files before (name ∷ names)).sources
    → first_missing files (seconds_behind files before (name ∷ names)).sources ≡ first_absent files (name ∷ names)
import_first files name names before None is others lack =
    lacked files (second_source name) _ (second_in files name).answer (λ v. seconds_behind files (before ++ v ∷ []) names) (alone _ _ _) is
    ∙ sym (ap (λ (f : Option (List ℕ)). if is_some f then first_absent files names else name) is)
import_first files name names before (Some bytes) is others lack =
    let on = goes_on files (second_source name) bytes _ (second_in files name).answer (λ v. seconds_behind files (before ++ v ∷ []) names) (alone _ _ _) is lack in
    on.same
    ∙ others (before ++ on.x ∷ []) on.lack
    ∙ sym (ap (λ (f : Option (List ℕ)). if is_some f then first_absent files names else name) is)

pub import_missing : (files : Files) (names : List (List ℕ)) (before : List SecondValue) → ¬ AreThere files (seconds_behind files before names).sources
    → first_missing files (seconds_behind files before names).sources ≡ first_absent files names
import_missing files [] before lack = absurd (lack tt)
import_missing files (name ∷ names) before lack = import_first files name names before _ refl (λ b l. import_missing files names b l) lack

-- commands that a run goes on with were read of a script within its limit
commands_were : (r : Result (List Command) ScriptFault) (cs : List Command) → commands_read r ≡ Ok cs → r ≡ Ok cs
commands_were (Ok ds) cs is = let e = is in cc
commands_were (Err (faults.Line n)) cs is = let e = is in cc
commands_were (Err faults.Memory) cs is = let e = is in cc

read_of : (b : Bool) (bytes : List ℕ) (o : Outcome) (s : Source) (cs : List Command)
    → (behind_sources (s ∷ []) (if b then Err o else Ok bytes) (λ text. at_once (commands_read (commands_of text)))).answer ≡ Ok cs
    → (b ≡ false) × (commands_of bytes ≡ Ok cs)
read_of true bytes o s cs is = absurd (let e = is in cc)
read_of false bytes o s cs is = (refl, commands_were (commands_of bytes) cs is)

-- what a script that is there says of what is missing behind IN
pub record Scripted (files : Files) (script bytes : List ℕ) : Type 0 where
  pub commands : List Command
  pub within : nat_lt MOST_SCRIPT (length bytes) ≡ false
  pub read : commands_of bytes ≡ Ok commands
  pub same : first_missing files (sources_behind files script) ≡ first_absent files (names_in commands)

abbrev script_source : List ℕ → Source
script_source name = record { name = name; limit = MOST_SCRIPT }

pub scripted : (files : Files) (script bytes : List ℕ) → maps.get files script ≡ Some bytes → ¬ AreThere files (sources_behind files script)
    → Scripted files script bytes
scripted files script bytes found lack =
    let on = goes_on files (script_source script) bytes _ (commands_in files script).answer (seconds_in files) (alone _ _ _) found lack in
    let were : bytes_of files script ≡ bytes = ap (λ (f : Option (List ℕ)). unwrap_or f []) found in
    let read = read_of (nat_lt MOST_SCRIPT (length (bytes_of files script))) (bytes_of files script) _ (script_source script) on.x on.is in
    record {
      commands = on.x;
      within = ap (λ (b : List ℕ). nat_lt MOST_SCRIPT (length b)) (sym were) ∙ read.0;
      read = ap commands_of (sym were) ∙ read.1;
      same = on.same ∙ import_missing files (names_in on.x) [] on.lack;
    }

pub script_lacked : (files : Files) (script : List ℕ) → maps.get files script ≡ None → first_missing files (sources_behind files script) ≡ script
script_lacked files script none = lacked files (script_source script) _ (commands_in files script).answer (seconds_in files) (alone _ _ _) none

-- behind IN nothing else is read than SCRIPT and the second files
two_more : {A B C : Type 0} (before : List Source) (r : Result A Outcome) (next : A → Reading B) (f : A → B → Result C Outcome)
    → (behind_sources before r (λ x. next x >>= λ y. at_once (f x y))).sources ≡ (behind_sources before r next).sources
two_more before (Ok x) next f = ap (λ (rest : List Source). before ++ rest) (no_more (next x).sources (next x).answer (f x))
two_more before (Err o) next f = refl

abbrev input_source : List ℕ → Source
input_source name = record { name = name; limit = MOST_DESIGN }

abbrev inputs_behind : Files → List ℕ → Opened → Reading Inputs
inputs_behind files script d =
    commands_in files script >>= λ cs. seconds_in files cs >>= λ vs. at_once (Ok (record { drawing = d; steps = steps_of cs vs }))

behind_input : (files : Files) (input script : List ℕ) (f : Inputs → Outcome) (bytes : List ℕ) → maps.get files input ≡ Some bytes
    → ¬ AreThere files (inputs_in files input script >>= λ i. at_once (Ok (f i))).sources
    → (¬ AreThere files (sources_behind files script))
    × (first_missing files (inputs_in files input script >>= λ i. at_once (Ok (f i))).sources ≡ first_missing files (sources_behind files script))
behind_input files input script f bytes found lack =
    let all = inputs_in files input script in
    let whole = no_more all.sources all.answer (λ i. Ok (f i)) in
    let on = goes_on files (input_source input) bytes _ (drawing_in files input).answer (inputs_behind files script) (alone _ _ _) found
    (λ there. lack (subst (AreThere files) (sym whole) there)) in
    let commands = commands_in files script in
    let turned = two_more commands.sources commands.answer (seconds_in files) (λ cs vs. Ok (record { drawing = on.x; steps = steps_of cs vs })) in
    (λ there. on.lack (subst (AreThere files) (sym turned) there), ap (first_missing files) whole ∙ on.same ∙ ap (first_missing files) turned)

input_lacked : (files : Files) (input script : List ℕ) (f : Inputs → Outcome) → maps.get files input ≡ None
    → first_missing files (inputs_in files input script >>= λ i. at_once (Ok (f i))).sources ≡ input
input_lacked files input script f none =
    let all = inputs_in files input script in
    ap (first_missing files) (no_more all.sources all.answer (λ i. Ok (f i)))
    ∙ lacked files (input_source input) _ (drawing_in files input).answer (inputs_behind files script) (alone _ _ _) none

-- a name is what is missing first for a request
abbrev Tells : Files → List ℕ → Option Request → Type 0
Tells files name request = ¬ HasFiles request files → name ≡ missing_name request files

-- `check` lacks IN
check_lacks : (files : Files) (input : List ℕ) (found : Option (List ℕ)) → maps.get files input ≡ found → Tells files input (Some (Check input))
check_lacks files input None is = λ lack.
    sym (lacked files (input_source input) _ (drawing_in files input).answer (λ d. at_once (Ok (checked d))) (alone _ _ _) is)
check_lacks files input (Some bytes) is = λ lack.
    let on = goes_on files (input_source input) bytes _ (drawing_in files input).answer (λ d. at_once (Ok (checked d))) (alone _ _ _) is lack in
    absurd (on.lack tt)

pub two_tell : (files : Files) (command input : List ℕ) → Tells files input (check_of command input)
two_tell files command input =
    either (Tells files input) (bytes_eq command (codes "check")) (Some (Check input)) None (check_lacks files input _ refl) (λ lack. absurd (lack tt))

-- what is read of a patch file, behind IN
abbrev patch_behind : Files → List ℕ → List ℕ → Opened → Reading Outcome
patch_behind files patch output d = entries_in files patch >>= λ es. at_once (Ok (patched d es output))

abbrev patch_source : List ℕ → Source
patch_source name = record { name = name; limit = MOST_PATCH }

patch_tells : (files : Files) (patch output : List ℕ) (d : Opened) (name : List ℕ) (found : Option (List ℕ)) → maps.get files patch ≡ found
    → (maps.get files patch ≡ None → name ≡ patch) → ¬ AreThere files (patch_behind files patch output d).sources
    → name ≡ first_missing files (patch_behind files patch output d).sources
patch_tells files patch output d name None is absent lack =
    absent is ∙ sym (lacked files (patch_source patch) _ (entries_in files patch).answer (λ es. at_once (Ok (patched d es output))) (alone _ _ _) is)
patch_tells files patch output d name (Some bytes) is absent lack =
    let on = goes_on files (patch_source patch) bytes _ (entries_in files patch).answer (λ es. at_once (Ok (patched d es output))) (alone _ _ _) is lack in
    absurd (on.lack tt)

-- of four words whose IN isn't there
pub input_tells : (files : Files) (a b c d : List ℕ) → maps.get files b ≡ None → Tells files b (four_words a b c d)
input_tells files a b c d none =
    of_four (Tells files b) a b c d (λ lack. absurd (lack tt)) (λ lack. sym (input_lacked files b c (λ i. edited i.drawing i.steps d) none))
    (λ lack. sym (input_lacked files b c (λ i. packed i.drawing i.steps d) none))
    (λ lack. sym (lacked files (input_source b) _ (drawing_in files b).answer (patch_behind files c d) (alone _ _ _) none)) (λ s n lack. absurd (lack tt))

-- and of four whose IN is there, by a name that is what is missing behind IN
pub behind_tells : (files : Files) (a b c d bytes name : List ℕ) → maps.get files b ≡ Some bytes → (maps.get files c ≡ None → name ≡ c)
    → (¬ AreThere files (sources_behind files c) → name ≡ first_missing files (sources_behind files c)) → Tells files name (four_words a b c d)
behind_tells files a b c d bytes name found absent missing =
    of_four (Tells files name) a b c d (λ lack. absurd (lack tt))
    (λ lack. let p = behind_input files b c (λ i. edited i.drawing i.steps d) bytes found lack in missing p.0 ∙ sym p.1)
    (λ lack. let p = behind_input files b c (λ i. packed i.drawing i.steps d) bytes found lack in missing p.0 ∙ sym p.1)
    (λ lack.
    let on = goes_on files (input_source b) bytes _ (drawing_in files b).answer (patch_behind files c d) (alone _ _ _) found lack in
    patch_tells files c d on.x name _ refl absent on.lack ∙ sym on.same)
    (λ s n lack. absurd (lack tt))

-- the same of what is answered, where there is memory
pub answer_tells : {X Y : Type 0} (r : Result X Y) (text : X → List ℕ) (files : Files) (a b c d bytes : List ℕ) → maps.get files b ≡ Some bytes
    → IfOk r (λ x. maps.get files c ≡ None → text x ≡ c)
    → IfOk r (λ x. ¬ AreThere files (sources_behind files c) → text x ≡ first_missing files (sources_behind files c))
    → ¬ HasFiles (four_words a b c d) files → IfOk r (λ x. text x ≡ missing_name (four_words a b c d) files)
answer_tells (Ok x) text files a b c d bytes found absent missing lack = behind_tells files a b c d bytes (text x) found absent missing lack
answer_tells (Err y) text files a b c d bytes found absent missing lack = tt

-- the import that is missing is what is missing behind IN
pub import_tells : (files : Files) (script bytes : List ℕ) (cs : List Command) (name : List ℕ) → maps.get files script ≡ Some bytes
    → commands_of bytes ≡ Ok cs → name ≡ first_absent files (names_in cs) → ¬ AreThere files (sources_behind files script)
    → name ≡ first_missing files (sources_behind files script)
import_tells files script bytes cs name found read is lack =
    let s = scripted files script bytes found lack in
    let same : cs ≡ s.commands = let a = read in let b = s.read in cc in
    is ∙ ap (λ (l : List Command). first_absent files (names_in l)) same ∙ sym s.same

-- words of no form read nothing
pub no_form : {X : Type 0} (f : X → List ℕ) (files : Files) (ws : List X) (name : List ℕ) → ¬ (length ws ≡ 2) → ¬ (length ws ≡ 4)
    → Tells files name (request_of (map f ws))
no_form f files [] name two four = λ lack. absurd (lack tt)
no_form f files (a ∷ []) name two four = λ lack. absurd (lack tt)
no_form f files (a ∷ b ∷ []) name two four = absurd (two refl)
no_form f files (a ∷ b ∷ c ∷ []) name two four = λ lack. absurd (lack tt)
no_form f files (a ∷ b ∷ c ∷ d ∷ []) name two four = absurd (four refl)
no_form f files (a ∷ b ∷ c ∷ d ∷ e ∷ more) name two four = λ lack. absurd (lack tt)

-- four words, by the texts of the second and the third
pub record Four {X : Type 0} (f : X → List ℕ) (ws : List X) (s t : List ℕ) : Type 0 where
  pub a : List ℕ
  pub d : List ℕ
  pub is : map f ws ≡ a ∷ s ∷ t ∷ d ∷ []

pub four_items : {X : Type 0} (f : X → List ℕ) (ws : List X) (b c : X) (s t : List ℕ) → 4 ≤ length ws → length ws < 5 → b ≡ get_or ws 1 b
    → c ≡ get_or ws 2 c → s ≡ f b → t ≡ f c → Four f ws s t
four_items f [] b c s t low high is_b is_c is_s is_t = absurd (omega (arith, low))
four_items f (w ∷ []) b c s t low high is_b is_c is_s is_t = absurd (omega (arith, low))
four_items f (w ∷ x ∷ []) b c s t low high is_b is_c is_s is_t = absurd (omega (arith, low))
four_items f (w ∷ x ∷ y ∷ []) b c s t low high is_b is_c is_s is_t = absurd (omega (arith, low))
four_items f (w ∷ x ∷ y ∷ z ∷ []) b c s t low high is_b is_c is_s is_t = record {
  a = f w;
  d = f z;
  is =
      ap (λ (k : List ℕ). f w ∷ k ∷ f y ∷ f z ∷ []) (ap f (sym is_b) ∙ sym is_s) ∙ ap (λ (k : List ℕ). f w ∷ s ∷ k ∷ f z ∷ []) (ap f (sym is_c) ∙ sym is_t);
}
four_items f (w ∷ x ∷ y ∷ z ∷ v ∷ more) b c s t low high is_b is_c is_s is_t = absurd (omega (arith, high))
