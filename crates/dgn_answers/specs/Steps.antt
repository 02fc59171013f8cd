-- The steps of a run: its commands, each import with what its second file comes to. What they do to the state of a
-- session, and what they say.
use Rattle.std.specs.Prelude.{ℕ, ◌+◌, Option, List, [], ◌∷◌, ◌++◌, drop, reverse}
use Rattle.std.specs.Int.{from_bool}
use Rattle.dgn_drawing.specs.Values.{Displacement}
use Rattle.dgn_import.specs.declared.second_fault.SecondFault.TheVariants as faults
use Rattle.dgn_import.specs.Seconds.{SecondValue, Faulty}
use Rattle.dgn_session.specs.State.{State}
use Rattle.dgn_drawing.specs.declared.command.Command.{Command}
use Rattle.dgn_drawing.specs.declared.command.Command.TheVariants as command
use Rattle.dgn_answers.specs.Imports.{importing_of}
use Rattle.dgn_answers.specs.Remaining.{RemainingEdit}
use Rattle.dgn_answers.specs.Answer.{Answer, imports}
use Rattle.dgn_answers.specs.Commands.{answer_of}

-- a command that is no import, or an import with what its second file comes to
pub data Step : Type 0 where
  Plain : Command → Step
  Import : SecondValue → Option Displacement → Step

-- what the next import is given; where no file is left, one that is no design file
abbrev pub first_second : List SecondValue → SecondValue
first_second [] = Faulty faults.NotDesign
first_second (v ∷ vs) = v

-- a command, where these second files are left for it and the commands behind it
abbrev pub step_of : Command → List SecondValue → Step
step_of (command.Import name by) vs = Import (first_second vs) by
step_of other vs = Plain other

-- those that are left behind it: an import takes the first
abbrev pub seconds_behind : Command → List SecondValue → List SecondValue
seconds_behind (command.Import name by) vs = drop 1 vs
seconds_behind other vs = vs

-- commands with these second files: the k-th import takes the k-th
abbrev pub steps_of : List Command → List SecondValue → List Step
steps_of [] vs = []
steps_of (c ∷ cs) vs = step_of c vs ∷ steps_of cs (seconds_behind c vs)

-- what a session answers to a step in a state
abbrev pub step_answer : State → Step → Answer
step_answer s (Plain c) = answer_of s c
step_answer s (Import v by) = imports s (importing_of s v by)

-- what all steps leave, the first one first
abbrev pub after_all : List Step → State → State
after_all [] s = s
after_all (g ∷ gs) s = after_all gs (step_answer s g).state

-- what all steps say
abbrev pub texts_of : List Step → State → List ℕ
texts_of [] s = []
texts_of (g ∷ gs) s = (step_answer s g).text ++ texts_of gs (step_answer s g).state

-- how many steps are refused
abbrev pub refused_count : List Step → State → ℕ
refused_count [] s = 0
refused_count (g ∷ gs) s = from_bool (step_answer s g).refused + refused_count gs (step_answer s g).state

-- and how many trees each of all steps edited
abbrev pub trees_of_all : List Step → State → List ℕ
trees_of_all [] s = []
trees_of_all (g ∷ gs) s = (step_answer s g).trees ∷ trees_of_all gs (step_answer s g).state

-- what all steps leave of the edits that are left, which stand the newest first
abbrev pub with_steps : List Step → State → List RemainingEdit → List RemainingEdit
with_steps [] s left = left
with_steps (g ∷ gs) s left = with_steps gs (step_answer s g).state ((step_answer s g).left left)

-- the edits that a run of these steps leaves: those that were done and not taken back, the first one first
abbrev pub remaining : List Step → State → List RemainingEdit
remaining gs s = reverse (with_steps gs s [])
