-- A desk of memory whose calls are numbered from 0 together, and of which some are to fail: what it
-- holds, how many bytes a call moves at most, the numbers of the calls that are to fail, the calls so far, and its two counts
-- of faults.
use Rattle.std.specs.Prelude.{ℕ, ◌≡◌, ◌-◌, ◌^◌, ◌==◌, min, nat_le, List, [], ◌∷◌, ◌++◌, length, is_some, Bool, true, false, not, if◌then◌else◌, Result}
use Rattle.std.specs.Prelude.{Ok, Err, refl}
use Rattle.std.specs.List.{list_any}
use Rattle.std.specs.Coded.{Coded, code_by, coded×, coded_ℕ, coded_list}
use Rattle.std.specs.FinMap as maps
use Rattle.dgn_desk.specs.declared.act.Act.{Act}
use Rattle.dgn_desk.specs.declared.act.Act.TheVariants.{BeginRead, Read, BeginWrite, Write, Say}
use Rattle.dgn_desk.specs.declared.stop.Stop.{Stop}
use Rattle.dgn_desk.specs.declared.stop.Stop.TheVariants.{Failed, Memory}
use Rattle.dgn_desk.specs.Content.{Content, coded_content}
use Rattle.dgn_desk.specs.Desk.{one_more}

pub record NumberedDesk : Type 0 where
  pub content : Content
  pub piece : ℕ
  pub fails : List ℕ
  pub acts : List Act
  pub read_faults : ℕ
  pub write_faults : ℕ

-- a kind of call as a number
abbrev pub number_of_act : Act → ℕ
number_of_act BeginRead = 0
number_of_act Read = 1
number_of_act BeginWrite = 2
number_of_act Write = 3
number_of_act Say = 4

-- and back
abbrev pub act_of_number : ℕ → Act
act_of_number n = if n == 0 then BeginRead else if n == 1 then Read else if n == 2 then BeginWrite else if n == 3 then Write else Say

abbrev pub act_of-number_of : (act : Act) → act_of_number (number_of_act act) ≡ act
act_of-number_of BeginRead = refl
act_of-number_of Read = refl
act_of-number_of BeginWrite = refl
act_of-number_of Write = refl
act_of-number_of Say = refl

-- a desk as data: its fields in order
abbrev pub coded_desk : Coded NumberedDesk
coded_desk =
    code_by (Content × (ℕ × (List ℕ × (List Act × (ℕ × ℕ)))))
    (coded× coded_content (coded× coded_ℕ
    (coded× (coded_list coded_ℕ) (coded× (coded_list (code_by ℕ coded_ℕ number_of_act act_of_number act_of-number_of)) (coded× coded_ℕ coded_ℕ)))))
    (λ d. (d.content, (d.piece, (d.fails, (d.acts, (d.read_faults, d.write_faults))))))
    (λ p. record { content = p.0; piece = p.1.0; fails = p.1.1.0; acts = p.1.1.1.0; read_faults = p.1.1.1.1.0; write_faults = p.1.1.1.1.1 }) (λ _. refl)

-- the number of the next call: how many there were, up to the last value of a counter of 64 bits
abbrev pub next_number : List Act → ℕ
next_number acts = min (length acts) (2 ^ 64 - 1)

-- whether the next call's number is on the list
abbrev pub is_listed : NumberedDesk → Bool
is_listed d = list_any (λ number. number == next_number d.acts) d.fails

-- whether no number on the list is at or above that of the next call
abbrev pub none_ahead : NumberedDesk → Bool
none_ahead d = not (list_any (λ number. nat_le (next_number d.acts) number) d.fails)

-- whether there is no file of this name
abbrev pub is_missing : List ℕ → Content → Bool
is_missing name c = not (is_some (maps.get c.files name))

-- whether no file was begun to write to
abbrev pub has_no_target : Content → Bool
has_no_target c = not (is_some c.target)

-- the desk after a call that failed: one more fault, of the kind that the call counts
abbrev pub failed : Act → NumberedDesk → NumberedDesk
failed BeginRead d = record d { acts = d.acts ++ BeginRead ∷ []; read_faults = one_more d.read_faults }
failed Read d = record d { acts = d.acts ++ Read ∷ []; read_faults = one_more d.read_faults }
failed BeginWrite d = record d { acts = d.acts ++ BeginWrite ∷ []; write_faults = one_more d.write_faults }
failed Write d = record d { acts = d.acts ++ Write ∷ []; write_faults = one_more d.write_faults }
failed Say d = record d { acts = d.acts ++ Say ∷ []; write_faults = one_more d.write_faults }

-- the desk after a call that did its work, which leaves this content
abbrev pub served : Act → Content → NumberedDesk → NumberedDesk
served act content d = record d { content = content; acts = d.acts ++ act ∷ [] }

-- what a call of a kind answers, and the desk behind it: it fails exactly where it is to, else it does its work; a call that
-- wants memory changes nothing, and has no number
abbrev pub Answers : {T : Type 0} → Act → Bool → (T → Content → Content) → Result T Stop → NumberedDesk → NumberedDesk → Type 0
Answers act fails change (Ok x) old new = (fails ≡ false) × (new ≡ served act (change x old.content) old)
Answers act fails change (Err Failed) old new = (fails ≡ true) × (new ≡ failed act old)
Answers act fails change (Err Memory) old new = new ≡ old
