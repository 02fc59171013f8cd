-- The packed entries of the edits that commands leave, put on the drawing again: they stand and give what the edits made.
use Rattle.std.proofs.Common.{◌≡◌, ℕ, ◌+◌, ◌≤◌, List, [], ◌∷◌, ◌++◌, length, map, take, drop, reverse, refl, sym, ap, ◌∙◌, subst, arith, length-append}
use Rattle.std.specs.Prelude.{All}
use Rattle.std.specs.List.{flat_map, AllByRecursion}
use Rattle.std.proofs.lemmas.List.{reverse-append, map-append, length-take-le, length-drop}
use Rattle.std.proofs.lemmas.List.Concat.{flat_map-cons}
use Rattle.patch_bytes.specs.Puts.{Put}
use Rattle.undo_log.specs.declared.entry.Entry.{Entry}
use Rattle.undo_log.specs.Entries.{entry_of, back, back_by}
use Rattle.patch_file.specs.Exchanges.{AllKeepRules}
use Rattle.patch_file.specs.Spelling.{Packed, IsEntry, entry_spelling}
use Rattle.patch_file.specs.Standing.{exchanged, put_on, MayTake, AllStand, put_all, all_taken, MayTakeAll}
use Rattle.patch_file.proofs.Lengths.{length-entry, length-patch}
use Rattle.patch_file.proofs.Puts.{taken_gives_the_same, all_taken_give_the_same}
use Rattle.dgn_drawing.specs.Element.{Element}
use Rattle.dgn_drawing.specs.Spelling.{spelling}
use Rattle.dgn_drawing.specs.Opening.{Opens}
use Rattle.dgn_drawing.specs.declared.limits.TheConstants.{MOST_DESIGN}
use Rattle.dgn_session.specs.State.{State}
use Rattle.dgn_session.proofs.Leading.{leads_back}
use Rattle.dgn_session.proofs.Rising.{rise_long, filled_rise, olds_filled}
use Rattle.edit_ops.specs.Fields.{Field, Rise, filled}
use Rattle.dgn_answers.specs.Remaining.{RemainingEdit, fields_made}
use Rattle.dgn_answers.specs.Commands.{first_state}
use Rattle.dgn_answers.specs.Steps.{Step, after_all, with_steps}
use Rattle.dgn_tool.specs.Packing.{packed_made, packed_after}
use Rattle.dgn_answers.specs.Logs.{entry_made}
use Rattle.dgn_tool.specs.Applied.{AllFit}
use Rattle.dgn_tool.specs.Laws.{steps_of_files}
use Rattle.dgn_laws.specs.PatchLaws.{PacksAgain, AppliedGivesTheSame}
use Rattle.dgn_laws.proofs.FieldCounts.{HasFew, made_few}
use Rattle.dgn_tool.proofs.StackedEdits.{IsStacked, steps_stack}
use Rattle.dgn_tool.proofs.OpenSeconds.{IsStep, steps_given}
use Rattle.dgn_tool.proofs.LinkedEdits.{IsLink, top_of, AreLinked, stack_top, steps_link, linked_fits}

-- there are no more entries than bytes
few_packed : (es : List Packed) → length es ≤ length (flat_map entry_spelling es)
few_packed [] = omega arith
few_packed (e ∷ es) =
    omega (
      arith,
      few_packed es,
      length-entry e,
      ap (length {A = ℕ}) (flat_map-cons entry_spelling e es),
      length-append (entry_spelling e) (flat_map entry_spelling es),
    )

-- the exchanges of fields that rise keep the rules
rules_kept : (b c : List ℕ) (m : ℕ) (fs : List Field) (n : ℕ) → m ≤ length b → m ≤ length c → Rise n fs m → AllByRecursion HasFew fs
    → AllKeepRules n m (map (exchanged c) (filled b fs))
rules_kept b c m [] n long there rise sized = tt
rules_kept b c m (f ∷ fs) n long there rise sized =
    let ends = rise_long m fs (f.at + f.len) rise.1 in
    let from = rise.0 in
    let least = sized.0.least in
    let most = sized.0.most in
    let was : length (take f.len (drop f.at b)) ≡ f.len = length-take-le f.len (drop f.at b) (omega (arith, length-drop f.at b)) in
    let put : length (take (length (take f.len (drop f.at b))) (drop f.at c)) ≡ length (take f.len (drop f.at b)) =
    length-take-le (length (take f.len (drop f.at b))) (drop f.at c) (omega (arith, was, length-drop f.at c)) in (
      record { least = omega (arith, was); most = omega (arith, was); same = put; behind = from; within = omega (arith, was) },
      subst (λ (k : ℕ). AllKeepRules (f.at + k) m (map (exchanged c) (filled b fs))) (sym was) (rules_kept b c m fs (f.at + f.len) long there rise.1 sized.1),
    )

module _ (dim rest : ℕ) (t : List ℕ) (m : RemainingEdit) (link : IsLink dim rest t m) where
  -- what the edit writes
  abbrev puts : List Put
  puts = filled (spelling m.made) (fields_made dim m.on m.kind)

  -- its entry is that of what it wrote
  same_entry : entry_of (spelling m.on) puts ≡ entry_made dim m
  same_entry =
      let with_patches : List Put → Entry = λ ps. record { patches = ps; len = length (spelling m.on) } in
      ap with_patches
      (olds_filled (spelling m.on) (spelling m.made) (length (spelling m.on)) (fields_made dim m.on m.kind) 0 link.long link.rise)

  -- so it leads back
  entry_leads : back (spelling m.made) (entry_made dim m) ≡ spelling m.on
  entry_leads =
      ap (λ (e : Entry). back (spelling m.made) e) (sym same_entry)
      ∙ ap (λ (b : List ℕ). back b (entry_of (spelling m.on) puts)) link.written
      ∙ leads_back (spelling m.on) puts (drop (length (spelling m.on)) (spelling m.made))
      (filled_rise (spelling m.made) (length (spelling m.on)) (fields_made dim m.on m.kind) 0 link.long link.rise)

  -- and may be taken
  entry_may : MayTake (spelling m.made) (entry_made dim m)
  entry_may = record {
    long = link.long;
    rising =
        filled_rise (spelling m.on) (length (spelling m.on)) (fields_made dim m.on m.kind) 0 (omega arith) link.rise;
  }

  -- what is taken has a spelling
  is_entry : length (spelling m.made) ≤ MOST_DESIGN → IsEntry (packed_made dim m)
  is_entry few_bytes =
      let long = link.long in
      record {
        len = omega arith;
        append = omega (arith, length-drop (length (spelling m.on)) (spelling m.made));
        rules = rules_kept (spelling m.on) (spelling m.made) (length (spelling m.on)) (fields_made dim m.on m.kind) 0 (omega arith) link.long link.rise
            (made_few dim m.on m.kind);
      }

-- one more behind others
fit_more : (rest : ℕ) (b : List ℕ) (es : List Packed) (e : Packed) → AllFit rest b es → length (put_on (put_all b es) e) + rest ≤ MOST_DESIGN
    → AllFit rest b (es ++ e ∷ [])
fit_more rest b [] e fit last = (last, tt)
fit_more rest b (x ∷ es) e fit last = (fit.0, fit_more rest (put_on b x) es e fit.1 last)

entries_more : (es : List Packed) (e : Packed) → AllByRecursion IsEntry es → IsEntry e → AllByRecursion IsEntry (es ++ e ∷ [])
entries_more [] e each last = (last, tt)
entries_more (x ∷ es) e each last = (each.0, entries_more es e each.1 last)

-- the entries and the packed entries of edits, which stand the newest first
abbrev log_of : ℕ → List RemainingEdit → List Entry
log_of dim left = map (entry_made dim) left

abbrev packed_all : ℕ → List RemainingEdit → List Packed
packed_all dim left = map (packed_made dim) (reverse left)

packed_newest : (dim : ℕ) (m : RemainingEdit) (left : List RemainingEdit) → packed_all dim (m ∷ left) ≡ packed_all dim left ++ packed_made dim m ∷ []
packed_newest dim m left = ap (map (packed_made dim)) (reverse-append (m ∷ []) left) ∙ map-append (packed_made dim) (reverse left) (m ∷ [])

module _ (dim rest : ℕ) (t : List ℕ) (base : List Element) where
  -- the newest leads back to what those before it made
  newest_leads : (m : RemainingEdit) (left : List RemainingEdit) → AreLinked dim rest t base (m ∷ left)
      → back (spelling m.made) (entry_made dim m) ≡ spelling (top_of base left)
  newest_leads m left linked = entry_leads dim rest t m linked.0 ∙ ap spelling linked.1

  may_all : (left : List RemainingEdit) → AreLinked dim rest t base left → MayTakeAll (spelling (top_of base left)) (log_of dim left)
  may_all [] linked = tt
  may_all (m ∷ left) linked = (
    entry_may dim rest t m linked.0,
    subst (λ (b : List ℕ). MayTakeAll b (map (entry_made dim) left)) (sym (newest_leads m left linked)) (may_all left linked.2),
  )

  taken_all : (left : List RemainingEdit) → AreLinked dim rest t base left → all_taken (spelling (top_of base left)) (log_of dim left) ≡ packed_all dim left
  taken_all [] linked = refl
  taken_all (m ∷ left) linked =
      ap (λ (b : List ℕ). all_taken b (map (entry_made dim) left) ++ packed_made dim m ∷ []) (newest_leads m left linked)
      ∙ ap (λ (ps : List Packed). ps ++ packed_made dim m ∷ []) (taken_all left linked.2)
      ∙ sym (packed_newest dim m left)

  back_all : (left : List RemainingEdit) → AreLinked dim rest t base left
      → back_by (length (log_of dim left)) (spelling (top_of base left)) (log_of dim left) ≡ spelling base
  back_all [] linked = refl
  back_all (m ∷ left) linked =
      ap (λ (b : List ℕ). back_by (length (map (entry_made dim) left)) b (map (entry_made dim) left)) (newest_leads m left linked)
      ∙ back_all left linked.2

  -- they stand, and give what was made
  stand_all : (left : List RemainingEdit) → AreLinked dim rest t base left → AllStand (spelling base) (packed_all dim left)
      × (put_all (spelling base) (packed_all dim left) ≡ spelling (top_of base left))
  stand_all left linked =
      let P : List ℕ → List Packed → Type 0 = λ b es. AllStand b es × (put_all b es ≡ spelling (top_of base left)) in
      subst (λ (b : List ℕ). P b (packed_all dim left)) (back_all left linked)
      (subst (P (back_by (length (log_of dim left)) (spelling (top_of base left)) (log_of dim left))) (taken_all left linked)
      (all_taken_give_the_same (spelling (top_of base left)) (log_of dim left) (may_all left linked)))

  -- what the newest puts on is what was made
  newest_puts : (m : RemainingEdit) (left : List RemainingEdit) → AreLinked dim rest t base (m ∷ left)
      → put_on (put_all (spelling base) (packed_all dim left)) (packed_made dim m) ≡ spelling m.made
  newest_puts m left linked =
      let under : put_all (spelling base) (packed_all dim left) ≡ back (spelling m.made) (entry_made dim m) =
      (stand_all left linked.2).1 ∙ sym (newest_leads m left linked) in
      ap (λ (b : List ℕ). put_on b (packed_made dim m)) under
      ∙ (taken_gives_the_same (spelling m.made) (entry_made dim m) (entry_may dim rest t m linked.0)).1

  fit_all : (left : List RemainingEdit) → AreLinked dim rest t base left → length (spelling base) + rest ≤ MOST_DESIGN
      → AllFit rest (spelling base) (packed_all dim left)
  fit_all [] linked few_bytes = tt
  fit_all (m ∷ left) linked few_bytes =
      let made = linked_fits dim rest t base (m ∷ left) linked few_bytes in
      subst (AllFit rest (spelling base)) (sym (packed_newest dim m left))
      (fit_more rest (spelling base) (packed_all dim left) (packed_made dim m) (fit_all left linked.2 few_bytes)
      (subst (λ (b : List ℕ). length b + rest ≤ MOST_DESIGN) (sym (newest_puts m left linked)) made))

  entries_all : (left : List RemainingEdit) → AreLinked dim rest t base left → length (spelling base) + rest ≤ MOST_DESIGN
      → AllByRecursion IsEntry (packed_all dim left)
  entries_all [] linked few_bytes = tt
  entries_all (m ∷ left) linked few_bytes =
      let made = linked_fits dim rest t base (m ∷ left) linked few_bytes in
      subst (AllByRecursion IsEntry) (sym (packed_newest dim m left))
      (entries_more (packed_all dim left) (packed_made dim m) (entries_all left linked.2 few_bytes) (is_entry dim rest t m linked.0 (omega arith)))

-- the same of steps
packs_again : (t : List ℕ) (cs : List Step) (s : State) → s.earlier ≡ [] → s.rest ≡ length t → All IsStep cs → Opens (spelling s.top ++ t) s.dim s.top t
    → length (spelling s.top) + length t ≤ MOST_DESIGN → PacksAgain s t cs
packs_again t cs s none tail fits opens few_bytes =
    let left : List RemainingEdit = with_steps cs s [] in
    let start : IsStacked s.top s [] = ap (λ (earlier : List (List Element)). s.top ∷ earlier) none in
    let linked = steps_link t s.top cs s [] fits start opens in
    let top : (after_all cs s).top ≡ top_of s.top left = stack_top s.top (after_all cs s) left (steps_stack s.top cs s [] start) in
    let within : length (spelling s.top) + s.rest ≤ MOST_DESIGN = subst (λ (n : ℕ). length (spelling s.top) + n ≤ MOST_DESIGN) (sym tail) few_bytes in
    let stands = stand_all s.dim s.rest t s.top left linked in
    record {
      stand = stands.0;
      gives = stands.1 ∙ ap spelling (sym top);
      fit = subst (λ (n : ℕ). AllFit n (spelling s.top) (packed_after cs s)) tail (fit_all s.dim s.rest t s.top left linked within);
      entries = λ short.
          record {
            count = omega (arith, few_packed (packed_after cs s), length-patch (packed_after cs s));
            each = entries_all s.dim s.rest t s.top left linked within;
          };
    }

pub applied_gives_the_same : AppliedGivesTheSame
applied_gives_the_same f d cs files opens short fits bytes =
    let whole : f ≡ spelling d.elements ++ d.tail = opens.whole in
    packs_again d.tail (steps_of_files cs files) (first_state d) refl refl (steps_given cs files fits bytes)
    (subst (λ (g : List ℕ). Opens g d.dim d.elements d.tail) opens.whole opens)
    (omega (arith, ap (length {A = ℕ}) whole, length-append (spelling d.elements) d.tail))
