-- A file that is read piece by piece: what was gathered so far and what is left make the whole.
use Rattle.std.proofs.Common.{◌≡◌, ℕ, ◌+◌, ◌≤◌, List, [], ◌++◌, length, take, drop, Option, Some, None, option_map, IfSome, Result, Err, refl, sym, ap, ◌∙◌}
use Rattle.std.proofs.Common.{inr, append_assoc, arith}
use Rattle.std.proofs.Math.Seq.{drop-append_seam}
use Rattle.std.proofs.lemmas.List.{take-append-drop, length-append, length-take}
use Rattle.dgn_desk.specs.Content.{Content, with_left, consumed, opened, bytes_of, OnlyLeftDiffers}
use Rattle.dgn_desk.specs.Desk.{TakesFirst, LeavesToRead, LeftAfter, read_end_of}
use Rattle.dgn_desk.specs.declared.stop.Stop.{Stop}
use Rattle.dgn_desk.specs.declared.stop.Stop.TheVariants.{Failed, Memory}
use Rattle.dgn_desk.specs.declared.reading.ReadEnd.{ReadEnd}

-- these bytes were gathered, and of what is told only what is left may differ
pub record IsGathered (old now : Option Content) (all : List ℕ) : Type 0 where
  pub left : List ℕ
  pub changes : now ≡ option_map (with_left left) old
  pub split : IfSome old (λ c. c.left ≡ all ++ left)

-- at first nothing was
pub gathered_none : (old : Option Content) → IsGathered old old []
gathered_none None = record { left = []; changes = refl; split = tt }
gathered_none (Some c) = record { left = c.left; changes = refl; split = refl }

-- one more piece
pub gathered_more : (old now new : Option Content) (all buffer : List ℕ) (count : ℕ) → IsGathered old now all
    → IfSome now (λ c. TakesFirst c.left buffer count) → new ≡ option_map (consumed count) now → IsGathered old new (all ++ take count buffer)
gathered_more None now new all buffer count so_far piece change =
    record { left = []; changes = change ∙ ap (option_map (consumed count)) so_far.changes; split = tt }
gathered_more (Some c) now new all buffer count so_far piece change =
    let first : TakesFirst so_far.left buffer count = rw so_far.changes at piece in
    record {
      left = drop count so_far.left;
      changes = change ∙ ap (option_map (consumed count)) so_far.changes;
      split = so_far.split ∙ ap (λ bytes. all ++ bytes) (sym (take-append-drop count so_far.left))
          ∙ sym (append_assoc all (take count so_far.left) (drop count so_far.left))
          ∙ ap (λ piece. (all ++ piece) ++ drop count so_far.left) (sym first.same);
    }

-- whatever was gathered, only what is left differs
pub only_left : (old now : Option Content) (all : List ℕ) → IsGathered old now all → OnlyLeftDiffers old now
only_left old now all so_far = (so_far.left, so_far.changes)

-- where nothing changed, what is left alone may differ
pub left_alone : (old new : Option Content) → new ≡ old → OnlyLeftDiffers old new
left_alone None new same = ([], same)
left_alone (Some c) new same = (c.left, same)

-- and where reading began
pub opened_alone : (name : List ℕ) (old new : Option Content) → new ≡ option_map (opened name) old → OnlyLeftDiffers old new
opened_alone name None new begun = ([], begun)
opened_alone name (Some c) new begun = (bytes_of c.files name, begun)

-- what is left stands behind what was gathered
pub left_behind : (old now : Option Content) (all : List ℕ) → IsGathered old now all → IfSome old (λ b. IfSome now (λ n. n.left ≡ drop (length all) b.left))
left_behind None now all so_far = tt
left_behind (Some c) now all so_far =
    rw so_far.changes (sym (drop-append_seam all so_far.left) ∙ ap (drop (length all)) (sym so_far.split))

-- so where the reading stops, it is what stands behind so many bytes
part_behind : {T : Type 0} (result : Result T ReadEnd) (stop : Stop) (limit : ℕ) (bytes before now : List ℕ) (count : ℕ) → result ≡ Err (read_end_of stop)
    → count ≤ limit + 1 → now ≡ drop count bytes → LeftAfter result limit bytes before now
part_behind result Failed limit bytes before now count ends most behind = rw ends (inr (count, most, behind))
part_behind result Memory limit bytes before now count ends most behind = rw ends (inr (count, most, behind))

pub left_stopped : {T : Type 0} (result : Result T ReadEnd) (stop : Stop) (limit : ℕ) (old now : Option Content) (all : List ℕ) → result
    ≡ Err (read_end_of stop)
    → IsGathered old now all → length all ≤ limit + 1 → LeavesToRead result limit (λ c. c.left) old now
left_stopped result stop limit None now all ends so_far most = tt
left_stopped result stop limit (Some c) None all ends so_far most = tt
left_stopped result stop limit (Some c) (Some n) all ends so_far most =
    part_behind result stop limit c.left c.left n.left (length all) ends most (left_behind (Some c) (Some n) all so_far)

-- a piece adds no more than its bytes
pub length_more : (all buffer : List ℕ) (count most : ℕ) → length all + count ≤ most → length (all ++ take count buffer) ≤ most
length_more all buffer count most fits = omega (arith, length-append all (take count buffer), length-take count buffer)
