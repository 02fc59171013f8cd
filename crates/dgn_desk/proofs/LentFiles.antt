-- Files that were written over files that are lent: what stands at a name, and what a change of those that were written makes.
use Rattle.std.proofs.Common.{◌≡◌, ℕ, ◌+◌, ◌<◌, ◌≤◌, length, drop, take, get_or, List, [], ◌∷◌, ◌++◌, map, Option, Some, None, IsSome, is_some}
use Rattle.std.proofs.Common.{Bool, true, false, cond, unwrap_or, refl, sym, ap, ◌∙◌, arith}
use Rattle.std.specs.Ordering.{nat_cmp, eq_by_cmp}
use Rattle.std.specs.Cmp.Lexicographic.{slice_cmp, nat_list_cmp_total}
use Rattle.std.specs.Str.{bytes_eq}
use Rattle.std.specs.FinMap as maps
use Rattle.dgn_desk.specs.Content.{Files, with_file, bytes_of, opened, filed, written}
use Rattle.dgn_desk.specs.FileLaws.{same_files, get-with_file, get-with_file-same}
use Rattle.std.proofs.lemmas.List.{at_drop_more, drop_all, take-append-drop}
use Rattle.std.proofs.Math.Seq.{take-length}
use Rattle.dgn_desk.specs.declared.lent_file.LentFile.{LentFile}
use Rattle.dgn_desk.specs.LentDesk.{pair_of, lent_files, over, IsBegun}

-- the first of two that is there
abbrev or_else : Option (List ℕ) → Option (List ℕ) → Option (List ℕ)
or_else None y = y
or_else (Some x) y = Some x

-- a choice by a test, of which one side is there
or_else_cond : (b : Bool) (v : List ℕ) (x y : Option (List ℕ)) → cond b (Some v) (or_else x y) ≡ or_else (cond b (Some v) x) y
or_else_cond true v x y = refl
or_else_cond false v x y = refl

-- a search goes through what stands behind where it finds nothing in front
find_behind : (xs ys : List (List ℕ × List ℕ)) (q : List ℕ)
    → maps.find (slice_cmp nat_cmp) q (xs ++ ys) ≡ or_else (maps.find (slice_cmp nat_cmp) q xs) (maps.find (slice_cmp nat_cmp) q ys)
find_behind [] ys q = refl
find_behind (x ∷ xs) ys q =
    ap (cond (eq_by_cmp (slice_cmp nat_cmp) q x.0) (Some x.1)) (find_behind xs ys q)
    ∙ or_else_cond (eq_by_cmp (slice_cmp nat_cmp) q x.0) x.1 (maps.find (slice_cmp nat_cmp) q xs) (maps.find (slice_cmp nat_cmp) q ys)

-- at a name stands what was written there, and else what is lent
pub get_over : (w : Files) (fs : List LentFile) (q : List ℕ) → maps.get (over w fs) q ≡ or_else (maps.get w q) (maps.get (lent_files fs) q)
get_over w fs q =
    maps.get-from_entries nat_list_cmp_total (maps.entries w ++ map pair_of fs) q
    ∙ find_behind (maps.entries w) (map pair_of fs) q
    ∙ ap (λ o. or_else o (maps.find (slice_cmp nat_cmp) q (map pair_of fs))) (sym (maps.get-entries w q))
    ∙ ap (or_else (maps.get w q)) (sym (maps.get-from_entries nat_list_cmp_total (map pair_of fs) q))

-- where nothing was written, the files are those that are lent
pub over_empty : (fs : List LentFile) → over maps.empty fs ≡ lent_files fs
over_empty fs =
    same_files _ _ (λ q. get_over maps.empty fs q ∙ ap (λ o. or_else o (maps.get (lent_files fs) q)) (maps.get-empty (slice_cmp nat_cmp) q))

-- a file that is set among those that were written is set
pub over_with_file : (name bytes : List ℕ) (w : Files) (fs : List LentFile) → over (with_file name bytes w) fs ≡ with_file name bytes (over w fs)
over_with_file name bytes w fs =
    same_files _ _ (λ q. get_over (with_file name bytes w) fs q
    ∙ ap (λ o. or_else o (maps.get (lent_files fs) q)) (get-with_file name bytes w q)
    ∙ sym (or_else_cond (bytes_eq q name) bytes (maps.get w q) (maps.get (lent_files fs) q))
    ∙ ap (cond (bytes_eq q name) (Some bytes)) (sym (get_over w fs q))
    ∙ sym (get-with_file name bytes (over w fs) q))

-- what is there stays, whatever stands behind
or_else_there : (x y : Option (List ℕ)) → IsSome x → or_else x y ≡ x
or_else_there None y there = absurd (let e = there in cc)
or_else_there (Some x) y there = refl

-- what was written at a name is what it has
pub get_over_written : (w : Files) (fs : List LentFile) (q : List ℕ) → IsSome (maps.get w q) → maps.get (over w fs) q ≡ maps.get w q
get_over_written w fs q there = get_over w fs q ∙ or_else_there (maps.get w q) (maps.get (lent_files fs) q) there

pub bytes_of_over_written : (w : Files) (fs : List LentFile) (q : List ℕ) → IsSome (maps.get w q) → bytes_of (over w fs) q ≡ bytes_of w q
bytes_of_over_written w fs q there = ap (λ o. unwrap_or o []) (get_over_written w fs q there)

-- a file that was set among those that were written is there
pub there_set : (name bytes : List ℕ) (w : Files) → IsSome (maps.get (with_file name bytes w) name)
there_set name bytes w = ap is_some (get-with_file-same name bytes w)

-- of the files from one on, that one is looked at first
pub first_of_rest : (fs : List LentFile) (i : ℕ) (q : List ℕ) (f : LentFile) → i < length fs
    → maps.get (lent_files (drop i fs)) q
    ≡ cond (bytes_eq q (get_or fs i f).name.now) (Some (get_or fs i f).bytes.now) (maps.get (lent_files (drop (i + 1) fs)) q)
first_of_rest fs i q f low =
    at_drop_more (λ rest. maps.get (lent_files rest) q) fs i f low
    ∙ get-with_file (get_or fs i f).name.now (get_or fs i f).bytes.now (lent_files (drop (i + 1) fs)) q

-- one that has the name is found
pub found_first : (fs : List LentFile) (i : ℕ) (q : List ℕ) (f : LentFile) → i < length fs → bytes_eq q (get_or fs i f).name.now ≡ true
    → maps.get (lent_files (drop i fs)) q ≡ Some (get_or fs i f).bytes.now
found_first fs i q f low same =
    first_of_rest fs i q f low ∙ ap (λ b. cond b (Some (get_or fs i f).bytes.now) (maps.get (lent_files (drop (i + 1) fs)) q)) same

-- one that has another name is passed over
pub passed_over : (fs : List LentFile) (i : ℕ) (q : List ℕ) (f : LentFile) → i < length fs → bytes_eq q (get_or fs i f).name.now ≡ false
    → maps.get (lent_files (drop i fs)) q ≡ maps.get (lent_files (drop (i + 1) fs)) q
passed_over fs i q f low other =
    first_of_rest fs i q f low ∙ ap (λ b. cond b (Some (get_or fs i f).bytes.now) (maps.get (lent_files (drop (i + 1) fs)) q)) other

-- where none is left, none is found
pub none_left : (fs : List LentFile) (i : ℕ) (q : List ℕ) → length fs ≤ i → maps.get (lent_files (drop i fs)) q ≡ None
none_left fs i q past = ap (λ rest. maps.get (lent_files rest) q) (drop_all i fs past) ∙ maps.get-empty (slice_cmp nat_cmp) q

-- a file that is opened to read: all its bytes are left
pub opened_over : (w : Files) (fs : List LentFile) (q bytes left settled since : List ℕ) (target : Option (List ℕ)) → bytes_of (over w fs) q ≡ bytes
    → Some (record { files = over w fs; left = bytes; target = target; settled = settled; since = since })
    ≡ Some (opened q (record { files = over w fs; left = left; target = target; settled = settled; since = since }))
opened_over w fs q bytes left settled since target is =
    ap (λ b. Some (record { files = over w fs; left = b; target = target; settled = settled; since = since })) (sym is)

-- a file that is begun: it is there and empty, and all that was said was said before it
pub filed_over : (w new : Files) (fs : List LentFile) (name begun left said : List ℕ) (n at : ℕ) (target : Option (List ℕ))
    → new ≡ with_file name [] w → begun ≡ name → n ≡ length said
    → Some (record { files = over new fs; left = left; target = Some begun; settled = take n said; since = drop n said })
    ≡ Some (filed name [] (record { files = over w fs; left = left; target = target; settled = take at said; since = drop at said }))
filed_over w new fs name begun left said n at target is same all =
    ap (λ f. Some (record { files = f; left = left; target = Some begun; settled = take n said; since = drop n said }))
    (ap (λ f. over f fs) is ∙ over_with_file name [] w fs)
    ∙ ap (λ q. Some (record { files = with_file name [] (over w fs); left = left; target = Some q; settled = take n said; since = drop n said })) same
    ∙ ap (λ t. Some (record { files = with_file name [] (over w fs); left = left; target = Some name; settled = t; since = drop n said }))
    (ap (λ k. take k said) all ∙ take-length said ∙ sym (take-append-drop at said))
    ∙ ap (λ t. Some (record { files = with_file name [] (over w fs); left = left; target = Some name; settled = take at said ++ drop at said; since = t }))
    (drop_all n said (omega (arith, all)))

-- what was written under a name is what it has
pub get_written : (w : Files) (fs : List LentFile) (q bytes : List ℕ) → Some bytes ≡ maps.get w q → maps.get (over w fs) q ≡ Some bytes
get_written w fs q bytes is = get_over w fs q ∙ ap (λ o. or_else o (maps.get (lent_files fs) q)) (sym is)

-- what is lent is what it has where nothing was written
pub get_lent : (w : Files) (fs : List LentFile) (q : List ℕ) → None ≡ maps.get w q → maps.get (over w fs) q ≡ maps.get (lent_files fs) q
get_lent w fs q none = get_over w fs q ∙ ap (λ o. or_else o (maps.get (lent_files fs) q)) (sym none)

-- bytes that are written stand behind those of the file that was begun
pub written_over : (w new : Files) (fs : List LentFile) (name bytes left settled since : List ℕ) (target : Option (List ℕ))
    → target ≡ Some name → IsBegun target w → new ≡ with_file name (bytes_of w name ++ bytes) w
    → Some (record { files = over new fs; left = left; target = target; settled = settled; since = since })
    ≡ Some (written (take (length bytes) bytes) (record { files = over w fs; left = left; target = target; settled = settled; since = since }))
written_over w new fs name bytes left settled since None is begun appended = absurd (let e = is in cc)
written_over w new fs name bytes left settled since (Some other) is begun appended =
    let same : name ≡ other = (let e = is in cc) in
    ap (λ f. Some (record { files = f; left = left; target = Some other; settled = settled; since = since }))
    (ap (λ f. over f fs) appended
    ∙ over_with_file name (bytes_of w name ++ bytes) w fs
    ∙ ap (λ q. with_file q (bytes_of w q ++ bytes) (over w fs)) same
    ∙ ap (λ b. with_file other (b ++ bytes) (over w fs)) (sym (bytes_of_over_written w fs other begun))
    ∙ ap (λ b. with_file other (bytes_of (over w fs) other ++ b) (over w fs)) (sym (take-length bytes)))

-- what isn't there isn't there
pub none_there : (o : Option (List ℕ)) → o ≡ None → IsSome o → ⊥
none_there None is there = let e = there in cc
none_there (Some x) is there = let e = is in cc
