-- Files kept in a map from texts: what stands at a name, and what a change of one entry makes of them.
use Rattle.std.proofs.Common.{◌≡◌, ℕ, List, [], ◌∷◌, ◌++◌, map, Option, Some, None, option_map, Bool, true, false, cond, String, Vec, string_bytes, Result}
use Rattle.std.proofs.Common.{Ok, Err, is_ok, OnOk, OnErr, unwrap_or, if◌then◌else◌, refl, sym, ap, ◌∙◌}
use Rattle.std.specs.Ordering.{nat_cmp, is_eq}
use Rattle.std.specs.Cmp.Lexicographic.{slice_cmp, nat_list_cmp_total, nat_list_eq_equiv}
use Rattle.std.specs.Str.{bytes_eq}
use Rattle.std.specs.String.{string_cmp}
use Rattle.std.specs.BTreeMap.{BTreeMap, UpdatesBy, get_by_text, is_at}
use Rattle.std.specs.Map.{lookup}
use Rattle.std.specs.FinMap as maps
use Rattle.std.proofs.lemmas.Map.Text.{btree_map_updates_text}
use Rattle.dgn_desk.specs.Content.{Files, with_file, bytes_of}
use Rattle.dgn_desk.specs.FileLaws.{same_files, get-with_file, with_file-there}
use Rattle.dgn_desk.specs.FileMap.{entry_of, files_of}

-- the bytes of a choice are the choice of the bytes
bytes_of_choice : {Z : Type 0} (b : Bool) (v : Vec ℕ Z) (o : Option (Vec ℕ Z))
    → option_map (λ v. v.items) (cond b (Some v) o) ≡ cond b (Some v.items) (option_map (λ v. v.items) o)
bytes_of_choice true v o = refl
bytes_of_choice false v o = refl

module _ {Y Z : Type 0} where
  -- a search of the files' entries finds the bytes of the entry that a search of the map's finds
  find_entry : (es : List (String Y × Vec ℕ Z)) (q : List ℕ)
      → maps.find (slice_cmp nat_cmp) q (map entry_of es) ≡ option_map (λ v. v.items) (lookup (is_at (λ k. slice_cmp nat_cmp q (string_bytes k))) es)
  find_entry [] q = refl
  find_entry (e ∷ es) q =
      ap (cond (is_eq (slice_cmp nat_cmp q (string_bytes e.0))) (Some e.1.items)) (find_entry es q)
      ∙ sym (bytes_of_choice (is_eq (slice_cmp nat_cmp q (string_bytes e.0))) e.1 (lookup (is_at (λ k. slice_cmp nat_cmp q (string_bytes k))) es))

  -- a name has the bytes of the entry that is found for it
  pub get-files_of : (m : BTreeMap (String Y) (Vec ℕ Z)) (q : List ℕ) → maps.get (files_of m.entries) q ≡ option_map (λ v. v.items) (get_by_text m q)
  get-files_of m q = maps.get-from_entries nat_list_cmp_total (map entry_of m.entries) q ∙ find_entry m.entries q

  -- an entry that is set makes a file that is set
  pub files_of-set : (m n : BTreeMap (String Y) (Vec ℕ Z)) (name : List ℕ) (v : Vec ℕ Z)
      → UpdatesBy string_cmp (λ k. slice_cmp nat_cmp name (string_bytes k)) m n (Some v) → files_of n.entries ≡ with_file name v.items (files_of m.entries)
  files_of-set m n name v updates =
      same_files _ _ (λ q. get-files_of n q
      ∙ ap (option_map (λ v. v.items)) (btree_map_updates_text name m n (Some v) updates q)
      ∙ bytes_of_choice (bytes_eq name q) v (get_by_text m q)
      ∙ ap (cond (bytes_eq name q) (Some v.items)) (sym (get-files_of m q))
      ∙ ap (λ b. cond b (Some v.items) (maps.get (files_of m.entries) q)) (nat_list_eq_equiv.symm name q)
      ∙ sym (get-with_file name v.items (files_of m.entries) q))

  -- an entry that is set to the bytes that it has makes the same files
  pub files_of-kept : (m n : BTreeMap (String Y) (Vec ℕ Z)) (name : List ℕ) (old new : Vec ℕ Z)
      → UpdatesBy string_cmp (λ k. slice_cmp nat_cmp name (string_bytes k)) m n (Some new) → get_by_text m name ≡ Some old → new.items ≡ old.items
      → files_of n.entries ≡ files_of m.entries
  files_of-kept m n name old new updates there same =
      files_of-set m n name new updates
      ∙ with_file-there name new.items (files_of m.entries) (get-files_of m name ∙ ap (option_map (λ v. v.items)) there ∙ ap Some (sym same))

  -- a file's bytes are those of its entry
  pub bytes_of-files_of : (m : BTreeMap (String Y) (Vec ℕ Z)) (name : List ℕ) (v : Vec ℕ Z) → get_by_text m name ≡ Some v
      → bytes_of (files_of m.entries) name ≡ v.items
  bytes_of-files_of m name v there = ap (λ o. unwrap_or o []) (get-files_of m name ∙ ap (option_map (λ v. v.items)) there)

  -- without an entry it has none
  pub bytes_of-none : (m : BTreeMap (String Y) (Vec ℕ Z)) (name : List ℕ) → get_by_text m name ≡ None → bytes_of (files_of m.entries) name ≡ []
  bytes_of-none m name absent = ap (λ o. unwrap_or o []) (get-files_of m name ∙ ap (option_map (λ v. v.items)) absent)

  -- an entry that is extended makes a file that is extended
  pub files_of-extended : {E : Type 0} (r : Result (Unit {0}) E) (m n : BTreeMap (String Y) (Vec ℕ Z)) (name bytes : List ℕ) (old new : Vec ℕ Z) (f : Files)
      → UpdatesBy string_cmp (λ k. slice_cmp nat_cmp name (string_bytes k)) m n (Some new) → get_by_text m name ≡ Some old
      → new.items ≡ (if is_ok r then old.items ++ bytes else old.items) → files_of m.entries ≡ f
      → OnOk r (files_of n.entries ≡ with_file name (bytes_of f name ++ bytes) f)
  files_of-extended (Ok x) m n name bytes old new f updates there items before =
      files_of-set m n name new updates
      ∙ ap (λ bs. with_file name bs (files_of m.entries)) (items ∙ ap (λ bs. bs ++ bytes) (sym (bytes_of-files_of m name old there)))
      ∙ ap (λ g. with_file name (bytes_of g name ++ bytes) g) before
  files_of-extended (Err e) m n name bytes old new f updates there items before = tt

  -- and one that could not be extended leaves the files
  pub files_of-not_extended : {E : Type 0} (r : Result (Unit {0}) E) (m n : BTreeMap (String Y) (Vec ℕ Z)) (name bytes : List ℕ) (old new : Vec ℕ Z)
      (f : Files) → UpdatesBy string_cmp (λ k. slice_cmp nat_cmp name (string_bytes k)) m n (Some new) → get_by_text m name ≡ Some old
      → new.items ≡ (if is_ok r then old.items ++ bytes else old.items) → files_of m.entries ≡ f → OnErr r (files_of n.entries ≡ f)
  files_of-not_extended (Ok x) m n name bytes old new f updates there items before = tt
  files_of-not_extended (Err e) m n name bytes old new f updates there items before = files_of-kept m n name old new updates there items ∙ before

  -- a file that is set where no entry was is the empty one extended
  pub files_of-begun : {E : Type 0} (r : Result (Unit {0}) E) (m n : BTreeMap (String Y) (Vec ℕ Z)) (name bytes v : List ℕ) (f new : Files) → n ≡ m
      → None ≡ get_by_text m name → v ≡ bytes → files_of m.entries ≡ f → OnOk r (new ≡ with_file name v (files_of n.entries))
      → OnOk r (new ≡ with_file name (bytes_of f name ++ bytes) f)
  files_of-begun (Ok x) m n name bytes v f new same absent items before set =
      set
      ∙ ap (λ k. with_file name v (files_of k.entries)) same
      ∙ ap (λ bs. with_file name bs (files_of m.entries)) (items ∙ ap (λ bs. bs ++ bytes) (sym (bytes_of-none m name (sym absent))))
      ∙ ap (λ g. with_file name (bytes_of g name ++ bytes) g) before
  files_of-begun (Err e) m n name bytes v f new same absent items before set = tt
