-- Laws of the files that a desk holds: what stands at a name after a file was set, and which changes of
-- the files come to the same.
use Rattle.std.specs.Prelude.{◌≡◌, ℕ, List, [], Option, Some, unwrap_or, Bool, true, false, cond, refl}
use Rattle.std.specs.Cmp.Lexicographic.{nat_list_cmp_total}
use Rattle.std.specs.Str.{bytes_eq}
use Rattle.std.specs.FinMap as maps
use Rattle.std.proofs.Common.{sym, ◌∙◌, ap}
use Rattle.std.proofs.lemmas.Slice.Eq.{bytes_eq-Decides}
use Rattle.std.proofs.lemmas.Map.Text.{is_eq-slice_cmp}
use Rattle.dgn_desk.specs.Content.{Files, bytes_of, with_file}

-- files that have the same at each name are the same
pub same_files : (f g : Files) → ((q : List ℕ) → maps.get f q ≡ maps.get g q) → f ≡ g
same_files f g same = maps.same_map nat_list_cmp_total (maps.slice_cmp-IsAntisymmetric maps.nat_cmp-IsAntisymmetric) f g same

-- after a file was set, its name has its bytes, and each other name has what it had
pub get-with_file : (name bytes : List ℕ) (f : Files) (q : List ℕ) → maps.get (with_file name bytes f) q ≡ cond (bytes_eq q name) (Some bytes) (maps.get f q)
get-with_file name bytes f q =
    maps.get-insert nat_list_cmp_total f name bytes q ∙ ap (λ b. cond b (Some bytes) (maps.get f q)) (is_eq-slice_cmp q name)

-- the name that was set is there, with its bytes
pub get-with_file-same : (name bytes : List ℕ) (f : Files) → maps.get (with_file name bytes f) name ≡ Some bytes
get-with_file-same name bytes f =
    get-with_file name bytes f name ∙ ap (λ b. cond b (Some bytes) (maps.get f name)) ((bytes_eq-Decides name name).1 refl)

-- the file that was set has its bytes
pub bytes_of-with_file-same : (name bytes : List ℕ) (f : Files) → bytes_of (with_file name bytes f) name ≡ bytes
bytes_of-with_file-same name bytes f = ap (λ o. unwrap_or o []) (get-with_file-same name bytes f)

-- the first of two choices by one test, whichever way it falls
chosen_twice : (b : Bool) (x y z : Option (List ℕ)) → cond b x (cond b y z) ≡ cond b x z
chosen_twice true x y z = refl
chosen_twice false x y z = refl

-- a file that is set twice is set to the last
pub with_file-with_file : (name bytes before : List ℕ) (f : Files) → with_file name bytes (with_file name before f) ≡ with_file name bytes f
with_file-with_file name bytes before f =
    same_files _ _ (λ q. get-with_file name bytes (with_file name before f) q
    ∙ ap (cond (bytes_eq q name) (Some bytes)) (get-with_file name before f q)
    ∙ chosen_twice (bytes_eq q name) (Some bytes) (Some before) (maps.get f q)
    ∙ sym (get-with_file name bytes f q))

-- a choice of what is there anyway
chosen_same : (b : Bool) (x y : Option (List ℕ)) → (b ≡ true → y ≡ x) → cond b x y ≡ y
chosen_same true x y same = sym (same refl)
chosen_same false x y same = refl

-- to set a file to the bytes that it has changes nothing
pub with_file-there : (name bytes : List ℕ) (f : Files) → maps.get f name ≡ Some bytes → with_file name bytes f ≡ f
with_file-there name bytes f there =
    same_files _ _ (λ q. get-with_file name bytes f q
    ∙ chosen_same (bytes_eq q name) (Some bytes) (maps.get f q) (λ e. ap (maps.get f) ((bytes_eq-Decides q name).0 e) ∙ there))
