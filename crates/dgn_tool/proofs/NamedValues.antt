-- The values that the words of a script name hold what their types keep.
use borrow.Author.Differences.{ints}
use Rattle.std.proofs.Common.{◌≡◌, ℕ, ◌+◌, ◌<◌, ◌≤◌, ◌==◌, ◌&&◌, Bool, true, List, [], ◌∷◌, length, ℤ, pos, neg_ℤ, ◌≤ℤ◌, Option, Some, None, IfSome}
use Rattle.std.proofs.Common.{option_map, inl, inr, refl, arith, codes, nat_le, int_le, bytes_eq, if◌then◌else◌, subst}
use Rattle.std.specs.List.{AllByRecursion}
use Rattle.std.specs.Str.Parse.{digits_value}
use Rattle.std.proofs.lemmas.Bool.{cond_both, and_parts, and_from}
use Rattle.std.proofs.lemmas.Bool.Decides.{nat_tests}
use Rattle.std.proofs.lemmas.Option.{IfSome_then}
use Rattle.plane_geom.proofs.Axes.{compared}
use Rattle.dgn_drawing.specs.Values.{IsShift, IsLook}
use Rattle.dgn_drawing.specs.WellFormed.{IsDimension, IsBytes, IsCoordinate}
use Rattle.dgn_drawing.specs.NewElements.{IsPointFor}
use Rattle.edit_script.specs.declared.points.PointGiven.{PointGiven}
use Rattle.edit_script.specs.Numbers.{is_number_word, number_within, negated, signed_within}
use Rattle.edit_script.specs.Words.{before_all, each_named}
use Rattle.edit_script.specs.Points.{on_plane, coordinate_named, point_of, point_with, numbers_of, point_named, for_axes, points_named, path_of, path_from}
use Rattle.edit_script.specs.Points.{path_named, IsGiven, IsPath}
use Rattle.edit_script.specs.Appends.{pen_of, pen_named, multiplier_named, lettering_of, lettering_named, chars_given, IsPen, IsMultiplier, IsLettering}
use Rattle.edit_script.specs.Appends.{IsChars}
use Rattle.edit_script.specs.Edits.{given_within, look_of, look_named, distance_named, shift_of, shift_named}
use Rattle.edit_script.specs.Imports.{given_shift}

-- a value that is made of one that may be there
pub of_some : {X Y : Type 0} (P : Y → Type 0) (f : X → Y) (o : Option X) → IfSome o (λ x. P (f x)) → IfSome (option_map f o) P
of_some P f None h = tt
of_some P f (Some x) h = h

-- and one that is there where a test passes
where_so : {X : Type 0} (P : X → Type 0) (test : Bool) (x : X) → (test ≡ true → P x) → IfSome (if test then Some x else None) P
where_so P test x h = cond_both test (Some x) None (λ o. IfSome o P) h (λ fails. tt)

-- a number is at most as much as it may be
number_most : (most : ℕ) (word : List ℕ) → IfSome (number_within most word) (λ n. n ≤ most)
number_most most word = where_so (λ n. n ≤ most) (is_number_word word && nat_le (digits_value 10 word) most) (digits_value 10 word) within
  where
    within : (is_number_word word && nat_le (digits_value 10 word) most) ≡ true → digits_value 10 word ≤ most
    within passes =
        let least : nat_le (digits_value 10 word) most ≡ true = (and_parts (is_number_word word) (nat_le (digits_value 10 word) most) passes).1 in
        grind (arith, nat_tests)

pub number_below : (most : ℕ) (word : List ℕ) → IfSome (number_within most word) (λ n. n < most + 1)
number_below most word = IfSome_then (number_within most word) (number_most most word) (λ n h. omega (arith, h))

-- and where it may have a dash, as far from 0
abbrev IsWithin : ℕ → ℤ → Type 0
IsWithin most d = (neg_ℤ (pos most) ≤ℤ d) × (d ≤ℤ pos most)

positive_within : (most n : ℕ) → n ≤ most → IsWithin most (pos n)
positive_within most n h = (grind (arith, ints), grind (arith, ints))

negated_within : (most : ℕ) (o : Option ℕ) → IfSome o (λ n. n ≤ most) → IfSome (negated o) (IsWithin most)
negated_within most None h = tt
negated_within most (Some n) h =
    cond_both (n == 0) None (Some (neg_ℤ (pos n))) (λ o. IfSome o (IsWithin most)) (λ passes. tt) (λ fails. (grind (arith, ints), grind (arith, ints)))

signed_so : (most : ℕ) (word : List ℕ) → IfSome (signed_within most word) (IsWithin most)
signed_so most [] = tt
signed_so most (c ∷ cs) =
    cond_both (c == 45) (negated (number_within most cs)) (option_map pos (number_within most (c ∷ cs))) (λ o. IfSome o (IsWithin most))
    (λ passes. negated_within most (number_within most cs) (number_most most cs))
    (λ fails. of_some (IsWithin most) pos (number_within most (c ∷ cs))
    (IfSome_then (number_within most (c ∷ cs)) (number_most most (c ∷ cs)) (positive_within most)))

-- a displacement
shift_so : (axes : ℕ) (x y z : Option ℤ) → IsDimension axes → (axes ≡ 2 → z ≡ Some (pos 0)) → IfSome x (IsWithin 4294967295)
    → IfSome y (IsWithin 4294967295) → IfSome z (IsWithin 4294967295) → IfSome (shift_of axes x y z) IsShift
shift_so axes None y z dim flat l m n = tt
shift_so axes (Some x) None z dim flat l m n = tt
shift_so axes (Some x) (Some y) None dim flat l m n = tt
shift_so axes (Some x) (Some y) (Some z) dim flat l m n = record { axes = dim; each = (l, (m, (n, tt))); flat = λ two. let e = flat two in cc }

distance_so : (word : List ℕ) → IfSome (distance_named word) (IsWithin 4294967295)
distance_so word = signed_so 4294967295 word

pub shift_holds : (words : List (List ℕ)) → IfSome (shift_named words) IsShift
shift_holds [] = tt
shift_holds (x ∷ []) = tt
shift_holds (x ∷ y ∷ []) =
    shift_so 2 (distance_named x) (distance_named y) (Some (pos 0)) (inl refl) (λ two. refl) (distance_so x) (distance_so y)
    (positive_within 4294967295 0 (omega arith))
shift_holds (x ∷ y ∷ z ∷ []) =
    shift_so 3 (distance_named x) (distance_named y) (distance_named z) (inr refl) (λ two. absurd (omega (arith, two))) (distance_so x) (distance_so y)
    (distance_so z)
shift_holds (x ∷ y ∷ z ∷ w ∷ words) = tt

pub given_shift_holds : (words : List (List ℕ)) → IfSome (given_shift words) (λ by. IfSome by IsShift)
given_shift_holds [] = tt
given_shift_holds (word ∷ words) = of_some (λ by. IfSome by IsShift) Some (shift_named (word ∷ words)) (shift_holds (word ∷ words))

-- a change of the look
given_so : (most : ℕ) (word : List ℕ) → IfSome (given_within most word) (λ given. IfSome given (λ n. n < most + 1))
given_so most word =
    cond_both (bytes_eq word (codes "-")) (Some None) (option_map Some (number_within most word)) (λ o. IfSome o (λ given. IfSome given (λ n. n < most + 1)))
    (λ passes. tt)
    (λ fails. of_some (λ given. IfSome given (λ n. n < most + 1)) Some (number_within most word) (number_below most word))

look_so : (c w s : Option (Option ℕ)) → IfSome c (λ given. IfSome given (λ n. n < 256)) → IfSome w (λ given. IfSome given (λ n. n < 32))
    → IfSome s (λ given. IfSome given (λ n. n < 8)) → IfSome (look_of c w s) IsLook
look_so None w s l m n = tt
look_so (Some c) None s l m n = tt
look_so (Some c) (Some w) None l m n = tt
look_so (Some c) (Some w) (Some s) l m n = record { color = l; weight = m; style = n }

pub look_holds : (words : List (List ℕ)) → IfSome (look_named words) IsLook
look_holds [] = tt
look_holds (c ∷ []) = tt
look_holds (c ∷ w ∷ []) = tt
look_holds (c ∷ w ∷ s ∷ []) = look_so (given_within 255 c) (given_within 31 w) (given_within 7 s) (given_so 255 c) (given_so 31 w) (given_so 7 s)
look_holds (c ∷ w ∷ s ∷ x ∷ words) = tt

-- a level and a look
pen_so : (lv c w s : Option ℕ) → IfSome lv (λ n. n < 64) → IfSome c (λ n. n < 256) → IfSome w (λ n. n < 32) → IfSome s (λ n. n < 8)
    → IfSome (pen_of lv c w s) IsPen
pen_so None c w s k l m n = tt
pen_so (Some lv) None w s k l m n = tt
pen_so (Some lv) (Some c) None s k l m n = tt
pen_so (Some lv) (Some c) (Some w) None k l m n = tt
pen_so (Some lv) (Some c) (Some w) (Some s) k l m n = record { level = k; color = l; weight = m; style = n }

pub pen_holds : (words : List (List ℕ)) → IfSome (pen_named words) IsPen
pen_holds [] = tt
pen_holds (lv ∷ []) = tt
pen_holds (lv ∷ c ∷ []) = tt
pen_holds (lv ∷ c ∷ w ∷ []) = tt
pen_holds (lv ∷ c ∷ w ∷ s ∷ words) =
    pen_so (number_within 63 lv) (number_within 255 c) (number_within 31 w) (number_within 7 s) (number_below 63 lv) (number_below 255 c)
    (number_below 31 w) (number_below 7 s)

-- a point
plane_so : (o : Option ℤ) → IfSome (on_plane o) IsCoordinate
plane_so None = tt
plane_so (Some v) = where_so IsCoordinate _ v (λ passes. passes)

coordinate_so : (word : List ℕ) → IfSome (coordinate_named word) IsCoordinate
coordinate_so word = plane_so (signed_within 2147483648 word)

point_so : (axes : ℕ) (x y z : Option ℤ) → IsDimension axes → (axes ≡ 2 → z ≡ Some (pos 0)) → IfSome x IsCoordinate → IfSome y IsCoordinate
    → IfSome z IsCoordinate → IfSome (point_of axes x y z) IsGiven
point_so axes None y z dim flat l m n = tt
point_so axes (Some x) None z dim flat l m n = tt
point_so axes (Some x) (Some y) None dim flat l m n = tt
point_so axes (Some x) (Some y) (Some z) dim flat l m n = record {
  axes = dim;
  point = record { numbers = record { long = refl; on_plane = (l, (m, (n, tt))) }; flat = λ two. let e = flat two in cc };
}

numbers_so : (words : List (List ℕ)) → IfSome (point_with words) IsGiven
numbers_so [] = tt
numbers_so (x ∷ []) = tt
numbers_so (x ∷ y ∷ []) = point_so 2 (coordinate_named x) (coordinate_named y) (Some (pos 0)) (inl refl) (λ two. refl) (coordinate_so x) (coordinate_so y) refl
numbers_so (x ∷ y ∷ z ∷ []) =
    point_so 3 (coordinate_named x) (coordinate_named y) (coordinate_named z) (inr refl) (λ two. absurd (omega (arith, two))) (coordinate_so x)
    (coordinate_so y) (coordinate_so z)
numbers_so (x ∷ y ∷ z ∷ w ∷ words) = tt

point_holds : (word : List ℕ) → IfSome (point_named word) IsGiven
point_holds word = numbers_so (numbers_of word)

-- a path
axes_so : (axes : ℕ) (o : Option PointGiven) → IfSome o IsGiven → IfSome (for_axes axes o) (IsPointFor axes)
axes_so axes None h = tt
axes_so axes (Some p) h =
    where_so (IsPointFor axes) (p.axes == axes) p.at
    (λ passes. let same : p.axes ≡ axes = grind (arith, nat_tests) in subst (λ n. IsPointFor n p.at) same h.point)

before_so : {X : Type 0} (P : X → Type 0) (first : Option X) (more : Option (List X)) → IfSome first P → IfSome more (AllByRecursion P)
    → IfSome (before_all first more) (AllByRecursion P)
before_so P None more h k = tt
before_so P (Some x) None h k = tt
before_so P (Some x) (Some xs) h k = (h, k)

each_so : {X : Type 0} (P : X → Type 0) (name : List ℕ → Option X) (words : List (List ℕ)) → ((word : List ℕ) → IfSome (name word) P)
    → IfSome (each_named name words) (AllByRecursion P)
each_so P name [] h = tt
each_so P name (word ∷ words) h = before_so P (name word) (each_named name words) (h word) (each_so P name words h)

many_so : (least most axes : ℕ) (points : Option (List (List ℤ))) → IsDimension axes → IfSome points (AllByRecursion (IsPointFor axes))
    → IfSome (path_of least most axes points) (IsPath least most)
many_so least most axes None dim h = tt
many_so least most axes (Some points) dim h =
    where_so (IsPath least most) (nat_le least (length points) && nat_le (length points) most) _ (λ passes.
    let both = and_parts (nat_le least (length points)) (nat_le (length points) most) passes in
    let enough : nat_le least (length points) ≡ true = both.0 in
    let few : nat_le (length points) most ≡ true = both.1 in
    record { axes = dim; points = record { enough = grind (arith, nat_tests); few = grind (arith, nat_tests); each = h } })

from_so : (least most : ℕ) (first : Option PointGiven) (words : List (List ℕ)) → IfSome first IsGiven
    → IfSome (path_from least most first words) (IsPath least most)
from_so least most None words h = tt
from_so least most (Some first) words h =
    many_so least most first.axes (points_named first.axes words) h.axes
    (each_so (IsPointFor first.axes) (λ word. for_axes first.axes (point_named word)) words
    (λ word. axes_so first.axes (point_named word) (point_holds word)))

pub path_holds : (least most : ℕ) (words : List (List ℕ)) → IfSome (path_named least most words) (IsPath least most)
path_holds least most [] = tt
path_holds least most (word ∷ words) = from_so least most (point_named word) (word ∷ words) (point_holds word)

-- how a text stands
multiplier_is : (n : ℕ) → n ≤ 2147483647 → IsMultiplier (pos n)
multiplier_is n h = record {
  long = and_from (int_le (neg_ℤ (pos 2147483648)) (pos n)) (int_le (pos n) (pos 2147483647))
      ((compared (neg_ℤ (pos 2147483648)) (pos n)).1 (grind (arith, ints))) ((compared (pos n) (pos 2147483647)).1 (grind (arith, ints)));
  up = grind (arith, ints);
}

multiplier_so : (word : List ℕ) → IfSome (multiplier_named word) IsMultiplier
multiplier_so word = of_some IsMultiplier pos (number_within 2147483647 word)
    (IfSome_then (number_within 2147483647 word) (number_most 2147483647 word) multiplier_is)

lettering_so : (f j : Option ℕ) (length height : Option ℤ) (p : Option PointGiven) → IfSome f (λ n. n < 256) → IfSome j (λ n. n < 256)
    → IfSome length IsMultiplier → IfSome height IsMultiplier → IfSome p IsGiven → IfSome (lettering_of f j length height p) IsLettering
lettering_so None j length height p k l m n o = tt
lettering_so (Some f) None length height p k l m n o = tt
lettering_so (Some f) (Some j) None height p k l m n o = tt
lettering_so (Some f) (Some j) (Some length) None p k l m n o = tt
lettering_so (Some f) (Some j) (Some length) (Some height) None k l m n o = tt
lettering_so (Some f) (Some j) (Some length) (Some height) (Some p) k l m n o = record { font = k; just = l; length = m; height = n; origin = o }

pub lettering_holds : (words : List (List ℕ)) → IfSome (lettering_named words) IsLettering
lettering_holds [] = tt
lettering_holds (f ∷ []) = tt
lettering_holds (f ∷ j ∷ []) = tt
lettering_holds (f ∷ j ∷ length ∷ []) = tt
lettering_holds (f ∷ j ∷ length ∷ height ∷ []) = tt
lettering_holds (f ∷ j ∷ length ∷ height ∷ p ∷ words) =
    lettering_so (number_within 255 f) (number_within 255 j) (multiplier_named length) (multiplier_named height) (point_named p) (number_below 255 f)
    (number_below 255 j) (multiplier_so length) (multiplier_so height) (point_holds p)

-- and its characters, which are bytes of the line
pub chars_hold : (bytes : List ℕ) → IsBytes bytes → IfSome (chars_given bytes) IsChars
chars_hold bytes are =
    where_so IsChars (nat_le 1 (length bytes) && nat_le (length bytes) 255) bytes (λ passes.
    let both = and_parts (nat_le 1 (length bytes)) (nat_le (length bytes) 255) passes in
    let some : nat_le 1 (length bytes) ≡ true = both.0 in
    let few : nat_le (length bytes) 255 ≡ true = both.1 in
    record { some = grind (arith, nat_tests); few = grind (arith, nat_tests); bytes = are })
