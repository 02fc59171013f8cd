-- A point outside of a box that holds all corners of a polygon isn't within the polygon.
use Rattle.std.proofs.Common.{◌≡◌, ℕ, ◌+◌, ◌*◌, ◌%◌, ◌<◌, ◌≤◌, ◌==◌, Bool, true, false, not, ◌&&◌, ◌||◌, cond, List, [], ◌∷◌, refl, ◌∙◌, ap, arith, ℤ, pos}
use Rattle.std.proofs.Common.{negsuc, ◌-ℤ◌, ◌*ℤ◌, ◌<ℤ◌, ◌≤ℤ◌, int_lt, int_le}
use Rattle.std.proofs.Math.Nat.{one-le-mul}
use Rattle.std.specs.List.{count_by, AllByRecursion}
use Rattle.std.proofs.lemmas.Int.{by_lt_z}
use Rattle.std.proofs.lemmas.List.Sums.{sum_by-cons}
use Rattle.std.proofs.lemmas.Bool.{both_ways}
use borrow.Author.Differences.{up, ints}
use Rattle.plane_geom.specs.declared.pt.Pt.{Pt}
use Rattle.plane_geom.specs.Polygons.{leans, rises, passes, edges_from, is_within}
use Rattle.plane_geom.specs.Boxes.{IsInBox, AreInBox}
use Rattle.plane_geom.proofs.Readings.{Reads, times}
use Rattle.plane_geom.proofs.Axes.{compared}
use Rattle.plane_geom.proofs.TestOfTouch.{below}

-- ---- orders as tests

and_none : (x : Bool) → (x && false) ≡ false
and_none true = refl
and_none false = refl

over : (a b : ℤ) → b <ℤ a → int_le a b ≡ false
over a b h = grind (arith, ints)

unless_below : (a b : ℤ) → b ≤ℤ a → int_lt a b ≡ false
unless_below a b h = grind (arith, ints)

-- how far it is up to a number, and on to another
up_only : (z : ℤ) → pos 0 ≤ℤ z → Reads z (up z) 0
up_only (pos n) h = record { reads = omega arith }
up_only (negsuc n) h = absurd (omega (arith, ints))

rising : (x y : ℤ) → x ≤ℤ y → Reads (y -ℤ x) (up (y -ℤ x)) 0
rising x y h = up_only (y -ℤ x) (omega (arith, ints))

rest_of : (x y z : ℤ) (a b : ℕ) → Reads (y -ℤ x) a 0 → Reads (z -ℤ x) b 0 → Reads (z -ℤ y) b a
rest_of x y z a b f g = record { reads = omega (arith, ints, f.reads, g.reads) }

back_to : (x y : ℤ) (a : ℕ) → Reads (y -ℤ x) a 0 → Reads (x -ℤ y) 0 a
back_to x y a f = record { reads = omega (arith, ints, f.reads) }

back_rest : (x y z : ℤ) (a b : ℕ) → Reads (z -ℤ x) a 0 → Reads (z -ℤ y) b 0 → Reads (y -ℤ x) a b
back_rest x y z a b f g = record { reads = omega (arith, ints, f.reads, g.reads) }

whole_of : (x y z : ℤ) (a b : ℕ) → Reads (y -ℤ x) a 0 → Reads (z -ℤ y) b 0 → Reads (z -ℤ x) (a + b) 0
whole_of x y z a b f g = record { reads = omega (arith, ints, f.reads, g.reads) }

positive : (x y : ℤ) (a : ℕ) → x <ℤ y → Reads (y -ℤ x) a 0 → 0 < a
positive x y a h f = omega (arith, ints, f.reads)

-- ---- an edge to the right of a point, and one to the left

-- -a (k + m) is below (b - a) k
lesser : (w x y z : ℤ) (a b k m : ℕ) → Reads w 0 a → Reads x (k + m) 0 → Reads y b a → Reads z k 0 → 0 < a → 0 < m → (w *ℤ x) <ℤ (y *ℤ z)
lesser w x y z a b k m f g h i some more =
    let first = times f g in
    let second = times h i in
    let product : 1 ≤ a * m = one-le-mul some more in
    omega (arith, ints, first.reads, second.reads)

-- (a - b) k is at most a (k + m)
at_most : (w x y z : ℤ) (a b k m : ℕ) → Reads w a 0 → Reads x (k + m) 0 → Reads y a b → Reads z k 0 → (y *ℤ z) ≤ℤ (w *ℤ x)
at_most w x y z a b k m f g h i =
    let first = times f g in
    let second = times h i in
    omega (arith, ints, first.reads, second.reads)

-- p lies to the left of an edge from u up to v at its height, where both ends lie to the right of p
left_of : (p u v : Pt) → p.x <ℤ u.x → p.x <ℤ v.x → u.y ≤ℤ p.y → p.y <ℤ v.y → leans p u v ≡ true
unfolding leans
left_of p u v f g h i =
    let to_u = rising p.x u.x (omega (arith, ints)) in
    let to_v = rising p.x v.x (omega (arith, ints)) in
    let from_u = rising u.y p.y h in
    let on_to_v = rising p.y v.y (omega (arith, ints)) in
    (below _ _).1 (lesser (p.x -ℤ u.x) (v.y -ℤ u.y) (v.x -ℤ u.x) (p.y -ℤ u.y) _ _ _ _
    (back_to p.x u.x _ to_u) (whole_of u.y p.y v.y _ _ from_u on_to_v) (rest_of p.x u.x v.x _ _ to_u to_v) from_u
    (positive p.x u.x _ f to_u) (positive p.y v.y _ i on_to_v))

-- and not, where both ends lie to its left
right_of : (p u v : Pt) → u.x <ℤ p.x → v.x <ℤ p.x → u.y ≤ℤ p.y → p.y <ℤ v.y → leans p u v ≡ false
unfolding leans
right_of p u v f g h i =
    let from_u_x = rising u.x p.x (omega (arith, ints)) in
    let from_v_x = rising v.x p.x (omega (arith, ints)) in
    let from_u = rising u.y p.y h in
    let on_to_v = rising p.y v.y (omega (arith, ints)) in
    unless_below _ _ (at_most (p.x -ℤ u.x) (v.y -ℤ u.y) (v.x -ℤ u.x) (p.y -ℤ u.y) _ _ _ _
    from_u_x (whole_of u.y p.y v.y _ _ from_u on_to_v) (back_rest u.x v.x p.x _ _ from_u_x from_v_x) from_u)

-- ---- polygons none of whose edges passes

count_none : {A : Type 0} (test : A → Bool) (x : A) (xs : List A) → test x ≡ false → count_by test xs ≡ 0 → count_by test (x ∷ xs) ≡ 0
count_none test x xs e f = rw e f

none_pass : (p : Pt) (Q : Pt → Type 0) → ((u v : Pt) → Q u → Q v → passes p (u, v) ≡ false) → (first a : Pt) (rest : List Pt) → Q first → Q a
    → AllByRecursion Q rest → count_by (passes p) (edges_from first a rest) ≡ 0
none_pass p Q quiet first a [] f g h = count_none (passes p) (a, first) [] (quiet a first g f) refl
none_pass p Q quiet first a (b ∷ rest) f g h =
    count_none (passes p) (a, b) (edges_from first b rest) (quiet a b g h.0) (none_pass p Q quiet first b rest f h.0 h.1)

unodd : (n : ℕ) → n % 2 ≡ 0 → (n % 2 == 1) ≡ false
unodd n e = rw e refl

none_within : (p : Pt) (Q : Pt → Type 0) → ((u v : Pt) → Q u → Q v → passes p (u, v) ≡ false) → (polygon : List Pt) → AllByRecursion Q polygon
    → is_within p polygon ≡ false
none_within p Q quiet [] h = refl
none_within p Q quiet (a ∷ rest) h = unodd _ (let none = none_pass p Q quiet a a rest h.0 h.0 h.1 in omega arith)

third_false : (a b c : Bool) → c ≡ false → (a && b && c) ≡ false
third_false a b c e = rw e (and_none (a && b))

second_false : (a b c : Bool) → b ≡ false → (a && b && c) ≡ false
second_false true b c e = rw e refl
second_false false b c e = refl

neither : (a b : Bool) → a ≡ false → b ≡ false → (a || b) ≡ false
neither a b e f = rw (e, f) refl

-- with both ends above a point, below it or to its left, an edge doesn't pass
below_both : (p u v : Pt) → p.y <ℤ u.y → p.y <ℤ v.y → passes p (u, v) ≡ false
below_both p u v f g = rw (over u.y p.y f, over v.y p.y g) refl

above_both : (p u v : Pt) → u.y <ℤ p.y → v.y <ℤ p.y → passes p (u, v) ≡ false
above_both p u v f g =
    neither (rises p u v) (rises p v u)
    (second_false (int_le u.y p.y) _ _ (unless_below p.y v.y (omega (arith, ints))))
    (second_false (int_le v.y p.y) _ _ (unless_below p.y u.y (omega (arith, ints))))

unrisen : (p u v : Pt) → u.x <ℤ p.x → v.x <ℤ p.x → rises p u v ≡ false
unrisen p u v f g =
    by_lt_z p.y u.y (λ h. rw (over u.y p.y h) refl) (λ h.
    by_lt_z p.y v.y (λ i. third_false (int_le u.y p.y) (int_lt p.y v.y) _ (right_of p u v f g h i)) (λ i.
    second_false (int_le u.y p.y) _ _ (unless_below p.y v.y i)))

right_of_both : (p u v : Pt) → u.x <ℤ p.x → v.x <ℤ p.x → passes p (u, v) ≡ false
right_of_both p u v f g = neither (rises p u v) (rises p v u) (unrisen p u v f g) (unrisen p v u g f)

-- ---- the number of edges of a closed polygon that cross a height is even

-- a point is at most as high as p
abbrev low : Pt → Pt → Bool
low p v = int_le v.y p.y

abbrev differ : Bool → Bool → Bool
differ true b = not b
differ false b = b

undiffering : (x : Bool) → differ x x ≡ false
undiffering true = refl
undiffering false = refl

-- an edge with both ends to the right of a point passes where one end alone is at most as high
crossed : (p u v : Pt) → p.x <ℤ u.x → p.x <ℤ v.x → passes p (u, v) ≡ differ (low p u) (low p v)
crossed p u v f g =
    by_lt_z p.y u.y
    (λ h. by_lt_z p.y v.y
    (λ i. rw (over u.y p.y h, over v.y p.y i) refl)
    (λ i. rw (over u.y p.y h, (compared v.y p.y).1 i, (below p.y u.y).1 h, left_of p v u g f i h) refl))
    (λ h. by_lt_z p.y v.y
    (λ i. rw ((compared u.y p.y).1 h, (below p.y v.y).1 i, left_of p u v f g h i, over v.y p.y i) refl)
    (λ i. rw ((compared u.y p.y).1 h, (compared v.y p.y).1 i, unless_below p.y v.y i, unless_below p.y u.y h) refl))

abbrev bit : Bool → ℕ
bit b = cond b 1 0

one_more : (x y z : Bool) (n : ℕ) → n % 2 ≡ bit (differ y z) → (bit (differ x y) + n) % 2 ≡ bit (differ x z)
one_more true true true n e = omega arith
one_more true true false n e = omega arith
one_more true false true n e = omega arith
one_more true false false n e = omega arith
one_more false true true n e = omega arith
one_more false true false n e = omega arith
one_more false false true n e = omega arith
one_more false false false n e = omega arith

count_more : {A : Type 0} (test : A → Bool) (x : A) (xs : List A) (a b c : Bool) → test x ≡ differ a b → count_by test xs % 2 ≡ bit (differ b c)
    → count_by test (x ∷ xs) % 2 ≡ bit (differ a c)
count_more test x xs a b c e f = rw (sum_by-cons (λ y. cond (test y) 1 0) x xs, e) (one_more a b c (count_by test xs) f)

to_right : (p first a : Pt) (rest : List Pt) → p.x <ℤ first.x → p.x <ℤ a.x → AllByRecursion (λ v. p.x <ℤ v.x) rest
    → count_by (passes p) (edges_from first a rest) % 2 ≡ bit (differ (low p a) (low p first))
to_right p first a [] f g h =
    count_more (passes p) (a, first) [] (low p a) (low p first) (low p first) (crossed p a first g f) (rw (undiffering (low p first)) refl)
to_right p first a (b ∷ rest) f g h =
    count_more (passes p) (a, b) (edges_from first b rest) (low p a) (low p b) (low p first) (crossed p a b g h.0) (to_right p first b rest f h.0 h.1)

left_of_all : (p : Pt) (polygon : List Pt) → AllByRecursion (λ v. p.x <ℤ v.x) polygon → is_within p polygon ≡ false
left_of_all p [] h = refl
left_of_all p (a ∷ rest) h = unodd _ (to_right p a a rest h.0 h.0 h.1 ∙ ap bit (undiffering (low p a)))

-- ---- the four together

weaker : {P Q : Pt → Type 0} → ((v : Pt) → P v → Q v) → (vs : List Pt) → AllByRecursion P vs → AllByRecursion Q vs
weaker f [] h = tt
weaker f (v ∷ vs) h = (f v h.0, weaker f vs h.1)

-- a point within a polygon lies in each box that holds all corners
pub inside_the_box : (lo hi p : Pt) (polygon : List Pt) → AreInBox lo hi polygon → is_within p polygon ≡ true → IsInBox lo hi p
inside_the_box lo hi p polygon h e =
    by_lt_z p.x lo.x
    (λ f. absurd (both_ways _ (left_of_all p polygon (weaker (λ v i. omega (arith, ints, i.left)) polygon h)) e))
    (λ left. by_lt_z hi.x p.x
    (λ f. absurd (both_ways _ (none_within p (λ v. v.x <ℤ p.x) (right_of_both p) polygon (weaker (λ v i. omega (arith, ints, i.right)) polygon h)) e))
    (λ right. by_lt_z p.y lo.y
    (λ f. absurd (both_ways _ (none_within p (λ v. p.y <ℤ v.y) (below_both p) polygon (weaker (λ v i. omega (arith, ints, i.below)) polygon h)) e))
    (λ bottom. by_lt_z hi.y p.y
    (λ f. absurd (both_ways _ (none_within p (λ v. v.y <ℤ p.y) (above_both p) polygon (weaker (λ v i. omega (arith, ints, i.above)) polygon h)) e))
    (λ top. record { left = left; right = right; below = bottom; above = top }))))
