-- What refuses the copy of a tree: an element of which not all coordinates are read, or one that would leave the plane.
use Rattle.std.proofs.Common.{◌≡◌, ℕ, List, [], ◌∷◌, Bool, true, false, Option, Some, None, subst}
use Rattle.std.specs.Option.{option_or}
use Rattle.dgn_layout.specs.declared.types.Class.{Class}
use Rattle.dgn_layout.specs.Classes.{class_of}
use Rattle.dgn_drawing.specs.Values.{Displacement}
use Rattle.dgn_drawing.specs.Element.{Element}
use Rattle.dgn_drawing.specs.Changes.{stays_on_plane}
use Rattle.edit_ops.specs.declared.causes.cause.Cause.{Cause}
use Rattle.edit_ops.specs.declared.causes.cause.Cause.TheVariants as causes
use Rattle.edit_ops.specs.declared.causes.test.Test.{Test}
use Rattle.edit_ops.specs.declared.causes.test.Test.TheVariants as tests
use Rattle.edit_ops.specs.Trees.{Live, live_tree}
use Rattle.edit_ops.specs.Causes.{unmovable, off_plane, cause_at, first_cause}
use Rattle.edit_ops.specs.Copying.{copy_cause}

some_same : {A : Type 0} {x y : A} → Some x ≡ Some y → x ≡ y
some_same is = cc

-- the first of two is one of them
pub either_refuses : (P : Type 0) (a b : Option Cause) (c : Cause) → (a ≡ Some c → P) → (b ≡ Some c → P) → option_or a b ≡ Some c → P
either_refuses P None b c first last is = last is
either_refuses P (Some x) b c first last is = first is

first_refuses : (P : Cause → Type 0) (dim : ℕ) (test : Test) → ((v : Live) (c : Cause) → cause_at dim test v.number v.element ≡ Some c → P c)
    → (vs : List Live) (c : Cause) → first_cause dim test vs ≡ Some c → P c
first_refuses P dim test each [] c is = absurd (let x = is in cc)
first_refuses P dim test each (v ∷ vs) c is =
    either_refuses (P c) (cause_at dim test v.number v.element) (first_cause dim test vs) c (each v c) (first_refuses P dim test each vs c) is

-- what holds of the causes that an element can have holds of what refuses the copy of a tree
module _ (P : Cause → Type 0) (floating : (m : ℕ) → P (causes.Floating m)) (opaque : (m : ℕ) → P (causes.Opaque m)) (off : (m : ℕ) → P (causes.OffPlane m))
  where
    unmovable_so : (m : ℕ) (k : Class) (c : Cause) → unmovable m k ≡ Some c → P c
    unmovable_so m Class.Floating c is = subst P (some_same is) (floating m)
    unmovable_so m Class.Boxed c is = subst P (some_same is) (opaque m)
    unmovable_so m Class.Run c is = subst P (some_same is) (opaque m)
    unmovable_so m Class.Silent c is = subst P (some_same is) (opaque m)
    unmovable_so m Class.Vertices c is = absurd (let x = is in cc)
    unmovable_so m Class.Words c is = absurd (let x = is in cc)
    unmovable_so m Class.Counted c is = absurd (let x = is in cc)

    off_so : (m : ℕ) (stays : Bool) (c : Cause) → off_plane m stays ≡ Some c → P c
    off_so m true c is = absurd (let x = is in cc)
    off_so m false c is = subst P (some_same is) (off m)

    pub copy_refused : (dim : ℕ) (es : List Element) (by : Displacement) (n : ℕ) (c : Cause) → copy_cause dim es by n ≡ Some c → P c
    copy_refused dim es by n c is =
        either_refuses (P c) (first_cause dim tests.Moves (live_tree es n)) (first_cause dim (tests.StaysOnPlane by) (live_tree es n)) c
        (first_refuses P dim tests.Moves (λ v x moves. unmovable_so v.number (class_of v.element.kind) x moves) (live_tree es n) c)
        (first_refuses P dim (tests.StaysOnPlane by) (λ v x leaves. off_so v.number (stays_on_plane dim by v.element) x leaves) (live_tree es n) c)
        is
