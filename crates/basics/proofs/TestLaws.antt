-- Laws of tests, and of the lines of a table.
use Prim.Native.Nat.{ℕ, suc}
use mathlib.Core.Path.{◌≡◌, refl, sym, ◌∙◌}
use mathlib.Core.Bool.{Bool, true, false, ◌&&◌, ◌||◌, false≢true}
use mathlib.Core.List.{List, map}
use native.Mathlib.Omega.{arith}
use lib.ListN.{length, length-map}
use Rattle.basics.specs.Choice.{◌when◌else◌, same, implies}

pub by_cases {ℓ} : {R : Type ℓ} (b : Bool) → (b ≡ true → R) → (b ≡ false → R) → R
by_cases true f g = f refl
by_cases false f g = g refl

-- a property of a line and of the lines below it
pub when-cases {ℓ ℓ'} : {A : Type ℓ} (P : A → Type ℓ') {x y : A} (c : Bool) → (c ≡ true → P x) → (c ≡ false → P y) → P (x when c else y)
when-cases P true f g = f refl
when-cases P false f g = g refl

-- a line that is numbered suc n and does not apply
pub passed : (n r : ℕ) (c : Bool) → (suc n when c else r) ≡ 0 → (c ≡ false) × (r ≡ 0)
passed n r true e = absurd (omega arith)
passed n r false e = (refl, e)

-- a test that is both true and false
pub never {ℓ} : {R : Type ℓ} (b : Bool) → b ≡ true → b ≡ false → R
never b t f = absurd (false≢true (sym f ∙ t))

-- a test is true, or its opposite proves nothing
pub both_ways : (a b : Bool) → (a ≡ true → b ≡ true) → (b ≡ true → a ≡ true) → a ≡ b
both_ways true b f g = sym (f refl)
both_ways false true f g = g refl
both_ways false false f g = refl

-- a && b is true
pub and_left : (a b : Bool) → (a && b) ≡ true → a ≡ true
and_left true b e = refl
and_left false b e = e

pub and_right : (a b : Bool) → (a && b) ≡ true → b ≡ true
and_right true b e = e
and_right false b e = cc

pub and_both : (a b : Bool) → (a && b) ≡ true → (a ≡ true) × (b ≡ true)
and_both a b e = (and_left a b e, and_right a b e)

pub and-of : {a b : Bool} → a ≡ true → b ≡ true → (a && b) ≡ true
and-of p q = cc

pub and-true : (b : Bool) → (b && true) ≡ b
and-true true = refl
and-true false = refl

pub and-false : (b : Bool) → (b && false) ≡ false
and-false true = refl
and-false false = refl

-- a && b is false
pub and-not-left : (a b : Bool) → (a && b) ≡ false → b ≡ true → a ≡ false
and-not-left true b e h = cc
and-not-left false b e h = refl

pub and-not-right : (a b : Bool) → (a && b) ≡ false → a ≡ true → b ≡ false
and-not-right true b e h = e
and-not-right false b e h = cc

-- a || b is false
pub or_left : (a b : Bool) → (a || b) ≡ false → a ≡ false
or_left true b e = e
or_left false b e = refl

pub or_right : (a b : Bool) → (a || b) ≡ false → b ≡ false
or_right true b e = cc
or_right false b e = e

pub same_true : (a b : Bool) → same a b ≡ true → a ≡ b
same_true true b h = sym h
same_true false true h = h
same_true false false h = refl

pub same_of : (a b : Bool) → a ≡ b → same a b ≡ true
same_of true b e = sym e
same_of false true e = e
same_of false false e = refl

pub implied : (a b : Bool) → implies a b ≡ true → a ≡ true → b ≡ true
implied true b h e = h
implied false b h e = cc

pub implies-of : (a b : Bool) → (a ≡ true → b ≡ true) → implies a b ≡ true
implies-of true b h = h refl
implies-of false b h = refl

-- the length of an array of structs
pub length-mapped : (X Y : Type 0) (f : X → Y) (l : List X) (n : ℕ) → length (map f l) ≡ n → length l ≡ n
length-mapped X Y f l n e = sym (length-map l f) ∙ e
