-- Numbers tested, counted and added in turn, each in the direction in which a loop goes.
use Rattle.std.specs.Prelude.{ℕ, zero, suc, ◌+◌, ◌-◌, Bool, true, false, ◌&&◌, leb, ltb, eqb}
use Rattle.basics.specs.Choice.{◌when◌else◌}

-- 1 for true, 0 for false
abbrev pub one : Bool → ℕ
one true = 1
one false = 0

-- how many of the numbers 0 to n - 1 pass
unfoldable pub count : (ℕ → Bool) → ℕ → ℕ
count p zero = 0
count p (suc n) = count p n + one (p n)

-- f 0 + f 1 + .. + f (n - 1)
unfoldable pub sum : (ℕ → ℕ) → ℕ → ℕ
sum f zero = 0
sum f (suc n) = sum f n + f n

-- all of the n numbers from a on pass
unfoldable pub every : (ℕ → Bool) → ℕ → ℕ → Bool
every p a zero = true
every p a (suc n) = p a && every p (a + 1) n

-- the lowest of the n numbers from a on that passes, or a + n where none does
unfoldable pub lowest : (ℕ → Bool) → ℕ → ℕ → ℕ
lowest p a zero = a
lowest p a (suc n) = a when p a else lowest p (a + 1) n

-- i is one of the n numbers from a on
unfoldable pub inside : ℕ → ℕ → ℕ → Bool
inside a n i = leb a i && ltb (i - a) n

-- f, but g at the n numbers from a on
unfoldable pub over {ℓ} : {A : Type ℓ} → ℕ → ℕ → (ℕ → A) → (ℕ → A) → ℕ → A
over a n g f i = g i when inside a n i else f i

-- f and g give the same numbers at 0 to n - 1
unfoldable pub alike : (ℕ → ℕ) → (ℕ → ℕ) → ℕ → Bool
alike f g n = every (λ i. eqb (f i) (g i)) 0 n
