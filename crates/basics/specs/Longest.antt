-- What it comes to that new things come one by one into a row of n places (specs/Rows): the n longest of all are kept.
use Rattle.std.specs.Prelude.{ℕ, zero, suc, ◌+◌, ◌-◌, ◌<◌, ◌≡◌, ◌⊎◌, Bool, ◌&&◌, ltb, eqb}
use Rattle.basics.specs.Choice.{◌when◌else◌}
use Rattle.basics.specs.Ranges.{count}
use Rattle.basics.specs.Rows.{push}

-- the row of n after new 0, new 1, .. new (m - 1) were pushed one by one
unfoldable pub push_all {ℓ} : {A : Type ℓ} → (A → ℕ) → ℕ → (ℕ → A) → (ℕ → A) → ℕ → ℕ → A
push_all size n row new zero = row
push_all size n row new (suc m) = push size n (push_all size n row new m) (new m)

-- all of them in the order of their ages, the oldest first: the n of the row, then the new ones
abbrev pub by_age {ℓ} : {A : Type ℓ} → ℕ → (ℕ → A) → (ℕ → A) → ℕ → A
by_age n row new k = row k when ltb k n else new (k - n)

-- thing k gives way to thing j: it is shorter, or as long and newer
abbrev pub GivesWay {ℓ} : {A : Type ℓ} → (A → ℕ) → (ℕ → A) → ℕ → ℕ → Type 0
GivesWay size all k j = (size (all k) < size (all j)) ⊎ ((size (all k) ≡ size (all j)) × (j < k))

-- The row has the n longest of the first m of all, in the order of their ages: place j says which of all is in place j, and each that is in no place gives way
-- to every one that is.
pub record Longest {ℓ} {A : Type ℓ} (size : A → ℕ) (all : ℕ → A) (m : ℕ) (row : ℕ → A) (n : ℕ) : Type ℓ where
  pub place : ℕ → ℕ
  pub from : (j : ℕ) → j < n → row j ≡ all (place j)
  pub below : (j : ℕ) → j < n → place j < m
  pub order : (i j : ℕ) → i < j → j < n → place i < place j
  pub rest : (k : ℕ) → k < m → ((j : ℕ) → j < n → place j ≡ k → ⊥) → (j : ℕ) → j < n → GivesWay size all k (place j)

-- one by one, the longest of all are kept (proved in proofs/LongestLaws)
abbrev pub KeepsLongest {ℓ} : {A : Type ℓ} → (A → ℕ) → ℕ → Type ℓ
KeepsLongest size n = (row new : ℕ → _) (m : ℕ) → Longest size (by_age n row new) (n + m) (push_all size n row new m) n

-- how many of the first m items are taken and belong to thing t, where a new thing starts at each item that `starts`: t have started up to the item
abbrev pub taken_of : (ℕ → Bool) → (ℕ → Bool) → ℕ → ℕ → ℕ
taken_of starts taken t m = count (λ i. eqb (count starts (suc i)) t && taken i) m
