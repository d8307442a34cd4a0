-- Rows of things that have a length, the oldest in place 0: which of them a rule chooses, and a new one that comes last and competes for the places.
-- Choices go by the lengths alone. A thing of length 0 is none.
use Rattle.std.specs.Prelude.{ℕ, zero, suc, ◌+◌, Bool, ◌||◌, leb, ltb, eqb}
use Rattle.basics.specs.Choice.{◌when◌else◌}

-- of the first n places the one whose length is better than that of every older one: it takes over where `better new best` holds, so that a tie goes to the
-- older place unless equals are better
unfoldable pub best : (ℕ → ℕ → Bool) → (ℕ → ℕ) → ℕ → ℕ
best better l zero = 0
best better l (suc n) = n when better (l n) (l (best better l n)) else best better l n

-- the longest, of equals the older
abbrev pub longer : ℕ → ℕ → Bool
longer new old = ltb old new

-- the shortest, of equals the newer
abbrev pub no_longer : ℕ → ℕ → Bool
no_longer new old = leb new old

-- 'the shortest run at least as long as its pages; if none is that long, the longest', of equals the older
abbrev pub fitter : ℕ → ℕ → ℕ → Bool
fitter pages new old = (ltb new old || ltb old pages) when leb pages new else ltb old new

-- the row with v in place c
abbrev pub in_place {ℓ} : {A : Type ℓ} → ℕ → A → (ℕ → A) → ℕ → A
in_place c v row i = v when eqb c i else row i

-- the row of n without place c: those after it move up by one, and v comes last
unfoldable pub moved_up {ℓ} : {A : Type ℓ} → ℕ → ℕ → A → (ℕ → A) → ℕ → A
moved_up n c v row i = row i when ltb i c else (row (i + 1) when ltb (i + 1) n else v)

-- 'At most 8 .. are kept, the longest. All ties go to the older': v, the newest, takes the place of the shortest of n, unless v is no longer than that
unfoldable pub push {ℓ} : {A : Type ℓ} → (A → ℕ) → ℕ → (ℕ → A) → A → ℕ → A
push size n row v =
    row when leb (size v) (size (row (best no_longer (λ i. size (row i)) n))) else
    moved_up n (best no_longer (λ i. size (row i)) n) v row

-- a walk along numbered items: a row, and the thing that is being gathered
pub record Walk {ℓ} (A : Type ℓ) : Type ℓ where
  pub row : ℕ → A
  pub current : A

-- Item i starts a new thing where `starts i`: the one before is pushed. `add i` puts item i to the thing at hand.
unfoldable pub walk_to {ℓ} : {A : Type ℓ} → (A → ℕ) → ℕ → A → (ℕ → Bool) → (ℕ → A → A) → (ℕ → A) → ℕ → Walk A
walk_to size n none starts add row zero = record { row = row; current = none }
walk_to size n none starts add row (suc i) =
    let w = walk_to size n none starts add row i in
    record {
      row = push size n w.row w.current when starts i else w.row;
      current = add i (none when starts i else w.current);
    }

-- the row after m items, the last thing pushed too
unfoldable pub walked {ℓ} : {A : Type ℓ} → (A → ℕ) → ℕ → A → (ℕ → Bool) → (ℕ → A → A) → (ℕ → A) → ℕ → ℕ → A
walked size n none starts add row m =
    let w = walk_to size n none starts add row m in
    push size n w.row w.current
