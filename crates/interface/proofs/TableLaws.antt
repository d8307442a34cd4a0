-- The table of refusals by one law: where no row before this one applies, the number is that of the first that does from this one on.
use Prim.Native.Nat.{ℕ, zero, suc, ◌-◌}
use mathlib.Core.Path.{◌≡◌, refl, sym, ap, ◌∙◌}
use mathlib.Core.Bool.{Bool, true, false, false≢true}
use mathlib.Core.List.{List, [], ◌∷◌}
use lib.Dec.{eqb}
use lib.ListN.{drop}
use Rattle.basics.specs.Choice.{◌when◌else◌}
use Rattle.basics.proofs.TestLaws.{by_cases}
use Rattle.interface.specs.declared.answer.Refusal.{Refusal}
use Rattle.interface.specs.declared.answer.Refusal.TheVariants.{Malformed, NoSuchCall, Unsound, NotOpen, AlreadyOpen, OutsideLimits}
use Rattle.interface.specs.declared.answer.Refusal.TheVariants.{SnapshotTaken, NoSnapshot, NotMapped, AlreadyMapped, NoGap, NotWritable}
use Rattle.interface.specs.declared.answer.Refusal.TheVariants.{ShareExceeded, TooManyAreas, OutputTooShort}
use Rattle.interface.specs.Answers.{refusal_number}
use Rattle.interface.specs.Refusals.{rows, first_row}

-- the first n of a list, the last of them first, and then more
abbrev pub ahead : ℕ → List Refusal → List Refusal → List Refusal
ahead zero l more = more
ahead (suc n) [] more = more
ahead (suc n) (row ∷ l) more = ahead n l (row ∷ more)

-- the rows before a row, the last of them first
abbrev pub before : Refusal → List Refusal
before row = ahead (refusal_number row - 1) rows []

-- no refusal has the number 0
pub some_number : (why : Refusal) → eqb (refusal_number why) 0 ≡ false
some_number Malformed = refl
some_number NoSuchCall = refl
some_number Unsound = refl
some_number NotOpen = refl
some_number AlreadyOpen = refl
some_number OutsideLimits = refl
some_number SnapshotTaken = refl
some_number NoSnapshot = refl
some_number NotMapped = refl
some_number AlreadyMapped = refl
some_number NoGap = refl
some_number NotWritable = refl
some_number ShareExceeded = refl
some_number TooManyAreas = refl
some_number OutputTooShort = refl

-- each row stands where its number says
stands : (row : Refusal) → drop (refusal_number row - 1) rows ≡ row ∷ drop (refusal_number row) rows
stands Malformed = refl
stands NoSuchCall = refl
stands Unsound = refl
stands NotOpen = refl
stands AlreadyOpen = refl
stands OutsideLimits = refl
stands SnapshotTaken = refl
stands NoSnapshot = refl
stands NotMapped = refl
stands AlreadyMapped = refl
stands NoGap = refl
stands NotWritable = refl
stands ShareExceeded = refl
stands TooManyAreas = refl
stands OutputTooShort = refl

module _ (test : Refusal → Bool) where
  -- none of these rows applies
  abbrev pub None : List Refusal → Type 0
  None [] = Unit {0}
  None (row ∷ l) = (test row ≡ false) × None l

  -- the rows before this one did not apply
  abbrev pub Past : Refusal → Type 0
  Past row = None (before row)

  kept : (n : ℕ) (l more : List Refusal) → None (ahead n l more) → None more
  kept zero l more p = p
  kept (suc n) [] more p = p
  kept (suc n) (row ∷ l) more p = (kept n l (row ∷ more) p).1

  onward : (n : ℕ) (l more : List Refusal) → None (ahead n l more) → first_row test l ≡ first_row test (drop n l)
  onward zero l more p = refl
  onward (suc n) [] more p = refl
  onward (suc n) (row ∷ l) more p = let no = (kept n l (row ∷ more) p).0 in rw no (onward n l (row ∷ more) p)

  pub from-here : (row : Refusal) → Past row → first_row test rows ≡ first_row test (row ∷ drop (refusal_number row) rows)
  from-here row p = onward (refusal_number row - 1) rows [] p ∙ ap (first_row test) (stands row)

  -- "When several apply, the lowest number is answered"
  pub lowest-applies : (row : Refusal) → Past row → test row ≡ true → first_row test rows ≡ refusal_number row
  lowest-applies row p e = from-here row p ∙ rw e

  -- where none applies, no refusal is answered; and the other way
  pub none-applies : (l : List Refusal) → ((row : Refusal) → test row ≡ false) → first_row test l ≡ 0
  none-applies [] h = refl
  none-applies (row ∷ l) h = rw (h row) (none-applies l h)

  passes : (row : Refusal) (r : ℕ) (c : Bool) → (refusal_number row when c else r) ≡ 0 → (c ≡ false) × (r ≡ 0)
  passes row r true e = absurd (false≢true (sym (rw e at (some_number row))))
  passes row r false e = (refl, e)

  behind : (n : ℕ) (l : List Refusal) → first_row test l ≡ 0 → first_row test (drop n l) ≡ 0
  behind zero l e = e
  behind (suc n) [] e = e
  behind (suc n) (row ∷ l) e = behind n l (passes row (first_row test l) (test row) e).1

  pub all_past : first_row test rows ≡ 0 → (row : Refusal) → test row ≡ false
  all_past e row =
      let left = behind (refusal_number row - 1) rows e in
      (passes row (first_row test (drop (refusal_number row) rows)) (test row) (rw (stands row) at left)).0
