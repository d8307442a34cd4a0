-- The pages of an area behind its first ones: their backing, the image's pages for them, the store after all of them, and how many were changed.
use mathlib.Core.Path.{◌≡◌, refl, sym, ap, ap₂, ◌∙◌}
use mathlib.Core.Bool.{true}
use mathlib.Core.List.{List}
use Prim.Native.Nat.{ℕ, ◌+◌, ◌-◌, ◌≤◌, ◌<◌}
use native.Mathlib.Omega.{arith}
use Rattle.interface.specs.declared.page.Backing.{Backing}
use Rattle.interface.specs.declared.page.Backing.TheVariants.{Anonymous, Image}
use Rattle.interface.specs.Slots.{advance, start_of}
use Rattle.table.specs.Store.{Store, entry}
use Rattle.rewind_cases.specs.Rewind.{rewind_to}
use Rattle.rewound_store.proofs.RunLaws.{rewind_to-join, rewind_to-same, rewind_to-none}
use Rattle.restoring.specs.Backed.{Backed}
use Rattle.restoring.specs.Changed.{changed_to}
use Rattle.restoring.specs.Restored.{RestoredTo}
use Rattle.restoring.proofs.ChangedLaws.{changed-join, changed-alike, changed-frontless}

advance-on : (b : Backing) (n i : ℕ) → advance (advance b n) i ≡ advance b (n + i)
advance-on Anonymous n i = refl
advance-on (Image first) n i = let e : first.0 + n + i ≡ first.0 + (n + i) = omega arith in ap (λ (k : ℕ). Image (record { 0 = k })) e

start-on : (b : Backing) (n m : ℕ) → start_of (advance b n) + m ≤ start_of b + (n + m)
start-on Anonymous n m = omega arith
start-on (Image first) n m = omega arith

module _ (image : List ℕ) (b : Backing) (n : ℕ) (B : Backed image b n) where
  pub backed-part : (i m : ℕ) → i + m ≤ n → Backed image (advance b i) m
  backed-part i m l = record {
    near = omega (arith, start-on b i m, B.near);
    there = λ k d. rw (advance-on b i k) (B.there (i + k) (omega arith));
  }

-- ---- so many pages restored, and then more

module _ (image : List ℕ) (b : Backing) (at : ℕ) (s : Store) where
  pub none-restored : RestoredTo image b at s s 0 0
  unfolding rewind_to changed_to
  none-restored = record { left = refl; told = refl }

  -- and then the m pages behind them
  pub restored-on : (r q : Store) (c d i m : ℕ) → RestoredTo image b at s r c i → RestoredTo image (advance b i) (at + i) r q d m
      → RestoredTo image b at s q (c + d) (i + m)
  restored-on r q c d i m U W =
      let on : (k : ℕ) → k < m → (true ≡ true) × (true ≡ true → advance (advance b i) k ≡ advance b (i + k)) = λ k l. (refl, λ _. advance-on b i k) in
      record {
        left =
            W.left
            ∙ rewind_to-same image (at + i) (λ k. true) (advance (advance b i)) r (λ k. true) (λ k. advance b (i + k)) m on
            ∙ ap (λ (x : Store). rewind_to image (at + i) (λ k. true) (λ k. advance b (i + k)) x m) U.left
            ∙ rewind_to-join image at (λ k. true) (advance b) s i m;
        told =
            ap₂ (λ (x y : ℕ). x + y) U.told
            (W.told
            ∙ changed-alike image (at + i) (λ k. true) (advance (advance b i)) r (λ k. true) (λ k. advance b (i + k)) m on
            ∙ ap (λ (x : Store). changed_to image (at + i) (λ k. true) (λ k. advance b (i + k)) x m) U.left)
            ∙ changed-join image at (λ k. true) (advance b) s i m;
      }

  -- and then pages without a front, up to page j
  pub restored-past : (r : Store) (c i j : ℕ) → RestoredTo image b at s r c i → i ≤ j → ((k : ℕ) → i ≤ k → k < j → entry r (at + k) ≡ 0)
      → RestoredTo image b at s r c j
  restored-past r c i j U l h =
      let none : (k : ℕ) → k < j - i → entry r (at + i + k) ≡ 0 =
      λ k m. let place : at + i + k ≡ at + (i + k) = omega arith in rw place (h (i + k) (omega arith) (omega arith)) in
      let same = rewind_to-none image (at + i) (λ k. true) (advance (advance b i)) r (j - i) none in
      let zero = changed-frontless image (at + i) (λ k. true) (advance (advance b i)) r (j - i) none in
      let end : i + (j - i) ≡ j = omega arith in
      let sum : c + 0 ≡ c = omega arith in
      rw (sum, end) at (restored-on r r c 0 i (j - i) U (record { left = sym same; told = sym zero }))
