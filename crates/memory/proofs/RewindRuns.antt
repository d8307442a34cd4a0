-- Store and runs after a rewind together: the fronts of uncommitted anonymous areas are then kept, once and zero.
use mathlib.Core.Path.{◌≡◌, refl, sym, ap, ◌∙◌}
use mathlib.Core.Logic.{◌⊎◌, inl, inr, ⊎_elim}
use mathlib.Core.Bool.{Bool, true, false}
use mathlib.Core.List.{List}
use Prim.Native.Nat.{ℕ, zero, suc, ◌+◌, ◌*◌, ◌≤◌, ◌<◌}
use native.Mathlib.Omega.{arith}
use lib.ListN.{length}
use Rattle.basics.specs.Ranges.{count}
use Rattle.basics.specs.Rows.{in_place}
use Rattle.basics.proofs.TestLaws.{by_cases}
use Rattle.basics.proofs.CountLaws.{count-zero, count-once}
use Rattle.interface.specs.declared.page.Backing.{Backing}
use Rattle.interface.specs.Slots.{Slots}
use Rattle.run_choice.specs.Runs.{is_spared}
use Rattle.frames.specs.Frames.{held}
use Rattle.frames.proofs.FrameLaws.{held-or}
use Rattle.table.specs.Store.{Store, entry, front_of, Filed, Tidy}
use Rattle.table.specs.Backing.{backing_end}
use Rattle.table.proofs.StoreLaws.{none-entry}
use Rattle.rewind_cases.specs.Rewind.{rewind_page, rewind_to}
use Rattle.rewound_store.proofs.RewindLaws.{rewind_to-tidy, rewind_to-in}
use Rattle.rewound_store.proofs.LeftLaws.{kept_entry}
use Rattle.kept.specs.Spare.{Rows, Spare, row_rewound}
use Rattle.kept.proofs.SpareLaws.{kept_row, spare-step}
use Rattle.kept.proofs.RewindLaws.{free-entry, goes, named, spared, runs-gain}

-- ---- the entries: each stays or is cleared

page-entry : (image : List ℕ) (k j : ℕ) (keep : Bool) (b : Backing) (s : Store) (i : ℕ)
    → (entry (rewind_page image k j keep b s) i ≡ entry s i) ⊎ (entry (rewind_page image k j keep b s) i ≡ 0)
unfolding rewind_page
page-entry image k j true b s i = inl (kept_entry image k j b s i)
page-entry image k j false b s i = free-entry 256 k s i

rewind-entry : (image : List ℕ) (first : ℕ) (keep : ℕ → Bool) (backing : ℕ → Backing) (s : Store) (m k : ℕ)
    → (entry (rewind_to image first keep backing s m) k ≡ entry s k) ⊎ (entry (rewind_to image first keep backing s m) k ≡ 0)
unfolding rewind_to
rewind-entry image first keep backing s zero k = inl refl
rewind-entry image first keep backing s (suc m) k =
    ⊎_elim
    (λ e. ⊎_elim (λ d. inl (e ∙ d)) (λ d. inr (e ∙ d)) (rewind-entry image first keep backing s m k))
    (λ e. inr e)
    (page-entry image (first + m) (first + m + 64) (keep m) (backing m) (rewind_to image first keep backing s m) k)

-- ---- frames that go to runs

module _ (n : ℕ) (st : Store) (F : Filed 256 n st) (s : ℕ) (f : Slots) (image : List ℕ) (keep : ℕ → Bool) (backing : ℕ → Backing)
    (fit : (i : ℕ) → backing_end (backing i) * 256 ≤ length image) (gives : (i : ℕ) → is_spared (f i) ≡ true → keep i ≡ false) where
  abbrev after : Store
  after = rewind_to image (s * 128) keep backing st 64

  -- page i has a front that goes to a run, frame g
  abbrev going : ℕ → ℕ → Bool
  going g i = goes 256 n st F s f g i

  any : Tidy (λ g. ⊥) 256 n st
  any = record { filed = F; clean = λ g e. absurd e }

  -- such a front is given up
  gone : (i : ℕ) → i < 64 → is_spared (f i) ≡ true → entry after (front_of s i) ≡ 0
  gone i l e = none-entry 256 after (front_of s i) (rewind_to-in n image (s * 128) keep backing fit st any 64 i (omega arith) l ∙ rw (gives i e))

  -- a frame is named afterwards, or goes to a run, or neither, where it was named before
  moved : (g : ℕ) → g < 128 → held after.marks g + count (going g) 64 ≤ held st.marks g
  moved g l = ⊎_elim idle still (held-or after.marks g)
    where
      idle : held after.marks g ≡ 0 → held after.marks g + count (going g) 64 ≤ held st.marks g
      idle z =
          ⊎_elim
          (λ u. let none : count (going g) 64 ≡ 0 = count-zero (going g) 64 (λ i d. by_cases (going g i)
          (λ e. absurd (let y = F.names.marked (front_of s i) g (named 256 n st F s f g i e) in omega arith)) (λ e. e)) in omega arith)
          (λ u. let few = count-once (going g) 64
          (λ i j a b d e. let y = F.names.once (front_of s i) (front_of s j) g (named 256 n st F s f g i d) (named 256 n st F s f g j e) in omega arith) in
          omega arith)
          (held-or st.marks g)

      still : held after.marks g ≡ 1 → held after.marks g + count (going g) 64 ≤ held st.marks g
      still z =
          let k = (rewind_to-tidy n image (s * 128) keep backing fit st any 64).filed.names.named g l z in
          let before : entry st k.0 ≡ suc g =
          ⊎_elim (λ e. sym e ∙ k.1) (λ e. absurd (omega (arith, e, k.1))) (rewind-entry image (s * 128) keep backing st 64 k.0) in
          let none : count (going g) 64 ≡ 0 = count-zero (going g) 64 (λ i d. by_cases (going g i)
          (λ e. let same : k.0 ≡ front_of s i = F.names.once k.0 (front_of s i) g before (named 256 n st F s f g i e) in
          let there : entry after (front_of s i) ≡ suc g = ap (entry after) (sym same) ∙ k.1 in
          absurd (omega (arith, there, gone i d (spared 256 n st F s f g i e)))) (λ e. e)) in
          omega (arith, F.names.marked k.0 g before)

  -- 'Kept frames are held and zero, belong to one run and no entry', after the rewind too
  pub rewind-spare : (rows : Rows) → s < 4 → Spare 256 n st rows → Spare 256 n after (in_place s (row_rewound st s f (rows s)) rows)
  rewind-spare rows row S =
      spare-step 256 n st after rows (in_place s (row_rewound st s f (rows s)) rows) F S
      (λ g T. rewind_to-tidy n image (s * 128) keep backing fit st T 64)
      (λ g l. omega (arith, kept_row rows s (row_rewound st s f (rows s)) g row, runs-gain 256 n st F s f (rows s) g, moved g l, S.once g l))
      (λ g l. omega (arith, kept_row rows s (row_rewound st s f (rows s)) g row, runs-gain 256 n st F s f (rows s) g, moved g l))
