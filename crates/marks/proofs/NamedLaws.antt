-- Laws of the frames that entries name: one entry and the mark of its frame change together.
use mathlib.Core.Path.{◌≡◌, refl, sym, ap, ◌∙◌, subst, fun_ext}
use mathlib.Core.Logic.{◌⊎◌, inl, inr, ⊎_elim}
use Prim.Native.Nat.{ℕ, zero, suc, ◌≤◌, ◌<◌}
use native.Mathlib.Decide.{ℕ_discrete}
use native.Mathlib.Omega.{arith}
use Rattle.frames.specs.Frames.{held, mark}
use Rattle.frames.specs.declared.Held.{Held}
use Rattle.frames.proofs.FrameLaws.{held-mark-same, held-mark-other}
use Rattle.marks.specs.Named.{Named}

-- ---- cases

pub same_or : (j k : ℕ) → (j ≡ k) ⊎ (j ≡ k → ⊥)
same_or j k = go (ℕ_discrete j k)
  where
    go : Dec (j ≡ k) → (j ≡ k) ⊎ (j ≡ k → ⊥)
    go (yes p) = inl p
    go (no q) = inr q

-- an entry names none, or it names a frame
pub by-entry {ℓ} : (P : Type ℓ) (e : ℕ) → (e ≡ 0 → P) → ((f : ℕ) → e ≡ suc f → P) → P
by-entry P zero a b = a refl
by-entry P (suc f) a b = b f refl

-- ---- which entry may change with which mark

-- frame f is named by no entry but k, and k names no other frame
pub record Owns (n : ℕ) (p : ℕ → ℕ) (k f : ℕ) : Type 0 where
  pub low : f < n
  pub others : (j : ℕ) → p j ≡ suc f → j ≡ k
  pub mine : (g : ℕ) → p k ≡ suc g → g ≡ f

-- entry e names frame f where the mark b is 1, and none where it is 0
pub record Fits (e b f : ℕ) : Type 0 where
  pub two : b < 2
  pub says : (g : ℕ) → e ≡ suc g → (g ≡ f) × (b ≡ 1)
  pub told : b ≡ 1 → e ≡ suc f

pub fits-none : (f : ℕ) → Fits 0 0 f
fits-none f = record { two = omega arith; says = λ g e. absurd (omega arith); told = λ e. absurd (omega arith) }

pub fits-some : (f : ℕ) → Fits (suc f) 1 f
fits-some f = record { two = omega arith; says = λ g e. (omega arith, refl); told = λ e. refl }

module _ (n : ℕ) (h : Held) (p : ℕ → ℕ) (t : Named n h p) where
  -- an entry owns the frame that it names
  pub owner : (k f : ℕ) → p k ≡ suc f → Owns n p k f
  owner k f e =
      record {
        low = t.within k f e;
        others = λ j w. t.once j k f w e;
        mine = λ g w. omega arith;
      }

  -- an entry that names none may take a frame that is not held
  pub unheld : (k f : ℕ) → p k ≡ 0 → f < n → held h f ≡ 0 → Owns n p k f
  unheld k f e l u =
      record {
        low = l;
        others = λ j w. absurd (let one = t.marked j f w in omega arith);
        mine = λ g w. absurd (omega arith);
      }

-- ---- the entries after a change

-- the same entries
pub named-same : (n : ℕ) (h : Held) (p q : ℕ → ℕ) → ((k : ℕ) → p k ≡ q k) → Named n h p → Named n h q
named-same n h p q e t = subst (Named n h) (fun_ext e) t

-- entry k and the mark of its frame change together
pub named_put : (n : ℕ) (h : Held) (p q : ℕ → ℕ) (k e f b : ℕ) → n ≤ 128 → Named n h p → Owns n p k f → Fits e b f
    → q k ≡ e → ((j : ℕ) → (j ≡ k → ⊥) → q j ≡ p j) → Named n (mark h f b) q
named_put n h p q k e f b few t o z at else =
    record {
      within = λ j g w. ⊎_elim
          (λ m. let s = z.says g (sym at ∙ ap q (sym m) ∙ w) in omega (arith, s.0, o.low))
          (λ m. t.within j g (sym (else j m) ∙ w)) (same_or j k);
      once = λ j i g w v. ⊎_elim
          (λ m. ⊎_elim (λ r. m ∙ sym r)
          (λ r. let s = z.says g (sym at ∙ ap q (sym m) ∙ w) in absurd (r (o.others i (sym (else i r) ∙ v ∙ ap suc s.0)))) (same_or i k))
          (λ m. ⊎_elim
          (λ r. let s = z.says g (sym at ∙ ap q (sym r) ∙ v) in absurd (m (o.others j (sym (else j m) ∙ w ∙ ap suc s.0))))
          (λ r. t.once j i g (sym (else j m) ∙ w) (sym (else i r) ∙ v)) (same_or i k))
          (same_or j k);
      marked = λ j g w. ⊎_elim
          (λ m. let s = z.says g (sym at ∙ ap q (sym m) ∙ w) in ap (held (mark h f b)) s.0 ∙ held-mark-same h f b z.two ∙ s.1)
          (λ m. let old : p j ≡ suc g = sym (else j m) ∙ w in
          held-mark-other h f b g z.two (λ r. m (o.others j (old ∙ ap suc r))) ∙ t.marked j g old) (same_or j k);
      named = λ g l w. ⊎_elim
          (λ m. (k, at ∙ z.told (sym (held-mark-same h f b z.two) ∙ ap (held (mark h f b)) (sym m) ∙ w) ∙ ap suc (sym m)))
          (λ m. let old = t.named g l (sym (held-mark-other h f b g z.two m) ∙ w) in
          (old.0, else old.0 (λ r. m (o.mine g (ap p (sym r) ∙ old.1))) ∙ old.1)) (same_or g f);
    }
