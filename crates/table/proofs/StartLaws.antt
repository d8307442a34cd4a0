-- The store that a start leaves is tidy, and no entry holds a page.
use mathlib.Core.Path.{◌≡◌, ap}
use mathlib.Core.Option.{none}
use Prim.Native.Nat.{ℕ, ◌*◌, ◌≤◌}
use native.Mathlib.Omega.{arith}
use Rattle.frames.proofs.FrameLaws.{held-zero}
use Rattle.pages.proofs.PartLaws.{length-zeros, get_or-zeros, frame-zeros}
use Rattle.table.specs.Store.{entry, contents, Tidy, cleared, fresh}
use Rattle.table.proofs.StoreLaws.{contents-none}

-- a cleared pool of n frames
pub fresh-of : (size n bytes : ℕ) → bytes ≡ n * size → cleared bytes ≡ fresh size n
unfolding fresh
fresh-of size n bytes e = ap cleared e

module _ (size n : ℕ) where
  fresh-entry : (k : ℕ) → entry (fresh size n) k ≡ 0
  unfolding fresh
  fresh-entry k = get_or-zeros 512 k

  pub fresh-none : (k : ℕ) → contents size (fresh size n) k ≡ none
  fresh-none k = contents-none size (fresh size n) k (fresh-entry k)

  pub fresh-tidy : {C : ℕ → Type 0} → n ≤ 128 → Tidy C size n (fresh size n)
  unfolding fresh
  fresh-tidy few =
      record {
        filed = record {
          few = few;
          pages = length-zeros (n * size);
          entries = length-zeros 512;
          names = record {
            within = λ k f e. absurd (let z = fresh-entry k in omega arith);
            once = λ k j f e d. absurd (let z = fresh-entry k in omega arith);
            marked = λ k f e. absurd (let z = fresh-entry k in omega arith);
            named = λ f l e. absurd (let z = held-zero f in omega arith);
          };
          low = omega arith;
          high = omega arith;
        };
        clean = λ f c l e. frame-zeros size n f l;
      }
