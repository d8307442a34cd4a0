-- A committed page still mapped meets exactly one case, whatever its front entry, its back entry and its backing are.
use mathlib.Core.Path.{◌≡◌, refl}
use Prim.Native.Nat.{ℕ, zero, suc}
use native.Mathlib.Omega.{arith}
use Rattle.interface.specs.declared.page.Backing.{Backing}
use Rattle.interface.specs.declared.page.Backing.TheVariants.{Anonymous, Image}
use Rattle.rewind_cases.specs.declared.RewindCase.{RewindCase}
use Rattle.rewind_cases.specs.declared.RewindCase.TheVariants.{Shared, Copied, Zeroed, ImagePage}
use Rattle.rewind_cases.specs.Rewind.{case_of}
use Rattle.rewind_cases.specs.Cases.{Meets, OneCase}

found : (front back : ℕ) (backing : Backing) → Meets front back backing (case_of front back backing)
found zero back backing = refl
found (suc f) (suc b) backing = (omega arith, omega arith)
found (suc f) zero Anonymous = (omega arith, refl, refl)
found (suc f) zero (Image page) = (omega arith, refl, refl)

alone : (front back : ℕ) (backing : Backing) (c : RewindCase) → Meets front back backing c → c ≡ case_of front back backing
alone front back backing Shared m = rw m
alone zero back backing Copied m = absurd (omega (arith, m.0))
alone (suc f) zero backing Copied m = absurd (omega (arith, m.1))
alone (suc f) (suc b) backing Copied m = refl
alone zero back backing Zeroed m = absurd (omega (arith, m.0))
alone (suc f) back backing Zeroed m = rw (m.1, m.2)
alone zero back backing (ImagePage page) m = absurd (omega (arith, m.0))
alone (suc f) back backing (ImagePage page) m = rw (m.1, m.2)

pub one-case : (front back : ℕ) (backing : Backing) → OneCase front back backing
one-case front back backing = record { found = found front back backing; alone = alone front back backing }

-- what is known of a page by its case, as the code finds it
pub met : (front back : ℕ) (backing : Backing) (c : RewindCase) → c ≡ case_of front back backing → Meets front back backing c
met front back backing c e = rw e (found front back backing)
