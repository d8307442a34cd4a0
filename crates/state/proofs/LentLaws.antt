-- What the test of the lent lengths says of pool, table and image, both ways.
use mathlib.Core.Path.{◌≡◌}
use mathlib.Core.Bool.{true}
use Prim.Native.Nat.{ℕ, ◌*◌, ◌%◌, ◌≤◌}
use native.Mathlib.Omega.{arith}
use lib.Dec.{leb, eqb}
use borrow.Author.Tests.{eq-eqb, eqb-true, leb-true, le-leb}
use Rattle.basics.proofs.TestLaws.{and_both, and-of}
use Rattle.interface.specs.Numbers.{pages_in}
use Rattle.state.specs.World.{whole_pages, lengths_ok}

-- what the test of the lengths says: bytes of the pool, entries of the table, bytes of the image
pub record Lengths (pool table image : ℕ) : Type 0 where
  pub pages : pool ≡ pages_in pool * 256
  pub some : 1 ≤ pages_in pool
  pub few : pages_in pool ≤ 128
  pub entries : table ≡ 512
  pub whole : image ≡ pages_in image * 256
  pub images : pages_in image ≤ 64

whole-true : (low high bytes : ℕ) → whole_pages low high bytes ≡ true → (bytes ≡ pages_in bytes * 256) × (low ≤ pages_in bytes) × (pages_in bytes ≤ high)
whole-true low high bytes h =
    let h₁ = and_both (eqb (bytes % 256) 0) _ h in
    let h₂ = and_both (leb low (pages_in bytes)) _ h₁.1 in
    (omega (arith, eqb-true (bytes % 256) 0 h₁.0), leb-true _ _ h₂.0, leb-true _ _ h₂.1)

whole_of : (low high bytes : ℕ) → bytes ≡ pages_in bytes * 256 → low ≤ pages_in bytes → pages_in bytes ≤ high → whole_pages low high bytes ≡ true
whole_of low high bytes e a b = and-of (eq-eqb (bytes % 256) 0 (omega arith)) (and-of (le-leb _ _ a) (le-leb _ _ b))

pub lengths-true : (pool table image : ℕ) → lengths_ok pool table image ≡ true → Lengths pool table image
lengths-true pool table image h =
    let h₁ = and_both (whole_pages 1 128 pool) _ h in
    let h₂ = and_both (eqb table 512) _ h₁.1 in
    let p = whole-true 1 128 pool h₁.0 in
    let i = whole-true 0 64 image h₂.1 in
    record { pages = p.0; some = p.1; few = p.2; entries = eqb-true _ 512 h₂.0; whole = i.0; images = i.2 }

pub lengths-of : (pool table image : ℕ) → Lengths pool table image → lengths_ok pool table image ≡ true
lengths-of pool table image L =
    and-of (whole_of 1 128 pool L.pages L.some L.few) (and-of (eq-eqb _ 512 L.entries) (whole_of 0 64 image L.whole (omega arith) L.images))
