-- How many lines the writes of a snapshot are.
use Prim.Native.Nat.{ℕ, zero, suc, ◌*◌, ◌≤◌}
use mathlib.Core.List.{List}
use native.Mathlib.Omega.{arith}
use lib.ListN.{length, length-append}
use Rattle.areas.specs.Areas.{slots}
use Rattle.archive.specs.Archive.{joined}
use Rattle.page_writes.proofs.PageLaws.{page-most}
use Rattle.segments.specs.declared.Snapshot.{Snapshot}
use Rattle.segments.specs.ByPages.{writes_at, writes_of}

pages-most : (image pool table : List ℕ) (b : Snapshot) (n : ℕ) → length (joined (writes_at image pool table b) n) ≤ n * 256
unfolding joined
pages-most image pool table b zero = omega arith
pages-most image pool table b (suc n) =
    rw (length-append (joined (writes_at image pool table b) n) (writes_at image pool table b n))
    (omega (arith, page-most image pool table b.sandbox n (slots b.areas n), pages-most image pool table b n))

pub writes-most : (image pool table : List ℕ) (b : Snapshot) → length (writes_of image pool table b) ≤ 16384
writes-most image pool table b = pages-most image pool table b 64
