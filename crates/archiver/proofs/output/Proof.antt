-- Room for the longest roll: its length, by a law and not byte by byte.
use mathlib.Core.Path.{◌≡◌, sym}
use Prim.Native.Nat.{ℕ}
use lib.ListN.{length, replicate, length-replicate}
use Rattle.archiver.proofs.output.Statement.{statement}
use Rattle.archiver.proofs.output.Tie as tie

as_long : (n a : ℕ) → n ≡ length (replicate n a)
as_long n a = sym (length-replicate n a)

returns : tie.Need-returns
returns c = as_long 705286 0

pub output_spec : {M : Type 1} → statement M
output_spec = tie.close (tie.spec returns)
