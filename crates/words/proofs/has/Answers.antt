-- `w >> k & 1` is the bit of w at place k.
use mathlib.Core.Path.{ap}
use Prim.Native.Nat.{ℕ, ◌/◌, ◌^◌}
use lib.Dec.{eqb}
use lib.Bits.{and_mask}
use borrow.Author.Rules.{rules}
use Rattle.words.specs.Word.{bit}
use Rattle.words.proofs.has.Goals as goal

pub returns : goal.returns
unfolding bit
returns c = ap (λ (x : ℕ). eqb x 1) (and_mask (c.args.word / 2 ^ c.args.place) 1)
