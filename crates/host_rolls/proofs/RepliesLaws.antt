-- What a host gets: the plain machine's replies, or those of a wrong length, as the laws of a roll played say of what `FromStart` gives.
use mathlib.Core.Path.{◌≡◌}
use mathlib.Core.Bool.{true, false}
use mathlib.Core.List.{List, ◌++◌}
use Prim.Native.Nat.{ℕ, ◌*◌}
use lib.ListN.{drop}
use Rattle.roll.specs.Replies.{lent, plain_replies, refused_replies}
use Rattle.roll.proofs.RepliesLaws.{replies-are-plain, replies-are-refusals}
use Rattle.host_rolls.specs.FromStart.{Regions, regions, Room, FromStart}
use Rattle.host_rolls.specs.Promised.{right_lengths}

module _ (image roll : List ℕ) (before after : Regions) (lines : ℕ) (r : FromStart image roll before after lines) where
  -- where the lent lengths are right and the replies fit, out begins with the plain machine's replies, and the rest of it is as it was
  pub plain-replies : right_lengths image before ≡ true → Room roll before.out
      → after.out ≡ plain_replies (lent image before.pool) roll ++ drop (lines * 19) before.out
  plain-replies ok room =
      rw (r.answered room) (replies-are-plain image roll before.pool before.table before.out after.out _ ok (r.played room).1)

  -- where a lent length is wrong and the replies fit, pool and table are as they were, and out begins with the refusal of each line
  pub refused-replies : right_lengths image before ≡ false → Room roll before.out
      → after ≡ regions before.pool before.table (refused_replies roll ++ drop (lines * 19) before.out)
  refused-replies wrong room =
      let same = replies-are-refusals image roll before.pool before.table before.out after.out _ wrong (r.played room).1 in
      rw (r.answered room) (λ i. record { pool = same.0 i; table = same.1.0 i; out = same.1.1 i })
