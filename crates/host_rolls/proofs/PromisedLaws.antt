-- What the C header promises follows from the contract of `gazhuppin_play`, sentence by sentence.
use mathlib.Core.Path.{subst}
use mathlib.Core.List.{List}
use Prim.Native.Nat.{ℕ}
use Rattle.host_rolls.specs.FromStart.{Regions, FromStart}
use Rattle.host_rolls.specs.Promised.{Promised}
use Rattle.host_rolls.proofs.RepliesLaws.{plain-replies, refused-replies}
use Rattle.host_rolls.proofs.LeftBehind.{left_behind, empty-roll}

pub promised : (image roll : List ℕ) (before after : Regions) (lines : ℕ) → FromStart image roll before after lines → Promised image roll before after lines
promised image roll before after lines r = record {
  returned = r.answered;
  short = r.refused;
  replies = λ room ok. plain-replies image roll before after lines r ok room;
  wrong = λ room bad. refused-replies image roll before after lines r bad room;
  left = λ room ok. left_behind image roll before after lines r ok room;
  cleared = λ e ok. empty-roll image before after lines (subst (λ l. FromStart image l before after lines) e r) ok;
}
