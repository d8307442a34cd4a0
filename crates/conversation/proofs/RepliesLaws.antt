-- The replies of a talk are those of the one roll that it is.
use mathlib.Core.Path.{◌≡◌, ap, ◌∙◌}
use mathlib.Core.List.{List, [], ◌++◌, append-nil}
use Prim.Native.Nat.{ℕ, ◌*◌}
use lib.ListN.{length, drop}
use lib.Seq.{drop-nil}
use Rattle.lines.specs.Lines.{lines_of}
use Rattle.roll.proofs.RepliesLaws.{replies-are-plain, replies-are-refusals}
use Rattle.conversation.specs.Conversation.{roll_of, replies_of}
use Rattle.conversation.specs.Replies.{SaysPlain, SaysRefusals, UnreadableIsRefused}
use Rattle.image_file.proofs.ImageLaws.{unreadable-is-wrong}

-- nothing stands behind them
nothing-behind : (roll xs : List ℕ) → xs ++ drop (lines_of (length roll) * 19) [] ≡ xs
nothing-behind roll xs = ap (λ l. xs ++ l) (drop-nil (lines_of (length roll) * 19)) ∙ append-nil xs

pub says_plain : SaysPlain
says_plain image pool₀ table₀ pool table written ok t =
    replies-are-plain image (roll_of t.turns) pool₀ table₀ [] (replies_of t.turns) _ ok t.played ∙ nothing-behind (roll_of t.turns) _

pub says-refusals : SaysRefusals
says-refusals image pool₀ table₀ pool table written wrong t =
    let same = replies-are-refusals image (roll_of t.turns) pool₀ table₀ [] (replies_of t.turns) _ wrong t.played in
    (same.0, (same.1.0, same.1.1 ∙ nothing-behind (roll_of t.turns) _))

pub unreadable-is-refused : UnreadableIsRefused
unreadable-is-refused image pool₀ table₀ pool table written e t =
    (says-refusals image pool₀ table₀ pool table written (rw e (unreadable-is-wrong (length pool₀) (length table₀))) t).1.1
