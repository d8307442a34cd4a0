-- A line of `reply_lines`, whichever way it goes: its reply has room and a number, and behind it one line more is replied to (`go_on`).
use mathlib.Core.Path.{◌≡◌, sym, ◌∙◌, subst}
use mathlib.Core.List.{List, ◌++◌}
use Prim.Native.Nat.{ℕ, ◌+◌, ◌-◌, ◌*◌, ◌/◌, ◌≤◌, ◌<◌}
use native.Mathlib.Omega.{arith}
use lib.ListN.{length, take, drop}
use Rattle.basics.proofs.TestLaws.{length-mapped}
use Rattle.interface.specs.Answers.{Answer}
use Rattle.interface.specs.Answers.{answered, number_of, value_of}
use Rattle.columns.specs.Prints.{printed_reply}
use Rattle.roll.specs.Known.{Known}
use Rattle.roll.proofs.SmallLaws.{fits_line}
use Rattle.roll.proofs.KnownLaws.{known-turned}
use Rattle.replying.specs.Playing.{played_by}
use Rattle.replying.specs.declared.Playing.{Playing}
use Rattle.replying.proofs.reply_lines.Tie as tie
use Rattle.replying.proofs.reply_lines.Proof.Upto.{Inv-loop, μ-loop, SoFar, replied-more, room, numbered}
use Rattle.replying.proofs.reply_lines.Proof.Ways.{AfterAsk, Answers, start_of, loop_of, image_in, world_in, state_in, line_of, known, four}

pub given-four : (s : tie.Start Inv-loop μ-loop) → length s.args.playing.sandboxes ≡ 4
given-four s = search length-mapped

-- the reply of the line has room, and its number
pub to-print : (s : AfterAsk) → ((state_in s).answered * 19 + 19 ≤ length (loop_of s).loop-i.out) × ((state_in s).first + (state_in s).answered ≤ 999999)
to-print s =
    let at = loop_of s in
    let begun = start_of at in
    let far = at.loop-i.invariant.1 in
    let more = s.before.before.loop-i-test.true in
    (room _ _ _ _ _ _ begun.requires.0 far.answered more far.out_kept, numbered _ _ _ _ _ _ begun.requires.1 far.first far.answered more)

-- and the end is nearer behind it
pub nearer : (s : AfterAsk) → let n = length (start_of (loop_of s)).args.numbers.now / 8 in n - ((loop_of s).loop-i.i + 1) < n - (loop_of s).loop-i.i
nearer s = omega (arith, s.before.before.loop-i-test.true)

-- one line more is answered
abbrev pub counted : AfterAsk → Playing → Playing
counted s p = record { sandboxes = p.sandboxes; held = p.held; sound = p.sound; first = p.first; answered = (state_in s).answered + 1 }

-- whichever way it went, with its reply printed there is one line more that was replied to
pub go_on : (s : AfterAsk) (pool table out : List ℕ) (p : Playing) (a : Answer) → Answers s pool table p a → length out ≡ length (loop_of s).loop-i.out
    → (let before = (loop_of s).loop-i.out in let place = (state_in s).answered * 19 in
    out ≡ take place before ++ (printed_reply ((state_in s).first + (state_in s).answered) (number_of a) (value_of a) ++ drop (place + 19) before))
    → let begun = (start_of (loop_of s)).args in let i = (loop_of s).loop-i.i in
    (i + 1 ≤ length begun.numbers.now / 8)
    × SoFar (image_in s) begun.numbers.now begun.pool.now begun.table.now begun.out.now begun.playing (i + 1) pool table out (counted s p)
go_on s pool table out p a way kept prints =
    let at = loop_of s in
    let begun = start_of at in
    let far = at.loop-i.invariant.1 in (
      omega (arith, s.before.before.loop-i-test.true),
      record {
        pool_kept = way.pool_kept ∙ far.pool_kept;
        table_kept = way.table_kept ∙ far.table_kept;
        out_kept = kept ∙ far.out_kept;
        first = way.first ∙ far.first;
        answered = omega (arith, far.answered);
        sound = way.known ∙ far.sound;
        four = way.four;
        bytes = way.bytes;
        known = subst (λ b. Known b (image_in s) (played_by p pool table)) (sym way.known)
            (known-turned (state_in s).sound (image_in s) (world_in s) (line_of s) _ (known s) way.turned);
        replied = replied-more (image_in s) begun.args.numbers.now begun.args.playing.first begun.args.playing.answered _ begun.args.out.now
            at.loop-i.i at.loop-i.out out (world_in s) (played_by p pool table) (line_of s) (state_in s).first (state_in s).answered far.replied
            s.before.line_in-line.ensures far.first far.answered
            (record {
              answer = answered a;
              turned = way.turned;
              fits = fits_line ((state_in s).first + (state_in s).answered) a (to-print s).1 way.small;
              prints = prints;
            });
      },
    )
