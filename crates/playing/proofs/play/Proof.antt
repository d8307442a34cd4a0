-- A roll played: as many lines as there is room for are read ahead and answered, again and again, until all are; before each turn the lines so far are
-- played.
use mathlib.Core.Path.{◌≡◌, refl, sym, ap, subst, ◌∙◌}
use mathlib.Core.List.{List, ◌++◌}
use Prim.Native.Nat.{ℕ, ◌+◌, ◌-◌, ◌*◌, ◌/◌, ◌≤◌, ◌<◌}
use native.Mathlib.Omega.{arith}
use lib.ListN.{length, take, drop, length-append, length-drop}
use lib.Seq.{length-take-le, take_at}
use Rattle.lines.specs.Lines.{line_at, lines_of}
use Rattle.line_numbers.specs.Numbers.{line_in}
use Rattle.state.specs.World.{world_of}
use Rattle.replying.specs.Playing.{played_by}
use Rattle.roll.specs.Known.{Known}
use Rattle.roll.specs.Play.{Played}
use Rattle.roll.proofs.PlayLaws.{played-none}
use Rattle.roll.proofs.KnownLaws.{known-played}
use Rattle.playing.proofs.AheadLaws.{starts, lines-ahead, played-then}
use borrow.Author.Rules.{rules}
use Rattle.playing.proofs.play.Statement.{statement}
use Rattle.playing.proofs.play.Tie as tie

abbrev invariant-loop : tie.invariant-loop-playing
invariant-loop pool₀ table₀ image roll out₀ playing₀ lines numbers₀ pool table out playing numbers =
    (playing.answered ≤ lines) × (length pool ≡ length pool₀) × (length table ≡ length table₀) × (length out ≡ length out₀) × (length numbers ≡ 512)
    × (playing.first ≡ playing₀.first) × (playing.sound ≡ playing₀.sound)
    × Played image (played_by playing₀ pool₀ table₀) roll playing.answered playing₀.first out₀ out (played_by playing pool table)

abbrev decreases-loop : tie.decreases-loop-playing
decreases-loop pool₀ table₀ image roll out₀ playing₀ lines numbers₀ pool table out playing numbers = lines - playing.answered

-- ---- in the loop

abbrev AtLoop : Type 0
AtLoop = tie.At-loop-playing invariant-loop decreases-loop

abbrev Counted : Type 0
Counted = tie.After-ahead-end invariant-loop decreases-loop

abbrev loop_of : Counted → AtLoop
loop_of c = c.before.before.before

abbrev start_of : AtLoop → tie.Start invariant-loop decreases-loop
start_of c = c.before.before.before.before.before.before.before.before.before.before

-- there is a line left, it starts within the roll, and the numbers of as many as are read ahead have room
left : (c : Counted) → (loop_of c).loop-playing.playing.answered < lines_of (length (start_of (loop_of c)).args.roll.now)
left c = omega (arith, c.before.loop-playing-test.true, (loop_of c).before.lines_of-lines.ensures)

within : (c : Counted) → (loop_of c).loop-playing.playing.answered * 43 ≤ length (start_of (loop_of c)).args.roll.now
within c = starts _ _ (left c)

room : (c : Counted) → c.ahead-end.result * 8 ≤ length (loop_of c).loop-playing.numbers
room c = omega (arith, c.ahead-end.ensures, (loop_of c).loop-playing.invariant.4)

-- ---- lines read ahead

abbrev Read : Type 0
Read = tie.After-read_lines invariant-loop decreases-loop

abbrev counted : Read → Counted
counted c = c.before.before.before

abbrev many : Read → ℕ
many c = (counted c).ahead-end.result

abbrev numbers_read : Read → List ℕ
numbers_read c = c.read_lines.new.numbers

length-read : (c : Read) → length (numbers_read c) ≡ many c * 8
length-read c = c.read_lines.auto.numbers ∙ length-take-le _ _ (room (counted c))

-- all numbers, and those that are handed on
abbrev numbers_then : Read → List ℕ
numbers_then c = numbers_read c ++ drop (many c * 8) (loop_of (counted c)).loop-playing.numbers

abbrev block : Read → List ℕ
block c = take (many c * 8) (numbers_then c)

block-is : (c : Read) → block c ≡ numbers_read c
block-is c = take_at (numbers_read c) _ (many c * 8) (length-read c)

block-lines : (c : Read) → length (block c) / 8 ≡ many c
block-lines c = rw (block-is c, length-read c) (omega arith)

length-then : (c : Read) → length (numbers_then c) ≡ 512
length-then c =
    let numbers = (loop_of (counted c)).loop-playing.numbers in
    omega (
      arith,
      length-append (numbers_read c) (drop (many c * 8) numbers),
      length-read c,
      length-drop (many c * 8) numbers,
      room (counted c),
      (loop_of (counted c)).loop-playing.invariant.4,
    )

some : (c : Read) → (1 ≤ many c) × ((loop_of (counted c)).loop-playing.playing.answered + many c ≤ (loop_of (counted c)).before.lines_of-lines.result)
some c = (omega (arith, (counted c).ahead-end.ensures, (counted c).before.loop-playing-test.true), omega (arith, (counted c).ahead-end.ensures, (counted c).before.loop-playing-test.true))

lines-read : (c : Read) (i : ℕ) → i < length (block c) / 8
    → line_in (block c) i ≡ line_at (start_of (loop_of (counted c))).args.roll.now ((loop_of (counted c)).loop-playing.playing.answered + i)
lines-read c i less =
    let roll = (start_of (loop_of (counted c))).args.roll.now in
    let numbers = (loop_of (counted c)).loop-playing.numbers in
    let as_many : length (take (many c * 8) numbers) / 8 ≡ many c = rw (length-take-le (many c * 8) numbers (room (counted c))) (omega arith) in
    lines-ahead roll (numbers_read c) (drop (length (take (many c * 8) numbers) / 8 * 8) (take (many c * 8) numbers)) (drop (many c * 8) numbers)
    (loop_of (counted c)).loop-playing.playing.answered (length (take (many c * 8) numbers) / 8) (many c * 8) c.read_lines.ensures (length-read c) i
    (omega (arith, less, block-lines c, as_many))

-- ---- the needs

lines-of-requires : tie.Need-lines_of-lines-requires invariant-loop decreases-loop
lines-of-requires c κs = search rules

loop-holds : tie.Need-loop-playing-init invariant-loop decreases-loop
loop-holds c = (omega arith, refl, refl, refl, refl, refl, refl, played-none _ _ _ _ _)

sub-ahead : tie.Need-overflow_sub-lines invariant-loop decreases-loop
sub-ahead c = search rules

ahead-requires : tie.Need-ahead-end-requires invariant-loop decreases-loop
ahead-requires c κs = search rules

mul-end : tie.Need-overflow_mul-end invariant-loop decreases-loop
mul-end c = search rules

mul-from : tie.Need-overflow_mul-from invariant-loop decreases-loop
mul-from c = search rules

sub-read-lines : tie.Need-slice_bounds-read_lines-count invariant-loop decreases-loop
sub-read-lines c = let here = within c in search rules

part-read-lines-start : tie.Need-slice_bounds-read_lines-start invariant-loop decreases-loop
part-read-lines-start c = within c

part-read-lines-end : tie.Need-slice_bounds-read_lines-end invariant-loop decreases-loop
part-read-lines-end c = search rules

array-borrow-prefix-numbers : tie.Need-slice_bounds-numbers-end invariant-loop decreases-loop
array-borrow-prefix-numbers c = search rules

slice-aggregate-read-lines : tie.Need-slice_bounds-read_lines-end-in-loop-playing invariant-loop decreases-loop
slice-aggregate-read-lines c = sym (length-take-le _ _ (room c.before.before))

read-lines-requires : tie.Need-read_lines-requires invariant-loop decreases-loop
read-lines-requires c κs = search rules

array-share-prefix-numbers : tie.Need-slice_bounds-numbers-end-in-loop-playing invariant-loop decreases-loop
array-share-prefix-numbers c = let read = c.before.before.before in omega (arith, length-then read, room (counted read), (loop_of (counted read)).loop-playing.invariant.4)

slice-aggregate-reply-lines : tie.Need-slice_bounds-reply_lines-end invariant-loop decreases-loop
slice-aggregate-reply-lines c =
    let read = c.before.before.before.before in
    sym (ap length (block-is read) ∙ length-read read)

reply-lines-requires : tie.Need-reply_lines-playing-requires invariant-loop decreases-loop
reply-lines-requires c κs =
    let read = c.before.before.before.before.before in
    let at = loop_of (counted read) in
    let s = start_of at in
    let inv = at.loop-playing.invariant in
    let lines = at.before.lines_of-lines.ensures in
    let known = known-played s.args.player.sound _ _ s.args.roll.now _ _ _ _ _ s.requires.1.1 inv.7 in
    rw (block-lines read) (
      omega (arith, (some read).1, lines, inv.3, s.requires.0),
      omega (arith, (some read).1, lines, inv.5, s.requires.1.0),
      subst (λ b. Known b s.args.image.now (played_by at.loop-playing.playing at.loop-playing.pool at.loop-playing.table)) (sym inv.6) known,
    )

loop-less : tie.Need-loop-playing-smaller invariant-loop decreases-loop
loop-less c =
    let reply = c.reply_lines-playing in
    let read = c.before.before.before.before.before.before.before.before.before.before.before.before in
    omega (arith, reply.ensures.2, block-lines read, (some read).0, (some read).1)

loop-again : tie.Need-loop-playing-preserved invariant-loop decreases-loop
loop-again c =
    let reply = c.reply_lines-playing in
    let read = c.before.before.before.before.before.before.before.before.before.before.before.before in
    let at = loop_of (counted read) in
    let s = start_of at in
    let inv = at.loop-playing.invariant in (
      omega (arith, reply.ensures.2, block-lines read, (some read).1),
      reply.auto.pool ∙ inv.1,
      reply.auto.table ∙ inv.2,
      reply.auto.out ∙ inv.3,
      length-then read,
      reply.ensures.1 ∙ inv.5,
      reply.ensures.3 ∙ inv.6,
      played-then s.args.image.now (block read) s.args.roll.now s.args.out.now at.loop-playing.out _ _ at.loop-playing.playing.first
          at.loop-playing.playing.answered _ _ _ _ _ inv.7 (lines-read read) reply.ensures.0 inv.5 reply.ensures.2,
    )

same_length : tie.Need-shape_of-pool invariant-loop decreases-loop
same_length c = search rules

same-length-2 : tie.Need-shape_of-table invariant-loop decreases-loop
same-length-2 c = search rules

same-length-3 : tie.Need-shape_of-out invariant-loop decreases-loop
same-length-3 c = search rules

returns : tie.Need-returns invariant-loop decreases-loop
returns c =
    let at = c.before.before.before.before in
    let s = start_of at in
    let all : at.loop-playing.playing.answered ≡ lines_of (length s.args.roll.now) = omega (
      arith,
      at.loop-playing.invariant.0,
      c.loop-playing-test.false,
      at.lines_of-lines.ensures,
    ) in
    let before = world_of s.args.player.machine s.args.pool.now s.args.table.now in
    subst (λ n. Played s.args.image.now before s.args.roll.now n s.args.player.line s.args.out.now at.loop-playing.out
    (played_by at.loop-playing.playing at.loop-playing.pool at.loop-playing.table)) all at.loop-playing.invariant.7

pub play_spec : {M : Type 1} → statement M
play_spec =
    tie.close
    (tie.spec
    invariant-loop
    decreases-loop
    lines-of-requires
    loop-holds
    sub-ahead
    ahead-requires
    mul-end
    mul-from
    sub-read-lines
    part-read-lines-start
    part-read-lines-end
    array-borrow-prefix-numbers
    slice-aggregate-read-lines
    read-lines-requires
    array-share-prefix-numbers
    slice-aggregate-reply-lines
    reply-lines-requires
    loop-less
    loop-again
    same_length
    same-length-2
    same-length-3
    returns)
