-- Lines answered one after the other. A line goes one of five ways (`Proof/Ways.antt`, `Left.antt`), of each of which the same is said, and from that follows
-- what `Replied` asks (`Turn.antt`); `Proof/Upto.antt` has what holds before each line.
mod Upto
mod Ways
mod Left
mod Turn
use mathlib.Core.Path.{◌≡◌, refl, sym}
use native.Mathlib.Nat.{add-zero}
use Prim.Native.Nat.{◌-◌, ◌/◌}
use native.Mathlib.Omega.{arith}
use lib.ListN.{length}
use Rattle.interface.specs.Answers.{answered}
use Rattle.step.proofs.ActedLaws.{own-asked}
use borrow.Author.Rules.{rules}
use Rattle.replying.proofs.reply_lines.Statement.{statement}
use Rattle.replying.proofs.reply_lines.Tie as tie
use Rattle.replying.proofs.reply_lines.Proof.Upto.{Inv-loop, μ-loop, replied-none, replied-all}
use Rattle.replying.proofs.reply_lines.Proof.Ways.{start_of, image_in, world_in, state_in, known, four, calls, asking, asked, own}
use Rattle.replying.proofs.reply_lines.Proof.Ways.{around, told_at, rewinding, rewound-at, unasked, stands-alone}
use Rattle.replying.proofs.reply_lines.Proof.Left.{left_at, stands, writing, writes, unrefused, written_at, acting, acted-at}
use Rattle.replying.proofs.reply_lines.Proof.Ways.{refused, rewound, in_place}
use Rattle.replying.proofs.reply_lines.Proof.Left.{written, acted}
use Rattle.replying.proofs.reply_lines.Proof.Turn.{given-four, to-print, nearer, go_on}

-- ---- the needs

loop-holds : tie.Need-loop-i-init Inv-loop μ-loop
loop-holds c =
    let s = c.before.before.before.before.before in (
      omega arith,
      record {
        pool_kept = refl;
        table_kept = refl;
        out_kept = refl;
        first = refl;
        answered = sym (add-zero _);
        sound = refl;
        four = given-four s;
        bytes = λ j. omega (arith, c.slice_known-1.given j);
        known = s.requires.2;
        replied = replied-none _ _ _ _ _ _;
      },
    )

line-in-requires : tie.Need-line_in-line-requires Inv-loop μ-loop
line-in-requires c κs = let more = c.loop-i-test.true in omega (arith, more)

cast-number : tie.Need-overflow_cast-number Inv-loop μ-loop
cast-number c =
    let at = c.before.before in
    record { fits = omega (arith, at.loop-i.invariant.1.answered, c.loop-i-test.true, (start_of at).requires.1) }

add-number : tie.Need-overflow_add-number Inv-loop μ-loop
add-number c =
    let at = c.before.before in
    let far = at.loop-i.invariant.1 in
    record { fits = omega (arith, far.answered, far.first, c.loop-i-test.true, (start_of at).requires.1) }

add-playing : tie.Need-overflow_add-playing Inv-loop μ-loop
add-playing c =
    let at = c.before.before in
    record { fits = omega (arith, at.loop-i.invariant.1.answered, c.loop-i-test.true, (start_of at).requires.1) }

add-i : tie.Need-overflow_add-i Inv-loop μ-loop
add-i c = search rules

ask-requires : tie.Need-ask-asked-requires Inv-loop μ-loop
ask-requires c κs = search rules

enum-known-asked : tie.Need-enum_known-asked Inv-loop μ-loop
enum-known-asked c = search rules

print-answer-requires : tie.Need-print_answer-requires Inv-loop μ-loop
print-answer-requires c κs =
    let way = c.before in
    let print = to-print way.before in
    (print.0, (print.1, (refused way).small))

loop-less : tie.Need-loop-i-smaller-in-Err Inv-loop μ-loop
loop-less c = nearer c.before.before.before.before.before

loop-again : tie.Need-loop-i-preserved-in-Err Inv-loop μ-loop
loop-again c =
    let printed = c.before.before in
    let way = printed.before.before in
    go_on way.before _ _ _ _ _ (refused way) printed.print_answer.auto.out printed.print_answer.ensures

enum-known-asked-2 : tie.Need-enum_known-asked-in-Ok-1 Inv-loop μ-loop
enum-known-asked-2 c = search rules

cast-k : tie.Need-overflow_cast-k Inv-loop μ-loop
cast-k c = search rules

mul-b : tie.Need-offset_bounds-playing-k Inv-loop μ-loop
mul-b c = let low = (calls c.before).low in search rules

element-copy-out-b : tie.Need-bounds-playing-k Inv-loop μ-loop
element-copy-out-b c =
    let low = (calls c.before).low in
    let all = four (asking c.before) in
    search rules

rewind-sandbox-requires : tie.Need-rewind_sandbox-rewound-requires Inv-loop μ-loop
rewind-sandbox-requires c κs =
    let told = rewinding c in
    let s = asking told in
    (c.if-q-eq-REWIND.true, ((calls told).low, ((state_in s).sandboxes, (unasked s, stands-alone c))))

mul-after : tie.Need-offset_bounds-playing-k-then-q-eq-REWIND Inv-loop μ-loop
mul-after c = let low = (calls (rewinding (rewound-at c).before)).low in search rules

element-set-from-after : tie.Need-bounds-playing-k-then-q-eq-REWIND Inv-loop μ-loop
element-set-from-after c =
    let told = rewinding (rewound-at c).before in
    let low = (calls told).low in
    let all = four (asking told) in
    search rules

print-answer-requires-2 : tie.Need-print_answer-requires-then-q-eq-REWIND Inv-loop μ-loop
print-answer-requires-2 c κs =
    let way = c.before in
    let print = to-print (asking (rewinding (rewound-at way).before)) in
    (print.0, (print.1, (rewound way).small))

loop-less-2 : tie.Need-loop-i-smaller-then-q-eq-REWIND Inv-loop μ-loop
loop-less-2 c = nearer (asking (rewinding (rewound-at c.before.before.before.before).before))

loop-again-2 : tie.Need-loop-i-preserved-then-q-eq-REWIND Inv-loop μ-loop
loop-again-2 c =
    let printed = c.before.before in
    let way = printed.before.before in
    go_on (asking (rewinding (rewound-at way).before)) _ _ _ _ _ (rewound way) printed.print_answer-then-q-eq-REWIND.auto.out printed.print_answer-then-q-eq-REWIND.ensures

answer-requires : tie.Need-answer-requires Inv-loop μ-loop
answer-requires c κs =
    let told = c.before.before.before.before.before.before in
    ((calls told).low, (world_in (asking told), around told))

enum-known-answer : tie.Need-enum_known-answer Inv-loop μ-loop
enum-known-answer c = search rules

print-answer-requires-3 : tie.Need-print_answer-requires-in-Some Inv-loop μ-loop
print-answer-requires-3 c κs =
    let way = c.before in
    let print = to-print (asking (told_at way.before.before.before)) in
    (print.0, (print.1, (in_place way).small))

loop-less-3 : tie.Need-loop-i-smaller-in-Some Inv-loop μ-loop
loop-less-3 c = nearer (asking (told_at c.before.before.before.before.before.before.before))

loop-again-3 : tie.Need-loop-i-preserved-in-Some Inv-loop μ-loop
loop-again-3 c =
    let printed = c.before.before in
    let way = printed.before.before in
    go_on (asking (told_at way.before.before.before)) _ _ _ _ _ (in_place way) printed.print_answer-in-Some.auto.out printed.print_answer-in-Some.ensures

enum-told : tie.Need-enum_told-1 Inv-loop μ-loop
enum-told c = search rules

put-together-requires : tie.Need-put_together-all-requires Inv-loop μ-loop
put-together-requires c κs = search rules

write-requires : tie.Need-write-left-requires Inv-loop μ-loop
write-requires c κs =
    let found = writing c in
    let told = told_at (left_at found) in
    let s = asking told in
    let all = found.put_together-all.result in
    let row = (state_in s).sandboxes in
    (writes c, (row, own-asked (image_in s) (asked told) (own told) all _ row (stands found) (unrefused c)))

mul-t71 : tie.Need-offset_bounds-playing-k-then-q-eq-WRITE Inv-loop μ-loop
mul-t71 c = let low = (calls (told_at (left_at (writing (written_at c).before)))).low in search rules

element-set-from-playing : tie.Need-bounds-playing-k-then-q-eq-WRITE Inv-loop μ-loop
element-set-from-playing c =
    let told = told_at (left_at (writing (written_at c).before)) in
    let low = (calls told).low in
    let all = four (asking told) in
    search rules

print-answer-requires-4 : tie.Need-print_answer-requires-then-q-eq-WRITE Inv-loop μ-loop
print-answer-requires-4 c κs =
    let way = c.before in
    let print = to-print (asking (told_at (left_at (writing (written_at way).before)))) in
    (print.0, (print.1, (written way).small))

loop-less-4 : tie.Need-loop-i-smaller-then-q-eq-WRITE Inv-loop μ-loop
loop-less-4 c = nearer (asking (told_at (left_at (writing (written_at c.before.before.before.before).before))))

loop-again-4 : tie.Need-loop-i-preserved-then-q-eq-WRITE Inv-loop μ-loop
loop-again-4 c =
    let printed = c.before.before in
    let way = printed.before.before in
    go_on (asking (told_at (left_at (writing (written_at way).before)))) _ _ _ _ _ (written way) printed.print_answer-then-q-eq-WRITE.auto.out
    printed.print_answer-then-q-eq-WRITE.ensures

act-requires : tie.Need-act-acted-requires Inv-loop μ-loop
act-requires c κs =
    let found = acting c in
    let told = told_at (left_at found) in
    ((calls told).coded, ((left_at found).if-q-eq-REWIND.false, ((calls told).low, ((state_in (asking told)).sandboxes, stands found))))

mul-after-2 : tie.Need-offset_bounds-playing-k-in-Ok Inv-loop μ-loop
mul-after-2 c = let low = (calls (told_at (left_at (acting (acted-at c).before)))).low in search rules

element-set-from-after-2 : tie.Need-bounds-playing-k-in-Ok Inv-loop μ-loop
element-set-from-after-2 c =
    let told = told_at (left_at (acting (acted-at c).before)) in
    let low = (calls told).low in
    let all = four (asking told) in
    search rules

print-answer-requires-5 : tie.Need-print_answer-requires-in-Ok Inv-loop μ-loop
print-answer-requires-5 c κs =
    let way = c.before in
    let print = to-print (asking (told_at (left_at (acting (acted-at way).before)))) in
    (print.0, (print.1, (acted way).small))

loop-less-5 : tie.Need-loop-i-smaller Inv-loop μ-loop
loop-less-5 c = nearer (asking (told_at (left_at (acting (acted-at c.before.before.before.before).before))))

loop-again-5 : tie.Need-loop-i-preserved Inv-loop μ-loop
loop-again-5 c =
    let printed = c.before.before in
    let way = printed.before.before in
    go_on (asking (told_at (left_at (acting (acted-at way).before)))) _ _ _ _ _ (acted way) printed.print_answer-in-Ok.auto.out
    printed.print_answer-in-Ok.ensures

same_length : tie.Need-shape_of-pool Inv-loop μ-loop
same_length c = search rules

same-length-2 : tie.Need-shape_of-table Inv-loop μ-loop
same-length-2 c = search rules

same-length-3 : tie.Need-shape_of-out Inv-loop μ-loop
same-length-3 c = search rules

returns : tie.Need-returns Inv-loop μ-loop
returns c =
    let at = c.before in
    let far = at.loop-i.invariant.1 in
    let s = start_of at in
    let all : at.loop-i.i ≡ length s.args.numbers.now / 8 = omega (arith, at.loop-i.invariant.0, c.loop-i-test.false) in (
      replied-all _ _ _ _ _ _ at.loop-i.i _ _ _ all far.replied,
      far.first,
      omega (arith, far.answered, all),
      far.sound,
    )

pub reply_lines_spec : {M : Type 1} → statement M
reply_lines_spec =
    tie.close
    (tie.spec
    Inv-loop
    μ-loop
    loop-holds
    line-in-requires
    add-i
    cast-number
    add-number
    add-playing
    ask-requires
    enum-known-asked
    print-answer-requires
    loop-less
    loop-again
    enum-known-asked-2
    cast-k
    mul-b
    element-copy-out-b
    rewind-sandbox-requires
    mul-after
    element-set-from-after
    print-answer-requires-2
    loop-less-2
    loop-again-2
    answer-requires
    enum-known-answer
    print-answer-requires-3
    loop-less-3
    loop-again-3
    enum-told
    put-together-requires
    write-requires
    mul-t71
    element-set-from-playing
    print-answer-requires-4
    loop-less-4
    loop-again-4
    act-requires
    mul-after-2
    element-set-from-after-2
    print-answer-requires-5
    loop-less-5
    loop-again-5
    same_length
    same-length-2
    same-length-3
    returns)
