-- Ways of a line in `reply_lines`: it is refused without a look at a sandbox, its sandbox is rewound and put back, or it is answered in place. `Left.antt` has
-- the two others. Of each the same is said (`Answers`).
use mathlib.Core.Path.{◌≡◌, refl, sym, subst, ◌∙◌}
use mathlib.Core.List.{List}
use mathlib.Core.Bool.{true}
use Prim.Native.Nat.{ℕ, ◌≤◌, ◌<◌}
use native.Mathlib.Omega.{arith}
use lib.ListN.{length, get_or, set, length-set}
use Rattle.interface.specs.Answers.{Answer}
use Rattle.std.specs.Prelude.{Err, Option, IfSome}
use Rattle.interface.specs.declared.request.Request.{Request}
use Rattle.interface.specs.Answers.{answered, value_of}
use Rattle.lines.specs.declared.Line.{Line}
use Rattle.frames.specs.declared.Held.{Held}
use Rattle.frames.specs.Frames.{none_held}
use Rattle.table.specs.Store.{kept}
use Rattle.state.specs.declared.sandbox.Sandbox.{Sandbox}
use Rattle.state.specs.declared.sandbox.Machine.{Machine}
use Rattle.state.specs.World.{World, shares_in}
use Rattle.state.proofs.SharesLaws.{zero_sandbox}
use Rattle.totals.specs.declared.together.Together.{Together}
use Rattle.soundness.specs.Test.{soundb}
use Rattle.memory.proofs.MemoryLaws.{read-own}
use Rattle.step.specs.Step.{Stepped}
use Rattle.step.specs.Acted.{Stands}
use Rattle.step.proofs.ActedLaws.{standing}
use Rattle.in_place.specs.InPlace.{Around, with_pool}
use Rattle.roll.specs.Known.{Known}
use Rattle.roll.specs.Play.{Turned}
use Rattle.roll.proofs.KnownLaws.{known_is}
use Rattle.roll.proofs.SmallLaws.{value-small}
use Rattle.replying.specs.declared.Playing.{Playing}
use Rattle.replying.specs.Playing.{played_by}
use Rattle.asking.proofs.AskedLaws.{refused-line, Calls, call_line}
use Rattle.replying.proofs.reply_lines.Tie as tie
use Rattle.replying.proofs.reply_lines.Proof.Upto.{Inv-loop, μ-loop}

-- ---- what a line meets

abbrev pub AtLoop : Type 0
AtLoop = tie.At-loop-i Inv-loop μ-loop

abbrev pub AfterAsk : Type 0
AfterAsk = tie.After-ask-asked Inv-loop μ-loop

abbrev pub start_of : AtLoop → tie.Start Inv-loop μ-loop
start_of c = c.before.before.before.before.before.before

abbrev pub loop_of : AfterAsk → AtLoop
loop_of c = c.before.before.before

abbrev pub image_in : AfterAsk → List ℕ
image_in c = (start_of (loop_of c)).args.image.now

abbrev pub state_in : AfterAsk → Playing
state_in c = (loop_of c).loop-i.playing

abbrev pub pool_in : AfterAsk → List ℕ
pool_in c = (loop_of c).loop-i.pool

abbrev pub table_in : AfterAsk → List ℕ
table_in c = (loop_of c).loop-i.table

abbrev pub line_of : AfterAsk → Line
line_of c = c.before.line_in-line.result

abbrev pub world_in : AfterAsk → World
world_in c = played_by (state_in c) (pool_in c) (table_in c)

abbrev pub machine_in : AfterAsk → Machine
machine_in c = record { sandboxes = (state_in c).sandboxes; held = (state_in c).held }

pub four : (c : AfterAsk) → length (state_in c).sandboxes ≡ 4
four c = (loop_of c).loop-i.invariant.1.four

pub known : (c : AfterAsk) → Known (state_in c).sound (image_in c) (world_in c)
known c = (loop_of c).loop-i.invariant.1.known

-- ---- what each way leaves

-- the answer is that of the line, lengths and what does not change stay
pub record Answers (s : AfterAsk) (pool table : List ℕ) (p : Playing) (a : Answer) : Type 0 where
  pub turned : Turned (image_in s) (world_in s) (line_of s) (record { answer = answered a; world = played_by p pool table })
  pub pool_kept : length pool ≡ length (pool_in s)
  pub table_kept : length table ≡ length (table_in s)
  pub small : value_of a ≤ 65535
  pub first : p.first ≡ (state_in s).first
  pub known : p.sound ≡ (state_in s).sound
  pub four : length p.sandboxes ≡ 4
  pub bytes : (j : ℕ) → get_or pool j 0 < 256

-- a call on one of the four sandboxes
abbrev pub asking : tie.In-Ok Inv-loop μ-loop → AfterAsk
asking c = c.before

abbrev pub asked : tie.In-Ok Inv-loop μ-loop → Request
asked c = c.in-Ok.q

pub calls : (c : tie.In-Ok Inv-loop μ-loop) → Calls (state_in (asking c)).sound (line_of (asking c)) (asked c)
calls c =
    let s = asking c in
    call_line (state_in s).sound (line_of s) (asked c) (sym c.in-Ok.is ∙ c.ask-asked.ensures)

pub passes : (c : tie.In-Ok Inv-loop μ-loop) → soundb (image_in (asking c)) (world_in (asking c)) ≡ true
passes c =
    let s = asking c in
    sym (known_is (state_in s).sound (image_in s) (world_in s) (known s)) ∙ (calls c).known

abbrev pub own : tie.In-Ok Inv-loop μ-loop → Sandbox
own c = get_or (state_in (asking c)).sandboxes (asked c).sandbox zero_sandbox

pub around : (c : tie.In-Ok Inv-loop μ-loop) → let s = asking c in
    Around (image_in s) (asked c) (own c) (pool_in s) (table_in s) (world_in s)
around c =
    let s = asking c in record {
      sound = passes c;
      own = sym (read-own (state_in s).sandboxes (asked c).sandbox (four s) (calls c).low);
      same_pool = refl;
      same_table = refl;
    }

-- a step of the request is a turn of the line, and its value is small
of-step : (c : tie.In-Ok Inv-loop μ-loop) (pool table : List ℕ) (p : Playing) (a : Answer) → let s = asking c in
    Stepped (image_in s) (world_in s) (asked c) (record { answer = answered a; world = played_by p pool table })
    → length pool ≡ length (pool_in s) → length table ≡ length (table_in s)
    → p.first ≡ (state_in s).first → p.sound ≡ (state_in s).sound → length p.sandboxes ≡ 4
    → ((j : ℕ) → get_or pool j 0 < 256) → Answers s pool table p a
of-step c pool table p a t lp lt f k four' bytes' =
    let s = asking c in
    let at = loop_of s in
    let images = at.before.before.before.shared_slice_known-1.given in
    let low = at.loop-i.invariant.1.bytes in
    record {
      turned = subst (λ (l : Line). Turned (image_in s) (world_in s) l (record { answer = answered a; world = played_by p pool table })) (sym (calls c).says) t;
      pool_kept = lp;
      table_kept = lt;
      small = value-small (image_in s) (world_in s) (asked c) (λ i. omega (arith, images i)) (λ i. omega (arith, low i)) _ t;
      first = f;
      known = k;
      four = four';
      bytes = bytes';
    }

-- a sandbox and the marks are put back
abbrev pub with_one : Playing → ℕ → Sandbox → Held → Playing
with_one p k b marks =
    record { sandboxes = set p.sandboxes k b; held = marks; sound = p.sound; first = p.first; answered = p.answered }

pub put-back : (c : tie.In-Ok Inv-loop μ-loop) (pool table : List ℕ) (b : Sandbox) (marks : Held) (a : Answer) → let s = asking c in
    Stepped (image_in s) (world_in s) (asked c)
    (record { answer = answered a; world = played_by (with_one (state_in s) (asked c).sandbox b marks) pool table })
    → length pool ≡ length (pool_in s) → length table ≡ length (table_in s)
    → ((j : ℕ) → get_or pool j 0 < 256) → Answers s pool table (with_one (state_in s) (asked c).sandbox b marks) a
put-back c pool table b marks a t lp lt bytes =
    let s = asking c in
    of-step c pool table (with_one (state_in s) (asked c).sandbox b marks) a t lp lt refl refl
    (length-set (state_in s).sandboxes (asked c).sandbox b ∙ four s) bytes

-- rewound
abbrev pub rewound-at : tie.After-marks-1 Inv-loop μ-loop → tie.After-rewind_sandbox-rewound Inv-loop μ-loop
rewound-at c = c.before.before.before.before.before.before

abbrev pub rewinding : tie.After-rewind_sandbox-arg-then-q-eq-REWIND-1 Inv-loop μ-loop → tie.In-Ok Inv-loop μ-loop
rewinding c = c.before.before.before.before.before.before.before

-- what is told of the other sandboxes does not matter
abbrev pub unasked : AfterAsk → Together
unasked s = record { held = (state_in s).held; shares = shares_in (state_in s).sandboxes; kept = none_held }

pub stands-alone : (c : tie.After-rewind_sandbox-arg-then-q-eq-REWIND-1 Inv-loop μ-loop) → let told = rewinding c in let s = asking told in
    Stands (image_in s) (asked told) (own told) (unasked s) (kept (state_in s).held (pool_in s) (table_in s)) (state_in s).sandboxes
stands-alone c =
    let told = rewinding c in
    let s = asking told in
    standing (image_in s) (asked told) (machine_in s) (pool_in s) (pool_in s) (table_in s) (unasked s) refl refl
    (four s) (calls told).low (passes told) refl (λ e. absurd (omega (arith, e, c.if-q-eq-REWIND.true)))

pub rewound : (c : tie.After-marks-1 Inv-loop μ-loop) →
    let did = rewound-at c in
    let told = rewinding did.before in
    let s = asking told in
    let left = did.rewind_sandbox-rewound.result in
    Answers s did.rewind_sandbox-rewound.new.pool did.rewind_sandbox-rewound.new.table
    (with_one (state_in s) (asked told).sandbox left.sandbox left.held) left.answer
rewound c =
    let did = rewound-at c in
    let told = rewinding did.before in
    let s = asking told in
    put-back told _ _ did.rewind_sandbox-rewound.result.sandbox did.rewind_sandbox-rewound.result.held did.rewind_sandbox-rewound.result.answer
    (did.rewind_sandbox-rewound.ensures (state_in s).sandboxes (unasked s) (stands-alone did.before))
    did.rewind_sandbox-rewound.auto.pool did.rewind_sandbox-rewound.auto.table
    (λ j. omega (arith, c.slice_known-then-q-eq-REWIND-1.given j))

-- answered in place
abbrev pub told_at : tie.After-answer Inv-loop μ-loop → tie.In-Ok Inv-loop μ-loop
told_at c = c.before.before.before.before.before.before.before

pub in_place : (c : tie.In-Some Inv-loop μ-loop) → let behind = c.before.before.before in let s = asking (told_at behind) in
    Answers s behind.answer.new.pool (table_in s) (state_in s) c.in-Some.answer
in_place c =
    let behind = c.before.before.before in
    let told = told_at behind in
    let s = asking told in
    let left = with_pool behind.answer.new.pool (world_in s) in
    of-step told _ _ (state_in s) c.in-Some.answer
    (subst (λ (r : Option Answer). IfSome r (λ a. Stepped (image_in s) (world_in s) (asked told) (record { answer = answered a; world = left })))
    c.in-Some.is (behind.answer.ensures (world_in s) (around told)).done) behind.answer.auto.pool refl refl refl (four s)
    (λ j. omega (arith, c.slice_known-in-Ok-1.given j))

-- refused without a look at a sandbox
pub refused : (c : tie.In-Err Inv-loop μ-loop) → let s = c.before in
    Answers s (pool_in s) (table_in s) (state_in s) (Err c.in-Err.why)
refused c =
    let s = c.before in
    record {
      turned = refused-line (image_in s) (world_in s) (state_in s).sound (known s) (line_of s) c.in-Err.why
          (sym c.in-Err.is ∙ c.ask-asked.ensures);
      pool_kept = refl;
      table_kept = refl;
      small = omega arith;
      first = refl;
      known = refl;
      four = four s;
      bytes = (loop_of s).loop-i.invariant.1.bytes;
    }
