-- What a host finds in pool and table afterwards is what demand 3 says of the run that its roll is.
use mathlib.Core.Path.{◌≡◌, refl, ap, ◌∙◌}
use mathlib.Core.Bool.{true}
use mathlib.Core.List.{List, []}
use Prim.Native.Nat.{ℕ, ◌+◌, ◌*◌, ◌<◌}
use native.Mathlib.Omega.{arith}
use lib.ListN.{length}
use Rattle.basics.specs.Ranges.{sum}
use Rattle.interface.specs.declared.request.Request.{Request}
use Rattle.interface.specs.Answers.{Answered}
use Rattle.lines.specs.Lines.{lines_of}
use Rattle.pages.specs.Parts.{zeros}
use Rattle.marks.specs.Named.{used_below}
use Rattle.marks.specs.Marks.{from}
use Rattle.table.specs.Store.{front_of, back_of}
use Rattle.state.specs.World.{World, world_of, fresh_machine, sandbox_at}
use Rattle.state.specs.Start.{started_by}
use Rattle.plain.specs.Machine.{Given, frames_held, copy_bytes}
use Rattle.plain_claims.specs.Lists.{up_to}
use Rattle.simulation.specs.Lent.{Lent}
use Rattle.simulation.proofs.HeldSteps.{used-one, entries-same}
use Rattle.claims.specs.Demands.{Run, none, more, RunFrom}
use Rattle.claims.proofs.Runs.{list-agrees}
use Rattle.claims.proofs.Claims.{claim-start, claim-3}
use Rattle.roll.specs.Play.{lines_in, requests, replies, printed}
use Rattle.roll.specs.Replies.{lent}
use Rattle.roll.proofs.RepliesLaws.{run_of}
use Rattle.host_rolls.specs.FromStart.{Regions, regions, Room, FromStart}
use Rattle.host_rolls.specs.Left.{LeftAt, Left}
use Rattle.host_rolls.specs.Promised.{right_lengths}

module _ (g : Given) (L : Lent g) (qs : List Request) (as' : List Answered) (v : World) (r : RunFrom g qs as' v) where
  left_at : (s : ℕ) → s < 4 → LeftAt v.store.pool v.store.table s (up_to g qs s)
  unfolding frames_held
  left_at s l =
      let A = list-agrees g L qs as' v r in
      let a = A.each s l in
      let k = up_to g qs s in
      let D = claim-3 g L in
      let counts : used_below (from (s * 128) v.store.table) 128 + sum k.traces.runs 8 ≡ frames_held k.traces =
      omega (arith, entries-same g v.store s (sandbox_at v s) k a) in
      record {
        front_marks = λ i d. used-one v.store (front_of s i) (k.traces.front i) (k.core.pages.bytes i) (a.fronts i d);
        back_marks = λ i d. used-one v.store (back_of s i) (k.traces.back i) (copy_bytes k.core.copy i) (a.backs i d);
        fronts = λ i f d. (D.frames qs as' v r).fronts s i f l d;
        backs = λ i f d. (D.frames qs as' v r).backs s i f l d;
        counted = counts;
        share = omega (arith, counts, (A.holds.each s).in_share);
        covered = rw (← a.share, ← a.present) ((D.promise qs as' v r).covered s l);
      }

  left_by : Left g qs v.store.pool v.store.table
  left_by =
      let A = list-agrees g L qs as' v r in
      let D = claim-3 g L in
      record {
        bytes = A.tidy.filed.pages;
        entries = A.tidy.filed.entries;
        named = A.tidy.filed.names.within;
        once = A.tidy.filed.names.once;
        rest = (D.frames qs as' v r).rest;
        each = left_at;
        pooled = A.holds.pooled;
        rewound_fronts = λ s i f l d w. (D.rewound s qs as' v l r w).fronts i f d;
        rewound_backs = λ s i f l d w. (D.rewound s qs as' v l r w).backs i f d;
      }

-- where the lent lengths are right and the replies fit
pub left_behind : (image roll : List ℕ) (before after : Regions) (lines : ℕ)
    → FromStart image roll before after lines
    → right_lengths image before ≡ true
    → Room roll before.out
    → Left (lent image before.pool) (requests (lines_in roll (lines_of (length roll)))) after.pool after.table
left_behind image roll before after lines r ok room =
    let p = (r.played room).1 in
    left_by _ (claim-start before.pool before.table image ok).0 _ p.answers _
    (run_of image roll before.pool before.table before.out after.out _ ok p)

-- ---- a roll of no bytes

run_none : {image : List ℕ} {w v : World} {qs : List Request} {as' : List Answered} → Run image w qs as' v → qs ≡ [] → v ≡ w
run_none none e = refl
run_none (more s r) e = absurd (omega (arith, ap length e))

-- is a start alone: pool and table are cleared, and nothing is printed
pub empty-roll : (image : List ℕ) (before after : Regions) (lines : ℕ)
    → FromStart image [] before after lines
    → right_lengths image before ≡ true
    → (lines ≡ 0) × (after ≡ regions (zeros (length before.pool)) (zeros 512) before.out)
unfolding lines_of lines_in requests replies printed started_by
empty-roll image before after lines r ok =
    let room : Room [] before.out = omega arith in
    let p = (r.played room).1 in
    let cleared : started_by before.pool before.table image ≡ world_of fresh_machine (zeros (length before.pool)) (zeros 512) = rw ok in
    let same = run_none p.run refl ∙ cleared in
    (r.answered room, λ i. record { pool = (same i).store.pool; table = (same i).store.table; out = p.prints i })
