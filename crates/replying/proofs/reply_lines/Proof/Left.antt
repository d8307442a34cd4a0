-- Ways of a line that is not answered in place: it is a write, which is known not to be refused and takes a frame, or its sandbox is acted on. Either way a
-- sandbox is put back.
use mathlib.Core.Path.{◌≡◌, ap, subst, ◌∙◌}
use native.Mathlib.Omega.{arith}
use lib.ListN.{length}
use Rattle.std.specs.Prelude.{Ok, Option, IfNone}
use Rattle.interface.specs.Answers.{Answer}
use Rattle.interface.specs.Requests.{write_code}
use Rattle.table.specs.Store.{kept}
use Rattle.step.specs.Step.{number_at}
use Rattle.step.specs.Acted.{world_from, Stands}
use Rattle.step.proofs.ActedLaws.{standing, stepped-back, own-asked}
use Rattle.replying.proofs.WriteLaws.{not-refused, acted-write}
use Rattle.replying.proofs.reply_lines.Tie as tie
use Rattle.replying.proofs.reply_lines.Proof.Upto.{Inv-loop, μ-loop}
use Rattle.replying.proofs.reply_lines.Proof.Ways.{image_in, state_in, pool_in, table_in, world_in, machine_in, four, Answers, asking, asked, calls}
use Rattle.replying.proofs.reply_lines.Proof.Ways.{passes, own, around, with_one, put-back, told_at}

-- what the four sandboxes have together was put together behind a call that was left, and the pool is as it was
abbrev pub left_at : tie.After-put_together-all Inv-loop μ-loop → tie.After-answer Inv-loop μ-loop
left_at c = c.before.before.before.before.before

pool-stays : (c : tie.After-put_together-all Inv-loop μ-loop) → (left_at c).answer.new.pool ≡ pool_in (asking (told_at (left_at c)))
pool-stays c =
    let behind = left_at c in
    let told = told_at behind in
    let s = asking told in
    subst (λ (r : Option Answer). IfNone r (behind.answer.new.pool ≡ pool_in s)) c.in_default.is (behind.answer.ensures (world_in s) (around told)).left

pub stands : (c : tie.After-put_together-all Inv-loop μ-loop) → let told = told_at (left_at c) in let s = asking told in let all = c.put_together-all.result in
    Stands (image_in s) (asked told) (own told) all (kept all.held (left_at c).answer.new.pool (table_in s)) (state_in s).sandboxes
stands c =
    let told = told_at (left_at c) in
    let s = asking told in
    let found = c.put_together-all in
    standing (image_in s) (asked told) (machine_in s) (pool_in s) _ (table_in s) found.result found.ensures.0 (pool-stays c)
    (four s) (calls told).low (passes told) found.ensures.1.0 found.ensures.1.1

-- a write that takes a frame: it is not refused, and its runs are put back
abbrev pub writing : tie.After-write-arg-then-q-eq-WRITE-1 Inv-loop μ-loop → tie.After-put_together-all Inv-loop μ-loop
writing c = c.before.before.before.before

pub writes : (c : tie.After-write-arg-then-q-eq-WRITE-1 Inv-loop μ-loop) → (asked (told_at (left_at (writing c)))).code ≡ write_code
writes c = c.if-q-eq-WRITE.true

pub unrefused : (c : tie.After-write-arg-then-q-eq-WRITE-1 Inv-loop μ-loop) →
    let found = writing c in
    let s = asking (told_at (left_at found)) in
    let all = found.put_together-all.result in
    number_at (image_in s) (world_from (state_in s).sandboxes (kept all.held (left_at found).answer.new.pool (table_in s))) (asked (told_at (left_at found)))
    ≡ 0
unrefused c =
    let found = writing c in
    let behind = left_at found in
    let told = told_at behind in
    let s = asking told in
    not-refused (image_in s) (asked told) (machine_in s) (pool_in s) _ (table_in s) found.put_together-all.result found.put_together-all.ensures.0
    (pool-stays found)
    (subst (λ (r : Option Answer). IfNone r ((asked told).code ≡ write_code → number_at (image_in s) (world_in s) (asked told) ≡ 0)) found.in_default.is
    (behind.answer.ensures (world_in s) (around told)).accepted (writes c))

abbrev pub written_at : tie.After-marks-then-q-eq-WRITE-1 Inv-loop μ-loop → tie.After-write-left Inv-loop μ-loop
written_at c = c.before.before.before.before.before.before.before

pub written : (c : tie.After-marks-then-q-eq-WRITE-1 Inv-loop μ-loop) →
    let did = written_at c in
    let told = told_at (left_at (writing did.before)) in
    let s = asking told in
    Answers s did.write-left.new.pool did.write-left.new.table
    (with_one (state_in s) (asked told).sandbox (record { rec = (own told).rec; runs = did.write-left.result.runs }) did.write-left.result.held) (Ok 0)
written c =
    let did = written_at c in
    let found = writing did.before in
    let told = told_at (left_at found) in
    let s = asking told in
    let all = found.put_together-all.result in
    let st = kept all.held (left_at found).answer.new.pool (table_in s) in
    let row = (state_in s).sandboxes in
    let n = unrefused did.before in
    put-back told _ _ (record { rec = (own told).rec; runs = did.write-left.result.runs }) did.write-left.result.held (Ok 0)
    (stepped-back (image_in s) (asked told) (machine_in s) (pool_in s) _ (table_in s) all found.put_together-all.ensures.0 (pool-stays found) _
    (acted-write (image_in s) (asked told) (own told) all st row (stands found) (writes did.before) n _ did.write-left.result.runs
    (did.write-left.ensures row (own-asked (image_in s) (asked told) (own told) all st row (stands found) n))))
    (did.write-left.auto.pool ∙ ap length (pool-stays found)) did.write-left.auto.table
    (λ j. omega (arith, c.slice_known-then-q-eq-WRITE-1.given j))

-- acted on, and put back
abbrev pub acting : tie.After-act-arg-in-Ok-1 Inv-loop μ-loop → tie.After-put_together-all Inv-loop μ-loop
acting c = c.before.before.before.before

abbrev pub acted-at : tie.After-marks-in-Ok-1 Inv-loop μ-loop → tie.After-act-acted Inv-loop μ-loop
acted-at c = c.before.before.before.before.before.before

pub acted : (c : tie.After-marks-in-Ok-1 Inv-loop μ-loop) →
    let did = acted-at c in
    let told = told_at (left_at (acting did.before)) in
    let s = asking told in
    let left = did.act-acted.result in
    Answers s did.act-acted.new.pool did.act-acted.new.table (with_one (state_in s) (asked told).sandbox left.sandbox left.held) left.answer
acted c =
    let did = acted-at c in
    let found = acting did.before in
    let told = told_at (left_at found) in
    let s = asking told in
    put-back told _ _ did.act-acted.result.sandbox did.act-acted.result.held did.act-acted.result.answer
    (stepped-back (image_in s) (asked told) (machine_in s) (pool_in s) _ (table_in s) found.put_together-all.result
    found.put_together-all.ensures.0 (pool-stays found) _ (did.act-acted.ensures (state_in s).sandboxes (stands found)))
    (did.act-acted.auto.pool ∙ ap length (pool-stays found)) did.act-acted.auto.table
    (λ j. omega (arith, c.slice_known-in-Ok-2-1.given j))
