-- The values: each accepted request has the plain machine's.
use mathlib.Core.Path.{◌≡◌, ap, ◌∙◌}
use mathlib.Core.Bool.{true, false, ◌&&◌}
use Prim.Native.Nat.{ℕ, ◌+◌, ◌*◌, ◌<◌}
use native.Mathlib.Omega.{arith}
use lib.Dec.{ltb}
use lib.ListN.{get_or}
use borrow.Author.Tests.{eqb-true, ltb-true}
use Rattle.basics.specs.Choice.{◌when◌else◌}
use Rattle.basics.specs.Ranges.{count}
use Rattle.basics.proofs.TestLaws.{by_cases, and_left}
use Rattle.interface.specs.declared.request.Request.{Request}
use Rattle.interface.specs.Requests.{◌is◌, map_code, read_code, snapshot_code, rewind_code, report_code, compare_code, page_of, offset_of}
use Rattle.interface.specs.Slots.{Slots, is_mapped, mapped_pages, copied}
use Rattle.interface.specs.Limits.{uses_one, within}
use Rattle.interface.specs.Outcome.{first_of}
use Rattle.interface.specs.Refusals.{all_mapped}
use Rattle.interface.specs.Accepted.{Accepted}
use Rattle.interface.proofs.SlotLaws.{committed-mapped}
use Rattle.comparison.proofs.CompareLaws.{agree-bytes, difference-same, changed-same}
use Rattle.pages.proofs.ListedLaws.{listed_at, same-listed}
use Rattle.marks.specs.Named.{used, used_below}
use Rattle.marks.specs.Marks.{from}
use Rattle.marks.proofs.MarkLaws.{count-run}
use Rattle.table.specs.Store.{entry, back_of}
use Rattle.state.specs.declared.sandbox.Sandbox.{Sandbox}
use Rattle.kept.specs.Spare.{kept_by}
use Rattle.state.specs.World.{World, sandbox_at, record_at, rows_of}
use Rattle.content.specs.Content.{page_read, reads_same, differing, changed}
use Rattle.memory.specs.Memory.{held_by, value_at}
use Rattle.plain.specs.Machine.{Given, Core, Kept, Plain, copy_slots, copy_bytes, shares, view_of, same_at, core_value}
use Rattle.plain.specs.Machine.{frames_held, differing as plainDiffering, changed as plainChanged, value_at as plainValue}
use Rattle.simulation.specs.Lent.{Lent}
use Rattle.simulation.specs.Agrees.{AgreesAt, Agrees}
use Rattle.simulation.proofs.HeldSteps.{used-count, used-one, holds_same}
use Rattle.simulation.proofs.ReadSteps.{page-read, copy-read}
use Rattle.simulation.proofs.SoundLaws.{frames-same}

-- ---- the report

module _ {C : ℕ → Type 0} (g : Given) (w : World) (p : Plain) (A : Agrees C g w p) (s : ℕ) where
  pub held-counts : held_by w.store s ≡ used_below (from (s * 128) w.store.table) 128
  unfolding held_by
  held-counts =
      rw (frames-same g w p A)
      (count-run g.frames A.tidy.filed.few w.store.marks (entry w.store) A.tidy.filed.names (s * 128) 128)

  pub backs-count : s < 4 → used_below (from (s * 128 + 64) w.store.table) 64 ≡ count (p s).traces.back 64
  backs-count l =
      used-count (from (s * 128 + 64) w.store.table) (p s).traces.back 64
      (λ i m.
      ap (λ (x : ℕ). used (get_or w.store.table x 0)) (omega arith)
      ∙ used-one w.store (back_of s i) ((p s).traces.back i) _ ((A.each s l).backs i m))

  pub held_same : s < 4 → held_by w.store s + kept_by (rows_of w s) ≡ frames_held (p s).traces
  held_same l = ap (λ (x : ℕ). x + kept_by (rows_of w s)) held-counts ∙ holds_same g w.store s (sandbox_at w s) (p s) (A.each s l)

-- ---- of an accepted request

module _ {C : ℕ → Type 0} (g : Given) (L : Lent g) (w : World) (p : Plain) (A : Agrees C g w p) (q : Request)
    (met : Accepted (view_of g (shares p) (p q.sandbox).core) q) (low : q.sandbox < 4)
    (mine : AgreesAt g w.store q.sandbox (sandbox_at w q.sandbox) (p q.sandbox)) where
  read_same : q.code ≡ read_code → get_or (page_read g.image w.store (record_at w q.sandbox) q.sandbox (page_of q)) (offset_of q) 0
      ≡ (p q.sandbox).core.pages.bytes (page_of q) (offset_of q)
  unfolding within all_mapped
  read_same e =
      let limits : (ltb q.p1 16384 && uses_one q) ≡ true = rw e at met.in_limits in
      let there : is_mapped ((p q.sandbox).core.pages.slots (page_of q)) ≡ true = rw e at met.mapped in
      let page : page_of q < 64 = omega (arith, ltb-true q.p1 16384 (and_left _ _ limits)) in
      let h = A.holds.each q.sandbox in
      rw (page-read g L w.store q.sandbox (sandbox_at w q.sandbox) (p q.sandbox) h (A.reads q.sandbox) mine (page_of q) page there)
      (listed_at 256 ((p q.sandbox).core.pages.bytes (page_of q)) (offset_of q) (omega arith))

  -- where a page is mapped in both, its bytes and the copy's are what the plain machine has
  same_here : (i : ℕ) → i < 64 → is_mapped ((p q.sandbox).core.pages.slots i) ≡ true → is_mapped (copied (copy_slots (p q.sandbox).core) i) ≡ true
      → reads_same g.image w.store (record_at w q.sandbox) q.sandbox i ≡ same_at (p q.sandbox).core i
  same_here i l m c =
      let b : Sandbox = sandbox_at w q.sandbox in
      let k : Kept = p q.sandbox in
      let h = A.holds.each q.sandbox in
      rw (
        page-read g L w.store q.sandbox b k h (A.reads q.sandbox) mine i l m,
        copy-read g L w.store q.sandbox b k h (A.reads q.sandbox) mine i l c,
      )
      (same-listed 256 (k.core.pages.bytes i) (copy_bytes k.core.copy i))

  -- call 10 compares bytes only where the page is mapped in both
  differing-same : differing g.image w.store (record_at w q.sandbox) q.sandbox ≡ plainDiffering (p q.sandbox).core
  unfolding differing plainDiffering
  differing-same =
      let c : Core = (p q.sandbox).core in
      rw (mine.present, mine.copy)
      (difference-same c.pages.slots (copied (copy_slots c)) (reads_same g.image w.store (record_at w q.sandbox) q.sandbox) (same_at c)
      (λ i l. agree-bytes (c.pages.slots i) (copied (copy_slots c) i) _ _ (same_here i l)))

  -- a rewind those of committed pages, which are mapped in both
  rewind-same : changed g.image w.store (record_at w q.sandbox) q.sandbox ≡ plainChanged (p q.sandbox).core
  unfolding changed plainChanged
  rewind-same =
      let c : Core = (p q.sandbox).core in
      rw mine.present
      (changed-same c.pages.slots (reads_same g.image w.store (record_at w q.sandbox) q.sandbox) (same_at c)
      (λ i l e. same_here i l (committed-mapped (c.pages.slots i) e) ((A.holds.each q.sandbox).committed_in i e)))

  pub value_same : value_at g.image q (sandbox_at w q.sandbox) w.store ≡ plainValue g q (p q.sandbox)
  unfolding value_at core_value
  value_same =
      by_cases (q is report_code)
      (λ r. let c = eqb-true q.code report_code r in
      let m : (q is map_code) ≡ false = rw c in let d : (q is read_code) ≡ false = rw c in let s : (q is snapshot_code) ≡ false = rw c in
      rw (m, d, s, r) (held_same g w p A q.sandbox low)) λ r.
      by_cases (q is map_code) (λ m. rw (r, m) (ap (λ (f : Slots). first_of f q) mine.present)) λ m.
      by_cases (q is read_code) (λ d. rw (r, m, d) (read_same (eqb-true q.code read_code d))) λ d.
      by_cases (q is snapshot_code) (λ s. rw (r, m, d, s) (ap mapped_pages mine.present)) λ s.
      by_cases (q is compare_code)
      (λ c. let wound : (q is rewind_code) ≡ false = rw (eqb-true q.code compare_code c) in rw (r, m, d, s, c, wound) differing-same) λ c.
      by_cases (q is rewind_code) (λ e. rw (r, m, d, s, c, e) rewind-same) (λ e. rw (r, m, d, s, c, e))
