-- The value of an answer is small, since every byte of pool and image is: it has room in the columns of a reply.
use mathlib.Core.Path.{◌≡◌}
use mathlib.Core.Bool.{not}
use mathlib.Core.List.{List}
use Prim.Native.Nat.{ℕ, zero, suc, ◌+◌, ◌*◌, ◌<◌, ◌≤◌, ◌/◌}
use native.Mathlib.Omega.{arith}
use lib.ListN.{length, get_or}
use lib.Dec.{eqb}
use borrow.Author.Tests.{eqb-true}
use Rattle.basics.proofs.TestLaws.{when-cases, passed}
use Rattle.basics.proofs.LoopLaws.{lowest-range}
use Rattle.basics.specs.Ranges.{sum}
use Rattle.interface.specs.declared.request.Request.{Request}
use Rattle.interface.specs.declared.answer.Refusal.{Refusal}
use Rattle.interface.specs.declared.answer.Refusal.TheVariants.{Malformed, NoSuchCall, Unsound, NotOpen, AlreadyOpen, OutsideLimits, SnapshotTaken}
use Rattle.interface.specs.declared.answer.Refusal.TheVariants.{NoSnapshot, NotMapped, AlreadyMapped, NoGap, NotWritable, ShareExceeded, TooManyAreas}
use Rattle.interface.specs.declared.answer.Refusal.TheVariants.{OutputTooShort}
use Rattle.interface.specs.Answers.{Answer}
use Rattle.std.specs.Prelude.{Ok, Err}
use Rattle.interface.specs.declared.page.Backing.{Backing}
use Rattle.interface.specs.declared.page.Backing.TheVariants.{Anonymous, Image}
use Rattle.interface.specs.Requests.{◌is◌, is_call, map_code, read_code, snapshot_code, rewind_code, report_code, compare_code, page_of, offset_of}
use Rattle.interface.specs.Answers.{refusal_number, number_of, value_of, answered}
use Rattle.interface.specs.Slots.{is_committed, backing_at}
use Rattle.comparison.specs.Compare.{lowest_difference}
use Rattle.interface.specs.Outcome.{first_of}
use Rattle.interface.specs.Refusals.{refusal}
use Rattle.interface.proofs.AcceptedLaws.{accepted, map-fits}
use Rattle.interface.proofs.ChargeLaws.{mapped-small}
use Rattle.comparison.proofs.CompareLaws.{changed-small}
use Rattle.frames.specs.declared.Held.{Held}
use Rattle.frames.specs.Frames.{held, count_held}
use Rattle.frames.proofs.FrameLaws.{held-lt}
use Rattle.words.proofs.SumLaws.{sum-le}
use Rattle.pages.specs.Parts.{frame}
use Rattle.pages.proofs.PartLaws.{frame_at, get_or-zeros}
use Rattle.marks.specs.Marks.{marks_to, from}
use Rattle.table.specs.Store.{Store, entry, front_of, back_of, contents, page_in, page_from}
use Rattle.runs.specs.Row.{row}
use Rattle.kept.specs.Spare.{kept_by}
use Rattle.areas.specs.Areas.{slots}
use Rattle.records.specs.declared.Record.{Record}
use Rattle.state.specs.World.{World, sandbox_at, record_at}
use Rattle.table.specs.Backing.{backing_page}
use Rattle.content.specs.Content.{page_under, page_read, reads_same, differing, changed}
use Rattle.memory.specs.Memory.{held_by, value_at}
use Rattle.step.specs.Step.{view_at, Outcome, Stepped, step, number_at}
use Rattle.roll.specs.Play.{FitsLine}

-- each element is a byte
abbrev pub Bytes : List ℕ → Type 0
Bytes xs = (k : ℕ) → get_or xs k 0 < 256

-- a byte stands at every place of a page
abbrev At : ℕ → List ℕ → Type 0
At o xs = get_or xs o 0 < 256

module _ (o : ℕ) (low : o < 256) where
  frame_byte : (xs : List ℕ) (f : ℕ) → Bytes xs → At o (frame 256 xs f)
  frame_byte xs f b = rw (frame_at 256 xs f o low) (b (f * 256 + o))

  backing-byte : (image : List ℕ) (b : Backing) → Bytes image → At o (backing_page image b)
  backing-byte image Anonymous t = rw (get_or-zeros 256 o) (omega arith)
  backing-byte image (Image p) t = frame_byte image p.0 t

  in-byte : (pool : List ℕ) (e : ℕ) (other : List ℕ) → Bytes pool → At o other → At o (page_from other (page_in 256 pool e))
  in-byte pool zero other b h = h
  in-byte pool (suc f) other b h = frame_byte pool f b

  read_byte : (image : List ℕ) (st : Store) (b : Record) (s i : ℕ) → Bytes image → Bytes st.pool → At o (page_read image st b s i)
  unfolding page_read page_under contents
  read_byte image st b s i t u =
      in-byte st.pool (entry st (front_of s i)) _ u
      (when-cases (At o) (is_committed (slots b.present i))
      (λ e. in-byte st.pool (entry st (back_of s i)) (backing_page image (backing_at (slots b.present i))) u
      (backing-byte image (backing_at (slots b.present i)) t))
      (λ e. backing-byte image (backing_at (slots b.present i)) t))

count_low : (h : Held) → count_held h ≤ 128
unfolding count_held
count_low h = sum-le (held h) 128 (held-lt h)

unrefused : (image : List ℕ) (w : World) (q : Request) → number_at image w q ≡ 0 → refusal (view_at image w q.sandbox) q ≡ 0
unfolding number_at
unrefused image w q e = e

-- "Value: first page"
first-low : (image : List ℕ) (w : World) (q : Request) → number_at image w q ≡ 0 → q.code ≡ map_code → first_of (slots (record_at w q.sandbox).present) q ≤ 64
first-low image w q e m =
    let v = view_at image w q.sandbox in
    let fits = map-fits v q (accepted v q (unrefused image w q e)) m in
    omega (arith, fits)

held_low : (st : Store) (s : ℕ) → held_by st s ≤ 128
unfolding held_by
held_low st s = count_low (marks_to (length st.pool / 256) (from (s * 128) st.table) 128).held

-- and eight runs
kept_low : (row : ℕ → Held) → kept_by row ≤ 1024
unfolding kept_by sum
kept_low row =
    omega (
      arith,
      count_low (row 0),
      count_low (row 1),
      count_low (row 2),
      count_low (row 3),
      count_low (row 4),
      count_low (row 5),
      count_low (row 6),
      count_low (row 7),
    )

-- "and 64 if they nowhere differ"
differing-low : (image : List ℕ) (st : Store) (b : Record) (s : ℕ) → differing image st b s ≤ 64
unfolding differing lowest_difference
differing-low image st b s = (lowest-range _ 0 64).1

changed-low : (image : List ℕ) (st : Store) (b : Record) (s : ℕ) → changed image st b s ≤ 64
unfolding changed
changed-low image st b s = changed-small (slots b.present) (reads_same image st b s)

module _ (image : List ℕ) (w : World) (q : Request) (t : Bytes image) (u : Bytes w.store.pool) where
  value_low : number_at image w q ≡ 0 → value_at image q (sandbox_at w q.sandbox) w.store ≤ 65535
  unfolding value_at
  value_low n =
      let b = sandbox_at w q.sandbox in
      when-cases (λ x. x ≤ 65535) (q is map_code) (λ e. let r = first-low image w q n (eqb-true q.code map_code e) in omega (arith, r))
      (λ _. when-cases (λ x. x ≤ 65535) (q is read_code)
      (λ e. let r = read_byte (offset_of q) (omega arith) image w.store b.rec q.sandbox (page_of q) t u in omega (arith, r))
      (λ _. when-cases (λ x. x ≤ 65535) (q is snapshot_code) (λ e. let r = mapped-small (slots b.rec.present) in omega (arith, r))
      (λ _. when-cases (λ x. x ≤ 65535) (q is report_code) (λ e. omega (arith, held_low w.store q.sandbox, kept_low (row b.runs)))
      (λ _. when-cases (λ x. x ≤ 65535) (q is compare_code)
      (λ e. let r = differing-low image w.store b.rec q.sandbox in omega (arith, r))
      (λ _. when-cases (λ x. x ≤ 65535) (q is rewind_code)
      (λ e. let r = changed-low image w.store b.rec q.sandbox in omega (arith, r)) (λ _. omega arith))))))

  pub value-small : (o : Outcome) → Stepped image w q o → o.answer.value ≤ 65535
  unfolding step
  value-small o s =
      rw s.equals
      (when-cases (λ x. x ≤ 65535) (eqb (number_at image w q) 0) (λ e. value_low (eqb-true (number_at image w q) 0 e)) (λ _. omega arith))

-- "Turned back" has 14 rows, and the archive one more
refusal-small : (r : Refusal) → refusal_number r ≤ 15
refusal-small Malformed = omega arith
refusal-small NoSuchCall = omega arith
refusal-small Unsound = omega arith
refusal-small NotOpen = omega arith
refusal-small AlreadyOpen = omega arith
refusal-small OutsideLimits = omega arith
refusal-small SnapshotTaken = omega arith
refusal-small NoSnapshot = omega arith
refusal-small NotMapped = omega arith
refusal-small AlreadyMapped = omega arith
refusal-small NoGap = omega arith
refusal-small NotWritable = omega arith
refusal-small ShareExceeded = omega arith
refusal-small TooManyAreas = omega arith
refusal-small OutputTooShort = omega arith

number_small : (a : Answer) → number_of a ≤ 15
number_small (Ok v) = omega arith
number_small (Err r) = refusal-small r

-- so a reply line has room for its numbers
pub fits_line : (line : ℕ) (a : Answer) → line ≤ 999999 → value_of a ≤ 65535 → FitsLine line (answered a)
fits_line line a l v = (omega arith, (omega (arith, number_small a), (omega arith, tt)))
