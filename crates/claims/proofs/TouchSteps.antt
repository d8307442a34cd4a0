-- The store after an accepted request: which entries and which frames stay, and what a write makes of it.
use mathlib.Core.Path.{◌≡◌, refl, ap, ◌∙◌}
use mathlib.Core.Logic.{◌⊎◌, inl, inr, ⊎_elim}
use mathlib.Core.Bool.{true, false, ◌&&◌, false≢true}
use mathlib.Core.List.{List}
use Prim.Native.Nat.{ℕ, suc, ◌+◌, ◌-◌, ◌*◌, ◌≤◌, ◌<◌}
use native.Mathlib.Omega.{arith}
use lib.Dec.{eqb}
use lib.ListN.{length, set}
use borrow.Author.Tests.{eqb-true, eq-eqb, ne_eqb, leb-true, ltb-true, lt-ltb}
use Rattle.basics.proofs.TestLaws.{by_cases, and_left, and_right}
use Rattle.basics.proofs.RangeLaws.{inside-end, inside-yes}
use Rattle.interface.specs.declared.request.Request.{Request}
use Rattle.interface.specs.Requests.{◌is◌, map_code, unmap_code, write_code, snapshot_code, rewind_code, page_of, offset_of}
use Rattle.interface.specs.Slots.{is_committed, backing_at}
use Rattle.run_choice.specs.Runs.{takes_run}
use Rattle.interface.specs.Limits.{pages_ok, uses_two, within}
use Rattle.run_choice.proofs.RunLaws.{granted-run}
use Rattle.interface.proofs.KindLaws.{Kind, is_map, is_unmap, is_protect, is_write, is_snapshot, is_rewind, is_other}
use Rattle.interface.specs.Numbers.{pages_in}
use Rattle.frames.specs.Frames.{held, mark}
use Rattle.frames.proofs.FrameLaws.{lt-or-ge}
use Rattle.pages.specs.Parts.{frame, zeros, set_frame}
use Rattle.marks.proofs.NamedLaws.{by-entry}
use Rattle.table.specs.Store.{Store, kept, entry, front_of, back_of, Filed, Tidy, take, store_byte, move_to}
use Rattle.table.proofs.StoreLaws.{contents-none, page-whole}
use Rattle.table.proofs.TouchLaws.{under_whole}
use Rattle.table.proofs.LeftLaws.{byte-entry, take-other-entry, free_to-entry, move_to-entry, move_to-pool}
use Rattle.table.proofs.LeftLaws.{Left, left-same, free_to-left, byte_left, byte-alone, byte-taken, byte-taken-left}
use Rattle.rewound_store.proofs.LeftLaws.{rewind_to-entry, rewind_to-left}
use Rattle.runs.specs.Row.{lengths_of}
use Rattle.kept.specs.Spare.{grant_to}
use Rattle.kept.proofs.AdoptLaws.{adopted}
use Rattle.kept.proofs.StoreRuns.{grant-entry}
use Rattle.areas.specs.Areas.{slots}
use Rattle.areas.specs.Formed.{WellFormed}
use Rattle.state.specs.declared.sandbox.Sandbox.{Sandbox}
use Rattle.table.specs.Backing.{backing_page}
use Rattle.content.specs.Content.{page_under, page_read, copy_backing}
use Rattle.content.proofs.ReadingLaws.{backing-there}
use Rattle.memory.specs.Memory.{frames_for, touched, keeps_front, store_after}
use Rattle.simulation.proofs.AreaSteps.{image-at}
use Rattle.simulation.proofs.ReadSteps.{backing-whole}
use Rattle.simulation.proofs.StoreSteps.{write-page}
use Rattle.simulation.proofs.GrantSteps.{grant-marked}
use Rattle.claims.specs.Touches.{run_taken, first_page, frame_got, names_front, names_back, names_none}

-- ---- the entries that a request names

module _ (b : Sandbox) (q : Request) where
  names-run : takes_run q ≡ true → (i : ℕ) → first_page b q ≤ i → i < first_page b q + frames_for q b → names_front b q i ≡ true
  unfolding names_front
  names-run y i l m = rw y (inside-yes (first_page b q) (frames_for q b) i l m)

  names-unmap : q.code ≡ unmap_code → (i : ℕ) → q.p1 ≤ i → i < q.p1 + q.p2 → names_front b q i ≡ true
  unfolding names_front
  names-unmap e i l m = rw e (inside-yes q.p1 q.p2 i l m)

  names-write : q.code ≡ write_code → names_front b q (page_of q) ≡ true
  unfolding names_front
  names-write e = rw e (eq-eqb (page_of q) (page_of q) refl)

  names-snapshot : q.code ≡ snapshot_code → (i : ℕ) → i < 64 → names_front b q i ≡ true
  unfolding names_front
  names-snapshot e i l = rw e (lt-ltb i 64 l)

  names-rewind : q.code ≡ rewind_code → (i : ℕ) → i < 64 → names_front b q i ≡ true
  unfolding names_front
  names-rewind e i l = rw e (lt-ltb i 64 l)

module _ (q : Request) where
  names-back : q.code ≡ snapshot_code → (i : ℕ) → i < 64 → names_back q i ≡ true
  unfolding names_back
  names-back e i l = rw e (lt-ltb i 64 l)

  pub no-back : (q is snapshot_code) ≡ false → (i : ℕ) → names_back q i ≡ true → ⊥
  unfolding names_back
  no-back e i h = let z : false ≡ true = rw e at h in false≢true z

  pub back_low : (i : ℕ) → names_back q i ≡ true → i < 64
  unfolding names_back
  back_low i h = by_cases (q is snapshot_code) (λ e. ltb-true i 64 (rw e at h)) (λ e. absurd (no-back e i h))

  module _ (images : ℕ) (limits : within images q ≡ true) where
    unmap-fits : q.code ≡ unmap_code → q.p1 + q.p2 ≤ 64
    unfolding within
    unmap-fits e =
        let w : (pages_ok q.p1 q.p2 && uses_two q) ≡ true = rw e at limits in
        leb-true (q.p1 + q.p2) 64 (search (and_left, and_right))

    -- they are entries of its sandbox
    pub front_low : (b : Sandbox) → (takes_run q ≡ true → first_page b q + frames_for q b ≤ 64) → Kind q → (i : ℕ) → names_front b q i ≡ true → i < 64
    unfolding names_front
    front_low b fits (is_map e) i h =
        by_cases (takes_run q)
        (λ y. omega (arith, inside-end (first_page b q) (frames_for q b) i (rw y at h), fits y))
        (λ y. let z = rw y at h in absurd (false≢true (rw e at z)))
    front_low b fits (is_unmap e) i h = omega (arith, inside-end q.p1 q.p2 i (rw e at h), unmap-fits e)
    front_low b fits (is_protect e) i h = absurd (false≢true (rw e at h))
    front_low b fits (is_write e) i h = omega (arith, eqb-true i (page_of q) (rw e at h), write-page images q e limits)
    front_low b fits (is_snapshot e) i h = ltb-true i 64 (rw e at h)
    front_low b fits (is_rewind e) i h = ltb-true i 64 (rw e at h)
    front_low b fits (is_other x₁ x₂ x₃ x₄ x₅ x₆) i h = absurd (false≢true (rw (x₁, x₂, x₄, x₅, x₆) at h))

-- ---- the calls that name none, and a snapshot

module _ (image : List ℕ) (f : ℕ) (q : Request) (b : Sandbox) (st : Store) where
  pub none_after : Kind q → names_none q ≡ true → store_after image f q b st ≡ st
  unfolding store_after
  none_after (is_map e) h =
      by_cases (eqb q.p1 64 && eqb q.p3 0) (λ y. absurd (false≢true (rw (e, y) at h))) (λ y. rw (e, y))
  none_after (is_unmap e) h = absurd (false≢true (rw e at h))
  none_after (is_protect e) h = rw e
  none_after (is_write e) h = absurd (false≢true (rw e at h))
  none_after (is_snapshot e) h = absurd (false≢true (rw e at h))
  none_after (is_rewind e) h = absurd (false≢true (rw e at h))
  none_after (is_other x₁ x₂ x₃ x₄ x₅ x₆) h = rw (x₁, x₂, x₄, x₅, x₆)

  -- a map that takes a run, and one that takes none
  pub run-after : takes_run q ≡ true → store_after image f q b st ≡ grant_to 256 (front_of q.sandbox (first_page b q)) (run_taken b q) st (frames_for q b)
  unfolding store_after
  run-after y = rw y

  plain-after : q.code ≡ map_code → takes_run q ≡ false → store_after image f q b st ≡ st
  unfolding store_after
  plain-after e y = rw y (rw e)

  moved-after : q.code ≡ snapshot_code → store_after image f q b st ≡ move_to (q.sandbox * 128) st 64
  unfolding store_after
  moved-after e = rw e

  pub pool-after : q.code ≡ snapshot_code → ((store_after image f q b st).pool ≡ st.pool) × ((store_after image f q b st).marks ≡ st.marks)
  pool-after e = rw (moved-after e) (move_to-pool (q.sandbox * 128) st 64)

  -- ---- a write

  -- to a page with a front
  written-front : q.code ≡ write_code → (g : ℕ) → entry st (front_of q.sandbox (page_of q)) ≡ suc g
      → store_after image f q b st ≡ store_byte 256 (front_of q.sandbox (page_of q)) (offset_of q) q.p2 st
  unfolding store_after touched
  written-front e g z = let n = ne_eqb (entry st (front_of q.sandbox (page_of q))) 0 (omega (arith, z)) in rw (n, e)

  -- to a page without
  written_bare : q.code ≡ write_code → entry st (front_of q.sandbox (page_of q)) ≡ 0
      → store_after image f q b st
      ≡ store_byte 256 (front_of q.sandbox (page_of q)) (offset_of q) q.p2
      (take 256 (front_of q.sandbox (page_of q)) f (page_read image st b.rec q.sandbox (page_of q)) st)
  unfolding store_after touched page_read
  written_bare e z =
      let n = eq-eqb (entry st (front_of q.sandbox (page_of q))) 0 z in
      let c = contents-none 256 st (front_of q.sandbox (page_of q)) z in
      rw (n, c, e)

  -- ---- entries

  module _ (k : ℕ) (front : (i : ℕ) → names_front b q i ≡ true → k ≡ front_of q.sandbox i → ⊥)
      (back : (i : ℕ) → names_back q i ≡ true → k ≡ back_of q.sandbox i → ⊥) where
    -- a run of front entries that are all named does not reach k
    outside : (first n : ℕ) → ((i : ℕ) → first ≤ i → i < first + n → names_front b q i ≡ true)
        → (k < front_of q.sandbox first) ⊎ (front_of q.sandbox first + n ≤ k)
    outside first n h =
        ⊎_elim (λ l. inl l)
        (λ l. ⊎_elim (λ m. absurd (front (k - q.sandbox * 128) (h (k - q.sandbox * 128) (omega arith) (omega arith)) (omega arith))) (λ m. inr m)
        (lt-or-ge k (front_of q.sandbox first + n))) (lt-or-ge k (front_of q.sandbox first))

    -- and neither do all front and back entries
    outside-both : q.code ≡ snapshot_code → (k < q.sandbox * 128) ⊎ (q.sandbox * 128 + 128 ≤ k)
    outside-both e =
        ⊎_elim (λ l. inl (omega arith))
        (λ l. ⊎_elim (λ m. absurd (back (k - q.sandbox * 128 - 64) (names-back q e (k - q.sandbox * 128 - 64) (omega arith)) (omega arith))) (λ m. inr m)
        (lt-or-ge k (q.sandbox * 128 + 128))) (outside 0 64 (λ i l m. names-snapshot b q e i (omega arith)))

    pub entries-after : Kind q → entry (store_after image f q b st) k ≡ entry st k
    unfolding store_after
    entries-after (is_map e) =
        by_cases (takes_run q)
        (λ y. rw (run-after y)
        (grant-entry 256 (front_of q.sandbox (first_page b q)) (run_taken b q) st (frames_for q b) k
        (outside (first_page b q) (frames_for q b) (names-run b q y))))
        (λ y. rw (plain-after e y) refl)
    entries-after (is_protect e) = rw e refl
    entries-after (is_other x₁ x₂ x₃ x₄ x₅ x₆) = rw (x₁, x₂, x₄, x₅, x₆) refl
    entries-after (is_unmap e) = rw e (free_to-entry (front_of q.sandbox q.p1) st k 256 q.p2 (outside q.p1 q.p2 (names-unmap b q e)))
    entries-after (is_write e) =
        let place : ℕ = front_of q.sandbox (page_of q) in
        by-entry (entry (store_after image f q b st) k ≡ entry st k) (entry st place)
        (λ z. ap (λ (r : Store). entry r k) (written_bare e z)
        ∙ byte-entry 256 place _ k (offset_of q) q.p2 ∙ take-other-entry 256 place st k f _ (front (page_of q) (names-write b q e)))
        (λ g z. ap (λ (r : Store). entry r k) (written-front e g z) ∙ byte-entry 256 place st k (offset_of q) q.p2)
    entries-after (is_snapshot e) = rw e (move_to-entry (q.sandbox * 128) st k 64 (omega arith) (outside-both e))
    entries-after (is_rewind e) =
        rw e
        (rewind_to-entry image (q.sandbox * 128) (keeps_front b.rec) (copy_backing b.rec) st k 64
        (⊎_elim (λ l. inl (omega arith)) (λ l. inr (omega arith)) (outside 0 64 (λ i l m. names-rewind b q e i (omega arith)))))

-- ---- frames

-- what an accepted request meets: a store of n frames whose marks are those of its entries, whole image pages, well formed areas, its limits, and
-- the frame f named by no entry where it takes it
pub record Meets (image : List ℕ) (f : ℕ) (q : Request) (b : Sandbox) (n : ℕ) (st : Store) : Type 0 where
  pub filed : Filed 256 n st
  pub whole : length image ≡ pages_in (length image) * 256
  pub present : WellFormed (pages_in (length image)) b.rec.present
  pub snapshot : WellFormed (pages_in (length image)) b.rec.snapshot
  pub row : q.sandbox < 4
  pub limits : within (pages_in (length image)) q ≡ true
  -- the run that a map takes is of frames of the pool, which are zero; its new pages are of the 64
  pub blank : (x : ℕ) → x < 128 → held (run_taken b q) x ≡ 1 → (x < n) × (frame 256 st.pool x ≡ zeros 256)
  pub fits : takes_run q ≡ true → first_page b q + frames_for q b ≤ 64
  pub free : (q is write_code) ≡ true → eqb (entry st (front_of q.sandbox (page_of q))) 0 ≡ true → (f < n) × (held st.marks f ≡ 0)

module _ (image : List ℕ) (f : ℕ) (q : Request) (b : Sandbox) (n : ℕ) (st : Store) (m : Meets image f q b n st) where
  -- the written page's front entry, and what the page reads
  abbrev place : ℕ
  place = front_of q.sandbox (page_of q)

  abbrev read : List ℕ
  read = page_read image st b.rec q.sandbox (page_of q)

  tidy : Tidy (λ x. ⊥) 256 n st
  tidy = record { filed = m.filed; clean = λ x c. absurd c }

  read_whole : length read ≡ 256
  unfolding page_read page_under
  read_whole =
      let slot = slots b.rec.present (page_of q) in
      page-whole 256 n st tidy place _
      (under_whole 256 n st tidy (back_of q.sandbox (page_of q)) (backing_page image (backing_at slot))
      (backing-whole image m.whole (backing_at slot) (image-at _ b.rec.present m.present (page_of q))) (is_committed slot))

  -- a write to a page with a front changes one byte
  pub one_byte : q.code ≡ write_code → (g : ℕ) → entry st place ≡ suc g
      → store_after image f q b st ≡ kept st.marks (set st.pool (g * 256 + offset_of q) q.p2) st.table
  one_byte e g z = written-front image f q b st e g z ∙ byte-alone 256 n st tidy place (offset_of q) q.p2 (omega arith) g z

  module _ (e : q.code ≡ write_code) (z : entry st place ≡ 0) where
    in_table : place < 512
    in_table = omega (arith, m.row, write-page _ q e m.limits)

    unheld : (f < n) × (held st.marks f ≡ 0)
    unheld = m.free (rw e) (eq-eqb (entry st place) 0 z)

    -- a write to a page without one takes a frame, fills it, and changes one byte of it
    pub filled : store_after image f q b st
        ≡ kept (mark st.marks f 1) (set (set_frame 256 st.pool f read) (f * 256 + offset_of q) q.p2) (set st.table place (suc f))
    filled =
        written_bare image f q b st e z
        ∙ byte-taken 256 n st tidy place f read in_table z unheld.0 unheld.1 read_whole (offset_of q) q.p2 (omega arith)

    filled-left : (x : ℕ) → (x ≡ f → ⊥) → Left 256 x st (store_after image f q b st)
    filled-left x d =
        rw (written_bare image f q b st e z)
        (byte-taken-left 256 n st tidy place f read in_table z unheld.0 unheld.1 read_whole x (offset_of q) q.p2 d)

  -- a map that takes a run changes no byte of the pool
  pub run-pool : takes_run q ≡ true → (store_after image f q b st).pool ≡ st.pool
  run-pool y =
      rw (run-after image f q b st y)
      (adopted 256 n (front_of q.sandbox (first_page b q)) (run_taken b q) st (omega arith) m.filed.pages m.blank
      (frames_for q b) (granted-run q.p2 (lengths_of b.runs))).1

  run-left : takes_run q ≡ true → (x : ℕ) → ((j : ℕ) → j < frames_for q b → x ≡ frame_got b q j → ⊥) → Left 256 x st (store_after image f q b st)
  run-left y x ungot = record {
    bytes = ap (λ (p : List ℕ). frame 256 p x) (run-pool y);
    marked = rw (run-after image f q b st y) (grant-marked 256 (front_of q.sandbox (first_page b q)) (run_taken b q) st (frames_for q b) x ungot);
  }

  -- a frame that is neither named nor taken, nor got from a run, stays
  pub left_after : (x : ℕ) → ((i : ℕ) → names_front b q i ≡ true → entry st (front_of q.sandbox i) ≡ suc x → ⊥)
      → ((q is write_code) ≡ true → eqb (entry st place) 0 ≡ true → x ≡ f → ⊥)
      → (takes_run q ≡ true → (j : ℕ) → j < frames_for q b → x ≡ frame_got b q j → ⊥) → Kind q → Left 256 x st (store_after image f q b st)
  unfolding store_after
  left_after x unnamed untaken ungot (is_map e) =
      by_cases (takes_run q) (λ y. run-left y x (ungot y)) (λ y. rw (plain-after image f q b st e y) (left-same 256 x st))
  left_after x unnamed untaken ungot (is_protect e) = rw e (left-same 256 x st)
  left_after x unnamed untaken ungot (is_other x₁ x₂ x₃ x₄ x₅ x₆) = rw (x₁, x₂, x₄, x₅, x₆) (left-same 256 x st)
  left_after x unnamed untaken ungot (is_unmap e) =
      rw e
      (free_to-left 256 n st tidy x (front_of q.sandbox q.p1) q.p2
      (λ i l z. unnamed (q.p1 + i) (names-unmap b q e (q.p1 + i) (omega arith) (omega arith)) (ap (entry st) (omega arith) ∙ z)))
  left_after x unnamed untaken ungot (is_write e) =
      by-entry (Left 256 x st (store_after image f q b st)) (entry st place) (λ z. filled-left e z x (untaken (rw e) (eq-eqb (entry st place) 0 z)))
      (λ g z. rw (written-front image f q b st e g z) (byte_left 256 n st tidy x place (unnamed (page_of q) (names-write b q e)) (offset_of q) q.p2))
  left_after x unnamed untaken ungot (is_snapshot e) =
      let stay = move_to-pool (q.sandbox * 128) st 64 in rw e (record { bytes = rw stay.0; marked = rw stay.1 })
  left_after x unnamed untaken ungot (is_rewind e) =
      rw e
      (rewind_to-left n image (q.sandbox * 128) (keeps_front b.rec) (copy_backing b.rec) (backing-there image b.rec.snapshot m.snapshot) st tidy x 64
      (λ i l z. unnamed i (names-rewind b q e i l) z))
