-- The store after an accepted request: what the fronts and backs of its sandbox hold, and that those of the others hold what they held.
use mathlib.Core.Path.{◌≡◌, refl, sym, ap, ◌∙◌, fun_ext}
use mathlib.Core.Logic.{inl, inr, ⊎_elim}
use mathlib.Core.Bool.{true, false, ◌&&◌}
use mathlib.Core.Option.{some, none}
use Prim.Native.Nat.{ℕ, ◌+◌, ◌*◌, ◌≤◌, ◌<◌}
use native.Mathlib.Omega.{arith}
use lib.Dec.{eqb, ltb}
use lib.ListN.{set}
use borrow.Author.Tests.{eq-eqb, ne_eqb, eqb-true, eqb-false, ltb-true, leb-true}
use Rattle.basics.specs.Ranges.{inside, over}
use Rattle.basics.proofs.TestLaws.{by_cases, and_left, and_right}
use Rattle.basics.proofs.RangeLaws.{inside-first, inside-end}
use Rattle.interface.specs.declared.request.Request.{Request}
use Rattle.interface.specs.Requests.{◌is◌, map_code, unmap_code, write_code, snapshot_code, rewind_code, page_of, offset_of}
use Rattle.interface.specs.Slots.{is_mapped, is_committed}
use Rattle.interface.specs.Limits.{pages_ok, uses_two, within}
use Rattle.interface.specs.Outcome.{copy_after}
use Rattle.interface.specs.Refusals.{all_mapped}
use Rattle.interface.specs.Accepted.{Accepted}
use Rattle.interface.proofs.SlotLaws.{untaken-copied}
use Rattle.interface.proofs.KindLaws.{Kind, is_map, is_unmap, is_protect, is_write, is_snapshot, is_rewind, is_other}
use Rattle.frames.specs.Frames.{held}
use Rattle.pages.specs.Parts.{listed}
use Rattle.pages.proofs.ListedLaws.{length-listed, listed-set}
use Rattle.marks.proofs.NamedLaws.{by-entry}
use Rattle.table.specs.Store.{Store, entry, front_of, back_of, contents, over_page, Tidy, store_byte, move_to}
use Rattle.table.proofs.FiledLaws.{other-sandbox}
use Rattle.table.proofs.StoreLaws.{take-tidy, take_same, take-other, store_byte-tidy, store_byte-same, store_byte-other}
use Rattle.table.proofs.FreeLaws.{free_to-tidy, free_to-in, free_to-out}
use Rattle.table.proofs.MoveLaws.{Moved, moved}
use Rattle.rewind_cases.proofs.BeforeLaws.{front_before}
use Rattle.rewound_store.proofs.RewindLaws.{rewind_to-tidy, rewind_to-in, rewind_to-out}
use Rattle.state.specs.declared.sandbox.Sandbox.{Sandbox}
use Rattle.runs.specs.Row.{row}
use Rattle.kept.specs.Spare.{Rows, Spare}
use Rattle.content.specs.Content.{copy_backing, copy_page}
use Rattle.memory.specs.Memory.{touched, keeps_front, store_after}
use Rattle.plain.specs.Machine.{Given, Kept, copy_slots, copy_bytes, stored, bytes_after, front_after, back_after, kept_after, view_of}
use Rattle.plain_claims.specs.Claims.{Keeps, Reads}
use Rattle.simulation.specs.Lent.{Lent}
use Rattle.simulation.specs.Agrees.{page_if, AgreesAt}
use Rattle.simulation.proofs.MapSteps.{Stored, inside-out, stored-map}
use Rattle.simulation.proofs.ReadSteps.{at, copy-there, copy-page, under, mark-none, frame_is}

-- a write names one of 64 pages
pub write-page : (images : ℕ) (q : Request) → q.code ≡ write_code → within images q ≡ true → page_of q < 64
unfolding within
write-page images q e w =
    let limits : (ltb q.p1 16384 && (ltb q.p2 256 && uses_two q)) ≡ true = rw e at w in
    omega (arith, ltb-true q.p1 16384 (and_left _ _ limits))

module _ {C : ℕ → Type 0} (g : Given) (L : Lent g) (q : Request) (st : Store) (T : Tidy C 256 g.frames st) (b : Sandbox) (k : Kept)
    (in_row : q.sandbox < 4) (h : Keeps k) (r : Reads g k) (A : AgreesAt g st q.sandbox b k) where
  -- what a rewind makes of a front
  rewound-front : (i : ℕ) → i < 64
      → front_before (keeps_front b.rec i) (copy_page g.image b.rec i) (contents 256 st (back_of q.sandbox i))
      (contents 256 st (front_of q.sandbox i))
      ≡ page_if (k.traces.front i && is_committed (k.core.pages.slots i)) (copy_bytes k.core.copy i)
  rewound-front i l =
      rw (A.backs i l, A.fronts i l, at g L st q.sandbox b k h r A i)
      (by_cases (k.traces.front i)
      (λ m. by_cases (is_committed (k.core.pages.slots i))
      (λ c. by_cases (k.traces.back i)
      (λ d. rw (m, c, d))
      (λ d. rw (m, c, d) (ap some (copy-page g L st q.sandbox b k h r A i ∙ ap (listed 256) (sym (r.unbacked i (h.committed_in i c) d))))))
      (λ c. rw (m, c)))
      (λ m. by_cases (is_committed (k.core.pages.slots i)) (λ c. rw (m, c)) (λ c. rw (m, c))))

  module _ (total : ℕ) (a : Accepted (view_of g total k.core) q) (f : ℕ) where
    stored-unmap : q.code ≡ unmap_code → Stored C g st (store_after g.image f q b st) q.sandbox (kept_after g q k)
    unfolding store_after front_after back_after bytes_after copy_after over within
    stored-unmap e =
        let limits : (pages_ok q.p1 q.p2 && uses_two q) ≡ true = rw e at a.in_limits in
        let fits : q.p1 + q.p2 ≤ 64 = leb-true (q.p1 + q.p2) 64 (search (and_left, and_right)) in
        let first : ℕ = front_of q.sandbox q.p1 in
        record {
          tidy = rw e (free_to-tidy 256 g.frames first st T q.p2);
          fronts = λ i l. by_cases (inside q.p1 q.p2 i)
              (λ m. rw (e, m)
              (free_to-in 256 g.frames first st T q.p2 (front_of q.sandbox i)
              (omega (arith, inside-first q.p1 q.p2 i m)) (omega (arith, inside-end q.p1 q.p2 i m))))
              (λ m. rw (e, m)
              (free_to-out 256 g.frames first st T q.p2 (front_of q.sandbox i)
              (⊎_elim (λ n. inl (omega arith)) (λ n. inr (omega arith)) (inside-out q.p1 q.p2 i m)) ∙ A.fronts i l));
          backs = λ i l. rw e (free_to-out 256 g.frames first st T q.p2 (back_of q.sandbox i) (inr (omega arith)) ∙ A.backs i l);
          others = λ t x d l. rw e
              (free_to-out 256 g.frames first st T q.p2 (t * 128 + x)
              (⊎_elim (λ n. inl (omega arith)) (λ n. inr (omega arith)) (other-sandbox q.sandbox t x 128 d l (omega arith))));
        }

    stored-snapshot : q.code ≡ snapshot_code → Stored C g st (store_after g.image f q b st) q.sandbox (kept_after g q k)
    unfolding store_after front_after back_after bytes_after copy_after
    stored-snapshot e =
        let none-back : (i : ℕ) → k.traces.back i ≡ false =
        λ i. by_cases (k.traces.back i) (λ m. absurd (untaken-copied (copy_slots k.core) i (a.untaken (rw e)) (h.back_in i m))) (λ m. m) in
        let empty : (i : ℕ) → i < 64 → contents 256 st (back_of q.sandbox i) ≡ none = λ i l. A.backs i l ∙ rw (none-back i) in
        let m : Moved C 256 g.frames (q.sandbox * 128) st 64 (move_to (q.sandbox * 128) st 64) =
        moved 256 g.frames (q.sandbox * 128) st T (omega arith) empty 64 (omega arith) in
        record {
          tidy = rw e m.tidy;
          fronts = λ i l. rw e (m.fronts i l);
          backs = λ i l. rw e (m.backs i l ∙ A.fronts i l);
          others = λ t x d l. rw e
              (⊎_elim (λ n. m.rest (t * 128 + x) (λ z. omega arith) (λ z. omega arith)) (λ n. m.later (t * 128 + x) (omega arith))
              (other-sandbox q.sandbox t x 128 d l (omega arith)));
        }

    stored-rewind : q.code ≡ rewind_code → Stored C g st (store_after g.image f q b st) q.sandbox (kept_after g q k)
    unfolding store_after front_after back_after bytes_after copy_after
    stored-rewind e =
        let first : ℕ = q.sandbox * 128 in
        let there = copy-there g L st q.sandbox b k h r A in
        record {
          tidy = rw e (rewind_to-tidy g.frames g.image first (keeps_front b.rec) (copy_backing b.rec) there st T 64);
          fronts = λ i l. rw e (rewind_to-in g.frames g.image first (keeps_front b.rec) (copy_backing b.rec) there st T 64 i (omega arith) l
              ∙ rewound-front i l);
          backs = λ i l. rw (e, ← h.back_copied)
              (rewind_to-out g.frames g.image first (keeps_front b.rec) (copy_backing b.rec) there st T 64 (first + i + 64) (inr (omega arith))
              ∙ A.backs i l);
          others = λ u x d l. rw e
              (rewind_to-out g.frames g.image first (keeps_front b.rec) (copy_backing b.rec) there st T 64 (u * 128 + x)
              (⊎_elim (λ n. inl (omega arith)) (λ n. inr (omega arith)) (other-sandbox q.sandbox u x 128 d l (omega arith))));
        }

    stored_other : (q is map_code) ≡ false → (q is unmap_code) ≡ false → (q is write_code) ≡ false → (q is snapshot_code) ≡ false → (q is rewind_code) ≡ false
        → Stored C g st (store_after g.image f q b st) q.sandbox (kept_after g q k)
    unfolding store_after front_after back_after bytes_after copy_after
    stored_other x₁ x₂ x₄ x₅ x₆ =
        record {
          tidy = rw (x₁, x₂, x₄, x₅, x₆) T;
          fronts = λ i l. rw (x₁, x₂, x₄, x₅, x₆) (A.fronts i l);
          backs = λ i l. rw (x₁, x₂, x₄, x₅, x₆) (A.backs i l);
          others = λ t x d l. rw (x₁, x₂, x₄, x₅, x₆) refl;
        }

    -- ---- write

    module _ (free : eqb (entry st (front_of q.sandbox (page_of q))) 0 ≡ true → (f < g.frames) × (held st.marks f ≡ 0)) (e : q.code ≡ write_code) where
      there : is_mapped (k.core.pages.slots (page_of q)) ≡ true
      unfolding all_mapped
      there = rw e at a.mapped

      low : page_of q < 64
      low = write-page _ q e a.in_limits

      -- the page has a front, with what it reads
      record Front (s : Store) : Type 0 where
        tidy : Tidy C 256 g.frames s
        same : contents 256 s (front_of q.sandbox (page_of q)) ≡ some (listed 256 (k.core.pages.bytes (page_of q)))
        other : (j : ℕ) → (j ≡ front_of q.sandbox (page_of q) → ⊥) → contents 256 s j ≡ contents 256 st j

      front : Front (touched g.image f b.rec q.sandbox (page_of q) st)
      unfolding touched
      front =
          let place : ℕ = front_of q.sandbox (page_of q) in
          let in_table : place < 512 = omega (arith, low, in_row) in
          by-entry (Front (touched g.image f b.rec q.sandbox (page_of q) st)) (entry st (front_of q.sandbox (page_of q)))
          (λ z. let t = eq-eqb (entry st place) 0 z in
          let u = free t in
          let n = mark-none st place _ _ (A.fronts (page_of q) low) z in
          let ys = under g L st q.sandbox b k h r A (page_of q) low there n in
          rw (t, ys) (record {
            tidy = take-tidy 256 g.frames st T place f _ in_table z u.0 u.1 (length-listed 256 _);
            same = take_same 256 g.frames st T place f _ in_table z u.0 u.1 (length-listed 256 _);
            other = take-other 256 g.frames st T place f _ in_table z u.0 u.1 (length-listed 256 _);
          }))
          (λ d z. let n = (frame_is st place (k.traces.front (page_of q)) _ (A.fronts (page_of q) low) d z).0 in
          rw (ne_eqb (entry st place) 0 (omega (arith, z))) (record { tidy = T; same = A.fronts (page_of q) low ∙ rw n; other = λ j m. refl }))

      own : contents 256 (store_byte 256 (front_of q.sandbox (page_of q)) (offset_of q) q.p2 (touched g.image f b.rec q.sandbox (page_of q) st))
          (front_of q.sandbox (page_of q))
          ≡ some (listed 256 (stored q k.core.pages.bytes (page_of q)))
      own =
          let s : Store = touched g.image f b.rec q.sandbox (page_of q) st in
          store_byte-same 256 g.frames s front.tidy (front_of q.sandbox (page_of q)) (offset_of q) q.p2
          ∙ ap (over_page (λ xs. set xs (offset_of q) q.p2)) front.same
          ∙ ap some (listed-set 256 (k.core.pages.bytes (page_of q)) (offset_of q) q.p2 (omega arith))
          ∙ ap (λ (x : ℕ → ℕ). some (listed 256 x)) (fun_ext (λ j. rw (eq-eqb (page_of q) (page_of q) refl)))

      stored-write : Stored C g st (store_after g.image f q b st) q.sandbox (kept_after g q k)
      unfolding store_after front_after back_after bytes_after copy_after
      stored-write =
          let s : Store = touched g.image f b.rec q.sandbox (page_of q) st in
          let n : ℕ = g.frames in
          let r : Store = store_byte 256 (front_of q.sandbox (page_of q)) (offset_of q) q.p2 s in
          let other : (j : ℕ) → (j ≡ front_of q.sandbox (page_of q) → ⊥) → contents 256 r j ≡ contents 256 st j =
          λ j m. store_byte-other 256 n s front.tidy (front_of q.sandbox (page_of q)) (offset_of q) q.p2 j m ∙ front.other j m in
          record {
            tidy = rw e (store_byte-tidy 256 n s front.tidy (front_of q.sandbox (page_of q)) (offset_of q) q.p2);
            fronts = λ i l. rw e (by_cases (eqb i (page_of q))
                (λ t. rw (eqb-true i (page_of q) t) (own ∙ rw (eq-eqb (page_of q) (page_of q) refl)))
                (λ t. rw t (other (front_of q.sandbox i) (let d = eqb-false i (page_of q) t in omega arith) ∙ A.fronts i l
                ∙ ap (page_if (k.traces.front i)) (fun_ext {f = k.core.pages.bytes i} {g = stored q k.core.pages.bytes i} (λ j. rw t)))));
            backs = λ i l. rw e (other (back_of q.sandbox i) (omega (arith, low)) ∙ A.backs i l);
            others = λ t x d l. rw e (other (t * 128 + x) (omega (arith, low)));
          }

    pub stored-after : Kind q → (rows : Rows) → Spare 256 g.frames st rows → rows q.sandbox ≡ row b.runs
        → ((q is write_code) ≡ true → eqb (entry st (front_of q.sandbox (page_of q))) 0 ≡ true → (f < g.frames) × (held st.marks f ≡ 0))
        → Stored C g st (store_after g.image f q b st) q.sandbox (kept_after g q k)
    stored-after (is_map e) rows S own z = stored-map g L q st T b k in_row h r A total a f rows S own e
    stored-after (is_unmap e) rows S own z = stored-unmap e
    stored-after (is_protect e) rows S own z = stored_other (rw e) (rw e) (rw e) (rw e) (rw e)
    stored-after (is_write e) rows S own z = stored-write (z (rw e)) e
    stored-after (is_snapshot e) rows S own z = stored-snapshot e
    stored-after (is_rewind e) rows S own z = stored-rewind e
    stored-after (is_other x₁ x₂ x₃ x₄ x₅ x₆) rows S own z = stored_other x₁ x₂ x₄ x₅ x₆
