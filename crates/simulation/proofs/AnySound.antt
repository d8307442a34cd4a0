-- Any sound world agrees with a plain machine made from it, whatever its unheld frames hold; so a step keeps any sound world sound.
use mathlib.Core.Path.{◌≡◌, refl, sym, ◌∙◌, ap}
use mathlib.Core.Bool.{Bool, true, false, not, ◌&&◌, false≢true}
use mathlib.Core.Option.{Option, some, none}
use mathlib.Core.List.{List}
use Prim.Native.Nat.{ℕ, ◌+◌, ◌*◌, ◌≤◌, ◌<◌}
use native.Mathlib.Omega.{arith}
use lib.Dec.{ltb, eqb}
use lib.ListN.{length, get_or, get_or-replicate}
use borrow.Author.Tests.{ltb-true, lt-ltb, eq-eqb, ne_eqb}
use Rattle.basics.specs.Choice.{◌when◌else◌}
use Rattle.basics.proofs.TestLaws.{by_cases, when-cases, and_both, never}
use Rattle.interface.specs.declared.request.Request.{Request}
use Rattle.interface.specs.Slots.{Slots, is_mapped, is_committed, backing_at, charge_of, copied}
use Rattle.interface.proofs.SlotLaws.{committed-mapped, uncommitted-mapped, one-mark}
use Rattle.interface.proofs.ChargeLaws.{rewind-charge}
use Rattle.basics.specs.Ranges.{one}
use Rattle.interface.specs.Numbers.{pages_in}
use Rattle.frames.specs.Frames.{none_held, count_held}
use Rattle.frames.proofs.FrameLaws.{none-count, held-zero}
use Rattle.words.proofs.SumLaws.{sum_same}
use Rattle.marks.specs.Named.{used}
use Rattle.marks.specs.Marks.{from}
use Rattle.marks.proofs.MarkLaws.{used-add}
use Rattle.runs.specs.Row.{lengths_of}
use Rattle.kept.specs.Spare.{kept_by}
use Rattle.pages.specs.Parts.{frame}
use Rattle.pages.proofs.PartLaws.{length-frame, fits-pool}
use Rattle.pages.proofs.ListedLaws.{as-listed}
use Rattle.marks.proofs.NamedLaws.{by-entry}
use Rattle.table.specs.Store.{Store, entry, front_of, back_of, contents, Filed}
use Rattle.table.proofs.StoreLaws.{contents-none, contents-some}
use Rattle.areas.specs.Areas.{slots}
use Rattle.areas.proofs.FewAreas.{few-areas}
use Rattle.areas.proofs.OrderLaws.{none-slots, empty-formed}
use Rattle.state.specs.declared.sandbox.Sandbox.{Sandbox}
use Rattle.records.specs.Record.{copy_of}
use Rattle.state.specs.World.{World, sandbox_at, record_at, frames_of}
use Rattle.state.specs.Sound.{SoundAt, Sound}
use Rattle.areas.proofs.OrderLaws.{slots-inside}
use Rattle.records.proofs.SettledLaws.{copied-slots}
use Rattle.state.proofs.SoundLaws.{closed-sandbox}
use Rattle.step.specs.Step.{Outcome, Stepped}
use Rattle.plain.specs.Machine.{Given, Pages, Kept, Plain, closed, frames_held, copy_slots, copy_bytes, backing_byte}
use Rattle.plain_claims.specs.Claims.{Keeps, Reads}
use Rattle.plain_claims.proofs.KeptLaws.{keeps-closed, areas-none, mapped-none}
use Rattle.plain_claims.proofs.ReadLaws.{reads-fresh}
use Rattle.simulation.specs.Lent.{Lent}
use Rattle.simulation.specs.Agrees.{page_if, AgreesAt, Agrees}
use Rattle.simulation.proofs.HeldSteps.{used-count}
use Rattle.simulation.proofs.SoundLaws.{agrees-sound}
use Rattle.simulation.proofs.Simulate.{step-agrees}

-- ---- what a plain machine would keep

-- a page's bytes where it is there, else f
abbrev or_bytes : (ℕ → ℕ) → Option (List ℕ) → ℕ → ℕ
or_bytes f none j = f j
or_bytes f (some xs) j = get_or xs j 0

-- the entry of page i names a frame
abbrev marked_at : Store → ℕ → ℕ → Bool
marked_at st place i = ltb i 64 && not (eqb (entry st place) 0)

abbrev copy_bytes_of : List ℕ → Store → ℕ → Sandbox → ℕ → ℕ → ℕ
copy_bytes_of image st s b i = or_bytes (backing_byte image (backing_at (slots b.rec.snapshot i))) (contents 256 st (back_of s i))

abbrev bytes_of : List ℕ → Store → ℕ → Sandbox → ℕ → ℕ → ℕ
bytes_of image st s b i =
    or_bytes (copy_bytes_of image st s b i when is_committed (slots b.rec.present i) else backing_byte image (backing_at (slots b.rec.present i)))
    (contents 256 st (front_of s i))

abbrev copy_pages : List ℕ → Store → ℕ → Sandbox → Option Pages
copy_pages image st s b = some (record { slots = slots b.rec.snapshot; bytes = copy_bytes_of image st s b }) when b.rec.taken else none

-- of an open sandbox
abbrev kept_of : List ℕ → Store → ℕ → Sandbox → Kept
kept_of image st s b = record {
  core = record {
    opened = b.rec.opened;
    share = b.rec.share;
    pages = record { slots = slots b.rec.present; bytes = bytes_of image st s b };
    copy = copy_pages image st s b;
  };
  traces = record {
    front = λ i. marked_at st (front_of s i) i;
    back = λ i. marked_at st (back_of s i) i;
    copied_back = λ i. marked_at st (back_of s i) i;
    runs = lengths_of b.runs;
  };
}

module _ (image : List ℕ) (n : ℕ) (st : Store) (F : Filed 256 n st) (s : ℕ) (b : Sandbox) (S : SoundAt (pages_in (length image)) st s b) where
  abbrev k : Kept
  k = kept_of image st s b

  copy-slots : copy_slots k.core ≡ copy_of b.rec
  copy-slots = by_cases b.rec.taken (λ t. rw t) (λ t. rw t)

  all-copied : copied (copy_slots k.core) ≡ slots b.rec.snapshot
  all-copied = ap copied copy-slots ∙ copied-slots _ b.rec S.rec

  copy-slot : (i : ℕ) → copied (copy_slots k.core) i ≡ slots b.rec.snapshot i
  copy-slot i = ap (λ (f : Slots). f i) all-copied

  copy-bytes : (i : ℕ) → is_mapped (slots b.rec.snapshot i) ≡ true → copy_bytes k.core.copy i ≡ copy_bytes_of image st s b i
  copy-bytes i m =
      by_cases b.rec.taken (λ t. rw t)
      (λ t. never (is_mapped (slots b.rec.snapshot i)) m (ap (λ (f : Slots). is_mapped (f i)) (ap slots (S.rec.untaken t) ∙ none-slots)))

  -- a mark is an entry
  no-mark : (e i : ℕ) → i < 64 → marked_at st e i ≡ false → contents 256 st e ≡ none
  no-mark e i l m =
      by-entry (contents 256 st e ≡ none) (entry st e) (λ z. contents-none 256 st e z)
      (λ f z. absurd (false≢true (sym m ∙ rw (lt-ltb i 64 l, ne_eqb (entry st e) 0 (omega (arith, z))))))

  low-mark : (e i : ℕ) → marked_at st e i ≡ true → (i < 64) × (entry st e ≡ 0 → ⊥)
  low-mark e i m =
      let x = and_both (ltb i 64) (not (eqb (entry st e) 0)) m in
      (ltb-true i 64 x.0, λ z. false≢true (sym (rw (eq-eqb (entry st e) 0 z)) ∙ x.1))

  page-is : (e i : ℕ) (f : ℕ → ℕ) → i < 64 → contents 256 st e ≡ page_if (marked_at st e i) (or_bytes f (contents 256 st e))
  page-is e i f l =
      by-entry (contents 256 st e ≡ page_if (marked_at st e i) (or_bytes f (contents 256 st e))) (entry st e)
      (λ z. rw (contents-none 256 st e z, lt-ltb i 64 l, eq-eqb (entry st e) 0 z))
      (λ d z. rw (contents-some 256 st e d z, lt-ltb i 64 l, ne_eqb (entry st e) 0 (omega (arith, z)))
      (ap some (as-listed 256 (λ j. get_or (frame 256 st.pool d) j 0) (frame 256 st.pool d)
      (length-frame 256 st.pool d (fits-pool 256 n st.pool d F.pages (F.names.within e d z))) (λ o m. refl))))

  mapped-front : (i : ℕ) → marked_at st (front_of s i) i ≡ true → is_mapped (slots b.rec.present i) ≡ true
  mapped-front i m = let x = low-mark (front_of s i) i m in by_cases (is_mapped (slots b.rec.present i)) (λ y. y) (λ y. absurd (x.1 (S.fronts i x.0 y)))

  mapped-back : (i : ℕ) → marked_at st (back_of s i) i ≡ true → is_mapped (slots b.rec.snapshot i) ≡ true
  mapped-back i m = let x = low-mark (back_of s i) i m in by_cases (is_mapped (slots b.rec.snapshot i)) (λ y. y) (λ y. absurd (x.1 (S.backs i x.0 y)))

  marked-used : (e i : ℕ) → i < 64 → used (entry st e) ≡ one (marked_at st e i)
  marked-used e i l =
      by-entry (used (entry st e) ≡ one (marked_at st e i)) (entry st e)
      (λ z. rw (lt-ltb i 64 l, eq-eqb (entry st e) 0 z) (rw z))
      (λ f z. rw (lt-ltb i 64 l, ne_eqb (entry st e) 0 (omega (arith, z))) (rw z))

  in-share : frames_held k.traces ≤ b.rec.share
  unfolding frames_held kept_by
  in-share =
      omega (
        arith,
        used-add (from (s * 128) st.table) 64 64,
        used-count (from (s * 128) st.table) (λ i. marked_at st (front_of s i) i) 64 (λ i l. marked-used (front_of s i) i l),
        used-count (λ i. from (s * 128) st.table (64 + i)) (λ i. marked_at st (back_of s i) i) 64
            (λ i l. ap (λ (x : ℕ). used (get_or st.table x 0)) (omega arith) ∙ marked-used (back_of s i) i l),
        S.in_share,
      )

  keeps : b.rec.opened ≡ true → Keeps k
  unfolding charge_of
  keeps o =
      record {
        charged = rw copy-slots S.rec.charged;
        in_areas = few-areas _ b.rec.present S.rec.present;
        front_mapped = mapped-front;
        committed_in = λ i c. rw (copy-slot i) (S.rec.committed i c);
        back_in = λ i m. rw (copy-slot i) (mapped-back i m);
        in_share = in-share;
        back_copied = refl;
        inside = slots-inside _ b.rec.present S.rec.present;
        copy_inside = λ i m. slots-inside _ b.rec.snapshot S.rec.snapshot i (rw (copy-slot i) at m);
        copy_charged = by_cases b.rec.taken
            (λ t. let c = rw t at S.rec.charged in
            rw t (omega (arith, c, rewind-charge (slots b.rec.present) (slots b.rec.snapshot) S.rec.marked)))
            (λ t. rw t (omega (arith, mapped-none)));
        copy_areas = by_cases b.rec.taken (λ t. rw t (few-areas _ b.rec.snapshot S.rec.snapshot)) (λ t. rw t (omega (arith, areas-none)));
        open_share = S.rec.shared;
        closed_empty = λ e. never b.rec.opened o e;
      }

  reads : (g : Given) → g.image ≡ image → Reads g k
  reads g e =
      record {
        old = λ i c f.
            let l = slots-inside _ b.rec.present S.rec.present i (committed-mapped (slots b.rec.present i) c) in
            rw (no-mark (front_of s i) i l f, c) (sym (copy-bytes i (S.rec.committed i c)));
        new = λ i c f.
            let l = slots-inside _ b.rec.present S.rec.present i (uncommitted-mapped (slots b.rec.present i) c) in
            let u : is_committed (slots b.rec.present i) ≡ false =
            by_cases (is_committed (slots b.rec.present i)) (λ d. one-mark (slots b.rec.present i) c d) (λ d. d) in
            rw (no-mark (front_of s i) i l f, u, e);
        unbacked = λ i m f.
            let y = rw (copy-slot i) at m in
            let l = slots-inside _ b.rec.snapshot S.rec.snapshot i y in
            copy-bytes i y ∙ rw (no-mark (back_of s i) i l f, e, copy-slot i);
        backing = λ i c. rw (copy-slot i) (S.rec.backing i c);
        marked = λ i. rw (copy-slot i) (S.rec.marked i);
      }

  agrees_at : (g : Given) → g.image ≡ image → AgreesAt g st s b k
  agrees_at g e =
      record {
        opened = refl;
        share = refl;
        formed = rw e S.rec.present;
        present = refl;
        formed_copy = rw e S.rec.snapshot;
        taken = by_cases b.rec.taken (λ t. rw t) (λ t. rw t);
        copy = sym all-copied;
        untaken = S.rec.untaken;
        closed = closed-sandbox _ st s b S;
        places = S.places;
        runs = λ i l. refl;
        fronts = λ i l. page-is (front_of s i) i _ l;
        backs = λ i l. by_cases (marked_at st (back_of s i) i)
            (λ m. page-is (back_of s i) i _ l ∙ ap (page_if (marked_at st (back_of s i) i)) (sym (copy-bytes i (mapped-back i m))))
            (λ m. rw m (no-mark (back_of s i) i l m));
      }

  -- a closed sandbox has no page and no entry
  agrees-closed : (g : Given) → b.rec.opened ≡ false → AgreesAt g st s b closed
  agrees-closed g o =
      let none-mapped : (i : ℕ) → is_mapped (slots b.rec.present i) ≡ false =
      λ i. rw (closed-sandbox _ st s b S o) (ap (λ (f : Slots). is_mapped (f i)) none-slots) in
      let none-copied : (i : ℕ) → is_mapped (slots b.rec.snapshot i) ≡ false =
      λ i. rw (closed-sandbox _ st s b S o) (ap (λ (f : Slots). is_mapped (f i)) none-slots) in
      record {
        opened = o;
        share = ap (λ (x : Sandbox). x.rec.share) (closed-sandbox _ st s b S o);
        formed = rw (closed-sandbox _ st s b S o) (empty-formed _);
        present = rw (closed-sandbox _ st s b S o) none-slots;
        formed_copy = rw (closed-sandbox _ st s b S o) (empty-formed _);
        taken = ap (λ (x : Sandbox). x.rec.taken) (closed-sandbox _ st s b S o);
        copy = rw (closed-sandbox _ st s b S o) none-slots;
        untaken = S.rec.untaken;
        closed = closed-sandbox _ st s b S;
        places = S.places;
        runs = λ i l. rw (closed-sandbox _ st s b S o) (ap count_held (get_or-replicate 8 i none_held none_held l) ∙ none-count none_held (λ f d. held-zero f));
        fronts = λ i l. contents-none 256 st (front_of s i) (S.fronts i l (none-mapped i));
        backs = λ i l. contents-none 256 st (back_of s i) (S.backs i l (none-copied i));
      }

-- of any sandbox
abbrev pub kept_for : List ℕ → Store → ℕ → Sandbox → Kept
kept_for image st s b = kept_of image st s b when b.rec.opened else closed

module _ (g : Given) (st : Store) (F : Filed 256 g.frames st) (s : ℕ) (b : Sandbox) (S : SoundAt (pages_in (length g.image)) st s b) where
  pub kept-keeps : Keeps (kept_for g.image st s b)
  kept-keeps = when-cases Keeps b.rec.opened (keeps g.image g.frames st F s b S) (λ _. keeps-closed)

  pub kept-reads : Reads g (kept_for g.image st s b)
  kept-reads = when-cases (Reads g) b.rec.opened (λ _. reads g.image g.frames st F s b S g refl) (λ _. reads-fresh g s)

  pub kept-agrees : AgreesAt g st s b (kept_for g.image st s b)
  kept-agrees =
      when-cases (AgreesAt g st s b) b.rec.opened
      (λ _. agrees_at g.image g.frames st F s b S g refl)
      (agrees-closed g.image g.frames st F s b S g)

-- ---- the world

pub plain_of : List ℕ → World → Plain
plain_of image w s = kept_for image w.store s (sandbox_at w s) when ltb s 4 else closed

module _ (image : List ℕ) (w : World) (S : Sound image w) where
  abbrev given : Given
  given = record { image = image; frames = frames_of w }

  lent : Lent given
  lent = record { frames = S.frames; few = S.filed.few; image = S.whole; images = S.images }

  -- a property of what is kept for each
  for-each : (P : Kept → Type 0) → P closed → ((s : ℕ) → s < 4 → P (kept_for image w.store s (sandbox_at w s))) → (s : ℕ) → P (plain_of image w s)
  unfolding plain_of
  for-each P c h s = when-cases P (ltb s 4) (λ l. h s (ltb-true s 4 l)) (λ _. c)

  agrees-each : (s : ℕ) → s < 4 → AgreesAt given w.store s (sandbox_at w s) (plain_of image w s)
  unfolding plain_of
  agrees-each s l = rw (lt-ltb s 4 l) (kept-agrees given w.store S.filed s (sandbox_at w s) (S.each s l))

  sound-agrees : Agrees (λ f. ⊥) given w (plain_of image w)
  sound-agrees =
      record {
        tidy = record { filed = S.filed; clean = λ f c. absurd c };
        row = S.row;
        spare = S.spare;
        words = S.words;
        each = agrees-each;
        holds = record {
          each = for-each Keeps keeps-closed (λ s l. kept-keeps given w.store S.filed s (sandbox_at w s) (S.each s l));
          pooled = omega (arith, S.pooled, sum_same (λ t. (record_at w t).share) (λ t. (plain_of image w t).core.share) 4 (λ t l. (agrees-each t l).share));
        };
        reads = for-each (Reads given) (reads-fresh given 0) (λ s l. kept-reads given w.store S.filed s (sandbox_at w s) (S.each s l));
      }

  -- whatever is called, a sound world stays sound
  pub stays-sound : (q : Request) (o : Outcome) → Stepped image w q o → Sound image o.world
  stays-sound q o s = agrees-sound given o.world _ (step-agrees given lent w (plain_of image w) sound-agrees q o s) lent
