-- What a world around a sandbox, a pool and a table gives to the parts of a call, and each way out of a call that leaves every sandbox as it is.
use Prim.Native.Nat.{ℕ, ◌≤◌, ◌<◌}
use mathlib.Core.Path.{◌≡◌, refl, sym, ap, ◌∙◌}
use mathlib.Core.Bool.{Bool, true, false}
use mathlib.Core.List.{List}
use native.Mathlib.Omega.{arith}
use lib.ListN.{length, get_or, set}
use borrow.Author.Tests.{eqb-false}
use Rattle.interface.specs.Answers.{Answer}
use Rattle.std.specs.Prelude.{Ok, Some, None}
use Rattle.std.specs.Bool.{then_some}
use Rattle.interface.specs.declared.page.Slot.{Slot}
use Rattle.interface.specs.declared.request.Request.{Request}
use Rattle.interface.specs.Answers.{answered}
use Rattle.interface.specs.Numbers.{pages_in}
use Rattle.interface.specs.Requests.{◌is◌, map_code, unmap_code, read_code, write_code, snapshot_code, rewind_code, page_of, offset_of}
use Rattle.interface.specs.Refusals.{refusal}
use Rattle.interface.proofs.AcceptedLaws.{accepted}
use Rattle.frames.specs.declared.Held.{Held}
use Rattle.table.specs.Store.{Store, kept, front_of, store_byte, Ranged}
use Rattle.table.specs.Virtual.{bytes_read, Placed}
use Rattle.table.proofs.FiledLaws.{filed-ranged}
use Rattle.areas.specs.Areas.{slots}
use Rattle.records.specs.Record.{view_from}
use Rattle.state.specs.declared.sandbox.Sandbox.{Sandbox}
use Rattle.state.specs.World.{World, sandbox_at, shares_of, frames_of}
use Rattle.soundness.proofs.TestLaws.{Tested, tested}
use Rattle.rules.specs.After.{changes, record_after}
use Rattle.rules.specs.Ready.{Ready}
use Rattle.rules.proofs.FitLaws.{page-small}
use Rattle.content.proofs.ReadingLaws.{backing-there, read_is}
use Rattle.memory.specs.Memory.{value_at}
use Rattle.memory.proofs.MemoryLaws.{touch-kept, written, stepped-none, left_alone}
use Rattle.memory.proofs.ValueLaws.{read-value, no_value}
use Rattle.step.specs.Step.{Stepped, number_at, view_at}
use Rattle.step.proofs.CallLaws.{number-rest, stepped, performed, ready, asked}
use Rattle.step.proofs.StayLaws.{sandboxes-same}
use Rattle.byte_at.specs.Stored.{page_at, own_entry, Stored}
use Rattle.in_place.specs.InPlace.{with_pool, Around, Tried}
use Rattle.few_rows.proofs.RowLaws.{Few}

module _ {image : List ℕ} {q : Request} {b : Sandbox} {pool table : List ℕ} {w : World} (A : Around image q b pool table w) where
  -- ---- what the parts ask

  pub state : Tested image w
  state = tested image w A.sound

  pub ready-here : q.sandbox < 4 → Ready (pages_in (length image)) b.rec
  ready-here row = rw (← A.own) (ready image w q state row)

  pub ranged-here : Ranged 256 pool table
  ranged-here = rw (← A.same_pool, ← A.same_table) (filed-ranged 256 (frames_of w) w.store state.filed)

  pub few-frames : pages_in (length pool) ≤ 128
  few-frames = rw (← A.same_pool) state.filed.few

  -- the store that is lent, with the world's marks
  lent-store : kept w.store.marks pool table ≡ w.store
  lent-store = rw (← A.same_pool, ← A.same_table)

  -- what was decided from the sandbox's record, whatever the frames and the shares, is the number
  pub number-here : (n : ℕ) → ((frames shares : ℕ) → n ≡ refusal (view_from true frames (pages_in (length image)) shares b.rec) q)
      → n ≡ number_at image w q
  number-here n e =
      e (frames_of w) (shares_of w)
      ∙ ap (λ (x : Sandbox). refusal (view_from true (frames_of w) (pages_in (length image)) (shares_of w) x.rec) q) (sym A.own)
      ∙ number-rest image w q A.sound

  -- ---- what is tried

  pub tried-none : (q.code ≡ write_code → ⊥) → Tried image w q None pool
  tried-none x = record { done = tt; left = sym A.same_pool; accepted = λ e. absurd (x e) }

  pub tried_same : (a : Answer) → Stepped image w q (record { answer = answered a; world = w }) → Tried image w q (Some a) pool
  tried_same a s = record { done = rw (← A.same_pool) s; left = tt; accepted = tt }

  -- ---- an accepted call that leaves every sandbox

  module _ (C : Few q) (still : (q is rewind_code) ≡ false) (n : number_at image w q ≡ 0) where
    abbrev own : Sandbox
    own = sandbox_at w q.sandbox

    opened-here : own.rec.opened ≡ true
    unfolding number_at
    opened-here = (accepted (view_at image w q.sandbox) q n).opened C.not_open

    row-left : w.sandboxes ≡ set w.sandboxes q.sandbox (record { rec = record_after q own.rec; runs = own.runs })
    row-left =
        let unpacked : changes q ≡ false = rw (C.not_map, C.not_unmap, C.not_protect, C.not_snapshot) in
        sym (sandboxes-same q C.not_open unpacked C.not_snapshot still w q.sandbox opened-here)

    -- a value, and nothing changes
    pub looked : (q is write_code) ≡ false → (value : ℕ) → ((h : Held) → value ≡ value_at image q b (kept h pool table))
        → Stepped image w q (record { answer = answered (Ok value); world = w })
    looked x value v =
        stepped image w q _ n
        (performed image w q value w.sandboxes w.store own.runs
        (stepped-none image q w w.store own.runs x
        (left_alone image q own w.store (eqb-false q.code map_code C.not_map) (eqb-false q.code unmap_code C.not_unmap) (eqb-false q.code write_code x)
        (eqb-false q.code snapshot_code C.not_snapshot) (eqb-false q.code rewind_code still)))
        (v w.store.marks ∙ ap (value_at image q b) lent-store ∙ ap (λ (c : Sandbox). value_at image q c w.store) (sym A.own))
        row-left)

    -- a byte stored into the front that the page has
    overwritten : q.code ≡ write_code → (after : List ℕ) → (own_entry q table ≡ 0 → ⊥)
        → ((h : Held) → kept h after table ≡ store_byte 256 (front_of q.sandbox (page_of q)) (offset_of q) q.p2 (kept h pool table))
        → Stepped image w q (record { answer = answered (Ok 0); world = with_pool after w })
    overwritten e after some byte =
        let place : ℕ = front_of q.sandbox (page_of q) in
        let marks : Held = w.store.marks in
        let front = touch-kept image q w (asked image w q state n) e (λ z. some (ap (λ (l : List ℕ). get_or l place 0) (sym A.same_table) ∙ z)) in
        let stored = ap (kept marks after) A.same_table ∙ byte marks ∙ ap (store_byte 256 place (offset_of q) q.p2) lent-store in
        stepped image w q _ n
        (performed image w q 0 w.sandboxes (kept marks after w.store.table) own.runs
        (written image q w w.store _ own.runs front e stored)
        (no_value image q own w.store (λ x. omega arith) (λ x. omega arith) (λ x. omega arith) (λ x. omega arith) (λ x. omega arith) (λ x. omega arith))
        row-left)

    pub tried-store : q.code ≡ write_code → (stored : Bool) (after : List ℕ) → Stored q pool table stored after
        → Tried image w q (then_some stored (Ok 0)) after
    tried-store e true after S = record { done = overwritten e after (S.front refl) (S.byte refl); left = tt; accepted = tt }
    tried-store e false after S = record { done = tt; left = S.none refl ∙ sym A.same_pool; accepted = λ e'. n }

  -- ---- an accepted read or write

  module _ (row : q.sandbox < 4) (slot : Slot) (there : slot ≡ slots b.rec.present (page_of q)) where
    pub placed-here : q.p1 < 16384 → Placed image (page_at q slot)
    placed-here l = record {
      row = row;
      inside = page-small q.p1 l;
      backed = rw there (backing-there image b.rec.present (ready-here row).sound.present (page_of q));
    }

    pub read_here : q.code ≡ read_code → (byte : ℕ) → ((h : Held) → byte ≡ get_or (bytes_read image (kept h pool table) (page_at q slot)) (offset_of q) 0)
        → (h : Held) → byte ≡ value_at image q b (kept h pool table)
    read_here e byte v h =
        let st : Store = kept h pool table in
        read-value image q b st byte e
        (v h ∙ ap (λ (page : List ℕ). get_or page (offset_of q) 0) (read_is image st b.rec q.sandbox (record { 0 = page_of q }) slot there))
