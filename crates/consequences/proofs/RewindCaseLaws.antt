-- What an accepted rewind makes of each committed page still mapped: by the step, and by the laws of the cases.
use mathlib.Core.Path.{◌≡◌, refl, sym, ap, ◌∙◌}
use mathlib.Core.Logic.{inr}
use mathlib.Core.Bool.{true}
use mathlib.Core.Option.{Option, none, some}
use mathlib.Core.List.{List}
use Prim.Native.Nat.{ℕ, ◌*◌, ◌≤◌, ◌<◌}
use native.Mathlib.Omega.{arith}
use lib.ListN.{length}
use Rattle.interface.specs.declared.request.Request.{Request}
use Rattle.interface.specs.Requests.{◌is◌, rewind_code}
use Rattle.interface.specs.Numbers.{pages_in}
use Rattle.interface.specs.Slots.{is_committed}
use Rattle.table.specs.Store.{Store, contents, over_page, page_from, front_of, back_of, Tidy}
use Rattle.table.specs.Backing.{backing_end}
use Rattle.rewind_cases.specs.Rewind.{rewind_to}
use Rattle.rewind_cases.specs.Cases.{front_then}
use Rattle.rewind_cases.proofs.CaseLaws.{one-case}
use Rattle.rewind_cases.proofs.BeforeLaws.{front-before}
use Rattle.rewound_store.proofs.RewindLaws.{rewind_to-in, rewind_to-out}
use Rattle.rewound_store.proofs.LeftLaws.{rewind_to-entry, rewind_to-kept-entry}
use Rattle.areas.specs.Areas.{slots}
use Rattle.records.specs.declared.Record.{Record}
use Rattle.records.specs.Sound.{SoundRecord}
use Rattle.state.specs.declared.sandbox.Sandbox.{Sandbox}
use Rattle.state.specs.World.{World, record_at, frames_of}
use Rattle.soundness.proofs.TestLaws.{Tested, tested}
use Rattle.rules.specs.After.{packed_after}
use Rattle.content.specs.Content.{page_under, page_read, copy_backing, copy_page, copy_read}
use Rattle.content.proofs.ReadingLaws.{backing-there}
use Rattle.memory.specs.Memory.{keeps_front, store_after}
use Rattle.step.specs.Step.{Outcome, Stepped}
use Rattle.simulation.proofs.StepLaws.{was-sound, number_is}
use Rattle.claims.proofs.TouchRuns.{low, store_is, here}
use Rattle.consequences.specs.RewindCases.{front_entry, back_entry, page_backing, case_at, PageRewound, RewindsByCases}

-- a page whose front, if it has one, holds its other bytes reads these
reads-got : (got : List ℕ) (front : Option (List ℕ)) → page_from got (over_page (λ page. got) front) ≡ got
reads-got got none = refl
reads-got got (some page) = refl

module _ (image : List ℕ) (w : World) (q : Request) (o : Outcome) (t : Stepped image w q o) (e : q.code ≡ rewind_code) (n : o.answer.number ≡ 0) where
  abbrev s : ℕ
  s = q.sandbox

  abbrev b : Record
  b = record_at w s

  abbrev st : Store
  st = w.store

  abbrev after : Store
  after = rewind_to image (s * 128) (keeps_front b) (copy_backing b) st 64

  T : Tested image w
  T = tested image w (was-sound image w q (sym (number_is image w q o t) ∙ n))

  row : s < 4
  row = low image w q o t n

  rec : SoundRecord (pages_in (length image)) b
  rec = (T.each s row).rec

  store-left : o.world.store ≡ after
  unfolding store_after
  store-left = store_is image w q o t n ∙ rw e

  -- "mappings and rights of the snapshot return"
  present-left : (record_at o.world s).present ≡ b.snapshot
  unfolding packed_after
  present-left = ap (λ (x : Sandbox). x.rec.present) (here image w q o t n (rw e)) ∙ rw e

  any : Tidy (λ f. ⊥) 256 (frames_of w) st
  any = record { filed = T.filed; clean = λ f x l u. absurd x }

  fit : (i : ℕ) → backing_end (copy_backing b i) * 256 ≤ length image
  fit = backing-there image b.snapshot rec.snapshot

  module _ (i : ℕ) (l : i < 64) (c : is_committed (slots b.present i) ≡ true) where
    abbrev back : Option (List ℕ)
    back = contents 256 st (back_of s i)

    backing-same : copy_backing b i ≡ page_backing w s i
    backing-same = sym (rec.backing i c)

    -- its front afterwards, without cases
    front-after : contents 256 after (front_of s i) ≡ over_page (λ page. page_from (copy_page image b i) back) (contents 256 st (front_of s i))
    front-after = rewind_to-in (frames_of w) image (s * 128) (keeps_front b) (copy_backing b) fit st any 64 i (omega arith) l ∙ rw c

    back-after : contents 256 after (back_of s i) ≡ back
    back-after = rewind_to-out (frames_of w) image (s * 128) (keeps_front b) (copy_backing b) fit st any 64 (back_of s i) (inr (omega arith))

    by-case : contents 256 after (front_of s i) ≡ front_then image back (case_at w s i)
    by-case = front-after ∙ rw backing-same (sym (front-before image (front_of s i) (back_of s i) st (page_backing w s i)))

    read-after : page_read image after (record_at o.world s) s i ≡ copy_read image st b s i
    unfolding page_read page_under copy_read
    read-after =
        rw (present-left, rec.marked i (rec.committed i c), front-after, back-after)
        (reads-got (page_from (copy_page image b i) back) (contents 256 st (front_of s i)))

    page-rewound : PageRewound image w o.world s i
    page-rewound = record {
      one = one-case (front_entry w s i) (back_entry w s i) (page_backing w s i);
      front = rw store-left (rewind_to-kept-entry image (s * 128) (keeps_front b) (copy_backing b) st 64 i c);
      back = rw store-left (rewind_to-entry image (s * 128) (keeps_front b) (copy_backing b) st (back_of s i) 64 (inr (omega arith)));
      holds = rw store-left by-case;
      kept = rw store-left back-after;
      reads = rw store-left read-after;
    }

pub rewinds-by-cases : (image : List ℕ) → RewindsByCases image
rewinds-by-cases image w q o t e n i l c = page-rewound image w q o t e n i l c
