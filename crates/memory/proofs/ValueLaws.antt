-- The value of an accepted request, by each of the calls that have one.
use Prim.Native.Nat.{ℕ, ◌+◌, ◌*◌, ◌/◌}
use mathlib.Core.Path.{◌≡◌, ◌∙◌}
use mathlib.Core.List.{List}
use lib.ListN.{length, get_or}
use borrow.Author.Tests.{ne_eqb}
use Rattle.interface.specs.declared.request.Request.{Request}
use Rattle.interface.specs.Requests.{map_code, read_code, snapshot_code, rewind_code, report_code, compare_code, page_of, offset_of}
use Rattle.interface.specs.Slots.{mapped_pages}
use Rattle.interface.specs.Outcome.{first_of}
use Rattle.basics.specs.Ranges.{sum}
use Rattle.frames.specs.Frames.{count_held}
use Rattle.marks.specs.Marks.{marks_to, from}
use Rattle.table.specs.Store.{Store}
use Rattle.runs.specs.Row.{lengths_of}
use Rattle.kept.specs.Spare.{kept_by}
use Rattle.areas.specs.Areas.{slots}
use Rattle.state.specs.declared.sandbox.Sandbox.{Sandbox}
use Rattle.content.specs.Content.{page_read, differing, changed}
use Rattle.memory.specs.Memory.{held_by, value_at}

module _ (image : List ℕ) (q : Request) (b : Sandbox) (st : Store) where
  pub map-value : (value : ℕ) → q.code ≡ map_code → value ≡ first_of (slots b.rec.present) q → value ≡ value_at image q b st
  unfolding value_at
  map-value value e v = v ∙ rw e

  pub read-value : (value : ℕ) → q.code ≡ read_code → value ≡ get_or (page_read image st b.rec q.sandbox (page_of q)) (offset_of q) 0
      → value ≡ value_at image q b st
  unfolding value_at
  read-value value e v = v ∙ rw e

  pub snapshot-value : (value : ℕ) → q.code ≡ snapshot_code → value ≡ mapped_pages (slots b.rec.present) → value ≡ value_at image q b st
  unfolding value_at
  snapshot-value value e v = v ∙ rw e

  pub report-value : (value named kept : ℕ) → q.code ≡ report_code
      → named ≡ count_held (marks_to (length st.pool / 256) (from (q.sandbox * 128) st.table) 128).held
      → kept ≡ sum (lengths_of b.runs) 8 → value ≡ named + kept → value ≡ value_at image q b st
  unfolding value_at held_by kept_by
  report-value value named kept e n k v = v ∙ rw (n, k, e)

  pub compare-value : (value : ℕ) → q.code ≡ compare_code → value ≡ differing image st b.rec q.sandbox → value ≡ value_at image q b st
  unfolding value_at
  compare-value value e v = v ∙ rw e

  pub rewind-value : (value : ℕ) → q.code ≡ rewind_code → value ≡ changed image st b.rec q.sandbox → value ≡ value_at image q b st
  unfolding value_at
  rewind-value value e v = v ∙ rw e

  pub no_value : (q.code ≡ map_code → ⊥) → (q.code ≡ read_code → ⊥) → (q.code ≡ snapshot_code → ⊥) → (q.code ≡ report_code → ⊥) → (q.code ≡ compare_code → ⊥)
      → (q.code ≡ rewind_code → ⊥) → 0 ≡ value_at image q b st
  unfolding value_at
  no_value m r s t d w =
      rw (
        ne_eqb q.code map_code m,
        ne_eqb q.code read_code r,
        ne_eqb q.code snapshot_code s,
        ne_eqb q.code report_code t,
        ne_eqb q.code compare_code d,
        ne_eqb q.code rewind_code w,
      )
