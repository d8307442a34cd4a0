-- The two laws of marks, and of the runs of a sandbox: the bytes give again what they were made from, and any bytes are those of what they give.
use Prim.Native.Nat.{ℕ, ◌*◌, ◌^◌, ◌<◌}
use mathlib.Core.Path.{◌≡◌, sym, ap, ◌∙◌}
use mathlib.Core.List.{List, [], ◌∷◌, ◌++◌, append-nil}
use native.Mathlib.Omega.{arith}
use lib.ListN.{length}
use lib.Seq.{take_all}
use Rattle.pages.specs.Parts.{part_at}
use Rattle.pages.proofs.PartLaws.{length_part}
use Rattle.frames.specs.declared.Held.{Held}
use Rattle.frames.specs.Frames.{none_held}
use Rattle.runs.specs.declared.Runs.{Runs}
use Rattle.runs.specs.Row.{row}
use Rattle.kept.specs.Spare.{Words}
use Rattle.layout.specs.Rows.{spelled, Bytes, part_in}
use Rattle.layout.specs.Layout.{word_size, marks_size, runs_size, marks_parts, marks_bytes, runs_bytes, marks_from, runs_from}
use Rattle.layout.proofs.RowLaws.{spelled-digits, get_or-firsts, row-again, row-bytes-again}
use Rattle.layout.proofs.PartsLaws.{place_of, nth, part-flat, flat-cut, bytes-part, number-again, number_small}
use Rattle.layout.proofs.LengthLaws.{length-marks, sized-marks}

module _ (h : Held) where
  word_of : (i : ℕ) → part_at (marks_bytes h) (place_of (marks_parts h) i) (nth (marks_parts h) i).width ≡ (nth (marks_parts h) i).bytes
  unfolding marks_bytes
  word_of = part-flat (marks_parts h) (sized-marks h)

  pub marks-again : h.low < 2 ^ 64 → h.high < 2 ^ 64 → marks_from (marks_bytes h) ≡ h
  unfolding marks_from
  marks-again low high = λ i. record {
    low = (ap spelled (word_of 0) ∙ spelled-digits word_size h.low low) i;
    high = (ap spelled (word_of 1) ∙ spelled-digits word_size h.high high) i;
  }

pub marks-bytes-again : (l : List ℕ) → Bytes l → length l ≡ marks_size → marks_bytes (marks_from l) ≡ l
unfolding marks_bytes marks_from
marks-bytes-again l bytes e =
    rw (number-again l bytes 0 word_size (omega arith), number-again l bytes word_size word_size (omega arith))
    (flat-cut (word_size ∷ word_size ∷ []) l 0 e)

pub marks-small : (l : List ℕ) → Bytes l → length l ≡ marks_size → ((marks_from l).low < 2 ^ 64) × ((marks_from l).high < 2 ^ 64)
unfolding marks_from
marks-small l bytes e = (number_small l bytes 0 word_size (omega arith), number_small l bytes word_size word_size (omega arith))

pub runs-again : (r : Runs) → length r.list ≡ 8 → Words (row r) → runs_from (runs_bytes r) ≡ r
unfolding runs_from runs_bytes
runs-again r e z =
    let each : (k : ℕ) → k < 8 → marks_from (marks_bytes (row r k)) ≡ row r k = λ k l. marks-again (row r k) (z.low k l) (z.high k l) in
    let first : runs_from (runs_bytes r ++ []) ≡ r
    = λ i. record { list = row-again marks_bytes none_held marks_size marks_from length-marks 8 r.list [] e each i } in
    ap runs_from (sym (append-nil (runs_bytes r))) ∙ first

module _ (l : List ℕ) (bytes : Bytes l) (e : length l ≡ runs_size) where
  run_long : (k : ℕ) → k < 8 → length (part_in marks_size l k) ≡ marks_size
  run_long k b = length_part l (k * marks_size) marks_size (omega arith)

  pub runs-bytes-again : runs_bytes (runs_from l) ≡ l
  unfolding runs_bytes runs_from
  runs-bytes-again =
      let place : (k : ℕ) → k < 8 → marks_bytes (marks_from (part_in marks_size l k)) ≡ part_in marks_size l k =
      λ k b. marks-bytes-again (part_in marks_size l k) (bytes-part l bytes (k * marks_size) marks_size) (run_long k b) in
      row-bytes-again marks_bytes none_held marks_size marks_from 8 l place ∙ take_all runs_size l (omega arith)

  run_small : (k : ℕ) → k < 8 → ((row (runs_from l) k).low < 2 ^ 64) × ((row (runs_from l) k).high < 2 ^ 64)
  unfolding runs_from
  run_small k b =
      rw (get_or-firsts (λ j. marks_from (part_in marks_size l j)) 8 k none_held b)
      (marks-small (part_in marks_size l k) (bytes-part l bytes (k * marks_size) marks_size) (run_long k b))

  pub runs-small : Words (row (runs_from l))
  runs-small = record { low = λ k b. (run_small k b).0; high = λ k b. (run_small k b).1 }
