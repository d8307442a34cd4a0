-- The pages that a rewind finds changed are the committed ones that read something else than in the snapshot.
use Prim.Native.Nat.{ℕ, ◌*◌, ◌≤◌}
use mathlib.Core.Path.{◌≡◌, refl, sym, ap, ◌∙◌}
use mathlib.Core.Bool.{true, not}
use mathlib.Core.Option.{Option, none, some}
use mathlib.Core.List.{List}
use native.Mathlib.Omega.{arith}
use lib.ListN.{length}
use Rattle.basics.proofs.TestLaws.{by_cases}
use Rattle.basics.proofs.CountLaws.{count-equal}
use Rattle.interface.specs.Numbers.{pages_in}
use Rattle.interface.specs.Slots.{is_committed}
use Rattle.comparison.specs.Compare.{changed_pages}
use Rattle.pages.specs.Parts.{same_bytes}
use Rattle.pages.proofs.SameLaws.{same-itself}
use Rattle.table.specs.Store.{Store, contents, page_from, Filed, Tidy, front_of, back_of}
use Rattle.table.specs.Backing.{backing_page, backing_end}
use Rattle.areas.specs.Areas.{slots}
use Rattle.records.specs.declared.Record.{Record}
use Rattle.rules.specs.Ready.{Ready}
use Rattle.content.specs.Content.{page_under, page_read, copy_page, copy_read, reads_same, changed}
use Rattle.content.proofs.ReadingLaws.{backing-there}
use Rattle.page_restore.specs.Differs.{front_differs, page_differs}
use Rattle.restoring.specs.Changed.{changed_to}
use Rattle.restoring.proofs.ChangedLaws.{changed-counted}
use Rattle.rewinding.proofs.AreaLaws.{keeps, backings}

-- a front beside what the page gets, told of what the page reads: without a front it reads that itself
front_reads : (size : ℕ) (got : List ℕ) (front : Option (List ℕ)) → front_differs size got front ≡ not (same_bytes size (page_from got front) got)
front_reads size got none = rw (same-itself size got)
front_reads size got (some page) = refl

module _ (image : List ℕ) (b : Record) (ready : Ready (pages_in (length image)) b) (s : ℕ) (st : Store) where
  -- a committed page that differs
  differs-read : (i : ℕ) → is_committed (slots b.present i) ≡ true
      → page_differs 256 (front_of s i) (back_of s i) (backing_page image (backings b.present i)) st ≡ not (reads_same image st b s i)
  unfolding page_read page_under copy_read
  differs-read i c =
      let same : copy_page image b i ≡ backing_page image (backings b.present i) = ap (backing_page image) (sym (ready.sound.backing i c)) in
      rw (c, same) (front_reads 256 (page_from (backing_page image (backings b.present i)) (contents 256 st (back_of s i))) (contents 256 st (front_of s i)))

  pub found-changed : (n : ℕ) → Filed 256 n st → changed_to image (s * 128) (keeps b.present) (backings b.present) st 64 ≡ changed image st b s
  unfolding changed changed_pages
  found-changed n F =
      let fit : (i : ℕ) → backing_end (backings b.present i) * 256 ≤ length image = backing-there image b.present ready.sound.present in
      let tidy : Tidy (λ f. ⊥) 256 n st = record { filed = F; clean = λ f x l u. absurd x } in
      changed-counted image (s * 128) (keeps b.present) (backings b.present) st n fit tidy 64 (omega arith)
      ∙ count-equal _ _ 64 (λ i l. by_cases (is_committed (slots b.present i)) (λ c. rw (c, differs-read i c)) (λ c. rw c))
