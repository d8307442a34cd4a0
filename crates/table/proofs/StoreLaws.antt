-- Laws of the store: each operation on one entry keeps the store tidy, and changes what that entry holds and no other's.
use mathlib.Core.Path.{◌≡◌, refl, sym, ap, ◌∙◌}
use mathlib.Core.Logic.{⊎_elim}
use mathlib.Core.Option.{Option, none, some}
use mathlib.Core.List.{List}
use Prim.Native.Nat.{ℕ, zero, suc, ◌+◌, ◌-◌, ◌*◌, ◌≤◌, ◌<◌}
use native.Mathlib.Numerals.{add-one}
use native.Mathlib.Omega.{arith}
use borrow.Author.Tests.{eq-eqb, ne_eqb}
use lib.ListN.{length, set, length-set, get_or-eq_default}
use lib.Seq.{get_or-set_same, get_or-set_other, set-get_or}
use Rattle.frames.specs.Frames.{held, mark}
use Rattle.frames.proofs.FrameLaws.{lt-or-ge, held-mark-same, held-mark-other, mark-held, mark-low, mark-high}
use Rattle.pages.specs.Parts.{frame, set_frame, zeros}
use Rattle.pages.proofs.PartLaws.{length-zeros, fits-pool, length-set_frame, frame_same, frame-other, length-frame}
use Rattle.marks.proofs.NamedLaws.{same_or, by-entry, Owns, Fits, fits-none, fits-some, owner, unheld, named_put}
use Rattle.table.specs.Store.{Store, entry, page_in, contents, over_page, page_from, Tidy, put, free, take, fill, store_byte}

-- ---- what an entry holds

pub contents-none : (size : ℕ) (s : Store) (k : ℕ) → entry s k ≡ 0 → contents size s k ≡ none
unfolding contents
contents-none size s k e = rw e

pub contents-some : (size : ℕ) (s : Store) (k f : ℕ) → entry s k ≡ suc f → contents size s k ≡ some (frame size s.pool f)
unfolding contents
contents-some size s k f e = rw e

pub none-entry : (size : ℕ) (s : Store) (k : ℕ) → contents size s k ≡ none → entry s k ≡ 0
none-entry size s k e =
    by-entry (entry s k ≡ 0) (entry s k) (λ r. r)
    (λ f r. let q : some (frame size s.pool f) ≡ none = sym (contents-some size s k f r) ∙ e in absurd (let z : ◌≡◌ {A = ℕ} 0 1 = cc in omega arith))

-- an entry that does not name f has the same page after f's bytes change
page-other : (size : ℕ) (xs ys : List ℕ) (f e : ℕ) → length ys ≡ size → f * size + size ≤ length xs → (e ≡ suc f → ⊥)
    → page_in size (set_frame size xs f ys) e ≡ page_in size xs e
page-other size xs ys f zero w r d = refl
page-other size xs ys f (suc g) w r d = ap some (frame-other size xs f ys w r g (λ m. d (ap suc m)))

-- ---- one entry changes

-- r is a tidy store like s, but that entry k holds page
pub record Changed (C : ℕ → Type 0) (size n : ℕ) (s : Store) (k : ℕ) (page : Option (List ℕ)) (r : Store) : Type 0 where
  pub tidy : Tidy C size n r
  pub same : contents size r k ≡ page
  pub other : (j : ℕ) → (j ≡ k → ⊥) → contents size r j ≡ contents size s j

module _ {C : ℕ → Type 0} (size n : ℕ) (s : Store) (t : Tidy C size n s) (k e f b : ℕ) (ys : List ℕ)
    (place : k < 512) (o : Owns n (entry s) k f) (z : Fits e b f) (whole : length ys ≡ size) (blank : b ≡ 0 → ys ≡ zeros size) where
  room : f * size + size ≤ length s.pool
  room = fits-pool size n s.pool f t.filed.pages o.low

  pub entry-put : entry (put size s k e f b ys) k ≡ e
  unfolding put
  entry-put = get_or-set_same s.table k e 0 (omega (arith, t.filed.entries))

  pub entry-put-other : (j : ℕ) → (j ≡ k → ⊥) → entry (put size s k e f b ys) j ≡ entry s j
  unfolding put
  entry-put-other j m = get_or-set_other s.table k j e 0 m

  pub put-tidy : Tidy C size n (put size s k e f b ys)
  unfolding put
  put-tidy =
      record {
        filed = record {
          few = t.filed.few;
          pages = length-set_frame size s.pool f ys whole room ∙ t.filed.pages;
          entries = length-set s.table k e ∙ t.filed.entries;
          names = named_put n s.marks (entry s) (entry (put size s k e f b ys)) k e f b t.filed.few t.filed.names o z entry-put entry-put-other;
          low = mark-low s.marks f b z.two (omega (arith, o.low, t.filed.few)) t.filed.low;
          high = mark-high s.marks f b z.two (omega (arith, o.low, t.filed.few)) t.filed.high;
        };
        clean = λ g c l w. ⊎_elim
            (λ m. ap (frame size (set_frame size s.pool f ys)) m ∙ frame_same size s.pool f ys whole room
            ∙ blank (sym (held-mark-same s.marks f b z.two) ∙ ap (held (mark s.marks f b)) (sym m) ∙ w))
            (λ m. frame-other size s.pool f ys whole room g m ∙ t.clean g c l (sym (held-mark-other s.marks f b g z.two m) ∙ w)) (same_or g f);
      }

  pub put_same : contents size (put size s k e f b ys) k ≡ page_in size (set_frame size s.pool f ys) e
  unfolding contents put
  put_same = ap (page_in size (set_frame size s.pool f ys)) entry-put

  pub put_other : (j : ℕ) → (j ≡ k → ⊥) → contents size (put size s k e f b ys) j ≡ contents size s j
  unfolding contents put
  put_other j m =
      ap (page_in size (set_frame size s.pool f ys)) (entry-put-other j m)
      ∙ page-other size s.pool ys f (entry s j) whole room (λ w. m (o.others j w))

module _ {C : ℕ → Type 0} (size n : ℕ) (s : Store) (t : Tidy C size n s) where
  -- nothing changes
  unchanged : (k : ℕ) (page : Option (List ℕ)) → contents size s k ≡ page → Changed C size n s k page s
  unchanged k page e = record { tidy = t; same = e; other = λ j m. refl }

  -- entry k gives up frame f
  put-gone : (k f : ℕ) → k < 512 → Owns n (entry s) k f → Changed C size n s k none (put size s k 0 f 0 (zeros size))
  put-gone k f l o =
      record {
        tidy = put-tidy size n s t k 0 f 0 (zeros size) l o (fits-none f) (length-zeros size) (λ r. refl);
        same = put_same size n s t k 0 f 0 (zeros size) l o (fits-none f) (length-zeros size) (λ r. refl);
        other = put_other size n s t k 0 f 0 (zeros size) l o (fits-none f) (length-zeros size) (λ r. refl);
      }

  -- entry k has frame f, with the bytes ys
  put-there : (k f : ℕ) (ys : List ℕ) → k < 512 → Owns n (entry s) k f → length ys ≡ size → Changed C size n s k (some ys) (put size s k (suc f) f 1 ys)
  put-there k f ys l o w =
      record {
        tidy = put-tidy size n s t k (suc f) f 1 ys l o (fits-some f) w (λ r. absurd (omega arith));
        same = put_same size n s t k (suc f) f 1 ys l o (fits-some f) w (λ r. absurd (omega arith))
            ∙ ap some (frame_same size s.pool f ys w (fits-pool size n s.pool f t.filed.pages o.low));
        other = put_other size n s t k (suc f) f 1 ys l o (fits-some f) w (λ r. absurd (omega arith));
      }

  in_table : (k f : ℕ) → entry s k ≡ suc f → k < 512
  in_table k f e =
      ⊎_elim (λ m. m)
      (λ m. let z : entry s k ≡ 0 = get_or-eq_default s.table 0 (omega (arith, t.filed.entries)) in absurd (omega arith)) (lt-or-ge k 512)

  owned : (k f : ℕ) → entry s k ≡ suc f → Owns n (entry s) k f
  owned = owner n s.marks (entry s) t.filed.names

  -- a page has size bytes
  pub page-whole : (k : ℕ) (ys : List ℕ) → length ys ≡ size → length (page_from ys (contents size s k)) ≡ size
  page-whole k ys w =
      by-entry (length (page_from ys (contents size s k)) ≡ size) (entry s k)
      (λ e. rw (contents-none size s k e) w)
      (λ f e. rw (contents-some size s k f e) (length-frame size s.pool f (fits-pool size n s.pool f t.filed.pages (t.filed.names.within k f e))))

-- ---- free

pub free-none : (size k : ℕ) (s : Store) → entry s k ≡ 0 → free size k s ≡ s
unfolding free
free-none size k s e = rw (eq-eqb (entry s k) 0 e)

pub free-some : (size k : ℕ) (s : Store) (f : ℕ) → entry s k ≡ suc f → free size k s ≡ put size s k 0 f 0 (zeros size)
unfolding free
free-some size k s f e =
    let m : entry s k - 1 ≡ f = omega arith in
    rw (ne_eqb (entry s k) 0 (omega arith), m)

module _ {C : ℕ → Type 0} (size n : ℕ) (s : Store) (t : Tidy C size n s) (k : ℕ) where
  pub freed : Changed C size n s k none (free size k s)
  freed =
      by-entry (Changed C size n s k none (free size k s)) (entry s k)
      (λ e. rw (free-none size k s e) (unchanged size n s t k none (contents-none size s k e)))
      (λ f e. rw (free-some size k s f e) (put-gone size n s t k f (in_table size n s t k f e) (owned size n s t k f e)))

  pub free-tidy : Tidy C size n (free size k s)
  free-tidy = freed.tidy

  pub free-same : contents size (free size k s) k ≡ none
  free-same = freed.same

  pub free_other : (j : ℕ) → (j ≡ k → ⊥) → contents size (free size k s) j ≡ contents size s j
  free_other = freed.other

-- ---- take

module _ {C : ℕ → Type 0} (size n : ℕ) (s : Store) (t : Tidy C size n s) (k f : ℕ) (ys : List ℕ)
    (place : k < 512) (empty : entry s k ≡ 0) (low : f < n) (idle : held s.marks f ≡ 0) (whole : length ys ≡ size) where
  take-is : take size k f ys s ≡ put size s k (suc f) f 1 ys
  unfolding take
  take-is = rw (add-one f)

  free-for : Owns n (entry s) k f
  free-for = unheld n s.marks (entry s) t.filed.names k f empty low idle

  pub taken : Changed C size n s k (some ys) (take size k f ys s)
  taken = rw take-is (put-there size n s t k f ys place free-for whole)

  pub take-tidy : Tidy C size n (take size k f ys s)
  take-tidy = taken.tidy

  pub take_same : contents size (take size k f ys s) k ≡ some ys
  take_same = taken.same

  pub take-other : (j : ℕ) → (j ≡ k → ⊥) → contents size (take size k f ys s) j ≡ contents size s j
  take-other = taken.other

  -- 'its page's front entry alone names it afterwards'
  pub take-entry : entry (take size k f ys s) k ≡ suc f
  take-entry = rw take-is (entry-put size n s t k (suc f) f 1 ys place free-for (fits-some f) whole (λ r. absurd (omega arith)))

  pub take-alone : (j : ℕ) → entry (take size k f ys s) j ≡ suc f → j ≡ k
  take-alone j e = take-tidy.filed.names.once j k f e take-entry

-- ---- fill

pub fill_none : (size k : ℕ) (ys : List ℕ) (s : Store) → entry s k ≡ 0 → fill size k ys s ≡ s
unfolding fill
fill_none size k ys s e = rw (eq-eqb (entry s k) 0 e)

module _ {C : ℕ → Type 0} (size n : ℕ) (s : Store) (t : Tidy C size n s) (k : ℕ) (ys : List ℕ) (whole : (f : ℕ) → entry s k ≡ suc f → length ys ≡ size) where
  -- a page with the mark and the entry that it has already
  pub fill-some : (f : ℕ) → entry s k ≡ suc f → fill size k ys s ≡ put size s k (suc f) f 1 ys
  unfolding fill put
  fill-some f e =
      let m : entry s k - 1 ≡ f = omega arith in
      let h : s.marks ≡ mark s.marks f 1 = sym (mark-held s.marks f) ∙ ap (mark s.marks f) (t.filed.names.marked k f e) in
      let l : s.table ≡ set s.table k (suc f) = sym (set-get_or s.table k 0) ∙ ap (set s.table k) e in
      rw (ne_eqb (entry s k) 0 (omega arith), m) (λ i. record { marks = h i; pool = set_frame size s.pool f ys; table = l i })

  pub filled : Changed C size n s k (over_page (λ xs. ys) (contents size s k)) (fill size k ys s)
  filled =
      by-entry (Changed C size n s k (over_page (λ xs. ys) (contents size s k)) (fill size k ys s)) (entry s k)
      (λ e. rw (fill_none size k ys s e, contents-none size s k e) (unchanged size n s t k none (contents-none size s k e)))
      (λ f e. rw (fill-some f e, contents-some size s k f e) (put-there size n s t k f ys (in_table size n s t k f e) (owned size n s t k f e) (whole f e)))

  pub fill-tidy : Tidy C size n (fill size k ys s)
  fill-tidy = filled.tidy

  pub fill-same : contents size (fill size k ys s) k ≡ over_page (λ xs. ys) (contents size s k)
  fill-same = filled.same

  pub fill-other : (j : ℕ) → (j ≡ k → ⊥) → contents size (fill size k ys s) j ≡ contents size s j
  fill-other = filled.other

-- ---- one byte

module _ {C : ℕ → Type 0} (size n : ℕ) (s : Store) (t : Tidy C size n s) (k o b : ℕ) where
  byte-page : List ℕ
  byte-page = set (frame size s.pool (entry s k - 1)) o b

  byte-whole : (f : ℕ) → entry s k ≡ suc f → length byte-page ≡ size
  unfolding byte-page
  byte-whole f e =
      let m : entry s k - 1 ≡ f = omega arith in
      simp length-set (rw m (length-frame size s.pool f (fits-pool size n s.pool f t.filed.pages (t.filed.names.within k f e))))

  pub store_byte-tidy : Tidy C size n (store_byte size k o b s)
  unfolding store_byte byte-page
  store_byte-tidy = fill-tidy size n s t k byte-page byte-whole

  pub store_byte-same : contents size (store_byte size k o b s) k ≡ over_page (λ xs. set xs o b) (contents size s k)
  unfolding store_byte byte-page
  store_byte-same =
      fill-same size n s t k byte-page byte-whole
      ∙ by-entry (over_page (λ xs. byte-page) (contents size s k) ≡ over_page (λ xs. set xs o b) (contents size s k)) (entry s k)
      (λ e. rw (contents-none size s k e))
      (λ f e. let m : entry s k - 1 ≡ f = omega arith in rw (contents-some size s k f e, m))

  pub store_byte-other : (j : ℕ) → (j ≡ k → ⊥) → contents size (store_byte size k o b s) j ≡ contents size s j
  unfolding store_byte byte-page
  store_byte-other = fill-other size n s t k byte-page byte-whole
