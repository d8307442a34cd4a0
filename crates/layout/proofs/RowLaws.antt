-- Laws of numbers in bytes, of parts side by side and of elements in a row.
use Prim.Native.Nat.{ℕ, zero, suc, ◌+◌, ◌-◌, ◌*◌, ◌/◌, ◌%◌, ◌^◌, ◌<◌}
use mathlib.Core.Path.{◌≡◌, refl, sym, ap, ◌∙◌}
use mathlib.Core.Bool.{Bool, true}
use mathlib.Core.List.{List, [], ◌∷◌, ◌++◌, append_assoc}
use native.Mathlib.Omega.{arith}
use native.Mathlib.Nat.{zero-mul, suc-mul, pow-succ'}
use lib.Dec.{eqb}
use lib.ListN.{length, get_or, take, length-append, get_or-append}
use lib.Seq.{take_at, drop_at, take-add, get_or_at, ext_get_or}
use borrow.Author.Tests.{eqb-true, eqb-false}
use Rattle.basics.proofs.TestLaws.{by_cases}
use Rattle.basics.proofs.LoopLaws.{every_of}
use Rattle.pages.specs.Parts.{part_at}
use Rattle.layout.specs.Rows.{digits, spelled, joined, firsts, Bytes, part_in, row_bytes, row_from, is_row}

-- ---- numbers in bytes

pub length_digits : (n w : ℕ) → length (digits n w) ≡ n
unfolding digits
length_digits zero w = refl
length_digits (suc n) w = ap suc (length_digits n (w / 256))

pub spelled-digits : (n w : ℕ) → w < 256 ^ n → spelled (digits n w) ≡ w
unfolding digits spelled
spelled-digits zero w h = omega arith
spelled-digits (suc n) w h =
    let k : w < 256 * 256 ^ n = rw (pow-succ' 256 n) at h in
    rw (spelled-digits n (w / 256) (omega arith)) (omega arith)

pub digits-spelled : (l : List ℕ) → Bytes l → digits (length l) (spelled l) ≡ l
unfolding digits spelled
digits-spelled [] h = refl
digits-spelled (b ∷ l) h =
    let small : b < 256 = h.at 0 in
    let low : (b + 256 * spelled l) % 256 ≡ b = omega arith in
    let rest : (b + 256 * spelled l) / 256 ≡ spelled l = omega arith in
    rw (low, rest, digits-spelled l (record { at = λ i. h.at (suc i) }))

-- a number of so many bytes
pub spelled-small : (l : List ℕ) → Bytes l → spelled l < 256 ^ length l
unfolding spelled
spelled-small [] h = omega arith
spelled-small (b ∷ l) h =
    let small : b < 256 = h.at 0 in
    let rest : spelled l < 256 ^ length l = spelled-small l (record { at = λ i. h.at (suc i) }) in
    rw (pow-succ' 256 (length l)) (omega arith)

-- ---- parts side by side

pub joined_same : (f g : ℕ → List ℕ) (n : ℕ) → ((k : ℕ) → k < n → f k ≡ g k) → joined f n ≡ joined g n
unfolding joined
joined_same f g zero h = refl
joined_same f g (suc n) h = rw (h n (omega arith), joined_same f g n (λ k l. h k (omega arith)))

module _ (f : ℕ → List ℕ) (w : ℕ) (each : (k : ℕ) → length (f k) ≡ w) where
  pub length-joined : (n : ℕ) → length (joined f n) ≡ n * w
  unfolding joined
  length-joined zero = sym (zero-mul w)
  length-joined (suc n) = length-append (joined f n) (f n) ∙ rw (length-joined n, each n, suc-mul n w)

  -- part k of them
  pub part-joined : (n : ℕ) (rest : List ℕ) (k : ℕ) → k < n → part_at (joined f n ++ rest) (k * w) w ≡ f k
  unfolding joined part_at
  part-joined zero rest k h = absurd (omega arith)
  part-joined (suc n) rest k h =
      by_cases (eqb k n)
      (λ t. rw (eqb-true k n t, append_assoc (joined f n) (f n) rest, drop_at (joined f n) (f n ++ rest) (n * w) (length-joined n))
      (take_at (f n) rest w (each n)))
      (λ t. rw (append_assoc (joined f n) (f n) rest) (part-joined n (f n ++ rest) k (omega (arith, eqb-false k n t))))

-- a list cut into parts
pub joined-parts : (w n : ℕ) (l : List ℕ) → joined (λ k. part_at l (k * w) w) n ≡ take (n * w) l
unfolding joined part_at
joined-parts w zero l = rw (zero-mul w)
joined-parts w (suc n) l = rw (joined-parts w n l, suc-mul n w) (sym (take-add (n * w) w l))

-- ---- elements in a row

module _ {A : Type 0} (f : ℕ → A) where
  pub length-firsts : (n : ℕ) → length (firsts f n) ≡ n
  unfolding firsts
  length-firsts zero = refl
  length-firsts (suc n) = length-append (firsts f n) (f n ∷ []) ∙ rw (length-firsts n) (omega arith)

  pub get_or-firsts : (n k : ℕ) (d : A) → k < n → get_or (firsts f n) k d ≡ f k
  unfolding firsts
  get_or-firsts zero k d h = absurd (omega arith)
  get_or-firsts (suc n) k d h =
      by_cases (eqb k n) (λ t. rw (eqb-true k n t) (get_or_at (firsts f n) (f n) [] d n (length-firsts n)))
      (λ t. let less : k < n = omega (arith, eqb-false k n t) in
      get_or-append (firsts f n) (f n ∷ []) d k (rw (length-firsts n) less) ∙ get_or-firsts n k d less)

  -- a list by its elements
  pub firsts-of : (d : A) (l : List A) (n : ℕ) → length l ≡ n → ((k : ℕ) → k < n → f k ≡ get_or l k d) → firsts f n ≡ l
  firsts-of d l n e h =
      ext_get_or d (firsts f n) l (length-firsts n ∙ sym e) (λ i b. let s : i < n = rw (length-firsts n) at b in get_or-firsts n i d s ∙ h i s)

-- ---- a row of parts, one for each element

module _ {A : Type 0} (bytes : A → List ℕ) (d : A) (w : ℕ) where
  pub length-row : ((x : A) → length (bytes x) ≡ w) → (n : ℕ) (l : List A) → length (row_bytes bytes d n l) ≡ n * w
  length-row each n l = length-joined (λ k. bytes (get_or l k d)) w (λ k. each (get_or l k d)) n

  -- what each element gives again, the row gives
  pub row-again : (from : List ℕ → A) → ((x : A) → length (bytes x) ≡ w) → (n : ℕ) (l : List A) (rest : List ℕ) → length l ≡ n
      → ((k : ℕ) → k < n → from (bytes (get_or l k d)) ≡ get_or l k d) → row_from from w n (row_bytes bytes d n l ++ rest) ≡ l
  row-again from each n l rest e h =
      let f : ℕ → List ℕ = λ k. bytes (get_or l k d) in
      firsts-of (λ k. from (part_in w (joined f n ++ rest) k)) d l n e
      (λ k b. ap from (part-joined f w (λ j. each (get_or l j d)) n rest k b) ∙ h k b)

  pub row-passes : (test : List ℕ → Bool) → ((x : A) → length (bytes x) ≡ w) → ((x : A) → test (bytes x) ≡ true) → (n : ℕ) (l : List A) (rest : List ℕ)
      → is_row test w n (row_bytes bytes d n l ++ rest) ≡ true
  row-passes test each h n l rest =
      let f : ℕ → List ℕ = λ k. bytes (get_or l k d) in
      every_of (λ k. test (part_in w (joined f n ++ rest) k)) 0 n
      (λ k a b. ap test (part-joined f w (λ j. each (get_or l j d)) n rest k (omega arith)) ∙ h (get_or l k d))

  -- parts that are those of what they give make a row that is that of what it gives
  pub row-bytes-again : (from : List ℕ → A) (n : ℕ) (b : List ℕ) → ((k : ℕ) → k < n → bytes (from (part_in w b k)) ≡ part_in w b k)
      → row_bytes bytes d n (row_from from w n b) ≡ take (n * w) b
  row-bytes-again from n b h =
      let f : ℕ → A = λ k. from (part_in w b k) in
      joined_same (λ k. bytes (get_or (firsts f n) k d)) (part_in w b) n (λ k l. ap bytes (get_or-firsts f n k d l) ∙ h k l) ∙ joined-parts w n b

-- ---- eight bytes, as the code reads them

pub spelled-eight : (l : List ℕ) → length l ≡ 8
    → let b : ℕ → ℕ = λ i. get_or l i 0 in
    spelled l ≡ b 0 + 256 * (b 1 + 256 * (b 2 + 256 * (b 3 + 256 * (b 4 + 256 * (b 5 + 256 * (b 6 + 256 * b 7))))))
unfolding spelled firsts
spelled-eight l e = ap spelled (sym (firsts-of (λ k. get_or l k 0) 0 l 8 e (λ k h. refl))) ∙ omega arith
