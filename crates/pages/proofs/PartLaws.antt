-- Laws of a part of a list, and of frames of any size.
use mathlib.Core.Path.{◌≡◌, refl, sym, ap, ap₂, ◌∙◌, subst}
use mathlib.Core.Bool.{Bool, true, false}
use mathlib.Core.List.{List, [], ◌∷◌, ◌++◌, append_assoc}
use Prim.Native.Nat.{ℕ, zero, suc, ◌+◌, ◌-◌, ◌*◌, ◌/◌, ◌%◌, ◌≤◌, ◌<◌}
use native.Mathlib.Nat.{suc-mul, mul-le-mul_right, le_trans, le_of_eq, div-add-mod', mod-lt, div-lt_iff_lt-mul}
use native.Mathlib.Omega.{arith}
use lib.Dec.{eqb, ltb}
use lib.ListN.{length, take, drop, get_or, set}
use lib.ListN.{length-append, length-take, length-drop, length-replicate, length-set, take-append-drop}
use lib.Seq.{length-take-le, take-append-le, drop-append-le, drop-append-add, set-append_left, take_at, drop_at}
use lib.Seq.{drop-drop, get_or-take, get_or-drop, ext_get_or}
use borrow.Author.Tests.{ltb-true, ltb-false, eqb-true, eqb-false}
use Rattle.basics.specs.Choice.{◌when◌else◌}
use Rattle.basics.proofs.TestLaws.{by_cases}
use Rattle.pages.specs.Parts.{part_at, set_part, zeros, frame, set_frame}

-- ---- zero bytes

pub length-zeros : (n : ℕ) → length (zeros n) ≡ n
unfolding zeros
length-zeros n = length-replicate n 0

-- past the end too
pub get_or-zeros : (n k : ℕ) → get_or (zeros n) k 0 ≡ 0
unfolding zeros
get_or-zeros zero k = refl
get_or-zeros (suc n) zero = refl
get_or-zeros (suc n) (suc k) = get_or-zeros n k

-- ---- a part of a list

pub length_part : (xs : List ℕ) (at n : ℕ) → at + n ≤ length xs → length (part_at xs at n) ≡ n
unfolding part_at
length_part xs at n h = simp (length-take, length-drop) (omega arith)

pub part-get_or : (xs : List ℕ) (at n o : ℕ) → o < n → get_or (part_at xs at n) o 0 ≡ get_or xs (at + o) 0
unfolding part_at
part-get_or xs at n o h = get_or-take n (drop at xs) o 0 h ∙ get_or-drop at xs o 0

-- a part of the first of two lists
part-append : (p r : List ℕ) (j n : ℕ) → j + n ≤ length p → part_at (p ++ r) j n ≡ part_at p j n
unfolding part_at
part-append p r j n l =
    ap (take n) (drop-append-le j p r (omega arith)) ∙ take-append-le n (drop j p) r (omega (arith, length-drop j p))

-- ---- a list with a part replaced

-- what stands up to the end of the part
head : List ℕ → ℕ → List ℕ → List ℕ
head xs at ys = take at xs ++ ys

head-then : (xs : List ℕ) (at : ℕ) (ys : List ℕ) → set_part xs at ys ≡ head xs at ys ++ drop (at + length ys) xs
unfolding set_part head
head-then xs at ys = sym (append_assoc (take at xs) ys (drop (at + length ys) xs))

module _ (xs : List ℕ) (at : ℕ) (ys : List ℕ) (fits : at + length ys ≤ length xs) where
  length-head : length (head xs at ys) ≡ at + length ys
  unfolding head
  length-head = length-append (take at xs) ys ∙ ap (λ (k : ℕ). k + length ys) (length-take-le at xs (omega arith))

  pub length-set_part : length (set_part xs at ys) ≡ length xs
  length-set_part =
      ap length (head-then xs at ys) ∙ length-append (head xs at ys) (drop (at + length ys) xs)
      ∙ ap₂ (λ (m n : ℕ). m + n) length-head (length-drop (at + length ys) xs) ∙ omega arith

  -- the part itself
  pub part_same : (n : ℕ) → length ys ≡ n → part_at (set_part xs at ys) at n ≡ ys
  unfolding part_at set_part
  part_same n e =
      ap (take n) (drop_at (take at xs) (ys ++ drop (at + length ys) xs) at (length-take-le at xs (omega arith)))
      ∙ take_at ys (drop (at + length ys) xs) n e

  -- a part after it
  pub part-after : (j n : ℕ) → at + length ys ≤ j → part_at (set_part xs at ys) j n ≡ part_at xs j n
  unfolding part_at
  part-after j n l =
      let d : ℕ = j - (at + length ys) in
      let ej : j ≡ at + length ys + d = omega arith in
      ap (take n)
      (ap₂ drop (ej ∙ ap (λ (k : ℕ). k + d) (sym length-head)) (head-then xs at ys)
      ∙ drop-append-add (head xs at ys) (drop (at + length ys) xs) d ∙ drop-drop d (at + length ys) xs ∙ ap (λ (k : ℕ). drop k xs) (sym ej))

-- a part before it
pub part-before : (xs : List ℕ) (at : ℕ) (ys : List ℕ) (j n : ℕ) → at ≤ length xs → j + n ≤ at
    → part_at (set_part xs at ys) j n ≡ part_at xs j n
unfolding set_part
part-before xs at ys j n h l =
    let e = length-take-le at xs h in
    part-append (take at xs) (ys ++ drop (at + length ys) xs) j n (omega arith)
    ∙ sym (part-append (take at xs) (drop at xs) j n (omega arith)) ∙ ap (λ (r : List ℕ). part_at r j n) (take-append-drop at xs)

-- what a slice holds when a part that was lent has come back as ys
pub came-back : (xs ys : List ℕ) (at e : ℕ) → length ys ≡ e - at → take at xs ++ (ys ++ drop (e - at) (drop at xs)) ≡ set_part xs at ys
unfolding set_part
came-back xs ys at e h =
    ap (λ (r : List ℕ). take at xs ++ (ys ++ r)) (drop-drop (e - at) at xs ∙ ap (λ (k : ℕ). drop (at + k) xs) (sym h))

-- one element of a part set is that element of the list
pub part-set : (xs : List ℕ) (at n o b : ℕ) → o < n → at + n ≤ length xs → set_part xs at (set (part_at xs at n) o b) ≡ set xs (at + o) b
unfolding set_part part_at
part-set [] at n o b l h = absurd (omega arith)
part-set (x ∷ xs) zero n o b l h =
    let whole : length (take n (x ∷ xs)) ≡ n = length-take-le n (x ∷ xs) (omega arith) in
    let rest : 0 + length (set (take n (x ∷ xs)) o b) ≡ n = omega (arith, length-set (take n (x ∷ xs)) o b) in
    let place : o ≡ 0 + o = omega arith in
    ap (λ (m : ℕ). set (take n (x ∷ xs)) o b ++ drop m (x ∷ xs)) rest
    ∙ sym (set-append_left (take n (x ∷ xs)) (drop n (x ∷ xs)) o b (omega arith))
    ∙ ap₂ (λ (r : List ℕ) (m : ℕ). set r m b) (take-append-drop n (x ∷ xs)) place
part-set (x ∷ xs) (suc at) n o b l h =
    let ys : List ℕ = set (take n (drop at xs)) o b in
    let next : (m : ℕ) → suc at + m ≡ suc (at + m) = λ m. omega arith in
    ap (λ (m : ℕ). x ∷ (take at xs ++ (ys ++ drop m (x ∷ xs)))) (next (length ys))
    ∙ ap (λ (r : List ℕ). x ∷ r) (part-set xs at n o b l (omega arith)) ∙ ap (λ (m : ℕ). set (x ∷ xs) m b) (sym (next o))

-- ---- a frame of a pool

-- a frame below another ends before it
below : (size f g : ℕ) → f < g → f * size + size ≤ g * size
below size f g l = le_trans (le_of_eq (sym (suc-mul f size))) (mul-le-mul_right size l)

-- each of the n frames of a pool lies in it
pub fits-pool : (size n : ℕ) (xs : List ℕ) (f : ℕ) → length xs ≡ n * size → f < n → f * size + size ≤ length xs
fits-pool size n xs f e l = le_trans (below size f n l) (le_of_eq (sym e))

pub length-frame : (size : ℕ) (xs : List ℕ) (f : ℕ) → f * size + size ≤ length xs → length (frame size xs f) ≡ size
unfolding frame
length-frame size xs f h = length_part xs (f * size) size h

-- a byte of a frame
pub frame_at : (size : ℕ) (xs : List ℕ) (f o : ℕ) → o < size → get_or (frame size xs f) o 0 ≡ get_or xs (f * size + o) 0
unfolding frame
frame_at size xs f o l = part-get_or xs (f * size) size o l

-- each frame of a pool of zero bytes is zero
pub frame-zeros : (size n f : ℕ) → f < n → frame size (zeros (n * size)) f ≡ zeros size
frame-zeros size n f l =
    let fits = fits-pool size n (zeros (n * size)) f (length-zeros (n * size)) l in
    let whole : length (frame size (zeros (n * size)) f) ≡ size = length-frame size (zeros (n * size)) f fits in
    ext_get_or 0 (frame size (zeros (n * size)) f) (zeros size) (whole ∙ sym (length-zeros size))
    (λ o d. frame_at size (zeros (n * size)) f o (omega arith) ∙ get_or-zeros (n * size) (f * size + o) ∙ sym (get_or-zeros size o))

-- ---- a frame replaced

module _ (size : ℕ) (xs : List ℕ) (f : ℕ) (ys : List ℕ) (whole : length ys ≡ size) (fits : f * size + size ≤ length xs) where
  room : f * size + length ys ≤ length xs
  room = omega arith

  pub length-set_frame : length (set_frame size xs f ys) ≡ length xs
  unfolding set_frame
  length-set_frame = length-set_part xs (f * size) ys room

  pub frame_same : frame size (set_frame size xs f ys) f ≡ ys
  unfolding frame set_frame
  frame_same = part_same xs (f * size) ys room size whole

  pub frame-other : (g : ℕ) → (g ≡ f → ⊥) → frame size (set_frame size xs f ys) g ≡ frame size xs g
  unfolding frame set_frame
  frame-other g n =
      by_cases (ltb g f)
      (λ p. part-before xs (f * size) ys (g * size) size (omega arith) (below size g f (ltb-true g f p)))
      (λ p. part-after xs (f * size) ys room (g * size) size (omega (arith, below size f g (omega (arith, ltb-false g f p)))))

  -- both in one
  pub frame-set : (g : ℕ) → frame size (set_frame size xs f ys) g ≡ (ys when eqb g f else frame size xs g)
  frame-set g =
      by_cases (eqb g f) (λ e. rw (e, eqb-true g f e) frame_same) (λ e. rw e (frame-other g (eqb-false g f e)))

-- a frame with one byte set is the pool with one byte set
pub byte-set : (size : ℕ) (xs : List ℕ) (f o b : ℕ) → o < size → f * size + size ≤ length xs
    → set_frame size xs f (set (frame size xs f) o b) ≡ set xs (f * size + o) b
unfolding frame set_frame
byte-set size xs f o b l h = part-set xs (f * size) size o b l h

-- two pools of n frames are equal where each frame is
pub pool-ext : (size n : ℕ) (xs ys : List ℕ) → 0 < size → length xs ≡ n * size → length ys ≡ n * size
    → ((f : ℕ) → f < n → frame size xs f ≡ frame size ys f) → xs ≡ ys
pool-ext size n xs ys pos lx ly same = ext_get_or 0 xs ys (lx ∙ sym ly) (λ i h. at i (subst (λ (m : ℕ). i < m) lx h))
  where
    at : (i : ℕ) → i < n * size → get_or xs i 0 ≡ get_or ys i 0
    at i h =
        let f : ℕ = i / size in
        let o : ℕ = i % size in
        let e : f * size + o ≡ i = div-add-mod' i size in
        ap (λ (k : ℕ). get_or xs k 0) (sym e) ∙ sym (frame_at size xs f o (mod-lt i pos))
        ∙ ap (λ (r : List ℕ). get_or r o 0) (same f ((div-lt_iff_lt-mul pos).1 h))
        ∙ frame_at size ys f o (mod-lt i pos) ∙ ap (λ (k : ℕ). get_or ys k 0) e

-- two lines of a table whose tests do not both hold, in either order
swap : {A : Type 0} (x y z : A) (a b : Bool) → (a ≡ true → b ≡ true → ⊥) → (x when a else y when b else z) ≡ (y when b else x when a else z)
swap x y z true true h = absurd (h refl refl)
swap x y z true false h = refl
swap x y z false b h = refl

-- two frames replaced in either order
pub frames-comm : (size n : ℕ) (xs : List ℕ) (f g : ℕ) (ys zs : List ℕ) → 0 < size → length xs ≡ n * size → f < n → g < n → (g ≡ f → ⊥)
    → length ys ≡ size → length zs ≡ size
    → set_frame size (set_frame size xs f ys) g zs ≡ set_frame size (set_frame size xs g zs) f ys
frames-comm size n xs f g ys zs pos lx hf hg ne ly lz =
    let ff = fits-pool size n xs f lx hf in
    let gg = fits-pool size n xs g lx hg in
    let lf = length-set_frame size xs f ys ly ff ∙ lx in
    let lg = length-set_frame size xs g zs lz gg ∙ lx in
    let gf = fits-pool size n (set_frame size xs f ys) g lf hg in
    let fg = fits-pool size n (set_frame size xs g zs) f lg hf in
    pool-ext size n _ _ pos
    (length-set_frame size (set_frame size xs f ys) g zs lz gf ∙ lf) (length-set_frame size (set_frame size xs g zs) f ys ly fg ∙ lg)
    (λ h k.
    frame-set size (set_frame size xs f ys) g zs lz gf h ∙ ap (λ (page : List ℕ). zs when eqb h g else page) (frame-set size xs f ys ly ff h)
    ∙ swap zs ys (frame size xs h) (eqb h g) (eqb h f) (λ p q. ne (sym (eqb-true h g p) ∙ eqb-true h f q))
    ∙ sym (frame-set size (set_frame size xs g zs) f ys ly fg h ∙ ap (λ (page : List ℕ). ys when eqb h f else page) (frame-set size xs g zs lz gg h)))

-- ---- a frame that is lent

-- the part that is lent is the frame
pub part-is-frame : (size : ℕ) (xs : List ℕ) (f : ℕ) → take ((f * size + size) - f * size) (drop (f * size) xs) ≡ frame size xs f
unfolding frame
part-is-frame size xs f = let e : (f * size + size) - f * size ≡ size = omega arith in ap (λ (n : ℕ). take n (drop (f * size) xs)) e

-- it is a page long
pub length-lent : (size : ℕ) (xs : List ℕ) (f : ℕ) → f * size + size ≤ length xs
    → length (take ((f * size + size) - f * size) (drop (f * size) xs)) ≡ size
length-lent size xs f h = ap length (part-is-frame size xs f) ∙ length-frame size xs f h

-- the pool, when the part has come back as ys, which is zs
pub frame-back-as : (size : ℕ) (xs ys zs : List ℕ) (f : ℕ) → ys ≡ zs → length zs ≡ size
    → take (f * size) xs ++ (ys ++ drop ((f * size + size) - f * size) (drop (f * size) xs)) ≡ set_frame size xs f zs
unfolding set_frame
frame-back-as size xs ys zs f e h =
    came-back xs ys (f * size) (f * size + size) (omega (arith, ap length e)) ∙ ap (set_frame size xs f) e
