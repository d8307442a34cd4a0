-- Laws of the bytes of a page as a list and as a function.
use mathlib.Core.Path.{◌≡◌, refl, sym, ap, ◌∙◌}
use mathlib.Core.List.{List}
use Prim.Native.Nat.{ℕ, zero, suc, ◌+◌, ◌*◌, ◌≤◌, ◌<◌}
use native.Mathlib.Omega.{arith}
use lib.Dec.{eqb}
use lib.ListN.{length, get_or, set, length-set}
use lib.Seq.{get_or-set_same, get_or-set_other, ext_get_or}
use borrow.Author.Tests.{eqb-true, eqb-false}
use Rattle.basics.specs.Choice.{◌when◌else◌}
use Rattle.basics.specs.Ranges.{alike}
use Rattle.basics.proofs.TestLaws.{by_cases, both_ways}
use Rattle.basics.proofs.LoopLaws.{alike_at, alike_of}
use Rattle.pages.specs.Parts.{zeros, listed, frame, same_bytes}
use Rattle.pages.proofs.PartLaws.{length-zeros, get_or-zeros, length-frame, frame_at}

pub length-listed : (n : ℕ) (f : ℕ → ℕ) → length (listed n f) ≡ n
unfolding listed
length-listed zero f = refl
length-listed (suc n) f = ap suc (length-listed n (λ o. f (suc o)))

pub listed_at : (n : ℕ) (f : ℕ → ℕ) (o : ℕ) → o < n → get_or (listed n f) o 0 ≡ f o
unfolding listed
listed_at zero f o h = absurd (omega arith)
listed_at (suc n) f zero h = refl
listed_at (suc n) f (suc o) h = listed_at n (λ k. f (suc k)) o (omega arith)

-- a list of n bytes is that of its bytes
pub as-listed : (n : ℕ) (f : ℕ → ℕ) (l : List ℕ) → length l ≡ n → ((o : ℕ) → o < n → get_or l o 0 ≡ f o) → l ≡ listed n f
as-listed n f l e h =
    ext_get_or 0 l (listed n f) (e ∙ sym (length-listed n f)) (λ o d. h o (omega arith) ∙ sym (listed_at n f o (omega arith)))

-- two pages with the same first n bytes are the same
pub listed_same : (n : ℕ) (f g : ℕ → ℕ) → ((o : ℕ) → o < n → f o ≡ g o) → listed n f ≡ listed n g
listed_same n f g e = as-listed n g (listed n f) (length-listed n f) (λ o d. listed_at n f o d ∙ e o d)

-- one byte stored
pub listed-set : (n : ℕ) (f : ℕ → ℕ) (o b : ℕ) → o < n → set (listed n f) o b ≡ listed n (λ j. b when eqb j o else f j)
listed-set n f o b l =
    as-listed n (λ j. b when eqb j o else f j) (set (listed n f) o b) (length-set (listed n f) o b ∙ length-listed n f)
    (λ j d. by_cases (eqb j o)
    (λ e. rw (e, eqb-true j o e) (get_or-set_same (listed n f) o b 0 (omega (arith, length-listed n f))))
    (λ e. rw e (get_or-set_other (listed n f) o j b 0 (eqb-false j o e) ∙ listed_at n f j d)))

pub zeros-listed : (n : ℕ) → zeros n ≡ listed n (λ _. 0)
zeros-listed n = as-listed n (λ _. 0) (zeros n) (length-zeros n) (λ o d. get_or-zeros n o)

pub frame-listed : (size : ℕ) (xs : List ℕ) (f : ℕ) → f * size + size ≤ length xs → frame size xs f ≡ listed size (λ o. get_or xs (f * size + o) 0)
frame-listed size xs f h =
    as-listed size (λ o. get_or xs (f * size + o) 0) (frame size xs f) (length-frame size xs f h) (frame_at size xs f)

-- two pages given by their bytes are the same where these are alike
pub same-listed : (n : ℕ) (f g : ℕ → ℕ) → same_bytes n (listed n f) (listed n g) ≡ alike f g n
unfolding same_bytes
same-listed n f g =
    both_ways _ _
    (λ h. alike_of f g n (λ o d. sym (listed_at n f o d) ∙ alike_at _ _ n h o d ∙ listed_at n g o d))
    (λ h. alike_of _ _ n (λ o d. listed_at n f o d ∙ alike_at f g n h o d ∙ sym (listed_at n g o d)))
