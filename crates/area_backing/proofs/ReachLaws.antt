-- Two areas side by side: whether their backings agree at a page, and how far one reaches from a page of the other on.
use Prim.Native.Nat.{ℕ, ◌+◌, ◌-◌, ◌≤◌, ◌<◌}
use mathlib.Core.Path.{◌≡◌, refl, sym, ◌∙◌}
use mathlib.Core.Bool.{Bool, true, false}
use native.Mathlib.Omega.{arith}
use lib.Dec.{eqb}
use borrow.Author.Tests.{eqb-true, eq-eqb}
use Rattle.basics.proofs.TestLaws.{both_ways}
use Rattle.basics.proofs.RangeLaws.{inside-yes, inside-below, inside_past}
use Rattle.interface.specs.declared.page.ImagePageNo.{ImagePageNo}
use Rattle.interface.specs.declared.page.Backing.{Backing}
use Rattle.interface.specs.declared.page.Backing.TheVariants.{Anonymous, Image}
use Rattle.interface.specs.Slots.{is_anonymous, advance, follows}
use Rattle.areas.specs.declared.area.Area.{Area}
use Rattle.area_backing.specs.Reach.{reach}

-- whether two backings agree is the same at every page that lies in both
agree-image : (p f q g page : ℕ) → f ≤ page → g ≤ page → eqb (p + g) (q + f) ≡ eqb (p + (page - f) + 0) (q + (page - g))
agree-image p f q g page x y =
    both_ways (eqb (p + g) (q + f)) (eqb (p + (page - f) + 0) (q + (page - g)))
    (λ h. eq-eqb (p + (page - f) + 0) (q + (page - g)) (omega (arith, eqb-true (p + g) (q + f) h)))
    (λ h. eq-eqb (p + g) (q + f) (omega (arith, eqb-true (p + (page - f) + 0) (q + (page - g)) h)))

-- as the code tells it, by the kind of each backing
none_is : (c : Backing) (n : ℕ) → is_anonymous c ≡ follows Anonymous 0 (advance c n)
unfolding follows
none_is Anonymous n = refl
none_is (Image q) n = refl

pub agree-none : (b c : Backing) (m n : ℕ) → b ≡ Anonymous → is_anonymous c ≡ follows (advance b m) 0 (advance c n)
agree-none b c m n e = rw e (none_is c n)

pub agree-not : (b c : Backing) (p : ImagePageNo) (m n : ℕ) → b ≡ Image p → c ≡ Anonymous → false ≡ follows (advance b m) 0 (advance c n)
unfolding follows
agree-not b c p m n e d = rw (e, d)

pub agree-both : (b c : Backing) (p q : ImagePageNo) (f g page : ℕ) → b ≡ Image p → c ≡ Image q → f ≤ page → g ≤ page
    → eqb (p.0 + g) (q.0 + f) ≡ follows (advance b (page - f)) 0 (advance c (page - g))
unfolding follows
agree-both b c p q f g page e d x y = rw (e, d) (agree-image p.0 f q.0 g page x y)

-- where they agree at a page they agree at each later one
pub agree_on : (b c : Backing) (f g page i : ℕ) → f ≤ page → g ≤ page → page ≤ i
    → follows (advance b (page - f)) 0 (advance c (page - g)) ≡ true → follows (advance b (i - f)) 0 (advance c (i - g)) ≡ true
unfolding follows
agree_on Anonymous Anonymous f g page i x y z h = refl
agree_on Anonymous (Image q) f g page i x y z h = h
agree_on (Image p) Anonymous f g page i x y z h = h
agree_on (Image p) (Image q) f g page i x y z h =
    sym (agree-image p.0 f q.0 g i (omega arith) (omega arith)) ∙ agree-image p.0 f q.0 g page x y ∙ h

-- how far one area of the snapshot reaches
module _ (a copy : Area) (page : ℕ) where
  abbrev same : Bool
  same = follows (advance a.backing (page - a.first.0)) 0 (advance copy.backing (page - copy.first.0))

  pub reach-below : page < copy.first.0 → page ≡ reach a copy page
  reach-below h = rw (inside-below copy.first.0 copy.pages page h)

  pub reach-past : copy.first.0 + copy.pages ≤ page → page ≡ reach a copy page
  reach-past h = rw (inside_past copy.first.0 copy.pages page h)

  module _ (x : copy.first.0 ≤ page) (y : page < copy.first.0 + copy.pages) where
    pub reach-not : same ≡ false → page ≡ reach a copy page
    reach-not e = rw (inside-yes copy.first.0 copy.pages page x y, e)

    pub reach-end : same ≡ true → copy.first.0 + copy.pages ≡ reach a copy page
    reach-end e = rw (inside-yes copy.first.0 copy.pages page x y, e)
