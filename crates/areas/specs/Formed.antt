-- Well formed areas: the test that the code computes, and what it says, in the words of "A state is sound if".
use Rattle.std.specs.Prelude.{ℕ, ◌+◌, ◌-◌, ◌≤◌, ◌<◌, ◌≡◌, Bool, true, false, not, ◌&&◌, leb, ltb, eqb, length, get_or}
use Rattle.basics.specs.Choice.{◌when◌else◌, implies, same}
use Rattle.basics.specs.Ranges.{every}
use Rattle.interface.specs.declared.page.Backing.{Backing}
use Rattle.interface.specs.declared.page.Backing.TheVariants.{Anonymous, Image}
use Rattle.interface.specs.declared.page.Attributes.{Attributes}
use Rattle.interface.specs.Slots.{follows, is_anonymous}
use Rattle.interface.specs.Limits.{rights_ok}
use Rattle.areas.specs.declared.area.Area.{Area}
use Rattle.areas.specs.declared.area.Areas.{Areas}
use Rattle.areas.specs.Areas.{none, attributes_of}

-- whether a page goes on where the area ends: "neighbouring pages that agree in rights, mark and backing (image pages running on)"
unfoldable pub goes_on : Area → ℕ → Attributes → Bool
goes_on a page t =
    eqb (a.first.0 + a.pages) page
    && (eqb a.rights t.rights && (same a.committed t.committed && follows a.backing a.pages t.backing))

-- "image pages exist": those of n pages with this backing
abbrev pub ImagesExist : ℕ → Backing → ℕ → Type 0
ImagesExist images Anonymous n = Unit {0}
ImagesExist images (Image first) n = first.0 + n ≤ images

-- "rights 1 or 3, lie in 0 to 63"; "image pages exist"; an area has a page
pub record Proper (images : ℕ) (a : Area) : Type 0 where
  pub some : 0 < a.pages
  pub inside : a.first.0 + a.pages ≤ 64
  pub rights : rights_ok a.rights ≡ true
  pub image : ImagesExist images a.backing a.pages

-- "ordered, apart and longest": the second area stands behind the first and does not go on where it ends
pub record Apart (a b : Area) : Type 0 where
  pub after : a.first.0 + a.pages ≤ b.first.0
  pub longest : goes_on a b.first.0 (attributes_of b) ≡ false

-- "areas .. are at most 8, with rights 1 or 3, lie in 0 to 63, ordered, apart and longest; image pages exist"; the places behind them are empty
pub record WellFormed (images : ℕ) (s : Areas) : Type 0 where
  pub eight : length s.list ≡ 8
  pub few : s.count ≤ 8
  pub each : (k : ℕ) → k < s.count → Proper images (get_or s.list k none)
  pub apart : (k : ℕ) → k + 1 < s.count → Apart (get_or s.list k none) (get_or s.list (k + 1) none)
  pub rest : (k : ℕ) → s.count ≤ k → get_or s.list k none ≡ none

-- ---- what the code computes: a test for each of these

-- "image pages exist"
abbrev pub images_exist : ℕ → Backing → ℕ → Bool
images_exist images Anonymous n = true
images_exist images (Image first) n = leb (first.0 + n) images

-- it has a page, it lies "in 0 to 63", its rights are "1 or 3", its "image pages exist"
unfoldable pub proper : ℕ → Area → Bool
proper images a =
    not (eqb a.pages 0)
    && (leb (a.first.0 + a.pages) 64 && (rights_ok a.rights && images_exist images a.backing a.pages))

-- "ordered, apart and longest"
unfoldable pub is_apart : Area → Area → Bool
is_apart a b = leb (a.first.0 + a.pages) b.first.0 && not (goes_on a b.first.0 (attributes_of b))

-- no area stands in the place
unfoldable pub is_none : Area → Bool
is_none a =
    eqb a.first.0 0
    && (eqb a.pages 0 && (eqb a.rights 0 && (not a.committed && is_anonymous a.backing)))

-- whether the place holds what it should: an area apart from the one before it, or none behind the last
unfoldable pub place_ok : ℕ → Areas → ℕ → Bool
place_ok images s k =
    proper images (get_or s.list k none)
    && implies (ltb 0 k) (is_apart (get_or s.list (k - 1) none) (get_or s.list k none))
    when ltb k s.count else
    is_none (get_or s.list k none)

-- "at most 8", and every one of the 8 places holds what it should
unfoldable pub well_formed : ℕ → Areas → Bool
well_formed images s = eqb (length s.list) 8 && (leb s.count 8 && every (place_ok images s) 0 8)
