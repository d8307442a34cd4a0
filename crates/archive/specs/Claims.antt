-- What is claimed of an archive roll.
use Rattle.std.specs.Prelude.{ℕ, ◌+◌, ◌/◌, ◌%◌, ◌≤◌, ◌<◌, ◌≡◌, true, List, length}
use Rattle.std.proofs.Math.Option.{some}
use Rattle.basics.specs.Ranges.{count}
use Rattle.interface.specs.Numbers.{sandbox_count}
use Rattle.interface.specs.declared.request.Request.{Request}
use Rattle.interface.specs.Slots.{is_mapped, areas}
use Rattle.plain.specs.Machine.{Given, Pages, fresh, answers}
use Rattle.plain_claims.specs.Lists.{up_to}
use Rattle.archive.specs.Archive.{differs, read_only_start, archive}
use Rattle.archive.specs.Segments.{AllTaken, Segments}

-- "equal .. in mappings, rights and bytes": "Its mappings are its mapped pages with their backing; its bytes are what these pages read."
-- (The marks agree too.)
pub record Alike (d e : Pages) : Type 0 where
  pub slots : d.slots ≡ e.slots
  pub bytes : (i j : ℕ) → is_mapped (d.slots i) ≡ true → j < 256 → d.bytes i j ≡ e.bytes i j

-- a snapshot that occurs: sandbox s after some list has this share and this copy
pub record Occurs (g : Given) (s share : ℕ) (d : Pages) : Type 0 where
  pub list : List Request
  pub row : s < sandbox_count
  pub shared : (up_to g list s).core.share ≡ share
  pub copy : (up_to g list s).core.copy ≡ some d

-- each segment of its roll, played from what the one before leaves
abbrev pub InSegments : Given → Type 0
InSegments g = (s share : ℕ) (d : Pages) → Occurs g s share d → Segments g s share d

-- "Played from a fresh state with the same image and pool, the roll gives a sandbox whose snapshot and present pages both equal the written snapshot in
-- mappings, rights and bytes." Every line of it is accepted, and the sandbox has the share that the first names.
pub record Rebuilds (g : Given) (s share : ℕ) (d : Pages) (roll : List Request) : Type 0 where
  pub taken : AllTaken (answers g fresh roll)
  pub pages : Pages
  pub shared : (up_to g roll s).core.share ≡ share
  pub present : (up_to g roll s).core.pages ≡ pages
  pub copy : (up_to g roll s).core.copy ≡ some pages
  pub alike : Alike pages d

abbrev pub Replay : Given → Type 0
Replay g = (s share : ℕ) (d : Pages) → Occurs g s share d → Rebuilds g s share d (archive s share d g.image)

-- "Two snapshots under one image give equal rolls only if they agree in these."
abbrev pub OnlyIf : List ℕ → Type 0
OnlyIf image =
    (frames₁ frames₂ s₁ s₂ share₁ share₂ : ℕ) (d₁ d₂ : Pages)
    → Occurs (record { image = image; frames = frames₁ }) s₁ share₁ d₁
    → Occurs (record { image = image; frames = frames₂ }) s₂ share₂ d₂
    → archive s₁ share₁ d₁ image ≡ archive s₂ share₂ d₂ image
    → Alike d₁ d₂

-- and those that agree in these give equal rolls, of one sandbox with one share
abbrev pub IfAlike : Type 0
IfAlike = (s share : ℕ) (d e : Pages) (image : List ℕ) → Alike d e → archive s share d image ≡ archive s share e image

-- ---- how many lines

-- "The answer is the number of lines": one for each area, for each byte that differs and for each area with rights 1, the first and the last
abbrev pub LinesCounted : Type 0
LinesCounted =
    (s share : ℕ) (d : Pages) (image : List ℕ)
    → length (archive s share d image) ≡ areas d.slots + count (λ a. differs image d (a / 256) (a % 256)) 16384 + count (read_only_start d.slots) 64 + 2

-- never more than 8 + 16,384 + 8 + 2
abbrev pub Longest : Given → Type 0
Longest g = (s share : ℕ) (d : Pages) → Occurs g s share d → length (archive s share d g.image) ≤ 16402
