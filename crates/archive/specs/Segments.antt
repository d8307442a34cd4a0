-- What each segment of an archive roll does: played from so, it leaves so. Behind the protects further segments can stand before the snapshot line.
use Rattle.std.specs.Prelude.{ℕ, ◌≡◌, true, false, ◌&&◌, List, [], ◌∷◌, ltb}
use Rattle.std.proofs.Math.Option.{some, none}
use Rattle.basics.specs.Choice.{◌when◌else◌}
use Rattle.interface.specs.declared.page.Slot.{Slot}
use Rattle.interface.specs.declared.page.Slot.TheVariants.{Unmapped, Mapped}
use Rattle.interface.specs.declared.request.Request.{Request}
use Rattle.interface.specs.Answers.{Answered}
use Rattle.interface.specs.Slots.{Slots, is_mapped, backing_at}
use Rattle.plain.specs.Machine.{Given, Pages, Core, Plain, fresh, backing_byte, answers, after_all}
use Rattle.plain_claims.specs.Lists.{up_to}
use Rattle.archive.specs.Archive.{opening, maps, writes, protects, closing}

-- every call was accepted
abbrev pub AllTaken : List Answered → Type 0
AllTaken [] = Unit {0}
AllTaken (a ∷ l) = (a.number ≡ 0) × AllTaken l

-- from any machine whose sandbox s has core c, every request of the list is accepted, and the sandbox has core c' afterwards
pub record Goes (g : Given) (s : ℕ) (l : List Request) (c c' : Core) : Type 0 where
  pub taken : (p : Plain) → (p s).core ≡ c → AllTaken (answers g p l)
  pub leaves : (p : Plain) → (p s).core ≡ c → (after_all g p l s).core ≡ c'

-- ---- what is reached in between

-- an open sandbox without a snapshot
abbrev pub built : ℕ → Slots → (ℕ → ℕ → ℕ) → Core
built share f bytes = record { opened = true; share = share; pages = record { slots = f; bytes = bytes }; copy = none }

-- a page made anew: uncommitted, with rights that come from the old ones
abbrev pub remade : (ℕ → ℕ) → Slot → Slot
remade r Unmapped = Unmapped
remade r (Mapped t) = Mapped (record { rights = r t.rights; committed = false; backing = t.backing })

-- with rights 3, as the maps make it; and with its own rights, as the protects leave it
abbrev pub writable : Slot → Slot
writable = remade (λ r. 3)

abbrev pub unmarked : Slot → Slot
unmarked = remade (λ r. r)

-- "its page's zero or image byte"
abbrev pub blank : List ℕ → Slots → ℕ → ℕ → ℕ
blank image f i = backing_byte image (backing_at (f i))

-- the snapshot's bytes on its mapped pages; what is no byte of a mapped page is as a map leaves it
abbrev pub filled : List ℕ → Pages → ℕ → ℕ → ℕ
filled image d i j = d.bytes i j when is_mapped (d.slots i) && ltb j 256 else blank image d.slots i j

-- a sandbox whose snapshot and present pages are these
abbrev pub snapped : ℕ → Pages → Core
snapped share d = record { opened = true; share = share; pages = d; copy = some d }

-- ---- each segment

pub record Segments (g : Given) (s share : ℕ) (d : Pages) : Type 0 where
  -- from fresh: a sandbox with its share and nothing mapped
  pub opens : AllTaken (answers g fresh (opening s share))
  pub opened : (up_to g (opening s share) s).core ≡ built share (λ i. Unmapped) (λ i j. 0)
  -- every page of the snapshot is mapped, with rights 3 and the bytes of its backing
  pub mapped : Goes g s (maps s d.slots) (built share (λ i. Unmapped) (λ i j. 0)) (built share (λ i. writable (d.slots i)) (blank g.image d.slots))
  -- it has the snapshot's bytes
  pub written : Goes g s (writes s g.image d) (built share (λ i. writable (d.slots i)) (blank g.image d.slots))
      (built share (λ i. writable (d.slots i)) (filled g.image d))
  -- and its rights; whatever its bytes
  pub protected : (bytes : ℕ → ℕ → ℕ) → Goes g s (protects s d.slots) (built share (λ i. writable (d.slots i)) bytes)
      (built share (λ i. unmarked (d.slots i)) bytes)
  -- its mark, and the copy
  pub closed : (bytes : ℕ → ℕ → ℕ)
      → Goes g s (closing s) (built share (λ i. unmarked (d.slots i)) bytes) (snapped share (record { slots = d.slots; bytes = bytes }))
