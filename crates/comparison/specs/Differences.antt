-- The comparisons as three tables: a page in the sandbox and in its snapshot; the lowest difference of all 64 pages; the committed pages whose bytes differ.
use Rattle.std.specs.Prelude.{ℕ, Bool, true, false, not, ◌&&◌, List, [], ◌∷◌, leb, eqb}
use Rattle.basics.specs.Choice.{same}
use Rattle.basics.specs.Ranges.{over}
use Rattle.interface.specs.declared.page.Backing.TheVariants.{Anonymous, Image}
use Rattle.interface.specs.declared.page.Slot.{Slot}
use Rattle.interface.specs.declared.page.Slot.TheVariants.{Unmapped, Mapped}
use Rattle.interface.specs.Slots.{Slots, with_rights, with_committed}
use Rattle.comparison.specs.Compare.{agree, lowest_difference, changed_pages}
use Rattle.interface.specs.Edges.{full}

-- a page in the sandbox and in the snapshot, whether its bytes are the same in both, and whether it agrees
pub record Pair : Type 0 where
  pub present : Slot
  pub snapshot : Slot
  pub same_bytes : Bool
  pub agrees : Bool

abbrev pub pair : Slot → Slot → Bool → Bool → Pair
pair s t b r = record { present = s; snapshot = t; same_bytes = b; agrees = r }

-- a mapped page with these rights
abbrev pub anonymous : ℕ → Slot
anonymous r = Mapped (record { rights = r; committed = false; backing = Anonymous })

abbrev pub image_page : ℕ → Slot
image_page first = Mapped (record { rights = 3; committed = false; backing = Image (record { 0 = first }) })

abbrev pub pairs : List Pair
pairs =
    -- "a page unmapped in both agrees", and has no bytes
    pair Unmapped Unmapped true true ∷ pair Unmapped Unmapped false true ∷
    -- "in being mapped"
    pair Unmapped (anonymous 3) true false ∷ pair (anonymous 3) Unmapped true false ∷
    pair Unmapped (image_page 0) true false ∷ pair (image_page 0) Unmapped true false ∷
    -- "in rights"
    pair (anonymous 1) (anonymous 3) true false ∷ pair (anonymous 3) (anonymous 1) true false ∷ pair (anonymous 1) (anonymous 1) true true ∷
    -- "or in bytes"
    pair (anonymous 3) (anonymous 3) true true ∷ pair (anonymous 3) (anonymous 3) false false ∷ pair (anonymous 1) (anonymous 3) false false ∷
    -- the mark is not compared
    pair (anonymous 3) (with_committed (anonymous 3)) true true ∷ pair (with_committed (anonymous 3)) (anonymous 3) true true ∷
    pair (with_committed (anonymous 3)) (with_committed (anonymous 3)) true true ∷ pair (with_committed (anonymous 3)) (with_committed (anonymous 3)) false false ∷
    -- nor is the backing
    pair (anonymous 3) (image_page 0) true true ∷ pair (image_page 0) (anonymous 3) true true ∷ pair (image_page 0) (image_page 1) true true ∷
    pair (image_page 0) (image_page 0) false false ∷ []

unfoldable pub pairs_agree : List Pair → Bool
pairs_agree [] = true
pairs_agree (p ∷ ps) = same (agree p.present p.snapshot p.same_bytes) p.agrees && pairs_agree ps

-- the pages of the sandbox and of the snapshot, at which the bytes are the same, and the lowest difference
pub record Comparison : Type 0 where
  pub present : Slots
  pub snapshot : Slots
  pub same_bytes : ℕ → Bool
  pub differs : ℕ

abbrev pub compared : Slots → Slots → (ℕ → Bool) → ℕ → Comparison
compared f c x n = record { present = f; snapshot = c; same_bytes = x; differs = n }

abbrev pub nothing : Slots
nothing i = Unmapped

abbrev pub everywhere : ℕ → Bool
everywhere i = true

-- all pages mapped, but this one; and with other rights at this one
abbrev pub without : ℕ → Slots
without page = over page 1 (λ i. Unmapped) full

abbrev pub read_only : ℕ → Slots
read_only page = over page 1 (λ i. with_rights 1 (full i)) full

abbrev pub comparisons : List Comparison
comparisons =
    -- "64 if they nowhere differ"
    compared full full everywhere 64 ∷ compared nothing nothing everywhere 64 ∷ compared nothing nothing (λ i. false) 64 ∷
    compared (without 0) (without 0) (λ i. not (eqb i 0)) 64 ∷
    -- "the lowest page number": the first page, the last, the lower of two
    compared full full (λ i. not (eqb i 0)) 0 ∷ compared full full (λ i. not (eqb i 1)) 1 ∷ compared full full (λ i. not (eqb i 63)) 63 ∷
    compared full full (λ i. false) 0 ∷ compared full full (λ i. leb i 30) 31 ∷
    compared (read_only 20) (without 10) everywhere 10 ∷ compared (read_only 10) (without 20) everywhere 10 ∷
    compared (read_only 20) full (λ i. not (eqb i 10)) 10 ∷
    -- in being mapped and in rights, in both directions
    compared full nothing everywhere 0 ∷ compared nothing full everywhere 0 ∷
    compared (without 63) full everywhere 63 ∷ compared full (without 63) everywhere 63 ∷
    compared (read_only 0) full everywhere 0 ∷ compared full (read_only 0) everywhere 0 ∷
    compared (read_only 63) full everywhere 63 ∷ compared full (read_only 63) everywhere 63 ∷ []

unfoldable pub lowest_found : List Comparison → Bool
lowest_found [] = true
lowest_found (c ∷ cs) = eqb (lowest_difference c.present c.snapshot c.same_bytes) c.differs && lowest_found cs

-- the pages of the sandbox, at which the bytes are those of the snapshot, and how many are counted
pub record Count : Type 0 where
  pub present : Slots
  pub same_bytes : ℕ → Bool
  pub counted : ℕ

abbrev pub counts : Slots → (ℕ → Bool) → ℕ → Count
counts f x n = record { present = f; same_bytes = x; counted = n }

-- all pages committed; but this one, which was unmapped since; but this one, which was mapped anew
abbrev pub committed : Slots
committed i = with_committed (full i)

abbrev pub unmapped_at : ℕ → Slots
unmapped_at page = over page 1 (λ i. Unmapped) committed

abbrev pub mapped_anew : ℕ → Slots
mapped_anew page = over page 1 full committed

abbrev pub change_counts : List Count
change_counts =
    -- "whose bytes differed": none, all, the first, the last, some
    counts committed everywhere 0 ∷ counts committed (λ i. false) 64 ∷ counts committed (λ i. not (eqb i 0)) 1 ∷ counts committed (λ i. not (eqb i 63)) 1 ∷
    counts committed (λ i. leb i 30) 33 ∷
    -- "still mapped": neither a page that is unmapped nor one that was mapped anew
    counts (unmapped_at 20) (λ i. false) 63 ∷ counts (mapped_anew 20) (λ i. false) 63 ∷ counts (mapped_anew 20) (λ i. not (eqb i 20)) 0 ∷
    counts (unmapped_at 20) (λ i. not (eqb i 20)) 0 ∷
    -- "committed pages"
    counts full (λ i. false) 0 ∷ counts nothing (λ i. false) 0 ∷
    -- rights do not count
    counts (over 0 64 (λ i. with_rights 1 (committed i)) nothing) everywhere 0 ∷ []

unfoldable pub all_counted : List Count → Bool
all_counted [] = true
all_counted (c ∷ cs) = eqb (changed_pages c.present c.same_bytes) c.counted && all_counted cs

-- of all tables
unfoldable pub differences_hold : Bool
differences_hold = pairs_agree pairs && (lowest_found comparisons && all_counted change_counts)
