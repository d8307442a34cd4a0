-- Examples, each computed: areas after some changes, a run of image pages, the lowest gap, and a ninth area.
use Prim.Native.Nat.{ℕ, ◌*◌, ◌%◌}
use mathlib.Core.Path.{◌≡◌, refl}
use mathlib.Core.Bool.{true, false, ◌&&◌}
use lib.Dec.{ltb, eqb}
use Rattle.basics.specs.Choice.{◌when◌else◌}
use Rattle.basics.specs.Ranges.{count, every, lowest, inside, over}
use Rattle.interface.specs.declared.page.Backing.{Backing}
use Rattle.interface.specs.declared.page.Backing.TheVariants.{Anonymous, Image}
use Rattle.interface.specs.declared.page.Attributes.{Attributes}
use Rattle.interface.specs.declared.page.Slot.TheVariants.{Unmapped, Mapped}
use Rattle.interface.specs.Slots.{Slots, follows, joins, areas, lowest_gap}
use Rattle.areas.specs.declared.area.Areas.{Areas}
use Rattle.areas.specs.Areas.{empty, slot_in, slots}
use Rattle.areas.specs.Formed.{goes_on, proper, is_apart, is_none, place_ok, well_formed}
use Rattle.packing.specs.declared.pack.Change.{Change}
use Rattle.packing.specs.declared.pack.Change.TheVariants.{Map, Protect}
use Rattle.packing.specs.Pack.{continues, push, pack_to, pack, changed}

abbrev writable : Backing → Attributes
writable b = record { rights = 3; committed = false; backing = b }

abbrev image : ℕ → Backing
image first = Image (record { 0 = first })

-- the areas after a change
after : Areas → ℕ → ℕ → Change → Areas
unfolding slot_in over inside pack_to push continues goes_on follows
after s first n c = (pack (changed (slots s) first n c)).areas

-- four pages, two of them made read only: three areas, and four with the two pages of the image
four : Areas
unfolding after
four = after (after empty 0 4 (Map (writable Anonymous))) 1 2 (Protect 1)

mixed : Areas
unfolding after four
mixed = after four 10 2 (Map (writable (image 5)))

three-areas : four.count ≡ 3
unfolding four
three-areas = refl

four-areas : mixed.count ≡ 4
unfolding mixed
four-areas = refl

-- "longest runs": the pages made writable again are one area
one_again : (after four 1 2 (Protect 3)).count ≡ 1
unfolding after four
one_again = refl

-- "image pages running on": page 7 of the image goes on behind 5 and 6, page 8 does not
runs_on : (after mixed 12 2 (Map (writable (image 7)))).count ≡ 4
unfolding after mixed
runs_on = refl

runs-not-on : (after mixed 12 2 (Map (writable (image 8)))).count ≡ 5
unfolding after mixed
runs-not-on = refl

-- "the lowest gap that fits"
gap-of-six : lowest_gap (slots mixed) 6 ≡ 4
unfolding mixed lowest_gap lowest every slot_in inside
gap-of-six = refl

gap-of-seven : lowest_gap (slots mixed) 7 ≡ 12
unfolding mixed lowest_gap lowest every slot_in inside
gap-of-seven = refl

no_gap : lowest_gap (slots mixed) 53 ≡ 64
unfolding mixed lowest_gap lowest every slot_in inside
no_gap = refl

-- the image pages 5 and 6 are there in an image of 7 pages, and not in one of 6
formed-over-seven : well_formed 7 mixed ≡ true
unfolding mixed well_formed every place_ok proper is_apart is_none goes_on follows
formed-over-seven = refl

unformed-over-six : well_formed 6 mixed ≡ false
unfolding mixed well_formed every place_ok proper is_apart is_none goes_on follows
unformed-over-six = refl

-- "pages 0, 2 .. 14 mapped, then 16"
every_second : ℕ → Slots
every_second n i = Mapped (writable Anonymous) when eqb (i % 2) 0 && ltb i (2 * n) else Unmapped

eight-fit : (pack (every_second 8)).fits ≡ true
unfolding every_second pack_to push continues goes_on follows
eight-fit = refl

nine-do-not : (pack (every_second 9)).fits ≡ false
unfolding every_second pack_to push continues goes_on follows
nine-do-not = refl

nine-areas : areas (every_second 9) ≡ 9
unfolding every_second areas count joins follows
nine-areas = refl
