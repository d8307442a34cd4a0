-- What the code tests of the areas before it looks at a page: where every area stands in the snapshot as it is, only a page with a front can differ.
use Rattle.std.specs.Prelude.{Bool, ◌&&◌, ◌||◌, eqb, get_or}
use Rattle.basics.specs.Ranges.{every}
use Rattle.areas.specs.declared.area.Area.{Area}
use Rattle.areas.specs.declared.area.Areas.{Areas}
use Rattle.areas.specs.Areas.{none}

-- a committed area that has the same pages and rights in the snapshot; or no area in both
abbrev pub stays : Area → Area → Bool
stays a c = eqb a.first.0 c.first.0 && (eqb a.pages c.pages && (eqb a.rights c.rights && (a.committed || eqb a.pages 0)))

-- of all 8 places
unfoldable pub unchanged : Areas → Areas → Bool
unchanged present snapshot = every (λ k. stays (get_or present.list k none) (get_or snapshot.list k none)) 0 8
