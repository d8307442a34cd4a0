-- The pages below the first one that is still to be rewound are restored, each as the present areas say it, and the changed ones counted; where a front stays,
-- the snapshot's areas say the same.
use mathlib.Core.Path.{◌≡◌, refl, ap, ◌∙◌}
use Prim.Native.Nat.{ℕ, ◌-◌, ◌*◌, ◌≤◌}
use native.Mathlib.Omega.{arith}
use borrow.Author.Rules.{rules}
use lib.ListN.{length}
use Rattle.interface.specs.Numbers.{pages_in}
use Rattle.table.specs.Store.{Store, kept, front_of, Ranged, free_to}
use Rattle.table.proofs.FiledLaws.{filed-ranged}
use Rattle.areas.specs.Formed.{WellFormed}
use Rattle.rewind_cases.specs.Rewind.{rewind_to}
use Rattle.rewound_store.proofs.RunLaws.{rewind_to-same}
use Rattle.content.specs.Content.{copy_backing}
use Rattle.memory.specs.Memory.{keeps_front}
use Rattle.restoring.specs.Changed.{changed_to}
use Rattle.restoring.proofs.ChangedLaws.{changed-few}
use Rattle.rewinding.proofs.AreaLaws.{keeps, backings, Left, left-start, left-first, backed-area, area-more, area-last, count-last, area-kept}
use Rattle.rewinding.proofs.FoundLaws.{found-changed}
use Rattle.rewinding.proofs.store.rewind.Statement.{statement}
use Rattle.rewinding.proofs.store.rewind.Tie as tie

abbrev invariant-loop : tie.invariant-loop-k
invariant-loop pool₀ table₀ image s present count done₀ k₀ pool table done k =
    (k ≤ present.count) × (length pool ≡ length pool₀) × (length table ≡ length table₀) × Ranged 256 pool table × (done.page.0 ≤ 64)
    × (kept done.held pool table
    ≡ rewind_to image (s * 128) (keeps present) (backings present) (kept done₀.held pool₀ table₀) done.page.0)
    × (done.changed ≡ changed_to image (s * 128) (keeps present) (backings present) (kept done₀.held pool₀ table₀) done.page.0)
    × Left present k done.page.0

abbrev decreases-loop : tie.decreases-loop-k
decreases-loop pool₀ table₀ image s present count done₀ k₀ pool table done k = present.count - k

-- ---- a turn

abbrev Start : Type 0
Start = tie.Start invariant-loop decreases-loop

formed : (s : Start) → WellFormed (pages_in (length s.args.image.now)) s.args.b.present
formed s = s.requires.1.0.sound.present

abbrev behind : tie.At-loop-k invariant-loop decreases-loop → Start
behind c = c.before.before.before.before.before

-- the store that the turn finds
abbrev found : tie.At-loop-k invariant-loop decreases-loop → Store
found c = let l = c.loop-k in kept l.done.held l.pool l.table

-- no more pages were found changed than were looked at
few-found : (c : tie.At-loop-k invariant-loop decreases-loop) → c.loop-k.done.changed ≤ c.loop-k.done.page.0
few-found c =
    let a = (behind c).args in
    let st : Store = kept a.held a.pool.now a.table.now in
    let few = changed-few a.image.now (a.s * 128) (keeps a.b.present) (backings a.b.present) st c.loop-k.done.page.0 in
    omega (arith, c.loop-k.invariant.6, few)

-- ---- the needs

cast-count : tie.Need-overflow_cast-count invariant-loop decreases-loop
cast-count c = search rules

loop-holds : tie.Need-loop-k-init invariant-loop decreases-loop
unfolding rewind_to changed_to
loop-holds c =
    let s = c.before.before.before.before in
    (omega arith, refl, refl, filed-ranged 256 _ _ s.requires.1.1, omega arith, refl, refl, left-start s.args.b.present)

mul-area : tie.Need-offset_bounds-present-k invariant-loop decreases-loop
mul-area c = search rules

element-copy-out-area : tie.Need-bounds-present-k invariant-loop decreases-loop
element-copy-out-area c = search rules

with-area-requires : tie.Need-with_area-done-requires invariant-loop decreases-loop
with-area-requires c κs =
    let turn = c.before.before.before in
    let l = turn.loop-k in
    let s = behind turn.before in
    let a = s.args in
    let ready = s.requires.1.0 in
    let more = turn.loop-k-test.true in
    let area = (formed s).each l.k more in (
      s.requires.0,
      (
        left-first a.image.now ready.few a.b.present (formed s) l.k l.done.page.0 l.invariant.7 more,
        (area.inside, (area.some, (l.invariant.3, (backed-area a.image.now ready.few a.b.present (formed s) l.k more, few-found turn.before)))),
      ),
    )

add-k : tie.Need-overflow_step-k invariant-loop decreases-loop
add-k c = search rules

loop-less : tie.Need-loop-k-smaller invariant-loop decreases-loop
loop-less c = search rules

loop-again : tie.Need-loop-k-preserved invariant-loop decreases-loop
loop-again c =
    let one = c.before.before.before.before in
    let turn = one.before.before.before.before in
    let l = turn.loop-k in
    let s = behind turn.before in
    let a = s.args in
    let few = s.requires.1.0.few in
    let more = turn.loop-k-test.true in
    let f = one.with_area-done in
    let st : Store = kept a.held a.pool.now a.table.now in
    let q : Store = kept f.result.held f.new.pool f.new.table in
    let page : ℕ = l.done.page.0 in
    let next =
    area-more a.image.now few a.b.present (formed s) a.s st l.k page l.invariant.7 more (found turn.before) q f.result.page.0
    l.done.changed f.result.changed l.invariant.5 l.invariant.6 f.ensures.0 f.ensures.1.0 f.ensures.1.1 in
    let k = area-kept a.image.now few a.b.present (formed s) a.s l.k page (found turn.before) q more f.ensures.0 l.invariant.3 in (
      search rules,
      k.pool ∙ l.invariant.1,
      k.table ∙ l.invariant.2,
      k.ranged,
      omega (arith, next.2.low, next.2.there.small),
      next.0,
      next.1,
      next.2,
    )

free-before-requires : tie.Need-free_before-marks-requires invariant-loop decreases-loop
free-before-requires c κs =
    let l = c.loop-k in
    let s = behind c.before.before.before in
    (s.requires.0, (l.invariant.4, (omega arith, l.invariant.3)))

same_length : tie.Need-shape_of-pool invariant-loop decreases-loop
same_length c = search rules

same-length-2 : tie.Need-shape_of-table invariant-loop decreases-loop
same-length-2 c = search rules

returns : tie.Need-returns invariant-loop decreases-loop
returns c =
    let last = c.before.before.before.before in
    let loop = last.before.before.before.before in
    let l = loop.loop-k in
    let s = behind loop in
    let a = s.args in
    let few = s.requires.1.0.few in
    let st : Store = kept a.held a.pool.now a.table.now in
    let page : ℕ = l.done.page.0 in
    let none : a.b.present.count ≤ l.k = omega (arith, last.loop-k-test.false) in (
      last.free_before-marks.ensures
          ∙ ap (λ (x : Store). free_to 256 (front_of a.s page) x (64 - page)) l.invariant.5
          ∙ area-last a.image.now few a.b.present (formed s) a.s st l.k page l.invariant.7 none l.invariant.4
          ∙ rewind_to-same a.image.now (a.s * 128) (keeps_front a.b) (backings a.b.present) st (keeps_front a.b) (copy_backing a.b) 64
          (λ i l. (refl, s.requires.1.0.sound.backing i)),
      l.invariant.6
          ∙ count-last a.image.now few a.b.present (formed s) a.s st l.k page l.invariant.7 none l.invariant.4
          ∙ found-changed a.image.now a.b s.requires.1.0 a.s st _ s.requires.1.1,
    )

pub rewind_spec : {M : Type 1} → statement M
rewind_spec =
    tie.close
    (tie.spec
    invariant-loop
    decreases-loop
    cast-count
    loop-holds
    mul-area
    element-copy-out-area
    with-area-requires
    add-k
    loop-less
    loop-again
    free-before-requires
    same_length
    same-length-2
    returns)
