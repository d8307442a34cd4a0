-- In each case what is done is what the definition by cases says of it; what the case says of front and back makes it safe.
use mathlib.Core.Path.{◌≡◌, sym, ap, ◌∙◌}
use mathlib.Core.Bool.{Bool, false}
use mathlib.Core.List.{List}
use Prim.Native.Nat.{ℕ, ◌+◌}
use native.Mathlib.Omega.{arith}
use borrow.Author.Rules.{rules}
use lib.ListN.{get_or}
use Rattle.frames.specs.declared.Held.{Held}
use Rattle.table.specs.Store.{Store, kept}
use Rattle.table.specs.Backing.{backing_end}
use Rattle.rewind_cases.specs.declared.RewindCase.{RewindCase}
use Rattle.rewind_cases.specs.declared.RewindCase.TheVariants.{Shared, Copied, Zeroed, ImagePage}
use Rattle.rewind_cases.specs.Rewind.{case_of}
use Rattle.rewind_cases.specs.Cases.{Meets}
use Rattle.rewind_cases.proofs.CaseLaws.{met}
use Rattle.page_restore.proofs.CaseLaws.{Restored, shared-left, copied-left, zeroed-left, image-left}
use Rattle.page_restore.proofs.restore_page.Statement.{statement}
use Rattle.page_restore.proofs.restore_page.Tie as tie

-- ---- what is known of the case that was found

abbrev behind : tie.After-case_of → tie.Start
behind c = c.before.before.before.before.before.before

-- the entries
abbrev front : tie.After-case_of → ℕ
front c = let a = c.args in get_or a.table.now a.at 0

abbrev back : tie.After-case_of → ℕ
back c = let a = c.args in get_or a.table.now (a.at + 64) 0

-- the store, with any marks
abbrev st : tie.After-case_of → Held → Store
st c h = let a = c.args in kept h a.pool.now a.table.now

is : (c : tie.After-case_of) (k : RewindCase) → c.case_of.result ≡ k → k ≡ case_of (front c) (back c) (behind c).args.backing
is c k e = sym e ∙ c.case_of.ensures

meets : (c : tie.After-case_of) (k : RewindCase) → c.case_of.result ≡ k → Meets (front c) (back c) (behind c).args.backing k
meets c k e = met (front c) (back c) c.args.backing k (is c k e)

-- what is left of the pool and what is told, whatever marks there are
abbrev Left : tie.After-case_of → List ℕ → Bool → Type 0
Left c pool d = (h : Held) → let a = c.args in Restored a.image.now a.at (a.at + 64) a.backing (st c h) pool d

-- ---- the needs

mul-front : tie.Need-offset_bounds-table-at
mul-front c = search rules

shared-slice-read-front : tie.Need-bounds-table-at
shared-slice-read-front c = search rules

add_back : tie.Need-overflow_add-back
add_back c = search rules

mul-back : tie.Need-offset_bounds-table-at-2
mul-back c = search rules

shared-slice-read-back : tie.Need-bounds-table-at-2
shared-slice-read-back c = search rules

case-of-requires : tie.Need-case_of-requires
case-of-requires c κs = search rules

enum_told : tie.Need-enum_told-1
enum_told c = search rules

enum-told-2 : tie.Need-enum_told-in-Copied
enum-told-2 c = search rules

frame-of-requires : tie.Need-frame_of-requires
frame-of-requires c κs =
    let found = c.before.before in
    let m = meets found Copied c.in-Copied.is in
    (omega (arith, m.0, m.1), c.requires.1.0.few _)

frame-of-requires-2 : tie.Need-frame_of-requires-in-Copied
frame-of-requires-2 c κs =
    let found = c.before.before.before in
    let m = meets found Copied c.in-Copied.is in
    (omega (arith, m.0, m.1), c.requires.1.0.few _)

restore-from-requires : tie.Need-restore_from-requires
restore-from-requires c κs =
    let found = c.before.before.before.before in
    let m = meets found Copied c.in-Copied.is in
    let front-room = c.requires.1.0.room c.args.at in
    let back-room = c.requires.1.0.room (c.args.at + 64) in (
      omega (arith, c.frame_of.ensures, m.0, m.1, front-room, back-room),
      omega (arith, c.frame_of-in-Copied.ensures, m.0, m.1, front-room, back-room),
    )

enum-told-3 : tie.Need-enum_told-in-Zeroed
enum-told-3 c = search rules

frame-of-requires-3 : tie.Need-frame_of-requires-in-Zeroed
frame-of-requires-3 c κs =
    let found = c.before.before in
    ((meets found Zeroed c.in-Zeroed.is).0, c.requires.1.0.few c.args.at)

restore-zeros-requires : tie.Need-restore_zeros-requires
restore-zeros-requires c κs =
    let found = c.before.before.before in
    omega (arith, c.frame_of-in-Zeroed.ensures, (meets found Zeroed c.in-Zeroed.is).0, c.requires.1.0.room c.args.at)

enum-known-page : tie.Need-enum_known-page
enum-known-page c = search rules

frame-of-requires-4 : tie.Need-frame_of-requires-in-ImagePage
frame-of-requires-4 c κs =
    let found = c.before.before in
    ((meets found (ImagePage c.in-ImagePage.page) c.in-ImagePage.is).0, c.requires.1.0.few c.args.at)

restore-image-requires : tie.Need-restore_image-requires
restore-image-requires c κs =
    let found = c.before.before.before in
    let m = meets found (ImagePage c.in-ImagePage.page) c.in-ImagePage.is in (
      omega (arith, c.frame_of-in-ImagePage.ensures, m.0, c.requires.1.0.room c.args.at),
      omega (arith, ap backing_end m.2, c.requires.1.1),
    )

returns : tie.Need-returns-in-Shared
returns c =
    let found = c.before in
    let a = c.args in
    let left : Left found a.pool.now false =
    λ h. shared-left a.image.now a.at (a.at + 64) a.backing (st found h) (is found Shared c.in-Shared.is) in
    (λ h. (left h).0, λ h. (left h).1)

same_length : tie.Need-shape_of-pool-in-Copied
same_length c = search rules

returns-2 : tie.Need-returns-in-Copied
returns-2 c =
    let found = c.before.before.before.before.before.before.before in
    let a = c.args in
    let from = c.frame_of.ensures in
    let to = c.frame_of-in-Copied.ensures in
    let left : Left found c.restore_from.new.pool c.restore_from.result =
    λ h. copied-left a.image.now a.at (a.at + 64) a.backing (st found h) _ _ (is found Copied c.in-Copied.is)
    (rw (from, to) at c.restore_from.ensures) in
    (λ h. (left h).0, λ h. (left h).1)

same-length-2 : tie.Need-shape_of-pool-in-Zeroed
same-length-2 c = search rules

returns-3 : tie.Need-returns-in-Zeroed
returns-3 c =
    let found = c.before.before.before.before.before.before in
    let a = c.args in
    let left : Left found c.restore_zeros.new.pool c.restore_zeros.result =
    λ h. zeroed-left a.image.now a.at (a.at + 64) a.backing (st found h) _ _ (is found Zeroed c.in-Zeroed.is)
    (rw c.frame_of-in-Zeroed.ensures at c.restore_zeros.ensures) in
    (λ h. (left h).0, λ h. (left h).1)

same-length-3 : tie.Need-shape_of-pool-in-ImagePage
same-length-3 c = search rules

returns-4 : tie.Need-returns-in-ImagePage
returns-4 c =
    let found = c.before.before.before.before.before.before in
    let a = c.args in
    let left : Left found c.restore_image.new.pool c.restore_image.result =
    λ h. image-left a.image.now a.at (a.at + 64) a.backing (st found h) _ _ c.in-ImagePage.page
    (is found (ImagePage c.in-ImagePage.page) c.in-ImagePage.is) (rw c.frame_of-in-ImagePage.ensures at c.restore_image.ensures) in
    (λ h. (left h).0, λ h. (left h).1)

pub restore_page_spec : {M : Type 1} → statement M
restore_page_spec =
    tie.close
    (tie.spec
    mul-front
    shared-slice-read-front
    add_back
    mul-back
    shared-slice-read-back
    case-of-requires
    enum_told
    enum-told-2
    frame-of-requires
    frame-of-requires-2
    restore-from-requires
    enum-told-3
    frame-of-requires-3
    restore-zeros-requires
    enum-known-page
    frame-of-requires-4
    restore-image-requires
    returns
    same_length
    returns-2
    same-length-2
    returns-3
    same-length-3
    returns-4)
