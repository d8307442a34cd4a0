-- The rows that a call can meet in a sound state which neither opens a sandbox nor packs areas anew: rows 4, 6, 9 and 12 of a read or a write; rows 4, 6 and 8
-- of a call that names no page.
use Prim.Native.Nat.{ℕ}
use mathlib.Core.Path.{◌≡◌, refl, sym, ◌∙◌}
use mathlib.Core.Bool.{true, false, not, ◌&&◌, ◌||◌, false≢true}
use lib.Dec.{leb, eqb}
use borrow.Author.Tests.{eqb-true, le-ltb}
use Rattle.basics.proofs.TestLaws.{by_cases, or_right}
use Rattle.interface.specs.declared.answer.Refusal.{Refusal}
use Rattle.interface.specs.declared.answer.Refusal.TheVariants.{NotOpen, OutsideLimits, NoSnapshot, NotMapped, NotWritable, OutputTooShort}
use Rattle.interface.specs.declared.request.Request.{Request}
use Rattle.interface.specs.Answers.{refusal_number}
use Rattle.interface.specs.Requests.{◌is◌, open_code, map_code, unmap_code, protect_code, read_code, write_code, snapshot_code, rewind_code, report_code, compare_code, last_call}
use Rattle.interface.specs.Requests.{is_call, page_of, needs_snapshot}
use Rattle.interface.specs.Slots.{is_mapped}
use Rattle.interface.specs.Refusals.{View, is_taken, all_mapped, applies, refusal}
use Rattle.interface.specs.Settled.{Settled}
use Rattle.few_rows.specs.Decided.{names_no_page}
use Rattle.interface.proofs.KindLaws.{kind}
use Rattle.interface.proofs.RowLaws.{row-13, row-14}
use Rattle.interface.proofs.TableLaws.{lowest-applies, from-here}
use Rattle.page_decision.proofs.DecideLaws.{Behind, sound-call}

-- a call that neither opens a sandbox nor packs areas anew
pub record Few (q : Request) : Type 0 where
  pub call : is_call q ≡ true
  pub not_open : (q is open_code) ≡ false
  pub not_map : (q is map_code) ≡ false
  pub not_unmap : (q is unmap_code) ≡ false
  pub not_protect : (q is protect_code) ≡ false
  pub not_snapshot : (q is snapshot_code) ≡ false

by_code : (q : Request) (c : ℕ) → q.code ≡ c → (leb open_code c && leb c last_call) ≡ true → eqb c open_code ≡ false → eqb c map_code ≡ false → eqb c unmap_code ≡ false
    → eqb c protect_code ≡ false → eqb c snapshot_code ≡ false → Few q
by_code q c e a o m u p s = record { call = rw e a; not_open = rw e o; not_map = rw e m; not_unmap = rw e u; not_protect = rw e p; not_snapshot = rw e s }

-- what is so of each of their codes is so of a read or a write, and of a call that names no page
access-cases : (q : Request) (P : ℕ → Type 0) → (q is read_code || q is write_code) ≡ true → P read_code → P write_code → P q.code
access-cases q P h x y =
    by_cases (q is read_code) (λ e. rw (eqb-true q.code read_code e) x)
    (λ e. let h₁ : (q is write_code) ≡ true = rw e at h in rw (eqb-true q.code write_code h₁) y)

unpaged-cases : (q : Request) (P : ℕ → Type 0) → names_no_page q ≡ true → P rewind_code → P report_code → P compare_code → P q.code
unpaged-cases q P h x y z =
    by_cases (q is rewind_code) (λ e. rw (eqb-true q.code rewind_code e) x)
    (λ e. let h₁ : (q is report_code || q is compare_code) ≡ true = rw e at h in
    by_cases (q is report_code) (λ f. rw (eqb-true q.code report_code f) y)
    (λ f. let h₂ : (q is compare_code) ≡ true = rw f at h₁ in rw (eqb-true q.code compare_code h₂) z))

pub few-access : (q : Request) → (q is read_code || q is write_code) ≡ true → Few q
few-access q h =
    access-cases q (λ c. q.code ≡ c → Few q) h (λ e. by_code q read_code e refl refl refl refl refl refl)
    (λ e. by_code q write_code e refl refl refl refl refl refl) refl

pub few-unpaged : (q : Request) → names_no_page q ≡ true → Few q
few-unpaged q h =
    unpaged-cases q (λ c. q.code ≡ c → Few q) h (λ e. by_code q rewind_code e refl refl refl refl refl refl)
    (λ e. by_code q report_code e refl refl refl refl refl refl) (λ e. by_code q compare_code e refl refl refl refl refl refl) refl

-- a report or a comparison names no page, and is no rewind
pub look-unpaged : (q : Request) → (q is report_code || q is compare_code) ≡ true → names_no_page q ≡ true
look-unpaged q h = by_cases (q is rewind_code) (λ e. rw e) (λ e. rw e h)

pub look-stays : (q : Request) → (q is report_code || q is compare_code) ≡ true → (q is rewind_code) ≡ false
look-stays q h =
    by_cases (q is report_code) (λ e. rw (eqb-true q.code report_code e)) (λ e. let h₁ : (q is compare_code) ≡ true = rw e at h in rw (eqb-true q.code compare_code h₁))

-- a read or a write is no rewind, and needs no snapshot
pub access-stays : (q : Request) → (q is read_code || q is write_code) ≡ true → (q is rewind_code) ≡ false
access-stays q h = access-cases q (λ c. eqb c rewind_code ≡ false) h refl refl

without-snapshot : (q : Request) → (q is read_code || q is write_code) ≡ true → needs_snapshot q ≡ false
without-snapshot q h = access-cases q (λ c. q.code ≡ c → needs_snapshot q ≡ false) h (λ e. rw e) (λ e. rw e) refl

-- a call that names no page is neither a read nor a write
no_access : (q : Request) → names_no_page q ≡ true → (q is read_code || q is write_code) ≡ false
no_access q h = unpaged-cases q (λ c. (eqb c read_code || eqb c write_code) ≡ false) h refl refl refl

pub no_write : (q : Request) → names_no_page q ≡ true → (q is write_code) ≡ false
no_write q h = or_right (q is read_code) (q is write_code) (no_access q h)

module _ (v : View) (q : Request) where
  -- the first row that applies is answered
  pub number_of : (why : Refusal) → Behind v q why → applies v q why ≡ true → refusal_number why ≡ refusal v q
  unfolding refusal
  number_of why p e = sym (lowest-applies (applies v q) why p e)

  module _ (C : Few q) where
    -- behind rows 4 and 6
    pub past4 : v.sound ≡ true → applies v q NotOpen ≡ false → Behind v q OutsideLimits
    unfolding applies
    past4 s e = (rw C.not_open, (e, sound-call v q s C.call))

    pub past6 : applies v q OutsideLimits ≡ false → Behind v q OutsideLimits → Behind v q NoSnapshot
    unfolding applies
    past6 e p = (rw C.not_snapshot, (e, p))

    -- behind row 9, as none is a map
    pub past9 : applies v q NotMapped ≡ false → Behind v q NotMapped → Behind v q NotWritable
    unfolding applies
    past9 e p = (rw C.not_map, (rw C.not_map, (e, p)))

    -- behind row 12 no row applies, as a rewind has a snapshot
    pub accepts : Settled v → ((q is rewind_code) ≡ true → is_taken v.copy ≡ true) → applies v q NotWritable ≡ false → Behind v q NotWritable → refusal v q ≡ 0
    unfolding applies refusal
    accepts S t e p =
        let charge = row-13 v S q (kind q) C.not_open C.not_map C.not_snapshot t in
        let few = row-14 v S q (kind q) C.not_map C.not_unmap C.not_protect C.not_snapshot in
        from-here (applies v q) OutputTooShort (le-ltb 8 _ few, (rw charge (rw C.not_open), (e, p)))

  -- a read or a write
  module _ (h : (q is read_code || q is write_code) ≡ true) where
    pub past8 : Behind v q NoSnapshot → Behind v q NotMapped
    unfolding applies
    past8 p = (rw (without-snapshot q h), p)

    pub row9 : not (is_mapped (v.slots (page_of q))) ≡ applies v q NotMapped
    unfolding applies all_mapped
    row9 = rw ((few-access q h).not_protect, h)

    pub access-accepts : Settled v → applies v q NotWritable ≡ false → Behind v q NotWritable → refusal v q ≡ 0
    access-accepts S = accepts (few-access q h) S (λ t. absurd (false≢true (sym (access-stays q h) ∙ t)))

  -- a call that names no page
  module _ (h : names_no_page q ≡ true) where
    unpaged : applies v q NotMapped ≡ false
    unfolding applies all_mapped
    unpaged = rw ((few-unpaged q h).not_protect, no_access q h)

    unwritten : applies v q NotWritable ≡ false
    unfolding applies
    unwritten = rw (no_write q h)

    -- behind row 8 a rewind has a snapshot
    taken : applies v q NoSnapshot ≡ false → (q is rewind_code) ≡ true → is_taken v.copy ≡ true
    unfolding applies
    taken e t = by_cases (is_taken v.copy) (λ x. x) (λ x. absurd (false≢true (sym e ∙ rw (eqb-true q.code rewind_code t, x))))

    pub unpaged-accepts : Settled v → Behind v q NotMapped → refusal v q ≡ 0
    unpaged-accepts S p = let C = few-unpaged q h in accepts C S (taken p.0) unwritten (past9 C unpaged p)
