-- Unmapping over gaps, of the plain machine: its laws of unmapping, and with them what is claimed (specs/Claims).
use Prim.Native.Nat.{ℕ, zero, suc, ◌+◌, ◌≤◌, ◌<◌}
use mathlib.Core.Path.{◌≡◌, refl, sym, ap, ◌∙◌, fun_ext}
use mathlib.Core.Bool.{true, false}
use mathlib.Core.List.{List, ◌∷◌}
use lib.Dec.{eqb}
use borrow.Author.Tests.{eq-eqb}
use Rattle.basics.specs.Ranges.{inside, over}
use Rattle.basics.proofs.TestLaws.{by_cases, never}
use Rattle.basics.proofs.RangeLaws.{inside-none, over-in, over-out, over-join}
use Rattle.interface.specs.declared.page.Slot.TheVariants.{Unmapped}
use Rattle.interface.specs.declared.request.Request.{Request}
use Rattle.interface.specs.Answers.{Answered}
use Rattle.interface.specs.Slots.{Slots, is_mapped, areas}
use Rattle.interface.specs.Outcome.{slots_after, copy_after}
use Rattle.interface.specs.Settled.{Settled}
use Rattle.interface.specs.Examples.{ok}
use Rattle.gaps.specs.Gaps.{unmap_of, all_ok}
use Rattle.gaps.proofs.GapLaws.{without, none_in, without-none, unmap-fits, unmap-then, unmap-accepted, unmaps-of}
use Rattle.interface.proofs.AcceptedLaws.{accepted}
use Rattle.gaps.proofs.AloneLaws.{Unmapping, alone}
use Rattle.plain.specs.Machine.{Given, Kept, Plain, shares, view_of, with_kept, number_at, answer, answers, after, after_all, core_value}
use Rattle.plain.specs.Machine.{bytes_after, front_after, back_after, copied_back_after, runs_after, kept_after}
use Rattle.plain_claims.specs.Lists.{up_to}
use Rattle.plain_claims.specs.Claims.{Keeps, Holds, Reads, UnmapsAfter, slots_before, UnmapOfNothing, UnmapsAlone}
use Rattle.plain_claims.proofs.KeptLaws.{holds_after}
use Rattle.plain_claims.proofs.ReadLaws.{reads-after}
use Rattle.plain_claims.proofs.Corollaries.{put_same}
use Rattle.plain_claims.proofs.Claims.{claim-always}

-- ---- what is kept for a sandbox with n pages from a on unmapped

module _ (g : Given) (s : ℕ) where
  abbrev without-kept : Kept → ℕ → ℕ → Kept
  without-kept k a n = kept_after g (unmap_of s a n) k

  kept-none : (k : Kept) → Keeps k → k.core.opened ≡ true → (a n : ℕ) → ((i : ℕ) → inside a n i ≡ true → is_mapped (k.core.pages.slots i) ≡ false)
      → without-kept k a n ≡ k
  unfolding slots_after bytes_after copy_after front_after back_after copied_back_after runs_after
  kept-none k h o a n u =
      let no_front : over a n (λ i. false) k.traces.front ≡ k.traces.front =
      fun_ext λ i. by_cases (inside a n i)
      (λ t. over-in a n (λ i. false) k.traces.front i t
      ∙ by_cases (k.traces.front i) (λ m. never (is_mapped (k.core.pages.slots i)) (h.front_mapped i m) (u i t)) (λ m. sym m))
      (λ t. over-out a n (λ i. false) k.traces.front i t) in
      rw (without-none k.core.pages.slots a n u, no_front, ← o)

  kept-join : (k : Kept) (a n m : ℕ) → without-kept (without-kept k a n) (a + n) m ≡ without-kept k a (n + m)
  unfolding slots_after bytes_after copy_after front_after back_after copied_back_after runs_after
  kept-join k a n m = rw (over-join a n m (λ i. Unmapped) k.core.pages.slots, over-join a n m (λ i. false) k.traces.front)

-- ---- the machine

module _ (g : Given) (s : ℕ) (row : s < 4) where
  abbrev slots_in : Plain → Slots
  slots_in p = (p s).core.pages.slots

  record Good (p : Plain) : Type 0 where
    holds : Holds g p
    reads : (t : ℕ) → Reads g (p t)
    opened : (p s).core.opened ≡ true

  abbrev unmapped_at : Plain → ℕ → ℕ → Plain
  unmapped_at p a n = with_kept s (without-kept g s (p s) a n) p

  put-here : (k : Kept) (p : Plain) → with_kept s k p s ≡ k
  put-here k p = rw (eq-eqb s s refl)

  put-put : (k l : Kept) (p : Plain) → with_kept s l (with_kept s k p) ≡ with_kept s l p
  put-put k l p = fun_ext λ t. by_cases (eqb s t) (λ e. rw e) (λ e. rw e)

  module _ (p : Plain) (G : Good p) where
    settled : Settled (view_of g (shares p) (p s).core)
    settled =
        let h = G.holds.each s in
        record { charged = h.charged; few = h.in_areas; copy_few = h.copy_areas; copy_marked = (G.reads s).marked }

    unmapped-none : (a n : ℕ) → a + n ≤ 64 → ((i : ℕ) → inside a n i ≡ true → is_mapped (slots_in p i) ≡ false) → unmapped_at p a n ≡ p
    unmapped-none a n l u = ap (λ (k : Kept). with_kept s k p) (kept-none g s (p s) (G.holds.each s) G.opened a n u) ∙ put_same s p

    unmapped-join : (a n m : ℕ) → unmapped_at (unmapped_at p a n) (a + n) m ≡ unmapped_at p a (n + m)
    unmapped-join a n m = rw (eq-eqb s s refl, kept-join g s (p s) a n m) (put-put _ _ p)

    module _ (a n : ℕ) (l : a + suc n ≤ 64) (few : areas (without a (suc n) (slots_in p)) ≤ 8) where
      number : number_at g p (unmap_of s a (suc n)) ≡ 0
      number = unmap-accepted _ _ refl settled (unmaps-of (view_of g (shares p) (p s).core) s a n row G.opened l) few

      leaves : after g p (unmap_of s a (suc n)) ≡ unmapped_at p a (suc n)
      unfolding after
      leaves = rw number

      answers-0 : answer g p (unmap_of s a (suc n)) ≡ ok 0
      unfolding answer core_value
      answers-0 = rw number

      good-after : Good (unmapped_at p a (suc n))
      good-after = rw (← leaves) (record {
        holds = holds_after g p (unmap_of s a (suc n)) G.holds;
        reads = reads-after g p (unmap_of s a (suc n)) G.holds G.reads;
        opened = rw (leaves, eq-eqb s s refl);
      })

  -- the laws of unmapping
  abbrev Leading : Plain → List Request → Plain → Type 0
  Leading p qs r = (answers g p qs ≡ all_ok qs) × (after_all g p qs ≡ r)

  fits_after : (p : Plain) → Good p → (a n : ℕ) → a + n ≤ 64 → areas (without a n (slots_in p)) ≤ 8 → Good (unmapped_at p a n)
  fits_after p G a zero l few = rw (unmapped-none p G a 0 l (λ i t. never (inside a 0 i) t (inside-none a i))) G
  fits_after p G a (suc n) l few = good-after p G a n l few

  slots-after : (p : Plain) (a n : ℕ) → slots_in (unmapped_at p a n) ≡ without a n (slots_in p)
  unfolding slots_after
  slots-after p a n = ap (λ (k : Kept). k.core.pages.slots) (put-here (without-kept g s (p s) a n) p)

  cons-after : (p r : Plain) → Good p → (a n : ℕ) → a + suc n ≤ 64 → areas (without a (suc n) (slots_in p)) ≤ 8 → (rest : List Request)
      → Leading (unmapped_at p a (suc n)) rest r → Leading p (unmap_of s a (suc n) ∷ rest) r
  unfolding answers after_all
  cons-after p r G a n l few rest t =
      rw (answers-0 p G a n l few, leaves p G a n l few) (ap (λ (as' : List Answered). ok 0 ∷ as') t.0, t.1)

  unmapping : Unmapping Plain s
  unfolding answers after_all
  unmapping = record {
    slots_of = slots_in;
    Good = Good;
    unmapped = unmapped_at;
    Leads = Leading;
    few = λ p G. (G.holds.each s).in_areas;
    none = λ p G. unmapped-none p G;
    nil = λ p. (refl, refl);
    fits = fits_after;
    slots = λ p G a n l few. slots-after p a n;
    join = λ p G a n m l few. unmapped-join p G a n m;
    cons = cons-after;
  }

-- ---- the claims

module _ (g : Given) (qs : List Request) (q : Request) (u : UnmapsAfter g qs q) where
  good : Good g q.sandbox u.row (up_to g qs)
  good = let always = claim-always g qs in record { holds = always.holds; reads = always.reads; opened = u.opened }

  settled-view : Settled (view_of g (shares (up_to g qs)) (up_to g qs q.sandbox).core)
  settled-view = settled g q.sandbox u.row (up_to g qs) good

  -- the request is that of its sandbox, range and code
  same_kept : (k : Kept) → kept_after g q k ≡ without-kept g q.sandbox k q.p1 q.p2
  unfolding slots_after bytes_after copy_after front_after back_after copied_back_after runs_after
  same_kept k = rw u.called

  accepted-after : number_at g (up_to g qs) q ≡ 0
      → (answer g (up_to g qs) q ≡ ok 0) × (after g (up_to g qs) q ≡ unmapped_at g q.sandbox u.row (up_to g qs) q.p1 q.p2)
  unfolding answer after core_value
  accepted-after n = (rw (n, u.called), rw (n, same_kept (up_to g qs q.sandbox)))

pub unmap-of-nothing : (g : Given) → UnmapOfNothing g
unmap-of-nothing g qs q u none =
    let f = slots_before g qs q in
    let clear = none_in f q.p1 q.p2 none in
    let few : areas (without q.p1 q.p2 f) ≤ 8 = rw (without-none f q.p1 q.p2 clear) (settled-view g qs q u).few in
    let done = accepted-after g qs q u (unmap-accepted _ q refl (settled-view g qs q u) u few) in
    let idle = unmapped-none g q.sandbox u.row (up_to g qs) (good g qs q u) q.p1 q.p2 (unmap-fits _ q refl (settled-view g qs q u) u) clear in
    (done.0, done.1 ∙ idle)

pub unmaps-alone : (g : Given) → UnmapsAlone g
unfolding unmapping
unmaps-alone g qs q u n =
    let s = settled-view g qs q u in
    let few = rw (unmap-then _ q refl s u) at (accepted _ q n).in_areas in
    let led = alone q.sandbox (unmapping g q.sandbox u.row) (up_to g qs) (good g qs q u) q.p1 q.p2 (unmap-fits _ q refl s u) few in
    (led.0, led.1 ∙ sym (accepted-after g qs q u n).1)
