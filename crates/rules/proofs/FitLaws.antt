-- What the limits of its parameters say of a request.
use Prim.Native.Nat.{ℕ, ◌+◌, ◌/◌, ◌≤◌, ◌<◌}
use mathlib.Core.Path.{◌≡◌}
use mathlib.Core.Bool.{true, false, ◌&&◌, ◌||◌, false≢true}
use native.Mathlib.Omega.{arith}
use lib.Dec.{leb, ltb, eqb}
use borrow.Author.Tests.{leb-true, ltb-true, eqb-true, eqb-false, ne_eqb}
use Rattle.basics.proofs.TestLaws.{by_cases, and_left, and_right}
use Rattle.interface.specs.declared.request.Request.{Request}
use Rattle.interface.specs.Requests.{◌is◌, map_code, protect_code, read_code, write_code, backing_of}
use Rattle.interface.specs.Limits.{between, rights_ok, pages_ok, place_ok, backing_ok, uses_one, uses_two, uses_three, within}
use Rattle.interface.specs.Slots.{start_of}
use Rattle.rules.specs.Ready.{Fit}

rights-small : (r : ℕ) → rights_ok r ≡ true → r ≤ 3
rights-small r h =
    by_cases (eqb r 1) (λ e. omega (arith, eqb-true r 1 e))
    (λ e. let h₁ : eqb r 3 ≡ true = rw e at h in omega (arith, eqb-true r 3 h₁))

pages-end : (first n : ℕ) → pages_ok first n ≡ true → first + n ≤ 64
pages-end first n h = leb-true (first + n) 64 (and_right (between 1 64 n) (leb (first + n) 64) (and_right (ltb first 64) _ h))

place-named : (first n : ℕ) → place_ok first n ≡ true → (first ≡ 64 → ⊥) → first + n ≤ 64
place-named first n h d =
    let h₁ : pages_ok first n ≡ true = rw (ne_eqb first 64 d) at h in
    pages-end first n h₁

place-small : (first n : ℕ) → place_ok first n ≡ true → (first ≤ 64) × (n ≤ 64)
place-small first n h =
    by_cases (eqb first 64)
    (λ e. by_cases (between 1 64 n)
    (λ b. (omega (arith, eqb-true first 64 e), leb-true n 64 (and_right (leb 1 n) (leb n 64) b)))
    (λ b. absurd (false≢true (and_left false (leb (first + n) 64) (and_right (ltb first 64) (false && leb (first + n) 64) (rw (e, b) at h))))))
    (λ e.
    let h₁ : pages_ok first n ≡ true = rw e at h in
    (omega (arith, pages-end first n h₁), omega (arith, pages-end first n h₁)))

image-small : (images : ℕ) (q : Request) → images ≤ 64 → backing_ok images q ≡ true → (q.p3 ≡ 0 → ⊥) → q.p4 ≤ 64
image-small images q few h d =
    let h₁ : (eqb q.p3 1 && leb (q.p4 + q.p2) images) ≡ true = rw (ne_eqb q.p3 0 d) at h in
    omega (arith, few, leb-true (q.p4 + q.p2) images (and_right (eqb q.p3 1) _ h₁))

pub fit : (images : ℕ) (q : Request) → images ≤ 64 → within images q ≡ true → Fit q
unfolding within
fit images q few w =
    let map : q.code ≡ map_code → (place_ok q.p1 q.p2 && (backing_ok images q && rights_ok q.p5)) ≡ true = λ e. rw e at w in
    let place : q.code ≡ map_code → place_ok q.p1 q.p2 ≡ true = λ e. and_left (place_ok q.p1 q.p2) _ (map e) in
    let rest : q.code ≡ map_code → (backing_ok images q && rights_ok q.p5) ≡ true = λ e. and_right (place_ok q.p1 q.p2) _ (map e) in
    record {
      share = λ e.
          let h : (between 1 128 q.p1 && uses_one q) ≡ true = rw e at w in
          leb-true _ 128 (and_right (leb 1 q.p1) _ (and_left (between 1 128 q.p1) _ h));
      place = λ e.
          let small = place-small q.p1 q.p2 (place e) in
          (small.0, small.1, rights-small q.p5 (and_right (backing_ok images q) _ (rest e)));
      named = λ e d. place-named q.p1 q.p2 (place e) d;
      image = λ e d. image-small images q few (and_left (backing_ok images q) _ (rest e)) d;
      unmapped = λ e.
          let h : (pages_ok q.p1 q.p2 && uses_two q) ≡ true = rw e at w in
          pages-end q.p1 q.p2 (and_left (pages_ok q.p1 q.p2) _ h);
      protected = λ e.
          let h : (pages_ok q.p1 q.p2 && (rights_ok q.p3 && uses_three q)) ≡ true = rw e at w in
          let rights = and_left (rights_ok q.p3) _ (and_right (pages_ok q.p1 q.p2) _ h) in
          (pages-end q.p1 q.p2 (and_left (pages_ok q.p1 q.p2) _ h), rights-small q.p3 rights);
      read = λ e.
          let h : (ltb q.p1 16384 && uses_one q) ≡ true = rw e at w in
          ltb-true q.p1 16384 (and_left (ltb q.p1 16384) _ h);
      written = λ e.
          let h : (ltb q.p1 16384 && (ltb q.p2 256 && uses_two q)) ≡ true = rw e at w in
          (ltb-true q.p1 16384 (and_left (ltb q.p1 16384) _ h), ltb-true q.p2 256 (and_left (ltb q.p2 256) _ (and_right (ltb q.p1 16384) _ h)));
    }

-- the pages that a protect names, and the page of an address
pub protected-pages : (q : Request) → Fit q → q.code ≡ protect_code → q.p1 + q.p2 ≤ 64
protected-pages q f e = (f.protected e).0

pub named-address : (q : Request) → Fit q → (q is read_code || q is write_code) ≡ true → q.p1 < 16384
named-address q f h =
    by_cases (q is read_code) (λ e. f.read (eqb-true _ _ e))
    (λ e. let h₁ : (q is write_code) ≡ true = rw e at h in (f.written (eqb-true _ _ h₁)).0)

pub page-small : (address : ℕ) → address < 16384 → address / 256 < 64
page-small address h = omega arith

-- the first image page of a map, 0 of an anonymous one
pub start_small : (q : Request) → Fit q → q.code ≡ map_code → start_of (backing_of q) ≤ 64
start_small q f e =
    by_cases (eqb q.p3 0) (λ t. rw t (omega arith)) (λ t. rw t (f.image e (eqb-false q.p3 0 t)))
