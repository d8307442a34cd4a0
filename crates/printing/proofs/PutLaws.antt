-- Lines put one behind the other.
use Prim.Native.Nat.{ℕ, zero, suc, ◌+◌, ◌-◌, ◌*◌, ◌≤◌, ◌<◌}
use mathlib.Core.Path.{◌≡◌, refl, sym, ap, ◌∙◌}
use mathlib.Core.Bool.{Bool, true, false}
use mathlib.Core.List.{List, [], ◌∷◌, ◌++◌, append_assoc, append-nil}
use native.Mathlib.Omega.{arith}
use native.Mathlib.Numerals.{add-one}
use lib.Dec.{ltb}
use lib.ListN.{length, take, drop, length-append, take-append-drop}
use lib.Seq.{take_at, drop_at, drop-drop, length-take-le}
use borrow.Rule.Slice.PartMut.{put_mid}
use borrow.Author.Tests.{ltb-true, ltb-false}
use Rattle.basics.proofs.TestLaws.{by_cases}
use Rattle.interface.specs.declared.request.Request.{Request}
use Rattle.pages.specs.Parts.{set_part}
use Rattle.pages.proofs.PartLaws.{length-set_part, came-back}
use Rattle.columns.specs.Prints.{printed_request}
use Rattle.columns.proofs.PrintLaws.{length-request}
use Rattle.archive.specs.Archive.{joined, only}
use Rattle.archive.specs.Text.{printed_roll}
use Rattle.archive.proofs.TextLaws.{length-roll, printed-append}
use Rattle.printing.specs.declared.Cursor.{Cursor}
use Rattle.printing.specs.Put.{past, lined, Placed, placed, put, Room}

-- ---- the text

lined-none : (to : Cursor) (out : List ℕ) → lined to out [] ≡ out
unfolding lined printed_roll set_part
lined-none to out =
    by_cases to.writes
    (λ e. rw e (let z : to.line * 43 + 0 ≡ to.line * 43 = omega arith in rw z (take-append-drop (to.line * 43) out)))
    (λ e. rw e)

lined-length : (to : Cursor) (out : List ℕ) (l : List Request) → Room to out l → length (lined to out l) ≡ length out
unfolding lined
lined-length to out l room =
    by_cases to.writes
    (λ e. rw e (length-set_part out (to.line * 43) (printed_roll l) (omega (arith, room.fits e, length-roll l))))
    (λ e. rw e)

-- a part set behind a part
set-set : (out x y : List ℕ) (a b : ℕ) → a + length x ≡ b → b + length y ≤ length out → set_part (set_part out a x) b y ≡ set_part out a (x ++ y)
unfolding set_part
set-set out x y a b e h =
    let front : length (take a out ++ x) ≡ b = length-append (take a out) x ∙ omega (arith, length-take-le a out (omega arith)) in
    let split : take a out ++ (x ++ drop (a + length x) out) ≡ (take a out ++ x) ++ drop (a + length x) out
    = sym (append_assoc (take a out) x (drop (a + length x) out)) in
    let past : drop (b + length y) ((take a out ++ x) ++ drop (a + length x) out) ≡ drop (length y) (drop (a + length x) out)
    = sym (drop-drop (length y) b ((take a out ++ x) ++ drop (a + length x) out))
    ∙ ap (drop (length y)) (drop_at (take a out ++ x) (drop (a + length x) out) b front) in
    let end : a + length (x ++ y) ≡ a + length x + length y = rw (length-append x y) (omega arith) in
    rw (split, take_at (take a out ++ x) (drop (a + length x) out) b front, past, drop-drop (length y) (a + length x) out, end)
    (simp append_assoc)

lined-more : (to : Cursor) (out : List ℕ) (l m : List Request) → Room to out (l ++ m) → lined (past to l) (lined to out l) m ≡ lined to out (l ++ m)
unfolding lined
lined-more to out l m room =
    by_cases to.writes
    (λ e. rw (e, printed-append l m)
    (set-set out (printed_roll l) (printed_roll m) (to.line * 43) ((to.line + length l) * 43) (omega (arith, length-roll l))
    (omega (arith, room.fits e, length-append l m, length-roll m))))
    (λ e. rw e)

-- ---- one line, or none

pub put-none : (to : Cursor) (out : List ℕ) → placed to out ≡ put to out []
put-none to out =
    let z : to.line ≡ to.line + 0 = omega arith in
    λ i. record { cursor = record { line = z i; writes = to.writes }; out = sym (lined-none to out) i }

pub put-nothing : (to : Cursor) (out : List ℕ) (l : List Request) → l ≡ [] → placed to out ≡ put to out l
put-nothing to out l e = rw e (put-none to out)

-- a line that is only counted
pub put-counted : (to : Cursor) (out : List ℕ) (q : Request) → to.writes ≡ false
    → placed (record { line = to.line + 1; writes = to.writes }) out ≡ put to out (q ∷ [])
unfolding lined
put-counted to out q e = rw e

-- a line that is printed into its part of the output
pub put-printed : (to : Cursor) (out text : List ℕ) (q : Request) → to.writes ≡ true → text ≡ printed_request q
    → placed (record { line = to.line + 1; writes = to.writes }) (put_mid (to.line * 43) ((to.line * 43 + 43) - to.line * 43) out text)
    ≡ put to out (q ∷ [])
unfolding lined printed_roll
put-printed to out text q e is =
    rw (e, append-nil (printed_request q), is, came-back out (printed_request q) (to.line * 43) (to.line * 43 + 43) (length-request q ∙ omega arith))

-- a line where a test holds

module _ (to : Cursor) (out : List ℕ) (q : Request) (there : Bool) where
  pub only-not : there ≡ false → placed to out ≡ put to out (only there q)
  only-not e = rw e (put-none to out)

  pub only-there : there ≡ true → (to' : Cursor) (out' : List ℕ) → placed to' out' ≡ put to out (q ∷ []) → placed to' out' ≡ put to out (only there q)
  only-there e to' out' is = rw e is

-- ---- lines behind lines

module _ (to₀ to : Cursor) (out₀ out : List ℕ) (l x : List Request) (room : Room to₀ out₀ (l ++ x)) (here : placed to out ≡ put to₀ out₀ l) where
  first-room : Room to₀ out₀ l
  first-room = record { few = omega (arith, room.few, length-append l x); fits = λ e. omega (arith, room.fits e, length-append l x) }

  pub length-kept : length out ≡ length out₀
  length-kept = ap (λ (p : Placed). length p.out) here ∙ lined-length to₀ out₀ l first-room

  line-here : to.line ≡ to₀.line + length l
  line-here = ap (λ (p : Placed). p.cursor.line) here

  pub next-room : Room to out x
  next-room = record {
    few = omega (arith, room.few, length-append l x, line-here);
    fits = λ e. omega (arith, room.fits (sym (ap (λ (p : Placed). p.cursor.writes) here) ∙ e), length-append l x, line-here, length-kept);
  }

  pub next-put : (to' : Cursor) (out' : List ℕ) → placed to' out' ≡ put to out x → placed to' out' ≡ put to₀ out₀ (l ++ x)
  next-put to' out' is =
      let z : to₀.line + length l + length x ≡ to₀.line + length (l ++ x) = omega (arith, length-append l x) in
      is ∙ ap (λ (p : Placed). put p.cursor p.out x) here
      ∙ (λ i. record { cursor = record { line = z i; writes = to₀.writes }; out = lined-more to₀ out₀ l x room i })

-- ---- a loop that puts the lists f 0, f 1 and so on

-- before turn k of m
pub record Turn (to₀ to : Cursor) (out₀ out : List ℕ) (f : ℕ → List Request) (m k : ℕ) : Type 0 where
  pub bound : k ≤ m
  pub same : length out ≡ length out₀
  pub here : placed to out ≡ put to₀ out₀ (joined f k)

-- more lists are no shorter
joined-grows : {A : Type 0} (f : ℕ → List A) (k m : ℕ) → k ≤ m → length (joined f k) ≤ length (joined f m)
unfolding joined
joined-grows f k zero h = let z : k ≡ 0 = omega arith in rw z (omega arith)
joined-grows f k (suc m) h =
    by_cases (ltb k (suc m))
    (λ l. let up = joined-grows f k m (omega (arith, ltb-true k (suc m) l)) in rw (length-append (joined f m) (f m)) (omega arith))
    (λ l. let z : k ≡ suc m = omega (arith, ltb-false k (suc m) l) in rw (z, length-append (joined f m) (f m)) (omega arith))

module _ (to₀ : Cursor) (out₀ : List ℕ) (f : ℕ → List Request) (m : ℕ) where
  pub turn-first : Turn to₀ to₀ out₀ out₀ f m 0
  unfolding joined
  turn-first = record { bound = omega arith; same = refl; here = put-none to₀ out₀ }

  module _ (room : Room to₀ out₀ (joined f m)) (to : Cursor) (out : List ℕ) (k : ℕ) (turn : Turn to₀ to out₀ out f m k) (less : k < m)
      (l : List Request) (is : l ≡ f k) where
    up_to : Room to₀ out₀ (joined f k ++ l)
    unfolding joined
    up_to =
        let grows = joined-grows f (suc k) m (omega arith) in
        rw is (record { few = omega (arith, room.few, grows); fits = λ e. omega (arith, room.fits e, grows) })

    pub turn-room : Room to out l
    turn-room = next-room to₀ to out₀ out (joined f k) l up_to turn.here

    pub turn-next : (to' : Cursor) (out' : List ℕ) → placed to' out' ≡ put to out l → Turn to₀ to' out₀ out' f m (k + 1)
    unfolding joined
    turn-next to' out' put-here = record {
      bound = omega arith;
      same = ap (λ (p : Placed). length p.out) put-here ∙ lined-length to out l turn-room ∙ turn.same;
      here =
          next-put to₀ to out₀ out (joined f k) l up_to turn.here to' out' put-here
          ∙ rw (add-one k) (ap (λ (x : List Request). put to₀ out₀ (joined f k ++ x)) is);
    }

  pub turn_last : (to : Cursor) (out : List ℕ) (k : ℕ) → Turn to₀ to out₀ out f m k → m ≤ k → placed to out ≡ put to₀ out₀ (joined f m)
  turn_last to out k turn end =
      let e : k ≡ m = omega (arith, turn.bound) in
      turn.here ∙ ap (λ (n : ℕ). put to₀ out₀ (joined f n)) e
