-- A conversation is one roll played.
use mathlib.Core.Path.{◌≡◌, refl, sym, ◌∙◌, subst}
use mathlib.Core.Bool.{Bool, true, false, not}
use mathlib.Core.List.{List, [], ◌∷◌, append-nil}
use Prim.Native.Nat.{ℕ, ◌+◌, ◌-◌, ◌*◌, ◌≤◌}
use native.Mathlib.Omega.{arith}
use lib.ListN.{length, take, length-append}
use lib.Dec.{eqb}
use borrow.Author.Tests.{eqb-true, not-true, not-false}
use Rattle.basics.proofs.TestLaws.{and_both, and-true}
use Rattle.lines.specs.Lines.{lines_of}
use Rattle.state.specs.declared.sandbox.Machine.{Machine}
use Rattle.state.specs.World.{World, world_of}
use Rattle.roll.specs.Known.{Known}
use Rattle.roll.specs.Play.{Played}
use Rattle.roll.proofs.PlayLaws.{played-none}
use Rattle.roll.proofs.KnownLaws.{known-played}
use Rattle.roll.proofs.JoinLaws.{joins, counts-on, played-alone}
use Rattle.conversation.specs.Conversation.{Turn, goes_on, Answers, Conversation, full, last, next, roll_of, replies_of, all_written, Talked}

-- ---- a turn

pub turn-answers : (image line reply₀ reply : List ℕ) (number got : ℕ) (written : Bool) (w v : World)
    → number ≤ 65535 → got ≤ 43 → length (take got line) ≡ got
    → Played image w (take got line) (lines_of (length (take got line))) number reply₀ reply v
    → Answers image number w (record { line = take got line; reply = take (lines_of got * 19) reply; written = written }) v
turn-answers image line reply₀ reply number got written w v low few size p = record {
  numbered = low;
  one = omega (arith, few, size);
  played =
      let alone = played-alone image (take got line) reply₀ reply (lines_of (length (take got line))) number w v p in
      subst (λ n. Played image w (take got line) (lines_of (length (take got line))) number [] (take (lines_of n * 19) reply) v) size alone;
}

-- whether the state is sound is known after it, as it was before
pub known-answers : (s : Bool) (image : List ℕ) (number : ℕ) (w : World) (t : Turn) (v : World) → Known s image w → Answers image number w t v
    → Known s image v
known-answers s image number w t v k a =
    known-played s image w t.line (lines_of (length t.line)) number [] t.reply v k a.played

-- ---- all turns

-- a turn that goes on has a whole line
whole-line : (t : Turn) → goes_on t ≡ true → length t.line ≡ 43
whole-line t g = eqb-true (length t.line) 43 (and_both t.written (eqb (length t.line) 43) g).1

was-written : (t : Turn) → goes_on t ≡ true → t.written ≡ true
was-written t g = (and_both t.written (eqb (length t.line) 43) g).0

-- "Lines after the 65,535th are not read."
few_bytes : {image : List ℕ} {number : ℕ} {w v : World} {ts : List Turn} → Conversation image number w ts v → length (roll_of ts) ≤ (65536 - number) * 43
unfolding roll_of
few_bytes (full e) = omega arith
few_bytes (last {t = t} a g) = rw (append-nil t.line) (omega (arith, a.one, a.numbered))
few_bytes (next {t = t} {ts = ts} a g c) = rw (length-append t.line (roll_of ts)) (omega (arith, a.one, a.numbered, few_bytes c))

few-counted : (bytes number : ℕ) → 1 ≤ number → number ≤ 65535 → bytes ≤ (65536 - (number + 1)) * 43 → 1 + lines_of bytes ≤ 65535
unfolding lines_of
few-counted bytes number h l b = omega arith

one_line : (line : List ℕ) → length line ≡ 43 → lines_of (length line) ≡ 1
unfolding lines_of
one_line line e = rw e refl

pub conversation-played : {image : List ℕ} {number : ℕ} {w v : World} {ts : List Turn} → 1 ≤ number → Conversation image number w ts v
    → Played image w (roll_of ts) (lines_of (length (roll_of ts))) number [] (replies_of ts) v
unfolding roll_of replies_of lines_of
conversation-played {image = image} h (full {number = number} {w = w} e) = played-none image [] [] w number
conversation-played h (last {t = t} a g) = rw (append-nil t.line, append-nil t.reply) a.played
conversation-played {image = image} h (next {number = number} {w = w} {v = u} {u = v} {t = t} {ts = ts} a g c) =
    let whole : length t.line ≡ 43 = whole-line t g in
    let rest = conversation-played (omega arith) c in
    let first : Played image w t.line 1 number [] t.reply u
    = subst (λ n. Played image w t.line n number [] t.reply u) (one_line t.line whole) a.played in
    let few = few-counted (length (roll_of ts)) number h a.numbered (few_bytes c) in
    rw (counts-on t.line (roll_of ts) 1 whole few)
    (joins image t.line (roll_of ts) t.reply (replies_of ts) 1 (lines_of (length (roll_of ts))) number w u v whole first rest)

-- ---- the turns so far

-- Whatever conversation goes on from here is one from the start, with every reply written where all of its own are.
abbrev pub GoesOnTo : List ℕ → World → ℕ → World → Type 0
GoesOnTo image w number v =
    (ts : List Turn) (u : World) → Conversation image number v ts u → (all : List Turn) × (Conversation image 1 w all u × (all_written all ≡ all_written ts))

pub none_so_far : (image : List ℕ) (w : World) → GoesOnTo image w 1 w
none_so_far image w ts u c = (ts, (c, refl))

pub one-turn-more : (image : List ℕ) (w : World) (number : ℕ) (v : World) (t : Turn) (u : World)
    → GoesOnTo image w number v → Answers image number v t u → (more : Bool) → more ≡ goes_on t → not more ≡ false → GoesOnTo image w (number + 1) u
unfolding all_written
one-turn-more image w number v t u so a more e h ts x c =
    let g : goes_on t ≡ true = sym e ∙ not-false more h in
    let before = so (t ∷ ts) x (next a g c) in
    (before.0, (before.1.0, before.1.1 ∙ rw (was-written t g) refl))

module _ (image : List ℕ) (w : World) (number : ℕ) (v : World) (so : GoesOnTo image w number v) (m : Machine) (pool table : List ℕ) where
  ended : (ts : List Turn) (written : Bool) → Conversation image number v ts (world_of m pool table) → written ≡ all_written ts
      → Talked image w pool table written
  ended ts written c e =
      let all = so ts (world_of m pool table) c in
      record {
        machine = m;
        turns = all.0;
        talk = all.1.0;
        played = conversation-played (omega arith) all.1.0;
        told = e ∙ sym all.1.1;
      }

  pub ended_by : (t : Turn) → Answers image number v t (world_of m pool table) → (more : Bool) → more ≡ goes_on t → not more ≡ true
      → Talked image w pool table t.written
  unfolding all_written
  ended_by t a more e h = ended (t ∷ []) t.written (last a (sym e ∙ not-true more h)) (sym (and-true t.written))

pub ended-full : (image : List ℕ) (w : World) (number : ℕ) (m : Machine) (pool table : List ℕ)
    → GoesOnTo image w number (world_of m pool table) → number ≡ 65536 → Talked image w pool table true
unfolding all_written
ended-full image w number m pool table so e = ended image w number (world_of m pool table) so m pool table [] true (full e) refl
