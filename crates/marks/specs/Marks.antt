-- The marks of the frames that entries name, found by one pass over the entries.
use Rattle.std.specs.Prelude.{Bool, true, false, not, ◌&&◌, List, ℕ, zero, suc, ◌+◌, ◌-◌, eqb, ltb, get_or}
use Rattle.basics.specs.Choice.{◌when◌else◌}
use Rattle.frames.specs.Frames.{held, mark, none_held, same_held}
use Rattle.frames.specs.declared.Held.{Held}
use Rattle.marks.specs.declared.Marks.{Marks}

-- one more entry e, for a pool of n frames: it names none, or a frame past the pool, or a frame of it, which must not be marked yet
unfoldable pub add_entry : ℕ → Marks → ℕ → Marks
add_entry n m e =
    m when eqb e 0 else
    record { good = false; held = m.held } when ltb n e else
    record { good = not (eqb (held m.held (e - 1)) 1) && m.good; held = mark m.held (e - 1) 1 }

-- the marks of the first i entries
unfoldable pub marks_to : ℕ → (ℕ → ℕ) → ℕ → Marks
marks_to n p zero = record { good = true; held = none_held }
marks_to n p (suc i) = add_entry n (marks_to n p i) (p i)

-- the entries of a table from first on
abbrev pub from : ℕ → List ℕ → ℕ → ℕ
from first t k = get_or t (first + k) 0

-- 'the held marks are those frames': the pass over all 512 entries is good and has the marks h
unfoldable pub marksb : ℕ → Held → List ℕ → Bool
marksb n h t = (marks_to n (from 0 t) 512).good && same_held (marks_to n (from 0 t) 512).held h
