-- A pass over entries as the code keeps it: frames named twice show only at its end, where more entries name a frame than frames are marked.
use Rattle.std.specs.Prelude.{true, false, ℕ, zero, suc, ◌+◌, ◌-◌, eqb, ltb}
use Rattle.basics.specs.Choice.{◌when◌else◌}
use Rattle.frames.specs.Frames.{mark, none_held}
use Rattle.entry_pass.specs.declared.Pass.{Pass}

-- one more entry e, for a pool of n frames: it names none, or a frame past the pool, or a frame of it
unfoldable pub pass_entry : ℕ → Pass → ℕ → Pass
pass_entry n s e =
    s when eqb e 0 else
    record { inside = false; named = s.named; held = s.held } when ltb n e else
    record { inside = s.inside; named = s.named + 1; held = mark s.held (e - 1) 1 }

-- the first i entries
unfoldable pub pass_to : ℕ → (ℕ → ℕ) → ℕ → Pass
pass_to n p zero = record { inside = true; named = 0; held = none_held }
pass_to n p (suc i) = pass_entry n (pass_to n p i) (p i)
