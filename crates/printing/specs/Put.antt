-- Lines put into lent output at a cursor.
use Rattle.std.specs.Prelude.{ℕ, ◌+◌, ◌*◌, ◌≤◌, ◌≡◌, true, List, length}
use Rattle.basics.specs.Choice.{◌when◌else◌}
use Rattle.interface.specs.declared.request.Request.{Request}
use Rattle.pages.specs.Parts.{set_part}
use Rattle.archive.specs.Text.{printed_roll}
use Rattle.printing.specs.declared.Cursor.{Cursor}

-- the cursor behind these lines
abbrev pub past : Cursor → List Request → Cursor
past to l = record { line = to.line + length l; writes = to.writes }

-- the output with these lines from the cursor on, where lines are written: "43 bytes" each
unfoldable pub lined : Cursor → List ℕ → List Request → List ℕ
lined to out l = set_part out (to.line * 43) (printed_roll l) when to.writes else out

-- a cursor, and the output memory that is left
pub record Placed : Type 0 where
  pub cursor : Cursor
  pub out : List ℕ

abbrev pub placed : Cursor → List ℕ → Placed
placed to out = record { cursor = to; out = out }

abbrev pub put : Cursor → List ℕ → List Request → Placed
put to out l = placed (past to l) (lined to out l)

-- there is room for these lines: no more than are read ("Lines after the 65,535th are not read"), and where they are written, the output has bytes for them
pub record Room (to : Cursor) (out : List ℕ) (l : List Request) : Type 0 where
  pub few : to.line + length l ≤ 65535
  pub fits : to.writes ≡ true → (to.line + length l) * 43 ≤ length out
