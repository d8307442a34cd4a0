-- What is answered when a host asks for the archive roll of a sandbox, and what the output memory then holds.
use Rattle.std.specs.Prelude.{ℕ, List, []}
use Rattle.basics.specs.Choice.{◌when◌else◌}
use Rattle.layout.specs.Layout.{is_state}
use Rattle.archive.specs.Written.{Written, written_as}
use Rattle.replay.specs.Snapshot.{written}
use Rattle.host_calls.specs.declared.Told.{Told}
use Rattle.host_calls.specs.Calls.{Handed, world_in, answer_told}

-- what a host is told, and the output memory that is left
abbrev pub left : Told → List ℕ → Written
left t out = record { answer = answer_told t; out = out }

-- "lent length wrong, or state unsound" is refusal 3: so are bytes that are no state's, of a wrong length too. Others give a world
unfoldable pub filed : List ℕ → Handed → ℕ → List ℕ → Written
filed image h s out = written image (world_in h) s out when is_state h.state else written_as 3 [] out
