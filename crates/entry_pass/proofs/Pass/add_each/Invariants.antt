-- The pass over the entries so far, of which no more name a frame than there are.
use Rattle.std.proofs.Common.{◌≡◌, ◌+◌, ◌≤◌, take, fold}
use Rattle.entry_pass.specs.Pass.{pass_entry}
use Rattle.entry_pass.proofs.Pass.add_each.Given as goal

abbrev pub invariant-loop-entry : goal.invariant-loop-entry
invariant-loop-entry l = record {
  so_far : l.found ≡ fold (pass_entry l.frames) l.fn.self (take l.entry-index l.entries);
  few : l.found.named ≤ l.fn.self.named + l.entry-index;
}
