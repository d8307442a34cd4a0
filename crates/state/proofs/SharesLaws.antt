-- A sandbox read past the end of an array has every field zero, by its definition.
use mathlib.Core.Bool.{false}
use mathlib.Core.List.{[]}
use Rattle.state.specs.declared.sandbox.Sandbox.{Sandbox}

-- what an array of sandboxes read past its end would give: all zero
abbrev pub zero_sandbox : Sandbox
zero_sandbox =
    record {
      rec = record {
        opened = false;
        share = 0;
        present = record { count = 0; list = [] };
        taken = false;
        snapshot = record { count = 0; list = [] };
      };
      runs = record { list = [] };
    }
