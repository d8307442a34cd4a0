-- THE THEOREMS: the statements of specs/Claims.
use mathlib.Core.Path.{refl, sym, ap, ◌∙◌}
use Rattle.pages.specs.Parts.{zeros}
use Rattle.layout.specs.Rows.{digits, joined}
use Rattle.layout.specs.Layout.{state_bytes, sandbox_bytes, areas_bytes, area_bytes, runs_bytes, marks_bytes, state_from}
use Rattle.layout.specs.Claims.{OneLength, DecodesBack, Passes, OnlyCanonical, GivesShaped, BytesTell, SoundIsShaped, FreshIsZero}
use Rattle.layout.proofs.LengthLaws.{length-state}
use Rattle.layout.proofs.LayoutLaws.{state-again, state-passes, state-bytes-again, state-shaped}

pub one-length : OneLength
one-length = length-state

pub decodes-back : DecodesBack
decodes-back = state-again

pub passes : Passes
passes = state-passes

pub only-canonical : OnlyCanonical
only-canonical = state-bytes-again

pub gives-shaped : GivesShaped
gives-shaped = state-shaped

pub bytes-tell : BytesTell
bytes-tell m l h k e = sym (state-again m h) ∙ ap state_from e ∙ state-again l k

pub sound-is-shaped : SoundIsShaped
sound-is-shaped image w s = record {
  row = s.row;
  each = λ k l. record {
    present = (s.each k l).rec.present.eight;
    snapshot = (s.each k l).rec.snapshot.eight;
    runs = (s.each k l).places;
    words = s.words k l;
  };
  low = s.filed.low;
  high = s.filed.high;
}

pub fresh-is-zero : FreshIsZero
unfolding state_bytes sandbox_bytes areas_bytes area_bytes runs_bytes marks_bytes joined digits zeros
fresh-is-zero = refl
