-- A rewound sandbox has exactly the snapshot's pages.
use Prim.Native.Nat.{ℕ}
use mathlib.Core.Path.{◌≡◌, refl}
use mathlib.Core.Bool.{true, false≢true}
use mathlib.Core.List.{List}
use mathlib.Core.Option.{Option, some, none, map}
use borrow.Author.Tests.{eqb-true}
use Rattle.interface.specs.declared.request.Request.{Request}
use Rattle.interface.specs.Requests.{◌is◌, rewind_code}
use Rattle.interface.specs.Outcome.{slots_after, copy_after}
use Rattle.interface.specs.Refusals.{is_taken}
use Rattle.interface.proofs.AcceptedLaws.{accepted}
use Rattle.plain.specs.Machine.{Given, Pages, Core, bytes_after, core_after, copy_slots}
use Rattle.plain_claims.specs.Lists.{up_to, Rewound, back, still}
use Rattle.plain_claims.specs.Claims.{Restored}
use Rattle.plain_claims.proofs.TwoListsLaws.{then-core}

pub taken-copy : (c : Core) → is_taken (copy_slots c) ≡ true → (d : Pages) × (c.copy ≡ some d)
taken-copy c h = go c.copy h
  where
    go : (o : Option Pages) → is_taken (map (λ (d : Pages). d.slots) o) ≡ true → (d : Pages) × (o ≡ some d)
    go none e = absurd (false≢true e)
    go (some d) e = (d, refl)

pub restored : (g : Given) (q : Request) (c : Core) → (q is rewind_code) ≡ true → is_taken (copy_slots c) ≡ true → Restored (core_after g q c)
unfolding slots_after copy_after bytes_after
restored g q c e h = let t = taken-copy c h in rw (eqb-true q.code rewind_code e, t.1)

pub rewound-restored : (g : Given) (s : ℕ) (qs : List Request) → Rewound g s qs → Restored (up_to g qs s).core
rewound-restored g s _ (back {qs} {q} t) =
    rw (then-core g s t) (restored g q (up_to g qs s).core t.called (rw t.names at ((accepted _ q t.taken).taken (rw t.called))))
rewound-restored g s _ (still {qs} q r e) = rw e (rewound-restored g s qs r)
