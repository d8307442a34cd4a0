-- The kinds of request that change slots, bytes or marks, and the rest: what a proof by cases on the call goes through.
use mathlib.Core.Path.{◌≡◌}
use mathlib.Core.Bool.{false}
use borrow.Author.Tests.{eqb-true}
use Rattle.basics.proofs.TestLaws.{by_cases}
use Rattle.interface.specs.declared.request.Request.{Request}
use Rattle.interface.specs.Requests.{◌is◌, map_code, unmap_code, protect_code, write_code, snapshot_code, rewind_code}

pub data Kind (q : Request) : Type 0 where
  is_map : q.code ≡ map_code → Kind q
  is_unmap : q.code ≡ unmap_code → Kind q
  is_protect : q.code ≡ protect_code → Kind q
  is_write : q.code ≡ write_code → Kind q
  is_snapshot : q.code ≡ snapshot_code → Kind q
  is_rewind : q.code ≡ rewind_code → Kind q
  is_other : (q is map_code) ≡ false → (q is unmap_code) ≡ false → (q is protect_code) ≡ false → (q is write_code) ≡ false → (q is snapshot_code) ≡ false → (q is rewind_code) ≡ false → Kind q

pub kind : (q : Request) → Kind q
kind q =
    by_cases (q is map_code) (λ e. is_map (eqb-true _ _ e)) λ a.
    by_cases (q is unmap_code) (λ e. is_unmap (eqb-true _ _ e)) λ b.
    by_cases (q is protect_code) (λ e. is_protect (eqb-true _ _ e)) λ c.
    by_cases (q is write_code) (λ e. is_write (eqb-true _ _ e)) λ d.
    by_cases (q is snapshot_code) (λ e. is_snapshot (eqb-true _ _ e)) λ f.
    by_cases (q is rewind_code) (λ e. is_rewind (eqb-true _ _ e)) λ h. is_other a b c d f h
