-- When a line of an archive roll is accepted.
use Prim.Native.Nat.{ℕ, ◌+◌, ◌/◌, ◌≤◌, ◌<◌}
use mathlib.Core.Path.{◌≡◌}
use mathlib.Core.Bool.{true, false}
use native.Mathlib.Omega.{arith}
use borrow.Author.Tests.{lt-ltb, le-ltb, le-leb, ne_eqb}
use Rattle.interface.specs.Requests.{request_of, open_code, map_code, protect_code, write_code, snapshot_code}
use Rattle.interface.specs.Slots.{is_mapped, rights_at, areas, all_are}
use Rattle.interface.specs.Limits.{within, backing_ok}
use Rattle.interface.specs.Refusals.{View, is_taken, all_mapped, slots_then, charge_then, applies, refusal}

module _ (v : View) (sound : v.sound ≡ true) (s : ℕ) (row : s < 4) where
  pub open-taken : (share : ℕ) → v.opened ≡ false → 1 ≤ share → share ≤ 128 → v.shares + share ≤ v.frames
      → charge_then v (request_of open_code s share 0 0 0 0) ≤ share → areas (slots_then v (request_of open_code s share 0 0 0 0)) ≤ 8
      → refusal v (request_of open_code s share 0 0 0 0) ≡ 0
  unfolding applies refusal within all_mapped
  open-taken share o l m p c a =
      rw (sound, lt-ltb s 4 row, o, le-leb 1 share l, le-leb share 128 m, le-ltb _ _ p, le-ltb share _ c, le-ltb 8 _ a)

  module _ (opened : v.opened ≡ true) where
    pub map-taken : (i n kind p : ℕ) → i < 64 → 1 ≤ n → i + n ≤ 64 → backing_ok v.images (request_of map_code s i n kind p 3) ≡ true
        → all_are false v.slots i n ≡ true
        → charge_then v (request_of map_code s i n kind p 3) ≤ v.share → areas (slots_then v (request_of map_code s i n kind p 3)) ≤ 8
        → refusal v (request_of map_code s i n kind p 3) ≡ 0
    unfolding applies refusal within all_mapped
    map-taken i n kind p l m e b u c a =
        rw (
          sound,
          lt-ltb s 4 row,
          opened,
          ne_eqb i 64 (λ t. omega arith),
          lt-ltb i 64 l,
          le-leb 1 n m,
          le-leb n 64 (omega arith),
          le-leb (i + n) 64 e,
          b,
          u,
          le-ltb v.share _ c,
          le-ltb 8 _ a,
        )

    pub write-taken : (a b : ℕ) → a < 16384 → b < 256 → is_mapped (v.slots (a / 256)) ≡ true → rights_at (v.slots (a / 256)) ≡ 3
        → charge_then v (request_of write_code s a b 0 0 0) ≤ v.share → areas (slots_then v (request_of write_code s a b 0 0 0)) ≤ 8
        → refusal v (request_of write_code s a b 0 0 0) ≡ 0
    unfolding applies refusal within all_mapped
    write-taken a b l m h r c f = rw (sound, lt-ltb s 4 row, opened, lt-ltb a 16384 l, lt-ltb b 256 m, h, r, le-ltb v.share _ c, le-ltb 8 _ f)

    pub protect-taken : (i n : ℕ) → i < 64 → 1 ≤ n → i + n ≤ 64 → all_are true v.slots i n ≡ true
        → charge_then v (request_of protect_code s i n 1 0 0) ≤ v.share → areas (slots_then v (request_of protect_code s i n 1 0 0)) ≤ 8
        → refusal v (request_of protect_code s i n 1 0 0) ≡ 0
    unfolding applies refusal within all_mapped
    protect-taken i n l m e u c f =
        rw (
          sound,
          lt-ltb s 4 row,
          opened,
          lt-ltb i 64 l,
          le-leb 1 n m,
          le-leb n 64 (omega arith),
          le-leb (i + n) 64 e,
          u,
          le-ltb v.share _ c,
          le-ltb 8 _ f,
        )

    pub snapshot-taken : is_taken v.copy ≡ false
        → charge_then v (request_of snapshot_code s 0 0 0 0 0) ≤ v.share → areas (slots_then v (request_of snapshot_code s 0 0 0 0 0)) ≤ 8
        → refusal v (request_of snapshot_code s 0 0 0 0 0) ≡ 0
    unfolding applies refusal within all_mapped
    snapshot-taken u c f = rw (sound, lt-ltb s 4 row, opened, u, le-ltb v.share _ c, le-ltb 8 _ f)
