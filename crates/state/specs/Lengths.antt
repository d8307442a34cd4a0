-- Row 3 of "Turned back", "lent length wrong", on both sides of each limit: calls over what is lent, and the answers that they are to get after its start.
use Rattle.std.specs.Prelude.{Bool, true, not, ◌&&◌, List, [], ◌∷◌, ℕ, eqb}
use Rattle.basics.specs.Choice.{same}
use Rattle.interface.specs.Requests.{open_code, read_code, is_call}
use Rattle.interface.specs.Examples.{Line, ◌gives◌, ok, refused, call₁, call, in_sandbox}
use Rattle.state.specs.World.{lengths_ok}

-- a call over so many bytes of pool, entries of table and bytes of image
pub record Lending : Type 0 where
  pub pool : ℕ
  pub table : ℕ
  pub image : ℕ
  pub line : Line

abbrev pub lending : ℕ → ℕ → ℕ → Line → Lending
lending p t i l = record { pool = p; table = t; image = i; line = l }

-- "lent length wrong": "The pool is 1 to 128 frames of 256 bytes. The image, read only, is 0 to 64 pages of 256 bytes. The page table is 512 16-bit numbers"
abbrev pub lendings : List Lending
lendings =
    -- 3: "a pool of 255 bytes"
    lending 255 512 0 (call₁ open_code 8 gives refused 3) ∷
    lending 0 512 0 (call₁ open_code 1 gives refused 3) ∷ lending 256 512 0 (call₁ open_code 1 gives ok 0) ∷ lending 257 512 0 (call₁ open_code 1 gives refused 3) ∷
    lending 32768 512 0 (call₁ open_code 128 gives ok 0) ∷ lending 32769 512 0 (call₁ open_code 1 gives refused 3) ∷ lending 33024 512 0 (call₁ open_code 1 gives refused 3) ∷
    lending 256 0 0 (call₁ open_code 1 gives refused 3) ∷ lending 256 511 0 (call₁ open_code 1 gives refused 3) ∷ lending 256 513 0 (call₁ open_code 1 gives refused 3) ∷
    lending 256 512 255 (call₁ open_code 1 gives refused 3) ∷ lending 256 512 256 (call₁ open_code 1 gives ok 0) ∷ lending 256 512 257 (call₁ open_code 1 gives refused 3) ∷
    lending 256 512 16384 (call₁ open_code 1 gives ok 0) ∷ lending 256 512 16385 (call₁ open_code 1 gives refused 3) ∷
    lending 256 512 16640 (call₁ open_code 1 gives refused 3) ∷
    -- 2 before 3
    lending 255 512 0 (call 0 gives refused 2) ∷ lending 256 511 0 (call 11 gives refused 2) ∷ lending 256 512 0 (call 0 gives refused 2) ∷
    -- 3 before 4, 6 and 13; where the lengths are right, those
    lending 255 512 0 (in_sandbox 9 (call₁ open_code 8) gives refused 3) ∷ lending 256 512 0 (in_sandbox 9 (call₁ open_code 8) gives refused 4) ∷
    lending 255 512 0 (call₁ read_code 0 gives refused 3) ∷ lending 256 512 0 (call₁ read_code 0 gives refused 4) ∷
    lending 256 512 1 (call₁ open_code 0 gives refused 3) ∷ lending 256 512 0 (call₁ open_code 0 gives refused 6) ∷
    lending 257 512 0 (call₁ open_code 2 gives refused 3) ∷ lending 256 512 0 (call₁ open_code 2 gives refused 13) ∷
    []

-- the calls that are refused 3 are those over a wrong length
unfoldable pub lengths_tested : List Lending → Bool
lengths_tested [] = true
lengths_tested (c ∷ cs) = same (is_call c.line.request && not (lengths_ok c.pool c.table c.image)) (eqb c.line.gets.number 3) && lengths_tested cs
