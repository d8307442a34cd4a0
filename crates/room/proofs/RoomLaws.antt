-- A roll has at most 65,535 lines; and what the room for its replies says of the output.
use Rattle.std.proofs.Common.{◌≡◌, ℕ, ◌*◌, ◌≤◌, ◌<◌, ltb, Some, None, ltb-true, ltb-false, arith}
use Rattle.basics.proofs.TestLaws.{by_cases}
use Rattle.lines.specs.Lines.{lines_of}
use Rattle.room.specs.Rooms.{room_for}

pub few-lines : (bytes : ℕ) → lines_of bytes ≤ 65535
unfolding lines_of
few-lines bytes = omega arith

-- where a reply does not fit, none is answered; else all are
pub none-answered : (roll out : ℕ) → None ≡ room_for roll out → out < lines_of roll * 19
none-answered roll out is =
    by_cases (ltb out (lines_of roll * 19)) (λ t. ltb-true out (lines_of roll * 19) t) (λ t. let z : ◌≡◌ {A = ℕ} 0 1 = cc (rw t at is) in absurd (omega arith))

pub all-answered : (roll out lines : ℕ) → Some lines ≡ room_for roll out → (lines_of roll * 19 ≤ out) × (lines ≡ lines_of roll)
all-answered roll out lines is =
    by_cases (ltb out (lines_of roll * 19)) (λ t. let z : ◌≡◌ {A = ℕ} 0 1 = cc (rw t at is) in absurd (omega arith))
    (λ t. (ltb-false out (lines_of roll * 19) t, cc (rw t at is)))
