-- Laws of parts: stored byte by byte, lent on one after the other, found in a table of them, and cut out of a list.
use Prim.Native.Nat.{ℕ, zero, suc, ◌+◌, ◌-◌, ◌^◌, ◌≤◌, ◌<◌}
use mathlib.Core.Path.{◌≡◌, refl, sym, ap, ◌∙◌, subst}
use mathlib.Core.List.{List, [], ◌∷◌, ◌++◌, append_assoc, append-nil}
use native.Mathlib.Omega.{arith}
use lib.Dec.{ltb}
use lib.ListN.{length, get_or, take, drop, length-append, length-take, drop_of_length-le, take-append-drop, get_or-eq_default}
use lib.Seq.{take_at, drop_at, drop-drop, drop-cons, length-take-le, sets, sets-eq}
use borrow.Rule.Slice.PartMut.{put_mid}
use borrow.Author.Tests.{ltb-true, ltb-false}
use Rattle.basics.proofs.TestLaws.{by_cases}
use Rattle.pages.specs.Parts.{part_at}
use Rattle.pages.proofs.PartLaws.{length_part, part-get_or}
use Rattle.layout.specs.Rows.{digits, spelled, Bytes, Part, part, flat, widths}
use Rattle.layout.proofs.RowLaws.{digits-spelled, spelled-small}

-- ---- stores from the first element on, straight on

pub stored-all : (vs l : List ℕ) → length l ≡ length vs → sets l 0 vs ≡ vs
stored-all vs l e = sets-eq vs l 0 (omega arith) ∙ rw (drop_of_length-le l {i = 0 + length vs} (omega arith)) (append-nil vs)

-- what the first elements become where the rest stands
headed : (vs h r : List ℕ) → length h ≡ length vs → sets (h ++ r) 0 vs ≡ vs ++ r
headed vs h r e = sets-eq vs (h ++ r) 0 (rw (length-append h r) (omega arith)) ∙ rw (drop_at h r (0 + length vs) (omega arith))

-- ---- parts lent on in turn, each behind the one before

-- each part is as long as it should be
abbrev pub Sized : List Part → Type 0
Sized [] = Unit {0}
Sized (p ∷ ps) = (length p.bytes ≡ p.width) × Sized ps

put_next : (done rest ys : List ℕ) (at n : ℕ) → length done ≡ at → put_mid at n (done ++ rest) ys ≡ (done ++ ys) ++ drop n rest
put_next done rest ys at n e = rw (take_at done rest at e, drop_at done rest at e) (sym (append_assoc done ys (drop n rest)))

-- parts of these lengths, put from place at on. On a list that is written out it computes to what the calls leave, as `sets` does of stores.
abbrev pub puts : List ℕ → ℕ → List Part → List ℕ
puts out at [] = out
puts out at (p ∷ ps) = puts (put_mid at p.width out p.bytes) (at + p.width) ps

puts-next : (ps : List Part) (done rest : List ℕ) (at : ℕ) → length done ≡ at → Sized ps
    → puts (done ++ rest) at ps ≡ (done ++ flat ps) ++ drop (widths ps) rest
puts-next [] done rest at e z = rw (append-nil done) refl
puts-next (p ∷ ps) done rest at e z =
    let longer : length (done ++ p.bytes) ≡ at + p.width = length-append done p.bytes ∙ omega (arith, z.0) in
    ap (λ (l : List ℕ). puts l (at + p.width) ps) (put_next done rest p.bytes at p.width e)
    ∙ puts-next ps (done ++ p.bytes) (drop p.width rest) (at + p.width) longer z.1
    ∙ rw (append_assoc done p.bytes (flat ps), drop-drop (widths ps) p.width rest)

-- all that stands behind the first h elements
puts-all : (ps : List Part) (out : List ℕ) (h : ℕ) → length out ≡ h + widths ps → Sized ps → puts out h ps ≡ take h out ++ flat ps
puts-all ps out h e z =
    ap (λ (l : List ℕ). puts l h ps) (sym (take-append-drop h out)) ∙ puts-next ps (take h out) (drop h out) h (length-take-le h out (omega arith)) z
    ∙ rw (drop-drop (widths ps) h out, drop_of_length-le out {i = h + widths ps} (omega arith)) (append-nil (take h out ++ flat ps))

-- a table whose first parts are single bytes: the others lent on in turn, and then the bytes stored
pub laid_out : (vs : List ℕ) (ps : List Part) (out : List ℕ) → length out ≡ length vs + widths ps → Sized ps
    → sets (puts out (length vs) ps) 0 vs ≡ vs ++ flat ps
laid_out vs ps out e z =
    ap (λ (l : List ℕ). sets l 0 vs) (puts-all ps out (length vs) e z)
    ∙ headed vs (take (length vs) out) (flat ps) (length-take-le (length vs) out (omega arith))

-- ---- a table of parts

pub length-flat : (ps : List Part) → Sized ps → length (flat ps) ≡ widths ps
length-flat [] z = refl
length-flat (p ∷ ps) z = length-append p.bytes (flat ps) ∙ omega (arith, z.0, length-flat ps z.1)

-- where part i stands, how long it is, and what it is
abbrev pub place_of : List Part → ℕ → ℕ
place_of [] i = 0
place_of (p ∷ ps) zero = 0
place_of (p ∷ ps) (suc i) = p.width + place_of ps i

abbrev pub nth : List Part → ℕ → Part
nth [] i = part 0 []
nth (p ∷ ps) zero = p
nth (p ∷ ps) (suc i) = nth ps i

pub part-flat : (ps : List Part) → Sized ps → (i : ℕ) → part_at (flat ps) (place_of ps i) (nth ps i).width ≡ (nth ps i).bytes
unfolding part_at
part-flat [] z i = refl
part-flat (p ∷ ps) z zero = take_at p.bytes (flat ps) p.width z.0
part-flat (p ∷ ps) z (suc i) =
    let behind = drop_at p.bytes (flat ps) p.width z.0 in
    ap (take (nth ps i).width) (sym (drop-drop (place_of ps i) p.width (p.bytes ++ flat ps)) ∙ ap (drop (place_of ps i)) behind)
    ∙ part-flat ps z.1 i

-- a list cut into parts of these widths, from a place on
abbrev pub cut : List ℕ → ℕ → List ℕ → List Part
cut l at [] = []
cut l at (w ∷ ws) = part w (part_at l at w) ∷ cut l (at + w) ws

abbrev pub total : List ℕ → ℕ
total [] = 0
total (w ∷ ws) = w + total ws

pub flat-cut : (ws l : List ℕ) (at : ℕ) → length l ≡ at + total ws → flat (cut l at ws) ≡ drop at l
unfolding part_at
flat-cut [] l at e = sym (drop_of_length-le l {i = at} (omega arith))
flat-cut (w ∷ ws) l at e =
    ap (λ (r : List ℕ). take w (drop at l) ++ r) (flat-cut ws l (at + w) (omega arith) ∙ sym (drop-drop w at l)) ∙ take-append-drop w (drop at l)

-- a part of one byte
pub part-byte : (l : List ℕ) (i : ℕ) → i < length l → part_at l i 1 ≡ get_or l i 0 ∷ []
unfolding part_at
part-byte l i h = ap (take 1) (drop-cons l i 0 h)

-- a part as it is lent on
pub part-lent : (l : List ℕ) (at n : ℕ) → take (at + n - at) (drop at l) ≡ part_at l at n
unfolding part_at
part-lent l at n = let width : at + n - at ≡ n = omega arith in rw width

-- a part of what stands from a place on
part-drop : (l : List ℕ) (k at n : ℕ) → part_at l (k + at) n ≡ part_at (drop k l) at n
unfolding part_at
part-drop l k at n = ap (take n) (sym (drop-drop at k l))

pub part-lent-behind : (l : List ℕ) (k at n : ℕ) → take (k + at + n - (k + at)) (drop (k + at) l) ≡ part_at (drop k l) at n
part-lent-behind l k at n = part-lent l (k + at) n ∙ part-drop l k at n

-- ---- numbers in bytes

-- past its end a part has no byte
past : (l : List ℕ) (at n i : ℕ) → n ≤ i → get_or (part_at l at n) i 0 ≡ 0
unfolding part_at
past l at n i h = get_or-eq_default (take n (drop at l)) 0 {n = i} (rw (length-take n (drop at l)) (omega arith))

part_small : (l : List ℕ) → Bytes l → (at n i : ℕ) → get_or (part_at l at n) i 0 < 256
part_small l bytes at n i =
    by_cases (ltb i n) (λ t. rw (part-get_or l at n i (ltb-true i n t)) (bytes.at (at + i)))
    (λ t. rw (past l at n i (ltb-false i n t)) (omega arith))

pub bytes-part : (l : List ℕ) → Bytes l → (at n : ℕ) → Bytes (part_at l at n)
bytes-part l bytes at n = record { at = part_small l bytes at n }

-- a number of n bytes
pub number-again : (l : List ℕ) → Bytes l → (at n : ℕ) → at + n ≤ length l → digits n (spelled (part_at l at n)) ≡ part_at l at n
number-again l bytes at n h =
    let e = length_part l at n h in
    ap (λ (k : ℕ). digits k (spelled (part_at l at n))) (sym e) ∙ digits-spelled (part_at l at n) (bytes-part l bytes at n)

pub number_small : (l : List ℕ) → Bytes l → (at n : ℕ) → at + n ≤ length l → spelled (part_at l at n) < 256 ^ n
number_small l bytes at n h =
    subst (λ (k : ℕ). spelled (part_at l at n) < 256 ^ k) (length_part l at n h) (spelled-small (part_at l at n) (bytes-part l bytes at n))
