-- The replies to a roll that is played from a start: demand 2, of the printed bytes; and where a lent length is wrong, the refusal of each line.
use mathlib.Core.Path.{◌≡◌, refl, ap, ap₂, subst, ◌∙◌}
use mathlib.Core.Bool.{true, false, not}
use mathlib.Core.List.{List, [], ◌∷◌, ◌++◌, map}
use Prim.Native.Nat.{ℕ, ◌*◌}
use lib.ListN.{length, drop}
use Rattle.basics.specs.Choice.{◌when◌else◌}
use Rattle.interface.specs.declared.request.Request.{Request}
use Rattle.interface.specs.Answers.{Answered}
use Rattle.interface.specs.Requests.{is_call}
use Rattle.interface.specs.Examples.{refused}
use Rattle.lines.specs.declared.Line.{Line}
use Rattle.lines.specs.declared.Line.TheVariants.{Call, Malformed}
use Rattle.lines.specs.Lines.{lines_of}
use Rattle.state.specs.World.{World, world_of, fresh_machine, lengths_ok}
use Rattle.state.specs.Start.{started_by}
use Rattle.claims.specs.Demands.{Run, none, more, RunFrom}
use Rattle.claims.proofs.Claims.{claim-start, claim-2}
use Rattle.consequences.proofs.Claims.{claim-wrong-length}
use Rattle.roll.specs.Play.{malformed, lines_in, requests, replies, printed, Played}
use Rattle.roll.specs.Replies.{lent, plain_replies, refused_reply, refused_replies, RepliesArePlain, RepliesAreRefusals}

-- ---- right lengths

-- a run from what a start leaves
pub run_of : (image roll pool table out₀ out : List ℕ) (v : World)
    → lengths_ok (length pool) (length table) (length image) ≡ true
    → (p : Played image (started_by pool table image) roll (lines_of (length roll)) 1 out₀ out v)
    → RunFrom (lent image pool) (requests (lines_in roll (lines_of (length roll)))) p.answers v
run_of image roll pool table out₀ out v ok p =
    subst (λ w. Run image w (requests (lines_in roll (lines_of (length roll)))) p.answers v) (claim-start pool table image ok).1 p.run

pub replies-are-plain : RepliesArePlain
unfolding plain_replies
replies-are-plain image roll pool table out₀ out v ok p =
    let n = lines_of (length roll) in
    let run = run_of image roll pool table out₀ out v ok p in
    let same = claim-2 (lent image pool) (claim-start pool table image ok).0 (requests (lines_in roll n)) p.answers v run in
    p.prints ∙ ap (λ as'. printed 1 (replies (lines_in roll n) as') ++ drop (n * 19) out₀) same

-- ---- a wrong length

-- row 2 or row 3
abbrev row_of : Request → Answered
row_of q = refused (2 when not (is_call q) else 3)

-- a run over wrong lengths
run-refused : {image : List ℕ} {w v : World} {qs : List Request} {as' : List Answered} → Run image w qs as' v
    → lengths_ok (length w.store.pool) (length w.store.table) (length image) ≡ false → (v ≡ w) × (as' ≡ map row_of qs)
run-refused none wrong = (refl, refl)
run-refused {image} {w} (more {q = q} {o = o} s r) wrong =
    let here = claim-wrong-length image w wrong q o s in
    let rest = run-refused r (rw here.1 wrong) in
    (rest.0 ∙ here.1, ap₂ ◌∷◌ here.0 rest.1)

-- with refusal 1 where a line is malformed
refused-each : (ls : List Line) → replies ls (map row_of (requests ls)) ≡ map refused_reply ls
unfolding requests replies
refused-each [] = refl
refused-each (Malformed ∷ ls) = ap (λ l. malformed ∷ l) (refused-each ls)
refused-each (Call q ∷ ls) = ap (λ l. row_of q ∷ l) (refused-each ls)

started-wrong : (pool table image : List ℕ) → lengths_ok (length pool) (length table) (length image) ≡ false
    → started_by pool table image ≡ world_of fresh_machine pool table
unfolding started_by
started-wrong pool table image e = rw e

pub replies-are-refusals : RepliesAreRefusals
unfolding refused_replies
replies-are-refusals image roll pool table out₀ out v wrong p =
    let n = lines_of (length roll) in
    let run = subst (λ w. Run image w (requests (lines_in roll n)) p.answers v) (started-wrong pool table image wrong) p.run in
    let done = run-refused run wrong in (
      ap (λ (w : World). w.store.pool) done.0,
      (
        ap (λ (w : World). w.store.table) done.0,
        p.prints ∙ ap (λ as'. printed 1 (replies (lines_in roll n) as') ++ drop (n * 19) out₀) done.1
            ∙ ap (λ as'. printed 1 as' ++ drop (n * 19) out₀) (refused-each (lines_in roll n)),
      ),
    )
