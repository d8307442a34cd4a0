-- Tables of rolls, computed with less work: a call's number is worked out once for its answer and for the step, and what stands before each line of a table of
-- limits is played once.
use Prim.Native.Nat.{ℕ}
use mathlib.Core.Path.{◌≡◌, refl, ◌∙◌}
use mathlib.Core.Bool.{Bool, true, ◌&&◌}
use mathlib.Core.List.{List, [], ◌∷◌, ◌++◌}
use lib.Dec.{eqb}
use Rattle.basics.specs.Choice.{◌when◌else◌}
use Rattle.basics.proofs.TestLaws.{and_both, and-of}
use Rattle.interface.specs.declared.request.Request.{Request}
use Rattle.interface.specs.Examples.{Line, requests_of, gets_of}
use Rattle.plain.specs.Machine.{Given, Plain, fresh, with_kept, kept_after, answer, after, answers}
use Rattle.plain.specs.Cases.{Case, cases_over, same_answer, same_answers, all_given}
use Rattle.plain.specs.TurnedBack.{each_after}

-- the machine after a request that gets this number
abbrev stepped : Given → Plain → Request → ℕ → Plain
stepped g p q number = with_kept q.sandbox (kept_after g q (p q.sandbox)) p when eqb number 0 else p

-- ---- a roll

-- every line gets its answer
unfoldable pub played : Given → Plain → List Line → Bool
played g p [] = true
played g p (l ∷ ls) =
    let a = answer g p l.request in
    same_answer a l.gets && played g (stepped g p l.request a.number) ls

played-says : (g : Given) (p : Plain) (ls : List Line) → same_answers (answers g p (requests_of ls)) (gets_of ls) ≡ played g p ls
unfolding answers answer after played
played-says g p [] = refl
played-says g p (l ∷ ls) = λ i. same_answer (answer g p l.request) l.gets && played-says g (after g p l.request) ls i

-- every roll of a table
unfoldable pub all_played : Given → List (List Line) → Bool
all_played g [] = true
all_played g (c ∷ cs) = played g fresh c && all_played g cs

pub played-given : (g : Given) (cs : List (List Line)) → all_played g cs ≡ true → all_given (cases_over g cs) ≡ true
unfolding all_given all_played
played-given g [] h = refl
played-given g (c ∷ cs) h =
    let b = and_both (played g fresh c) (all_played g cs) h in
    and-of (played-says g fresh c ∙ b.0) (played-given g cs b.1)

-- ---- each line alone, behind the same ones

-- the machine after these lines
unfoldable pub reached : Given → Plain → List Line → Plain
reached g p [] = p
reached g p (l ∷ ls) = reached g (stepped g p l.request (answer g p l.request).number) ls

unfoldable pub each_played : Given → Plain → List Line → Bool
each_played g p [] = true
each_played g p (l ∷ ls) = same_answer (answer g p l.request) l.gets && each_played g p ls

behind : (g : Given) (p : Plain) (before : List Line) (l : Line) → played g p before ≡ true
    → same_answer (answer g (reached g p before) l.request) l.gets ≡ true → played g p (before ++ (l ∷ [])) ≡ true
unfolding played reached
behind g p [] l h e = and-of e refl
behind g p (m ∷ ms) l h e =
    let a = answer g p m.request in
    let b = and_both (same_answer a m.gets) (played g (stepped g p m.request a.number) ms) h in
    and-of b.0 (behind g (stepped g p m.request a.number) ms l b.1 e)

pub each-given : (g : Given) (before ls : List Line) → played g fresh before ≡ true → each_played g (reached g fresh before) ls ≡ true
    → all_given (each_after g before ls) ≡ true
unfolding all_given each_played
each-given g before [] h e = refl
each-given g before (l ∷ ls) h e =
    let b = and_both (same_answer (answer g (reached g fresh before) l.request) l.gets) (each_played g (reached g fresh before) ls) e in
    and-of (played-says g fresh (before ++ (l ∷ [])) ∙ behind g fresh before l h b.0) (each-given g before ls h b.1)

-- ---- tables one behind the other

pub given-append : (cs ds : List Case) → all_given cs ≡ true → all_given ds ≡ true → all_given (cs ++ ds) ≡ true
unfolding all_given
given-append [] ds h e = e
given-append (c ∷ cs) ds h e =
    let b = and_both (same_answers (answers c.over fresh (requests_of c.lines)) (gets_of c.lines)) (all_given cs) h in
    and-of b.0 (given-append cs ds b.1 e)
