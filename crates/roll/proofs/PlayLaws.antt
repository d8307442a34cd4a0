-- How a played roll grows by a line.
use mathlib.Core.Path.{◌≡◌, refl, sym, ap, subst, ◌∙◌}
use mathlib.Core.List.{List, [], ◌∷◌, ◌++◌, append_assoc, append-nil}
use Prim.Native.Nat.{ℕ, zero, suc, ◌+◌, ◌-◌, ◌*◌}
use native.Mathlib.Omega.{arith}
use native.Mathlib.Numerals.{add-one}
use native.Mathlib.Nat.{add-zero}
use lib.ListN.{length, take, drop, length-append}
use lib.Seq.{take-append_seam, drop-append_seam, drop-drop}
use Rattle.interface.specs.declared.request.Request.{Request}
use Rattle.interface.specs.Answers.{Answered}
use Rattle.lines.specs.declared.Line.{Line}
use Rattle.lines.specs.declared.Line.TheVariants.{Call, Malformed}
use Rattle.lines.specs.Lines.{line_at}
use Rattle.columns.specs.Prints.{printed_reply}
use Rattle.columns.proofs.PrintLaws.{length-reply}
use Rattle.state.specs.World.{World}
use Rattle.step.specs.Step.{Outcome}
use Rattle.claims.specs.Demands.{Run, none, more}
use Rattle.roll.specs.Play.{malformed, lines_in, requests, replies, printed, FitsLine, Fits, Turned, Replied, Played}

-- ---- runs

pub run-append : {image : List ℕ} {w v u : World} {qs rs : List Request} {as' bs : List Answered}
    → Run image w qs as' v → Run image v rs bs u → Run image w (qs ++ rs) (as' ++ bs) u
run-append none r = r
run-append (more s t) r = more s (run-append t r)

pub run_length : {image : List ℕ} {w v : World} {qs : List Request} {as' : List Answered} → Run image w qs as' v → length qs ≡ length as'
run_length none = refl
run_length (more s r) = ap suc (run_length r)

-- ---- lines

pub requests-append : (ls ms : List Line) → requests (ls ++ ms) ≡ requests ls ++ requests ms
unfolding requests
requests-append [] ms = refl
requests-append (Call q ∷ ls) ms = ap (λ l. q ∷ l) (requests-append ls ms)
requests-append (Malformed ∷ ls) ms = requests-append ls ms

pub replies-append : (ls ms : List Line) (as' bs : List Answered) → length (requests ls) ≡ length as'
    → replies (ls ++ ms) (as' ++ bs) ≡ replies ls as' ++ replies ms bs
unfolding requests replies
replies-append [] ms [] bs e = refl
replies-append [] ms (a ∷ as') bs e = absurd (omega (arith, e))
replies-append (Malformed ∷ ls) ms as' bs e = ap (λ l. malformed ∷ l) (replies-append ls ms as' bs e)
replies-append (Call q ∷ ls) ms [] bs e = absurd (omega (arith, e))
replies-append (Call q ∷ ls) ms (a ∷ as') bs e = ap (λ l. a ∷ l) (replies-append ls ms as' bs (omega (arith, e)))

replies-length : (ls : List Line) (as' : List Answered) → length (requests ls) ≡ length as' → length (replies ls as') ≡ length ls
unfolding requests replies
replies-length [] as' e = refl
replies-length (Malformed ∷ ls) as' e = ap suc (replies-length ls as' e)
replies-length (Call q ∷ ls) [] e = absurd (omega (arith, e))
replies-length (Call q ∷ ls) (a ∷ as') e = ap suc (replies-length ls as' (omega (arith, e)))

lines-length : (roll : List ℕ) (n : ℕ) → length (lines_in roll n) ≡ n
unfolding lines_in
lines-length roll zero = refl
lines-length roll (suc n) = length-append (lines_in roll n) (line_at roll n ∷ []) ∙ omega (arith, lines-length roll n)

-- ---- prints

pub printed-append : (first : ℕ) (as' bs : List Answered) → printed first (as' ++ bs) ≡ printed first as' ++ printed (first + length as') bs
unfolding printed
printed-append first [] bs = rw add-zero refl
printed-append first (a ∷ as') bs =
    let next : first + 1 + length as' ≡ first + suc (length as') = omega arith in
    ap (λ l. printed_reply first a.number a.value ++ l) (printed-append (first + 1) as' bs ∙ ap (λ k. printed (first + 1) as' ++ printed k bs) next)
    ∙ sym (append_assoc (printed_reply first a.number a.value) (printed (first + 1) as') (printed (first + suc (length as')) bs))

pub printed-length : (first : ℕ) (bs : List Answered) → length (printed first bs) ≡ length bs * 19
unfolding printed
printed-length first [] = refl
printed-length first (b ∷ bs) =
    length-append (printed_reply first b.number b.value) (printed (first + 1) bs)
    ∙ omega (arith, length-reply first b.number b.value, printed-length (first + 1) bs)

pub fits-append : (first : ℕ) (as' bs : List Answered) → Fits first as' → Fits (first + length as') bs → Fits first (as' ++ bs)
unfolding Fits
fits-append first [] bs f g = rw add-zero at g
fits-append first (a ∷ as') bs f g =
    let next : first + suc (length as') ≡ first + 1 + length as' = omega arith in
    (f.0, fits-append (first + 1) as' bs f.1 (rw (← next) g))

-- 19 bytes behind those that are printed
put-part : (front d ys : List ℕ) (at e : ℕ) → length front ≡ at → e ≡ at + 19 → length ys ≡ 19
    → take at (front ++ drop at d) ++ (ys ++ drop (e - at) (drop at (front ++ drop at d))) ≡ (front ++ ys) ++ drop e d
put-part front d ys at e f g h =
    let n : e - at ≡ 19 = omega arith in
    rw (← f, take-append_seam, drop-append_seam, f, n, drop-drop, ← g, append_assoc)

-- they are the bytes that `Replied` has
pub part-is : (xs ys : List ℕ) (at e : ℕ) → e ≡ at + 19 → take at xs ++ (ys ++ drop (e - at) (drop at xs)) ≡ take at xs ++ (ys ++ drop (at + 19) xs)
part-is xs ys at e g =
    let n : e - at ≡ 19 = omega arith in
    rw (n, drop-drop) refl

-- ---- played

pub played-none : (image roll out : List ℕ) (w : World) (first : ℕ) → Played image w roll 0 first out out w
unfolding lines_in requests replies printed Fits
played-none image roll out w first = record { answers = []; run = none; fits = tt; prints = refl }

-- one line more, of which the bytes stand behind those printed
module _ (image roll out₀ out ys : List ℕ) (w v : World) (k first at e : ℕ) (o : Outcome) (p : Played image w roll k first out₀ out v)
    (here : at ≡ k * 19) (there : e ≡ at + 19) (is : ys ≡ printed_reply (first + k) o.answer.number o.answer.value)
    (room : FitsLine (first + k) o.answer) where
  -- what is there of it
  abbrev now' : List ℕ
  now' = take at out ++ (ys ++ drop (e - at) (drop at out))

  with-line : (answers : List Answered) → length (requests (lines_in roll k)) ≡ length p.answers
      → Run image w (requests (lines_in roll k ++ (line_at roll k ∷ []))) answers o.world
      → replies (lines_in roll k ++ (line_at roll k ∷ [])) answers ≡ replies (lines_in roll k) p.answers ++ (o.answer ∷ [])
      → Played image w roll (k + 1) first out₀ now' o.world
  unfolding lines_in printed Fits
  with-line answers l r t =
      let front : List ℕ = printed first (replies (lines_in roll k) p.answers) in
      let lines : length (replies (lines_in roll k) p.answers) ≡ k = replies-length (lines_in roll k) p.answers l ∙ lines-length roll k in
      let n : length front ≡ at = printed-length first (replies (lines_in roll k) p.answers) ∙ ap (λ x. x * 19) lines ∙ sym here in
      let end : e ≡ suc k * 19 = omega arith in
      let was : out ≡ front ++ drop at out₀ = p.prints ∙ ap (λ x. front ++ drop x out₀) (sym here) in
      let big : length ys ≡ 19 = ap length is ∙ length-reply (first + k) o.answer.number o.answer.value in
      rw add-one
      (record {
        answers = answers;
        run = r;
        fits = rw t (fits-append first (replies (lines_in roll k) p.answers) (o.answer ∷ []) p.fits (rw lines (room, tt)));
        prints =
            rw was (put-part front out₀ ys at e n there big)
            ∙ ap (λ l. (front ++ l) ++ drop e out₀) (is ∙ sym (append-nil _) ∙ ap (λ x. printed (first + x) (o.answer ∷ [])) (sym lines))
            ∙ ap (λ l. l ++ drop e out₀) (sym (ap (printed first) t ∙ printed-append first (replies (lines_in roll k) p.answers) (o.answer ∷ [])))
            ∙ ap (λ x. printed first (replies (lines_in roll k ++ (line_at roll k ∷ [])) answers) ++ drop x out₀) end;
      })

  by-line : (line : Line) → line_at roll k ≡ line → Turned image v line o → Played image w roll (k + 1) first out₀ now' o.world
  unfolding requests replies
  by-line (Call q) e s =
      let l = run_length p.run in
      with-line (p.answers ++ (o.answer ∷ [])) l
      (rw (e, requests-append (lines_in roll k) (Call q ∷ [])) (run-append p.run (more s none)))
      (rw e (replies-append (lines_in roll k) (Call q ∷ []) p.answers (o.answer ∷ []) l))
  by-line Malformed e s =
      let l = run_length p.run in
      with-line p.answers l
      (rw (e, requests-append (lines_in roll k) (Malformed ∷ []), append-nil, s) p.run)
      (rw (e, s)
      (ap (replies (lines_in roll k ++ (Malformed ∷ []))) (sym (append-nil p.answers))
      ∙ replies-append (lines_in roll k) (Malformed ∷ []) p.answers [] l))

  pub played-more : Turned image v (line_at roll k) o → Played image w roll (k + 1) first out₀ now' o.world
  played-more t = by-line (line_at roll k) refl t

-- a line more is played where it is replied to
pub played-on : (image roll out₀ out out' : List ℕ) (w v u : World) (k first : ℕ) → Played image w roll k first out₀ out v
    → Replied image v (line_at roll k) (first + k) (k * 19) out out' u → Played image w roll (k + 1) first out₀ out' u
played-on image roll out₀ out out' w v u k first p r =
    let ys : List ℕ = printed_reply (first + k) r.answer.number r.answer.value in
    subst (λ l. Played image w roll (k + 1) first out₀ l u) (part-is out ys (k * 19) (k * 19 + 19) refl ∙ sym r.prints)
    (played-more image roll out₀ out ys w v k first (k * 19) (k * 19 + 19) (record { answer = r.answer; world = u }) p refl refl refl r.fits r.turned)

-- every line has a reply
pub a-reply-each : (image : List ℕ) (w : World) (roll : List ℕ) (n first : ℕ) (out₀ out : List ℕ) (v : World) (p : Played image w roll n first out₀ out v)
    → length (replies (lines_in roll n) p.answers) ≡ n
a-reply-each image w roll n first out₀ out v p = replies-length (lines_in roll n) p.answers (run_length p.run) ∙ lines-length roll n
