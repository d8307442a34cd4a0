-- Each group is passed entry by entry, or all at once where none of its entries names a frame; and then the entries that are left.
use Rattle.std.proofs.Common.{ℕ, List, ◌≡◌, ◌∙◌, ◌+◌, ◌-◌, ◌*◌, ◌/◌, sym, ap, arith, take, drop, fold, length, nat_eq, refl}
use mathlib.Core.Bool.{◌&&◌}
use Rattle.frames.specs.Frames.{none_held}
use Rattle.marks.specs.Marks.{from, marks_to}
use Rattle.marks.proofs.EntryLaws.{length-entries, length-part}
use Rattle.entry_pass.specs.declared.Pass.{Pass}
use Rattle.entry_pass.specs.Pass.{pass_entry, pass_to}
use Rattle.entry_pass.proofs.PassLaws.{found as found_by, pass-marks, pass-part, pass-small, fold-none, none-each}
use Rattle.entry_pass.proofs.marks_of.Goals.{then-not-names_none, else-not-names_none}
use Rattle.entry_pass.proofs.marks_of.Goals as goal

pub loop-k-init : goal.loop-k-init
unfolding pass_to
loop-k-init c = rw c.none.ensures

pub add_each-found-requires-clause-named_bound : goal.add_each-found-requires-clause-named_bound
add_each-found-requires-clause-named_bound c =
    let a = c.args in
    let l = c.loop-k in
    let at = a.first + l.k * 8 in
    omega (
      arith,
      length-entries a.table.now at 8 (omega arith),
      ap (λ (s : Pass). s.named) l.invariant,
      pass-small a.frames (from a.first a.table.now) (l.k * 8),
    )

pub loop-k-preserved : goal.loop-k-preserved
loop-k-preserved c =
    let a = c.args in
    let l = c.loop-k in
    let t = a.table.now in
    let at = a.first + l.k * 8 in
    let group : List ℕ = take ((at + 8) - at) (drop at t) in
    let passed : fold (pass_entry a.frames) (pass_to a.frames (from a.first t) (l.k * 8)) group ≡ pass_to a.frames (from a.first t) ((l.k + 1) * 8) =
    pass-part a.frames t a.first (l.k * 8) at ((at + 8) - at) refl (omega arith)
    ∙ ap (pass_to a.frames (from a.first t)) (omega arith) in
    elim c.if-not-names_none.branch [
      | then-not-names_none w ↦ w.found-is ∙ w.add_each-found.ensures ∙ ap (λ (s : Pass). fold (pass_entry a.frames) s group) l.invariant ∙ passed
      | else-not-names_none w ↦ w.found-is ∙ l.invariant
          ∙ sym (fold-none a.frames (pass_to a.frames (from a.first t) (l.k * 8)) group
          (none-each group (sym c.names_none.ensures ∙ w.if-not-names_none.false)))
          ∙ passed
    ]

pub add_each-found-requires-2-clause-named_bound :
    goal.add_each-found-requires-2-clause-named_bound
add_each-found-requires-2-clause-named_bound c =
    let a = c.args in
    let l = c.loop-k in
    omega (
      arith,
      length-part a.table.now (a.first + a.entries / 8 * 8) (a.first + a.entries) (omega arith) (omega arith),
      ap (λ (s : Pass). s.named) l.invariant,
      pass-small a.frames (from a.first a.table.now) (l.k * 8),
    )

pub returns : goal.returns
returns c =
    let a = c.args in
    let l = c.loop-k in
    let t = a.table.now in
    let p : ℕ → ℕ = from a.first t in
    let at = a.first + a.entries / 8 * 8 in
    let all = c.add_each-found-2.result in
    let groups : l.k ≡ a.entries / 8 = omega arith in
    let passed : all ≡ pass_to a.frames p a.entries =
    c.add_each-found-2.ensures
    ∙ ap (λ (s : Pass). fold (pass_entry a.frames) s (take ((a.first + a.entries) - at) (drop at t)))
    (l.invariant ∙ ap (λ (k : ℕ). pass_to a.frames p (k * 8)) groups)
    ∙ pass-part a.frames t a.first (a.entries / 8 * 8) at ((a.first + a.entries) - at) refl (omega arith)
    ∙ ap (pass_to a.frames p) (omega arith) in
    ap (λ (n : ℕ). record { good = all.inside && nat_eq n all.named; held = all.held }) c.count.ensures
    ∙ ap found_by passed ∙ pass-marks a.frames c.requires.frames_bound p a.entries
