-- The starred cases, "Turned back", "Still clean?", "Unmapping over gaps", "Keep the frames of a finished request" and "How many pages were put back?", by
-- computation.
use mathlib.Core.Path.{◌≡◌, refl}
use mathlib.Core.Bool.{true}
use mathlib.Core.List.{List, [], ◌∷◌}
use Rattle.basics.specs.Ranges.{count, sum, every, lowest, inside, over, alike}
use Rattle.basics.specs.Rows.{best, moved_up, push, walk_to, walked}
use Rattle.interface.specs.Slots.{follows, joins, areas, mapped_pages, uncommitted_pages, lowest_gap, charge_of}
use Rattle.comparison.specs.Compare.{agree, lowest_difference, changed_pages}
use Rattle.interface.specs.Limits.{within}
use Rattle.interface.specs.Outcome.{first_of, slots_after, copy_after}
use Rattle.interface.specs.Refusals.{all_mapped, applies, refusal}
use Rattle.interface.specs.Requests.{open_code}
use Rattle.run_choice.specs.Runs.{run_for, granted, longest_run, runs_rewound}
use Rattle.interface.specs.Examples.{Line, ◌gives◌, ok, call₁, map_at}
use Rattle.interface.specs.Edges.{closed_edges, bare_edges, full_edges, eight_edges}
use Rattle.plain.specs.Machine.{bytes_after, front_after, back_after, copied_back_after, runs_after, frames_held, differing, changed, core_value, answer}
use Rattle.plain.specs.Machine.{fresh}
use Rattle.plain.specs.Cases.{cases, cases_over, no_image, all_given}
use Rattle.plain.specs.TurnedBack.{turned_back, small, small_cases, two_pages, eight_areas, each_after, turned_back_cases}
use Rattle.plain.specs.StillClean.{still_clean_rolls, last_seven, still_clean_image, still_clean}
use Rattle.plain.specs.OverGaps.{over_gaps_rolls, over_gaps}
use Rattle.plain.specs.KeptRuns.{kept_runs_rolls, kept_runs_image, kept_runs}
use Rattle.plain.specs.PutBack.{put_back_rolls, put_back}
use Rattle.plain.proofs.TableRuns.{played, all_played, reached, each_played, played-given, each-given, given-append}

-- what stands before the lines of a table of limits: nothing, an open sandbox, all pages mapped
abbrev opened : List Line
opened = call₁ open_code 128 gives ok 0 ∷ []

abbrev filled : List Line
filled = call₁ open_code 128 gives ok 0 ∷ map_at 0 64 gives ok 0 ∷ []

-- All tables at once, so that what they unfold is said once; the short ones first, so that a wrong machine is refused soon.
all-computed :
    (all_played small small_cases ≡ true)
    × (played two_pages fresh [] ≡ true)
    × (each_played two_pages (reached two_pages fresh []) closed_edges ≡ true)
    × (played two_pages fresh opened ≡ true)
    × (each_played two_pages (reached two_pages fresh opened) bare_edges ≡ true)
    × (played two_pages fresh filled ≡ true)
    × (each_played two_pages (reached two_pages fresh filled) full_edges ≡ true)
    × (played two_pages fresh eight_areas ≡ true)
    × (each_played two_pages (reached two_pages fresh eight_areas) eight_edges ≡ true)
    × (all_played no_image cases ≡ true)
    × (all_played two_pages kept_runs_image ≡ true)
    × (all_played last_seven still_clean_image ≡ true)
    × (all_played no_image over_gaps_rolls ≡ true)
    × (all_played no_image turned_back ≡ true)
    × (all_played two_pages still_clean_rolls ≡ true)
    × (all_played no_image kept_runs_rolls ≡ true)
    × (all_played last_seven put_back_rolls ≡ true)
unfolding played all_played reached each_played count sum every lowest inside over alike follows joins areas mapped_pages uncommitted_pages lowest_gap charge_of agree
    lowest_difference changed_pages within first_of slots_after copy_after all_mapped applies refusal bytes_after front_after back_after copied_back_after
    best moved_up push walk_to walked run_for granted longest_run runs_rewound runs_after frames_held differing changed core_value answer
all-computed = (refl, refl, refl, refl, refl, refl, refl, refl, refl, refl, refl, refl, refl, refl, refl, refl, refl)

pub starred-cases : all_given (cases_over no_image cases) ≡ true
starred-cases = played-given no_image cases all-computed.9

pub turned-back : all_given turned_back_cases ≡ true
turned-back =
    let c = all-computed in
    given-append (cases_over no_image turned_back) _ (played-given no_image turned_back c.13)
    (given-append (cases_over small small_cases) _ (played-given small small_cases c.0)
    (given-append (each_after two_pages [] closed_edges) _ (each-given two_pages [] closed_edges c.1 c.2)
    (given-append (each_after two_pages opened bare_edges) _ (each-given two_pages opened bare_edges c.3 c.4)
    (given-append (each_after two_pages filled full_edges) _ (each-given two_pages filled full_edges c.5 c.6)
    (each-given two_pages eight_areas eight_edges c.7 c.8)))))

pub still-clean : all_given still_clean ≡ true
still-clean =
    given-append (cases_over two_pages still_clean_rolls) (cases_over last_seven still_clean_image) (played-given two_pages still_clean_rolls all-computed.14)
    (played-given last_seven still_clean_image all-computed.11)

pub over-gaps : all_given over_gaps ≡ true
over-gaps = played-given no_image over_gaps_rolls all-computed.12

pub kept-runs : all_given kept_runs ≡ true
kept-runs =
    given-append (cases_over no_image kept_runs_rolls) (cases_over two_pages kept_runs_image) (played-given no_image kept_runs_rolls all-computed.15)
    (played-given two_pages kept_runs_image all-computed.10)

pub put-back : all_given put_back ≡ true
put-back = played-given last_seven put_back_rolls all-computed.16
