-- Request A3, "Keep the frames of a finished request", as a table of rolls with their answers, each written from its sentences. What is kept shows in call 9
-- alone: a write to a page that got a kept frame as its front holds no frame more. (Which of two equal runs is chosen does not show: interface/specs/Keeping.)
use Rattle.std.specs.Prelude.{ℕ, ◌*◌, List, [], ◌∷◌, ◌++◌}
use Rattle.interface.specs.Requests.{open_code, map_code, unmap_code, protect_code, read_code, write_code, snapshot_code, rewind_code, report_code, compare_code}
use Rattle.interface.specs.Examples.{Line, ◌gives◌, ok, refused, call₅, call₃, call₂, call₁, call, map_at, in_sandbox}
use Rattle.interface.specs.Edges.{readable}
use Rattle.plain.specs.Cases.{Case, cases_over, no_image}
use Rattle.plain.specs.TurnedBack.{two_pages}

-- an accepted write to this page
abbrev written : ℕ → Line
written page = call₂ write_code (256 * page) 7 gives ok 0

abbrev reports : ℕ → Line
reports frames = call report_code gives ok frames

-- a sandbox with this share and a snapshot of no pages: whatever is mapped afterwards is uncommitted
abbrev opened : ℕ → List Line → List Line
opened share rest = call₁ open_code share gives ok 0 ∷ call snapshot_code gives ok 0 ∷ rest

-- no committed page was changed
abbrev rewound : Line
rewound = call rewind_code gives ok 0

abbrev pub kept_runs_rolls : List (List Line)
kept_runs_rolls =
    -- "At rewind, the frames of each uncommitted anonymous area, if any, are cleared and kept as one run, whose length is its number of frames": two of three
    -- pages; "they count in call 9"; a second rewind leaves them; the first new page reads zero and has a front, the next gets the surplus, the third none
    opened 8 (map_at 64 3 gives ok 0 ∷ written 0 ∷ written 2 ∷ reports 2 ∷ rewound ∷ reports 2 ∷ call₁ read_code 0 gives refused 9 ∷ call compare_code gives ok 64 ∷
    rewound ∷ reports 2 ∷ map_at 64 1 gives ok 0 ∷ reports 2 ∷ call₁ read_code 0 gives ok 0 ∷ written 0 ∷ reports 2 ∷ map_at 64 1 gives ok 1 ∷ written 1 ∷ reports 2 ∷
    map_at 64 1 gives ok 2 ∷ written 2 ∷ reports 3 ∷ []) ∷
    -- two areas side by side are two runs: none of 4 is there for 4 pages
    opened 8 (map_at 0 4 gives ok 0 ∷ written 0 ∷ written 1 ∷ written 2 ∷ written 3 ∷ call₃ protect_code 2 2 1 gives ok 0 ∷ rewound ∷ reports 4 ∷
    map_at 64 4 gives ok 0 ∷ written 0 ∷ written 1 ∷ reports 4 ∷ written 2 ∷ reports 5 ∷ []) ∷
    -- committed pages: their fronts stay theirs, and nothing is kept; a page mapped anew over one is uncommitted, and its frame is
    (call₁ open_code 8 gives ok 0 ∷ map_at 0 2 gives ok 0 ∷ written 0 ∷ call snapshot_code gives ok 2 ∷ written 0 ∷ written 1 ∷ reports 3 ∷ call rewind_code gives ok 1 ∷
    reports 3 ∷
    map_at 64 1 gives ok 2 ∷ written 2 ∷ reports 4 ∷ call₂ unmap_code 0 3 gives ok 0 ∷ reports 1 ∷ map_at 0 1 gives ok 0 ∷ call₂ write_code 0 9 gives ok 0 ∷ reports 2 ∷
    rewound ∷ reports 2 ∷ call₁ read_code 0 gives ok 7 ∷ map_at 64 1 gives ok 2 ∷ written 2 ∷ reports 2 ∷ []) ∷
    -- "An anonymous map at 64 takes the shortest run at least as long as its pages": of 3, 1 and 2 for 2 pages the 2, for 3 the 3, for 1 the 1, and then none
    opened 16 (map_at 0 3 gives ok 0 ∷ map_at 4 1 gives ok 4 ∷ map_at 6 2 gives ok 6 ∷ written 0 ∷ written 1 ∷ written 2 ∷ written 4 ∷ written 6 ∷ written 7 ∷
    rewound ∷ reports 6 ∷ map_at 64 2 gives ok 0 ∷ written 0 ∷ written 1 ∷ reports 6 ∷ map_at 64 3 gives ok 2 ∷ written 2 ∷ written 3 ∷ written 4 ∷ reports 6 ∷
    map_at 64 1 gives ok 5 ∷ written 5 ∷ reports 6 ∷ map_at 64 1 gives ok 6 ∷ written 6 ∷ reports 7 ∷ []) ∷
    -- "if none is that long, the longest": of 1 and 2 for 3 pages the 2, whose frames are the first two pages' fronts; the 1 stays
    opened 8 (map_at 0 1 gives ok 0 ∷ map_at 2 2 gives ok 2 ∷ written 0 ∷ written 2 ∷ written 3 ∷ rewound ∷ reports 3 ∷ map_at 64 3 gives ok 0 ∷
    written 0 ∷ written 1 ∷ reports 3 ∷ written 2 ∷ reports 4 ∷ map_at 64 1 gives ok 3 ∷ written 3 ∷ reports 4 ∷ []) ∷
    -- a map at a named page takes none, nor does a refused one; rights do not matter
    opened 8 (map_at 0 2 gives ok 0 ∷ written 0 ∷ written 1 ∷ rewound ∷ map_at 0 1 gives ok 0 ∷ written 0 ∷ reports 3 ∷ map_at 64 8 gives refused 13 ∷
    readable 64 2 gives ok 1 ∷ call₃ protect_code 1 2 3 gives ok 0 ∷ written 1 ∷ written 2 ∷ reports 3 ∷ []) ∷
    -- "a surplus stays kept with its age"
    opened 8 (map_at 0 3 gives ok 0 ∷ written 0 ∷ written 1 ∷ written 2 ∷ rewound ∷ map_at 64 1 gives ok 0 ∷ written 0 ∷ reports 3 ∷ map_at 64 2 gives ok 1 ∷
    written 1 ∷ written 2 ∷ reports 3 ∷ []) ∷
    -- "At most 8 runs are kept, the longest": of eight of 1 and one of 2 a 1 goes; a further 1 is freed; the 2 is there
    opened 16 (map_at 0 1 gives ok 0 ∷ map_at 2 1 gives ok 2 ∷ map_at 4 1 gives ok 4 ∷ map_at 6 1 gives ok 6 ∷ map_at 8 1 gives ok 8 ∷ map_at 10 1 gives ok 10 ∷
    map_at 12 1 gives ok 12 ∷ map_at 14 1 gives ok 14 ∷ written 0 ∷ written 2 ∷ written 4 ∷ written 6 ∷ written 8 ∷ written 10 ∷ written 12 ∷ written 14 ∷
    rewound ∷ reports 8 ∷ map_at 0 2 gives ok 0 ∷ written 0 ∷ written 1 ∷ reports 10 ∷ rewound ∷ reports 9 ∷ map_at 0 1 gives ok 0 ∷ written 0 ∷ reports 10 ∷
    rewound ∷ reports 9 ∷ map_at 64 2 gives ok 0 ∷ written 0 ∷ written 1 ∷ reports 9 ∷ []) ∷
    -- "When a write would bring fronts, backs and kept frames above the share, one frame of the longest run is given up first": not by a write to a page with a
    -- front; of 3 and 1 the 3, so that for 3 pages there is a run of 2
    opened 6 (map_at 0 3 gives ok 0 ∷ map_at 4 1 gives ok 4 ∷ written 0 ∷ written 1 ∷ written 2 ∷ written 4 ∷ rewound ∷ reports 4 ∷ map_at 0 3 gives ok 0 ∷
    written 0 ∷ written 1 ∷ reports 6 ∷ written 1 ∷ reports 6 ∷ written 2 ∷ reports 6 ∷ call₂ unmap_code 0 3 gives ok 0 ∷ reports 3 ∷ map_at 64 3 gives ok 0 ∷
    written 0 ∷ written 1 ∷ reports 3 ∷ written 2 ∷ reports 4 ∷ []) ∷
    -- "they count .. not in the charge": with the share full of kept frames its pages can be mapped and written, one more not
    opened 4 (map_at 0 4 gives ok 0 ∷ written 0 ∷ written 1 ∷ written 2 ∷ written 3 ∷ rewound ∷ reports 4 ∷ map_at 1 4 gives ok 1 ∷ map_at 64 1 gives refused 13 ∷
    written 1 ∷ written 2 ∷ written 3 ∷ written 4 ∷ reports 4 ∷ call₂ unmap_code 0 64 gives ok 0 ∷ reports 0 ∷ []) ∷
    -- frames that an unmap frees are not kept
    opened 8 (map_at 0 2 gives ok 0 ∷ written 0 ∷ written 1 ∷ call₂ unmap_code 0 1 gives ok 0 ∷ reports 1 ∷ rewound ∷ reports 1 ∷ []) ∷
    -- another sandbox's runs are its own
    opened 8 (in_sandbox 1 (call₁ open_code 8) gives ok 0 ∷ map_at 0 2 gives ok 0 ∷ written 0 ∷ written 1 ∷ rewound ∷ in_sandbox 1 (map_at 64 2) gives ok 0 ∷
    in_sandbox 1 (call₂ write_code 0 7) gives ok 0 ∷ in_sandbox 1 (call report_code) gives ok 1 ∷ reports 2 ∷ []) ∷
    []

-- over an image of two zero pages: the frames of an image area are not kept, and a map of image pages takes none
abbrev pub kept_runs_image : List (List Line)
kept_runs_image =
    opened 8 (call₅ map_code 0 2 1 0 3 gives ok 0 ∷ map_at 2 1 gives ok 2 ∷ written 0 ∷ written 1 ∷ written 2 ∷ reports 3 ∷ rewound ∷ reports 1 ∷
    call₅ map_code 64 1 1 0 3 gives ok 0 ∷ written 0 ∷ reports 2 ∷ map_at 64 1 gives ok 1 ∷ written 1 ∷ reports 2 ∷ []) ∷
    []

-- the whole table
abbrev pub kept_runs : List Case
kept_runs = cases_over no_image kept_runs_rolls ++ cases_over two_pages kept_runs_image
