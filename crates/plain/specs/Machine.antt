-- The plain machine: "The plain machine is fed each call's code, sandbox and parameters, with the image and the pool's number of frames".
use Rattle.std.specs.Prelude.{ℕ, ◌+◌, ◌-◌, ◌*◌, ◌/◌, Bool, true, false, ◌&&◌, ◌||◌, List, [], ◌∷◌, eqb, length, get_or}
use Rattle.std.proofs.Math.Option.{Option, some, none, map}
use Rattle.basics.specs.Choice.{◌when◌else◌}
use Rattle.basics.specs.Ranges.{count, sum, over, alike}
use Rattle.basics.specs.Rows.{in_place}
use Rattle.interface.specs.Numbers.{sandbox_count, page_count, page_bytes}
use Rattle.interface.specs.declared.page.Backing.{Backing}
use Rattle.interface.specs.declared.page.Backing.TheVariants.{Anonymous, Image}
use Rattle.interface.specs.declared.page.Slot.TheVariants.{Unmapped}
use Rattle.interface.specs.declared.request.Request.{Request}
use Rattle.interface.specs.Answers.{Answered}
use Rattle.interface.specs.Requests.{◌is◌, map_code, unmap_code, read_code, write_code, snapshot_code, rewind_code, report_code, compare_code, page_of, offset_of, backing_of}
use Rattle.interface.specs.Slots.{Slots, is_committed, advance, mapped_pages, copied}
use Rattle.comparison.specs.Compare.{lowest_difference, changed_pages}
use Rattle.interface.specs.Outcome.{first_of, slots_after, copy_after, share_after}
use Rattle.interface.specs.Refusals.{View, refusal}
use Rattle.run_choice.specs.Runs.{run_places, takes_run, run_for, granted, longest_run, gives_up, runs_rewound}

-- "with the image and the pool's number of frames"
pub record Given : Type 0 where
  pub image : List ℕ
  pub frames : ℕ

-- "for each of 64 pages whether it is mapped, its backing, rights, mark, 256 bytes"
pub record Pages : Type 0 where
  pub slots : Slots
  pub bytes : ℕ → ℕ → ℕ

-- What is kept for a sandbox and decides its answers, call 9's count apart: "whether it is open, its share", its pages,
-- "from its snapshot on, also a copy of these pages".
pub record Core : Type 0 where
  pub opened : Bool
  pub share : ℕ
  pub pages : Pages
  pub copy : Option Pages

-- What only call 9 reads: "two marks more, front and back" of each page, and the back marks of the copy. (The copy has no front marks:
-- a snapshot "turns front marks into back marks and copies all pages".) And "For call 9 the plain machine also carries run lengths and ages" (A3): the
-- lengths of the runs in 8 places, the oldest first; 0 in a place without a run.
pub record Traces : Type 0 where
  pub front : ℕ → Bool
  pub back : ℕ → Bool
  pub copied_back : ℕ → Bool
  pub runs : ℕ → ℕ

-- "For each sandbox it keeps"
pub record Kept : Type 0 where
  pub core : Core
  pub traces : Traces

-- what is kept for each sandbox
abbrev pub Plain : Type 0
Plain = ℕ → Kept

-- "Fresh, all are closed, nothing is mapped or marked, and there is no copy."
abbrev pub closed : Kept
closed = record {
  core = record { opened = false; share = 0; pages = record { slots = λ i. Unmapped; bytes = λ i j. 0 }; copy = none };
  traces = record { front = λ i. false; back = λ i. false; copied_back = λ i. false; runs = λ i. 0 };
}

abbrev pub fresh : Plain
fresh s = closed

abbrev pub copy_slots : Core → Option Slots
copy_slots c = map (λ (d : Pages). d.slots) c.copy

-- the copy's bytes; without a copy there are none
abbrev pub copy_bytes : Option Pages → ℕ → ℕ → ℕ
copy_bytes none i j = 0
copy_bytes (some d) i j = d.bytes i j

-- ---- what an accepted request leaves

-- "bytes, zero or the image's": byte j of a page with this backing that was never written
abbrev pub backing_byte : List ℕ → Backing → ℕ → ℕ
backing_byte image Anonymous j = 0
backing_byte image (Image p) j = get_or image (page_bytes * p.0 + j) 0

-- the bytes of page i of a map whose first page is this one
abbrev pub new_bytes : Given → Request → ℕ → ℕ → ℕ → ℕ
new_bytes g q first i j = backing_byte g.image (advance (backing_of q) (i - first)) j

-- "Write stores the byte"
abbrev pub stored : Request → (ℕ → ℕ → ℕ) → ℕ → ℕ → ℕ
stored q f i j = q.p2 when eqb i (page_of q) && eqb j (offset_of q) else f i j

-- "Map makes the pages mapped .. with .. bytes, zero or the image's"; "Write stores the byte"; "Rewind puts the whole copy in place"
unfoldable pub bytes_after : Given → Request → Core → ℕ → ℕ → ℕ
bytes_after g q c =
    (let first = first_of c.pages.slots q in over first q.p2 (new_bytes g q first) c.pages.bytes) when q is map_code else
    stored q c.pages.bytes when q is write_code else
    copy_bytes c.copy when q is rewind_code else
    c.pages.bytes

abbrev pub pages_after : Given → Request → Core → Pages
pages_after g q c = record { slots = slots_after q c.pages.slots (copy_slots c); bytes = bytes_after g q c }

-- "Open makes the sandbox open"; every other call names an open one
abbrev pub core_after : Given → Request → Core → Core
core_after g q c = record {
  opened = true;
  share = share_after q c.share;
  pages = pages_after g q c;
  copy = copy_after q (pages_after g q c) c.copy;
}

-- the frames held: "report counts front and back marks", and kept frames "count in call 9"
unfoldable pub frames_held : Traces → ℕ
frames_held t = count t.front page_count + count t.back page_count + sum t.runs run_places

-- "Unmap takes away .. front mark"; "Write .. sets its page's front mark"; "Snapshot .. turns front marks into back marks";
-- Rewind: "a front mark stays only where the page was still committed"
abbrev pub front_alone : Request → Slots → (ℕ → Bool) → ℕ → Bool
front_alone q f front =
    over q.p1 q.p2 (λ i. false) front when q is unmap_code else
    (λ i. eqb i (page_of q) || front i) when q is write_code else
    (λ i. false) when q is snapshot_code else
    (λ i. front i && is_committed (f i)) when q is rewind_code else
    front

-- and a map that takes a run (A3): "The first new pages get these frames as fronts"
unfoldable pub front_after : Request → Slots → Traces → ℕ → Bool
front_after q f t =
    over (first_of f q) (granted q.p2 t.runs) (λ i. true) t.front when takes_run q else
    front_alone q f t.front

-- "Snapshot .. turns front marks into back marks and copies all pages"; "Rewind puts the whole copy in place"
unfoldable pub back_after : Request → Traces → ℕ → Bool
back_after q t =
    t.front when q is snapshot_code else
    t.copied_back when q is rewind_code else
    t.back

unfoldable pub copied_back_after : Request → Traces → ℕ → Bool
copied_back_after q t = t.front when q is snapshot_code else t.copied_back

-- a run without some of its frames
abbrev pub less_by : ℕ → ℕ → (ℕ → ℕ) → ℕ → ℕ
less_by place frames runs = in_place place (runs place - frames) runs

-- A map that takes a run takes so many of its frames, "a surplus stays kept with its age"; a write above the share: "one frame of the longest run is given up"
unfoldable pub runs_after : Request → Slots → ℕ → Traces → ℕ → ℕ
runs_after q f share t =
    less_by (run_for q.p2 t.runs) (granted q.p2 t.runs) t.runs when takes_run q else
    less_by (longest_run t.runs) 1 t.runs when q is write_code && gives_up (t.front (page_of q)) share (frames_held t) else
    runs_rewound f t.front t.runs when q is rewind_code else
    t.runs

abbrev pub traces_after : Request → Core → Traces → Traces
traces_after q c t = record {
  front = front_after q c.pages.slots t;
  back = back_after q t;
  copied_back = copied_back_after q t;
  runs = runs_after q c.pages.slots c.share t;
}

abbrev pub kept_after : Given → Request → Kept → Kept
kept_after g q k = record { core = core_after g q k.core; traces = traces_after q k.core k.traces }

-- ---- the values

-- whether page i has the copy's bytes, all 256 compared
abbrev pub same_at : Core → ℕ → Bool
same_at c i = alike (c.pages.bytes i) (copy_bytes c.copy i) page_bytes

-- request A1: "the lowest page number at which the sandbox and its snapshot differ in being mapped, in rights or in bytes"
unfoldable pub differing : Core → ℕ
differing c = lowest_difference c.pages.slots (copied (copy_slots c)) (same_at c)

-- request A4: "the number of committed pages still mapped whose bytes differed from the snapshot"
unfoldable pub changed : Core → ℕ
changed c = changed_pages c.pages.slots (same_at c)

-- map: "Value: first page"; read: "Value: the byte"; snapshot: "Value: pages committed"; call 10: the page; else "Value 0 where none is named". Document 01
-- names none for rewind; from A4 on "Rewind answers the number of committed pages still mapped whose bytes differed from the snapshot".
unfoldable pub core_value : Given → Request → Core → ℕ
core_value g q c =
    first_of c.pages.slots q when q is map_code else
    c.pages.bytes (page_of q) (offset_of q) when q is read_code else
    mapped_pages c.pages.slots when q is snapshot_code else
    changed c when q is rewind_code else
    differing c when q is compare_code else
    0

-- the calls whose value may tell of earlier requests, and that value
abbrev pub may_tell : Request → Bool
may_tell q = q is report_code

abbrev pub trace_value : Request → Traces → ℕ
trace_value q t = frames_held t

abbrev pub value_at : Given → Request → Kept → ℕ
value_at g q k = trace_value q k.traces when may_tell q else core_value g q k.core

-- ---- one request

-- "the shares together"
abbrev pub shares : Plain → ℕ
shares p = sum (λ s. (p s).core.share) sandbox_count

-- "Areas and charge are counted from its pages and its copy." It has no lent memory and no state that could be unsound.
abbrev pub view_of : Given → ℕ → Core → View
view_of g total c = record {
  sound = true;
  frames = g.frames;
  images = length g.image / page_bytes;
  shares = total;
  opened = c.opened;
  share = c.share;
  slots = c.pages.slots;
  copy = copy_slots c;
}

-- "It refuses by the table below, rows 1 and 3 apart": the number of the refusal, or 0
abbrev pub number_at : Given → Plain → Request → ℕ
number_at g p q = refusal (view_of g (shares p) (p q.sandbox).core) q

abbrev pub with_kept : ℕ → Kept → Plain → Plain
with_kept s k p t = k when eqb s t else p t

unfoldable pub answer : Given → Plain → Request → Answered
answer g p q =
    let number = number_at g p q in
    record { number = number; value = value_at g q (p q.sandbox) when eqb number 0 else 0 }

-- "and then stays as it was"
unfoldable pub after : Given → Plain → Request → Plain
after g p q = with_kept q.sandbox (kept_after g q (p q.sandbox)) p when eqb (number_at g p q) 0 else p

-- ---- a list of requests: its answers, and the machine after it

unfoldable pub answers : Given → Plain → List Request → List Answered
answers g p [] = []
answers g p (q ∷ qs) = answer g p q ∷ answers g (after g p q) qs

unfoldable pub after_all : Given → Plain → List Request → Plain
after_all g p [] = p
after_all g p (q ∷ qs) = after_all g (after g p q) qs
