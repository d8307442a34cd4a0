-- The calls by their codes, and what a request names.
use Rattle.std.specs.Prelude.{ℕ, ◌/◌, ◌%◌, Bool, ◌&&◌, ◌||◌, leb, eqb}
use Rattle.basics.specs.Choice.{◌when◌else◌}
use Rattle.interface.specs.Numbers.{page_bytes, anonymous_backing}
use Rattle.interface.specs.declared.page.Backing.{Backing}
use Rattle.interface.specs.declared.page.Backing.TheVariants.{Anonymous, Image}
use Rattle.interface.specs.declared.request.Request.{Request}

-- the request with these numbers
abbrev pub request_of : ℕ → ℕ → ℕ → ℕ → ℕ → ℕ → ℕ → Request
request_of code sandbox p1 p2 p3 p4 p5 = record { code = code; sandbox = sandbox; p1 = p1; p2 = p2; p3 = p3; p4 = p4; p5 = p5 }

-- "The calls", numbered as there
abbrev pub open_code : ℕ
open_code = 1

abbrev pub map_code : ℕ
map_code = 2

abbrev pub unmap_code : ℕ
unmap_code = 3

abbrev pub protect_code : ℕ
protect_code = 4

abbrev pub read_code : ℕ
read_code = 5

abbrev pub write_code : ℕ
write_code = 6

abbrev pub snapshot_code : ℕ
snapshot_code = 7

abbrev pub rewind_code : ℕ
rewind_code = 8

abbrev pub report_code : ℕ
report_code = 9

-- request A1, "Still clean?": "Call 10"
abbrev pub compare_code : ℕ
compare_code = 10

-- the greatest of them: "A call number added here or later is no longer refusal 2."
abbrev pub last_call : ℕ
last_call = compare_code

-- the request is this call
infix 50 ◌is◌
abbrev pub ◌is◌ : Request → ℕ → Bool
q is c = eqb q.code c

-- "call code not 1 to 9", now 1 to 10
abbrev pub is_call : Request → Bool
is_call q = leb open_code q.code && leb q.code last_call

-- the page and the place in it of an address: "a page has 256 bytes"
abbrev pub page_of : Request → ℕ
page_of q = q.p1 / page_bytes

abbrev pub offset_of : Request → ℕ
offset_of q = q.p1 % page_bytes

-- "p3 backing, 0 anonymous, 1 image; p4 first image page"
abbrev pub backing_of : Request → Backing
backing_of q = Anonymous when eqb q.p3 anonymous_backing else Image (record { 0 = q.p4 })

-- the calls that are refused without a snapshot: "rewind without a snapshot", and of call 10: "Without a snapshot it is refusal 8."
abbrev pub needs_snapshot : Request → Bool
needs_snapshot q = q is rewind_code || q is compare_code
