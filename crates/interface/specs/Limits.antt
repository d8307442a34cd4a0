-- The limits of each call's parameters: "The calls", and row 6 of "Turned back".
use Rattle.std.specs.Prelude.{ℕ, ◌+◌, Bool, ◌&&◌, ◌||◌, leb, ltb, eqb}
use Rattle.basics.specs.Choice.{◌when◌else◌}
use Rattle.interface.specs.declared.request.Request.{Request}
use Rattle.interface.specs.Numbers.{page_count, address_count, any_page, anonymous_backing, image_backing, read_only, read_write, most_share, byte_values}
use Rattle.interface.specs.Requests.{◌is◌, open_code, map_code, unmap_code, protect_code, read_code, write_code}

abbrev pub between : ℕ → ℕ → ℕ → Bool
between low high n = leb low n && leb n high

-- "rights, 1 for read or 3 for read and write"
abbrev pub rights_ok : ℕ → Bool
rights_ok r = eqb r read_only || eqb r read_write

-- n pages, 1 to 64, named from page first on, none past page 63
abbrev pub pages_ok : ℕ → ℕ → Bool
pages_ok first n = ltb first page_count && (between 1 page_count n && leb (first + n) page_count)

-- "p1 first page, or 64 for the lowest gap that fits; p2 pages, 1 to 64"
abbrev pub place_ok : ℕ → ℕ → Bool
place_ok first n = eqb first any_page && between 1 page_count n || pages_ok first n

-- "p3 backing, 0 anonymous, 1 image; p4 first image page (0 when anonymous)", no image page past the image
abbrev pub backing_ok : ℕ → Request → Bool
backing_ok images q =
    eqb q.p4 0 when eqb q.p3 anonymous_backing else
    eqb q.p3 image_backing && leb (q.p4 + q.p2) images

-- "Parameters are p1 to p5; those unused must be 0": a call uses none, one, two or three of them
abbrev pub uses_three : Request → Bool
uses_three q = eqb q.p4 0 && eqb q.p5 0

abbrev pub uses_two : Request → Bool
uses_two q = eqb q.p3 0 && uses_three q

abbrev pub uses_one : Request → Bool
uses_one q = eqb q.p2 0 && uses_two q

abbrev pub uses_none : Request → Bool
uses_none q = eqb q.p1 0 && uses_one q

-- every parameter is within its limits
unfoldable pub within : ℕ → Request → Bool
within images q =
    between 1 most_share q.p1 && uses_one q when q is open_code else
    place_ok q.p1 q.p2 && (backing_ok images q && rights_ok q.p5) when q is map_code else
    pages_ok q.p1 q.p2 && uses_two q when q is unmap_code else
    pages_ok q.p1 q.p2 && (rights_ok q.p3 && uses_three q) when q is protect_code else
    ltb q.p1 address_count && uses_one q when q is read_code else
    ltb q.p1 address_count && (ltb q.p2 byte_values && uses_two q) when q is write_code else
    uses_none q
