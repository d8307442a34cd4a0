-- A page without a front is left; the byte goes into the front of another.
use Prim.Native.Nat.{ℕ}
use mathlib.Core.Path.{◌≡◌, refl, sym, ap, ◌∙◌}
use mathlib.Core.Bool.{false≢true}
use lib.ListN.{get_or}
use Rattle.interface.specs.declared.request.Request.{Request}
use Rattle.interface.specs.Requests.{page_of, offset_of}
use Rattle.table.specs.Store.{Store, kept, front_of, store_byte}
use Rattle.rules.proofs.FitLaws.{page-small}
use borrow.Author.Rules.{rules}
use Rattle.byte_at.proofs.store.Statement.{statement}
use Rattle.byte_at.proofs.store.Tie as tie

-- the page and the place in it are those of the address
put-at : (q : Request) (before after : Store) (page offset : ℕ) → page ≡ page_of q → offset ≡ offset_of q
    → after ≡ store_byte 256 (front_of q.sandbox page) offset q.p2 before
    → after ≡ store_byte 256 (front_of q.sandbox (page_of q)) (offset_of q) q.p2 before
put-at q before after page offset p o e = e ∙ rw (p, o)

-- where the page's front was found, and what was handed in
abbrev fronted : tie.After-struct_known-2-1 → tie.After-front
fronted c = c.before.before.before.before

abbrev behind : tie.After-front → tie.Start
behind c = c.before.before.before.before.before

-- ---- the needs

cast-s : tie.Need-overflow_cast-s
cast-s c = search rules

page-of-requires : tie.Need-page_of-page-requires
page-of-requires c κs = search rules

front-requires : tie.Need-front-requires
front-requires c κs = search rules

returns : tie.Need-returns-then-front-eq0
returns c = record { front = λ t. absurd (false≢true t); byte = λ t. absurd (false≢true t); none = λ t. refl }

offset-of-requires : tie.Need-offset_of-requires
offset-of-requires c κs = search rules

cast-store-byte : tie.Need-overflow_cast-q
cast-store-byte c = search rules

store-byte-requires : tie.Need-store_byte-requires
store-byte-requires c κs =
    let s = behind (fronted c) in
    (s.requires.0, (rw (fronted c).page_of-page.ensures (page-small s.args.q.p1 s.requires.1.0), s.requires.1.1.1))

same_length : tie.Need-shape_of-pool
same_length c = search rules

returns-2 : tie.Need-returns
returns-2 c =
    let stored = c.before.before in
    let found = fronted stored.before in
    let s = behind found in
    record {
      front = λ t z.
          stored.if-front-eq0.false
          (found.front.ensures ∙ ap (λ (i : ℕ). get_or s.args.table.now (front_of s.args.q.sandbox i) 0) found.page_of-page.ensures ∙ z);
      byte = λ t h.
          put-at s.args.q (kept h s.args.pool.now s.args.table.now) _ _ _
          found.page_of-page.ensures stored.offset_of.ensures (stored.store_byte.ensures h);
      none = λ t. absurd (false≢true (sym t));
    }

pub store_spec : {M : Type 1} → statement M
store_spec =
    tie.close
    (tie.spec
    cast-s
    page-of-requires
    front-requires
    returns
    offset-of-requires
    cast-store-byte
    store-byte-requires
    same_length
    returns-2)
