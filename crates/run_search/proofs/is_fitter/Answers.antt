-- The test by cases: long enough for the pages, or not.
use mathlib.Core.Path.{sym}
use borrow.Author.Tests.{le-leb, lt-leb}
use Rattle.run_search.proofs.is_fitter.Goals as goal

pub returns-then-pages-new : goal.returns-then-pages-new
returns-then-pages-new c = sym (rw (le-leb c.args.pages c.args.new c.if-pages-new.true))

pub returns : goal.returns
returns c = sym (rw (lt-leb c.args.pages c.args.new c.if-pages-new.false))
