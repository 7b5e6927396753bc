-- How pages are compared, and what one feeds a hasher, as the derived impls have it.
use Rattle.std.specs.Prelude.{Bool}
use Rattle.std.specs.Hash.{HashWrites}
use Rattle.starlark_callers.specs.declared.own_keys.Page.{Page}
use Rattle.starlark_callers.specs.contracts.own_keys.PagePartialEq.TheImpl as same
use Rattle.starlark_callers.specs.contracts.own_keys.PageHash.TheImpl as feed

-- whether two pages are one
abbrev pub page_eq : Page → Page → Bool
page_eq = (same.ghosts).eq

-- what a page feeds a hasher
abbrev pub page_feeds : Page → HashWrites
page_feeds = (feed.ghosts).hash_input
