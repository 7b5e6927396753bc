use Rattle.starlark_hash.proofs.Common.{◌≡◌, true, ap, is_lt, Equal, Less, rules}
use Rattle.starlark_hash.specs.HashValue.{hash_of}
use Rattle.starlark_hash.specs.Entries.{entry_key, is_under}
use Rattle.starlark_map.specs.SortedUnion.{shown_element}
use Rattle.starlark_map.proofs.UnionLookup.{holds-tie, lacks-next, lacks-next-above}
use Rattle.starlark_map.proofs.union.is_given.Goals as goal

pub returns-in-None : goal.returns-in-None
returns-in-None g c = lacks-next g.met.T.Ord.total g.met.T.Ord.matches_eq c.args.there.now.entries (shown_element c.args.element) (rw c.in-None.is at c.requires)

pub returns-in-Less : goal.returns-in-Less
returns-in-Less g c =
    let less : g.T.Ord.cmp (entry_key (shown_element c.in-Some.last)) (entry_key (shown_element c.args.element)) ≡ Less = first_of (cc, search rules) in
    lacks-next-above g.met.T.Ord.total g.met.T.Ord.matches_eq c.in-Some.last c.args.there.now.entries (shown_element c.args.element) (rw c.in-Some.is at c.requires) (ap is_lt less)

pub returns-in-Equal : goal.returns-in-Equal
returns-in-Equal g c =
    let f = shown_element c.args.element in
    let tie : g.T.Ord.cmp (entry_key (shown_element c.in-Some.last)) (entry_key f) ≡ Equal = first_of (cc, search rules) in
    let under : is_under (hash_of f.0) (shown_element c.in-Some.last) ≡ true = first_of (cc, search rules) in
    holds-tie g.met.T.Ord.total g.met.T.Ord.matches_eq c.in-Some.last c.args.there.now.entries f (rw c.in-Some.is at c.requires) tie under
