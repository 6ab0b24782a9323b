-- What the maps of the program say that names mean.
use Rattle.std.specs.Prelude.{◌≡◌, List, [], ◌∷◌, Option, Some, None, if◌then◌else◌}
use Rattle.std.specs.Borrow.{Bor}
use Rattle.indexmap.specs.IndexMap.{get}
use Rattle.elm_canon.specs.Names.{Name, same_name}
use Rattle.canon_env.specs.Found.{Found, Nothing, One, Several, Row, find, found_by}
use Rattle.canon_env.specs.declared.found.Meant.{Meant}
use Rattle.canon_env.specs.declared.found.Named.{Named}
use Rattle.canon_env.specs.declared.found.Entry.{Entry}
use Rattle.canon_env.specs.declared.found.Entry.TheVariants as entry
use Rattle.canon_env.specs.declared.space.Names.{Names}
use Rattle.canon_env.specs.declared.space.Space.{Space}

module _ {M : Type 0} where
  abbrev pub entry_view : Entry M → Found M
  entry_view (entry.One m) = One m
  entry_view entry.Several = Several

  abbrev pub option_view : Option (Entry M) → Found M
  option_view None = Nothing
  option_view (Some e) = entry_view e

  -- what a look-up returns
  abbrev pub found_view : Option (Bor (Entry M)) → Found M
  found_view None = Nothing
  found_view (Some e) = entry_view e.now

  -- what the names with one qualifier say of x
  abbrev pub named_at : Names M → Name → Found M
  named_at names x = option_view (get same_name names.by_name x)

  abbrev pub named_in : Option (Names M) → Name → Found M
  named_in None x = Nothing
  named_in (Some names) x = named_at names x

  -- what a space of names says of x with the qualifier q
  abbrev pub found_at : Space M → Name → Name → Found M
  found_at space q x = named_in (get same_name space.by_qualifier q) x

  -- with one more meaning: the same thing twice is one thing
  abbrev pub added : Found M → Meant M → Found M
  added Nothing m = One m
  added (One a) m = if same_name a.home m.home then One a else Several
  added Several m = Several

  -- with what each of these names of a module means, where it is x
  abbrev pub added_all : Found M → Name → Name → List (Named M) → Found M
  added_all found x home [] = found
  added_all found x home (n ∷ ns) =
      added_all (if same_name x n.name then added found (record { home = home; meaning = n.meaning }) else found) x home ns

-- a space says what the rows say, with each meaning seen by f
unfoldable pub Tells : {M N : Type 0} → (M → N) → Space M → List (Row N) → Type 0
Tells f space rows = (q x : Name) → found_by f (found_at space q x) ≡ find rows q x
