-- What names mean, by rows: one row for each way to write a name. (Elm guide: modules.) A name that imports give two
-- meanings has `Several`, which is refused only where it is used.
use Rattle.std.specs.Prelude.{List, [], ◌∷◌, Bool, ◌&&◌, if◌then◌else◌, filter, map}
use Rattle.std.specs.List.{list_all}
use Rattle.elm_canon.specs.Names.{Name, same_name}
use Rattle.canon_env.specs.declared.found.Meant.{Meant}
use Rattle.canon_env.specs.declared.found.Named.{Named}

-- one way to write a name: a qualifier, or none, and a name; the module that declares it, and what it means
pub record Row (M : Type 0) : Type 0 where
  pub qualifier : Name
  pub name : Name
  pub home : Name
  pub meaning : M

-- what a name means
pub data Found (M : Type 0) : Type 0 where
  Nothing : Found M
  One : Meant M → Found M
  Several : Found M

module _ {M : Type 0} where
  abbrev pub meant : Row M → Meant M
  meant r = record { home = r.home; meaning = r.meaning }

  abbrev pub is_written : Name → Name → Row M → Bool
  is_written q x r = same_name q r.qualifier && same_name x r.name

  -- one thing, however often it is imported
  abbrev pub found_in : List (Row M) → Found M
  found_in [] = Nothing
  found_in (r ∷ rs) = if list_all (λ s. same_name r.home s.home) rs then One (meant r) else Several

  -- what x means with the qualifier q, which is empty where there is none
  abbrev pub find : List (Row M) → Name → Name → Found M
  find rows q x = found_in (filter (is_written q x) rows)

  -- the module's own names hide those of its imports
  abbrev pub own_or : Found M → Found M → Found M
  own_or Nothing found = found
  own_or (One m) found = One m
  own_or Several found = Several

  abbrev pub look : List (Row M) → List (Row M) → Name → Name → Found M
  look own imported q x = own_or (find own q x) (find imported q x)

  -- the rows of names of a module, with a qualifier
  abbrev pub row_of : Name → Name → Named M → Row M
  row_of q home n = record { qualifier = q; name = n.name; home = home; meaning = n.meaning }

  abbrev pub rows_of : Name → Name → List (Named M) → List (Row M)
  rows_of q home ns = map (row_of q home) ns

-- the same, with each meaning seen by f
module _ {M N : Type 0} (f : M → N) where
  abbrev pub meant_by : Meant M → Meant N
  meant_by m = record { home = m.home; meaning = f m.meaning }

  abbrev pub found_by : Found M → Found N
  found_by Nothing = Nothing
  found_by (One m) = One (meant_by m)
  found_by Several = Several

  abbrev pub named_by : Named M → Named N
  named_by n = record { name = n.name; meaning = f n.meaning }
