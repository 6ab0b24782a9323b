-- What the program keeps of the types that a module declares.
use Rattle.std.specs.Prelude.{◌≡◌, ℕ, List, [], ◌∷◌, Bool, false, if◌then◌else◌, map, flat_map, filter_map}
use Rattle.std.specs.List.{slice_index_or, enumerate_from}
use Rattle.elm_base.specs.declared.fault.Code.TheVariants.{AliasRecursion}
use Rattle.canon_env.specs.declared.finding.Finding.{Finding}
use Rattle.canon_env.specs.Sites.{at_word}
use Rattle.indexmap.specs.IndexMap.{get}
use Rattle.indexmap.specs.IndexSet.{contains}
use Rattle.elm_lexer.specs.Tokens.{Token}
use Rattle.elm_tree.specs.View.{word_view, words_view, type_view}
use Rattle.elm_tree.specs.View as tree
use Rattle.elm_tree.specs.Tree.{Word, TypeTree}
use Rattle.elm_canon.specs.Names.{Name, same_name}
use Rattle.canon_env.specs.Exposing.{is_among}
use Rattle.canon_type.specs.Written.{AliasTree, variables_in, names_in}
use Rattle.canon_type.specs.Recursion.{place_among, alias_place}
use Rattle.canon_type.specs.declared.aliases.WrittenAlias.{WrittenAlias}
use Rattle.canon_type.specs.declared.uses.OwnNames.{OwnNames}

abbrev pub alias_view : List Token → WrittenAlias → AliasTree
alias_view tokens a = record {
  name = word_view tokens a.name;
  parameters = words_view tokens a.parameters.now;
  body = type_view tokens a.body.now;
}

abbrev pub aliases_view : List Token → List WrittenAlias → List AliasTree
aliases_view tokens aliases = map (alias_view tokens) aliases

-- the names of a module's unions, and the places of its aliases by name
pub record Keeps (names : OwnNames) (unions aliases : List Name) : Type 0 where
  pub of_unions : (x : Name) → contains same_name names.unions x ≡ is_among x unions
  pub of_aliases : (x : Name) → get same_name names.places x ≡ place_among x aliases

-- the names of a module, whatever its unions are
pub record AreNames (names : OwnNames) (aliases : List Name) : Type 0 where
  pub unions : List Name
  pub keeps : Keeps names unions aliases

-- the variables in the type of a field
abbrev pub field_variables : tree.NamedType → List Word
field_variables f = variables_in f.1

-- the aliases that the names in a type mean, in turn
abbrev pub places_in : List Name → List Name → TypeTree → List ℕ
places_in unions aliases t = filter_map (alias_place unions aliases) (names_in t)

abbrev pub field_places : List Name → List Name → tree.NamedType → List ℕ
field_places unions aliases f = places_in unions aliases f.1

abbrev pub fault_if : Bool → Word → List Finding
fault_if is_marked x = if is_marked then at_word AliasRecursion x ∷ [] else []

abbrev pub marked_fault : List Bool → ℕ × AliasTree → List Finding
marked_fault marks a = fault_if (slice_index_or marks a.0 false) a.1.name

-- a fault at the name of each alias that is marked
abbrev pub marked_faults : List Bool → List AliasTree → List Finding
marked_faults marks aliases = flat_map (marked_fault marks) (enumerate_from 0 aliases)
