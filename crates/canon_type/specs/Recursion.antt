-- Aliases that use aliases, and those that reach themselves so, which is a fault. (Elm guide: type aliases.) Aliases
-- are known by their places among the aliases of the module.
use Rattle.std.specs.Prelude.{ℕ, suc, List, [], ◌∷◌, if◌then◌else◌, Option, Some, None, option_map}
use Rattle.std.specs.Prelude.{map, flat_map, filter_map}
use Rattle.std.specs.List.{enumerate_from}
use Rattle.elm_base.specs.declared.fault.Code.TheVariants.{AliasRecursion}
use Rattle.elm_tree.specs.Tree.{Long}
use Rattle.elm_canon.specs.Names.{Name, same_name}
use Rattle.decl_groups.specs.InOrder.{uses_itself}
use Rattle.canon_env.specs.Exposing.{is_among}
use Rattle.canon_env.specs.declared.finding.Finding.{Finding}
use Rattle.canon_env.specs.Naming.{qualifier_of, own_name}
use Rattle.canon_env.specs.Sites.{at_word}
use Rattle.canon_type.specs.Written.{AliasTree, alias_names, names_in}

-- the first place of a name
abbrev pub place_among : Name → List Name → Option ℕ
place_among x [] = None
place_among x (y ∷ ys) = if same_name y x then Some 0 else option_map suc (place_among x ys)

-- of a union and an alias with one name the name means the union
abbrev pub place_of_name : List Name → List Name → Name → Option ℕ
place_of_name unions aliases x = if is_among x unions then None else place_among x aliases

-- the alias of the module that a written name means, which has no qualifier
abbrev pub alias_place : List Name → List Name → Long → Option ℕ
alias_place unions aliases x =
    if same_name (qualifier_of x) [] then place_of_name unions aliases (own_name x) else None

abbrev pub uses_of : List Name → List Name → AliasTree → List ℕ
uses_of unions aliases a = filter_map (alias_place unions aliases) (names_in a.body)

-- the aliases that each alias uses, beside unions of these names
abbrev pub alias_uses : List Name → List AliasTree → List (List ℕ)
alias_uses unions aliases = map (uses_of unions (alias_names aliases)) aliases

abbrev pub alias_fault : List (List ℕ) → ℕ × AliasTree → List Finding
alias_fault uses a = if uses_itself uses a.0 then at_word AliasRecursion a.1.name ∷ [] else []

-- an alias may not reach itself
abbrev pub recursion_faults : List Name → List AliasTree → List Finding
recursion_faults unions aliases = flat_map (alias_fault (alias_uses unions aliases)) (enumerate_from 0 aliases)
