-- The definitions of one block: which names each binds, and which of them each uses, by the places where names are
-- bound. (Elm guide: core language, pattern matching; Elm syntax reference.)
use Rattle.std.specs.Prelude.{ℕ, suc, List, [], ◌∷◌, ◌++◌, Bool, true, false, if◌then◌else◌, Option, Some, None}
use Rattle.std.specs.Prelude.{option_map, option_and_then, map, filter_map, nat_eq, ◌&&◌}
use Rattle.std.specs.List.{list_any}
use Rattle.elm_tree.specs.Tree as tree
use Rattle.elm_tree.specs.Tree.{Pos, Word, Pattern, Patterns, NoPattern, MorePattern, Expr, Definitions, NoDefinition}
use Rattle.elm_tree.specs.Tree.{MoreDefinition, Definition, Annotate, Define, Destructure}
use Rattle.canon_env.specs.Naming.{World}
use Rattle.canon_env.specs.Sites.{Site, Defined}
use Rattle.canon_expr.specs.Logs.{used_place}
use Rattle.canon_env.specs.Patterns.{words_of}

-- the names that a definition binds in its block
abbrev pub bound_by : Definition → List Word
bound_by (Annotate x t) = []
bound_by (Define x ps e) = x ∷ []
bound_by (Destructure p e) = words_of p

abbrev pub bound_by_each : Definitions → List (List Word)
bound_by_each NoDefinition = []
bound_by_each (MoreDefinition d ds) = bound_by d ∷ bound_by_each ds

abbrev pub bound_in : Definitions → List Word
bound_in NoDefinition = []
bound_in (MoreDefinition d ds) = bound_by d ++ bound_in ds

abbrev pub is_lambda : Expr → Bool
is_lambda (tree.Lambda p ps e) = true
is_lambda _ = false

-- a definition with parameters is a function, and so is one whose body is a lambda
abbrev pub is_function : Patterns → Expr → Bool
is_function NoPattern e = is_lambda e
is_function (MorePattern p ps) e = true

abbrev pub pattern_place : Pattern → Pos
pattern_place (tree.Anything p) = p
pattern_place (tree.Named x) = x.place
pattern_place (tree.As p a x) = p
pattern_place (tree.Exactly p l) = p
pattern_place (tree.Construct x ps) = x.place
pattern_place (tree.ConsPattern p ps) = p
pattern_place (tree.ListPattern p ps) = p
pattern_place (tree.TuplePattern p ps) = p
pattern_place (tree.FieldsPattern p xs) = p

abbrev pub first_text : List Word → List ℕ
first_text [] = []
first_text (x ∷ xs) = x.text

-- an annotation is told like a function, which is never refused
abbrev pub defined_by : Definition → Defined
defined_by (Annotate x t) = record { is_function = true; place = x.place; name = x.text }
defined_by (Define x ps e) = record { is_function = is_function ps e; place = x.place; name = x.text }
defined_by (Destructure p e) =
    record { is_function = false; place = pattern_place p; name = first_text (words_of p) }

abbrev pub defined_in : Definitions → List Defined
defined_in NoDefinition = []
defined_in (MoreDefinition d ds) = defined_by d ∷ defined_in ds

-- ---- which definitions of a block a definition uses

abbrev pub same_place : Pos → Pos → Bool
same_place p q = nat_eq p.row q.row && nat_eq p.column q.column

-- the first definition that binds a name at the place
abbrev pub binder_of : List (List Word) → Pos → Option ℕ
binder_of [] place = None
binder_of (xs ∷ rest) place =
    if list_any (λ (x : Word). same_place x.place place) xs then Some 0 else option_map suc (binder_of rest place)

-- the definition whose name a site uses
abbrev pub used_definition : World → List (List Word) → Site → Option ℕ
used_definition w binders site = option_and_then (binder_of binders) (used_place w site)

-- of each definition, by its sites, those that it uses
abbrev pub uses_among : World → List (List Word) → List (List Site) → List (List ℕ)
uses_among w binders each = map (filter_map (used_definition w binders)) each
