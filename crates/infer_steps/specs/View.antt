-- What the code's scope and its state are.
use Rattle.std.specs.Prelude.{ℕ, Option, Some, None, option_map}
use Rattle.indexmap.specs.IndexMap.{get}
use Rattle.elm_canon.specs.Names.{same_name}
use Rattle.elm_canon.specs.declared.reference.Ref.{Ref}
use Rattle.elm_canon.specs.declared.reference.Ref.TheVariants.{Local, Top}
use Rattle.elm_type.specs.Types.{Name, Scheme}
use Rattle.elm_type.specs.View.{scheme_view}
use Rattle.type_items.specs.Scopes as plain
use Rattle.type_schemes.specs.View.{frozen_view}
use Rattle.type_constructs.specs.Failing as failing
use Rattle.infer_steps.specs.Codes as codes
use Rattle.infer_steps.specs.Keys.{same_pair}
use Rattle.infer_steps.specs.declared.bad.Bad.{Bad}
use Rattle.infer_steps.specs.declared.bad.Bad.TheVariants as bad
use Rattle.infer_steps.specs.declared.known.ModuleTypes.{ModuleTypes}
use Rattle.infer_steps.specs.declared.known.Known.{Known}
use Rattle.infer_steps.specs.declared.scope.Declared.{Declared}
use Rattle.infer_steps.specs.declared.scope.Meaning.{Meaning}
use Rattle.infer_steps.specs.declared.scope.Meaning.TheVariants as meaning
use Rattle.infer_steps.specs.declared.scope.Scope.{Scope}
use Rattle.infer_steps.specs.declared.state.State.{State}

abbrev pub bad_view : Bad → failing.Bad
bad_view (bad.Same pos v w) = failing.Same pos v w
bad_view (bad.InClass pos v c) = failing.InClass pos v c
bad_view (bad.Lacks pos v x) = failing.Lacks pos v x
bad_view (bad.Keeps pos x) = failing.Keeps pos x
bad_view (bad.Large pos v) = failing.Large pos v

unfoldable pub schemes_view : ModuleTypes → Name → Option Scheme
schemes_view types x = option_map scheme_view (get same_name types.schemes x)

abbrev pub found_in : Option ModuleTypes → Name → Option Scheme
found_in None x = None
found_in (Some types) x = schemes_view types x

unfoldable pub known_view : Known → plain.Known
known_view known m x = found_in (get same_name known.modules m) x

abbrev pub declared_view : Declared → codes.Declared
declared_view t = record { scheme = scheme_view t.scheme; outer = t.outer.items }

abbrev pub meaning_view : Meaning → codes.Meaning
meaning_view (meaning.One v) = codes.One v
meaning_view (meaning.Many frozen) = codes.Many (frozen_view frozen)
meaning_view (meaning.Each t) = codes.Each (declared_view t)

-- what each name stands for
unfoldable pub names_of : Scope → Ref → Option codes.Meaning
names_of scope (Local x) = option_map meaning_view (get same_name scope.locals x)
names_of scope (Top m x) = option_map meaning_view (get same_pair scope.tops (m, x))

unfoldable pub constants_of : Scope → Name → Option ℕ
constants_of scope a = get same_name scope.constants a

abbrev pub code_of : Scope → codes.Code
code_of scope = record { known = known_view scope.known; names = names_of scope; constants = constants_of scope }

abbrev pub here : State → codes.State
here state = record { store = state.store; depth = state.depth; place = state.place.items }
