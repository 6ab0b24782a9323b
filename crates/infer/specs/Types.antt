-- The types of the names that a module defines, as the program has them.
use Rattle.std.specs.Prelude.{Option, option_map}
use Rattle.indexmap.specs.IndexMap.{get}
use Rattle.elm_canon.specs.Names.{same_name}
use Rattle.elm_canon.specs.declared.reference.Ref.{Ref}
use Rattle.elm_canon.specs.declared.reference.Ref.TheVariants.{Local, Top}
use Rattle.elm_type.specs.Types.{Scheme}
use Rattle.elm_type.specs.View.{scheme_view}
use Rattle.infer_steps.specs.Keys.{same_pair}
use Rattle.infer.specs.declared.types.Types.{Types}

unfoldable pub schemes_of : Types → Ref → Option Scheme
schemes_of types (Local x) = option_map scheme_view (get same_name types.locals x)
schemes_of types (Top m x) = option_map scheme_view (get same_pair types.tops (m, x))
