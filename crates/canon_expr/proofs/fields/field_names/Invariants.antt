use Rattle.std.proofs.Common.{◌≡◌, map, take}
use Rattle.elm_tree.specs.View.{fields_view}
use Rattle.elm_tree.specs.Turns.{tokens_view}
use Rattle.canon_env.specs.Imports.{name_of}
use Rattle.canon_expr.proofs.fields.field_names.Given as goal

abbrev pub invariant-loop-field : goal.invariant-loop-field
invariant-loop-field l =
    l.names.items ≡ map name_of (fields_view (tokens_view l.tokens) (take l.field-index l.fields))
