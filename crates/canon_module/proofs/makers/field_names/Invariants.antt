use Rattle.std.proofs.Common.{◌≡◌, map, take}
use Rattle.elm_tree.specs.View.{word_view}
use Rattle.elm_tree.specs.Turns.{tokens_view}
use Rattle.elm_tree.specs.declared.tree.FieldType.{FieldType}
use Rattle.canon_env.specs.Imports.{name_of}
use Rattle.canon_module.proofs.makers.field_names.Given as goal

abbrev pub invariant-loop-field : goal.invariant-loop-field
invariant-loop-field l =
    l.names.items
    ≡ map (λ (f : FieldType). name_of (word_view (tokens_view l.tokens) f.name)) (take l.field-index l.fields)
