use Rattle.std.proofs.Common.{◌++◌, ◌∙◌, ap}
use Rattle.std.specs.Prelude.{codes}
use Rattle.elm_type.specs.View.{type_view}
use Rattle.elm_type.specs.Text.{text_in, leaf_name}
use Rattle.elm_type.specs.declared.frame.Around.TheVariants.{Alone}
use Rattle.infer.proofs.texts.parts_text.Goals as goal

pub returns : goal.returns
returns c =
    c.in_ok-extend_from_slice.ensures.items
    ∙ (ap (λ n. c.put.new.text.items ++ n) (c.deref.ensures.value ∙ c.in_ok-right.ensures)
    ∙ ap (λ t. t ++ text_in (leaf_name c.args.names.now) Alone (type_view c.args.parts.now.right))
    (c.in_ok-put.ensures ∙ ap (λ t. t ++ codes " /= ") c.in_ok-text.ensures))
