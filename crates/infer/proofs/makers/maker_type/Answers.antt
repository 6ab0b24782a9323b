use Rattle.std.proofs.Common.{◌∷◌, [], map, ap, ◌∙◌}
use Rattle.std.proofs.lemmas.List.{map-append}
use Rattle.elm_canon.specs.View.{annotation_view, function_type}
use Rattle.elm_canon.proofs.Views.{type_of_function}
use Rattle.infer.proofs.Making.{made_last}
use Rattle.infer.proofs.makers.maker_type.Goals as goal

pub returns : goal.returns
returns c =
    type_of_function c.push.new.self
    ∙ (ap (λ ts. function_type (map annotation_view ts)) c.in_ok-push.ensures.items
    ∙ (ap function_type (map-append annotation_view c.args.parameters.items (c.args.made ∷ []))
    ∙ made_last (map annotation_view c.args.parameters.items) (annotation_view c.args.made)))
