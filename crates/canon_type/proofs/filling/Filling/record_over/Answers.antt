-- What is over no base, and over what stands for a name.
use Rattle.std.proofs.Common.{map, None, sym, ap, ◌∙◌}
use Rattle.std.proofs.lemmas.Result.{IfOk-weaker}
use Rattle.elm_canon.specs.Tree.{field_types_of}
use Rattle.elm_canon.specs.View.{field_type_view}
use Rattle.elm_canon.proofs.Views.{type_of_record}
use Rattle.canon_type.specs.Filling.{filled_over}
use Rattle.canon_type.proofs.filling.Filling.record_over.Goals as goal

pub returns-in-None : goal.returns-in-None
returns-in-None c = λ s h.
    type_of_record None c.args.fields
    ∙ ap (λ b. filled_over s b (field_types_of (map field_type_view c.args.fields.items))) (sym c.in-None.is)

pub returns-in-Some : goal.returns-in-Some
returns-in-Some c =
    IfOk-weaker c.with_fields.result _ _
    (λ u e s h. e s h
    ∙ ap (λ b. filled_over s b (field_types_of (map field_type_view c.args.fields.items))) (sym c.in-Some.is))
    c.with_fields.ensures
