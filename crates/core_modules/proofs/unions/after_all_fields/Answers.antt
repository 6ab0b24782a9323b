-- One constructor more.
use Rattle.std.proofs.Common.{◌+◌, map, drop, sym, ap, ◌∙◌, arith}
use Rattle.std.specs.Prelude.{flat_map}
use Rattle.elm_canon.specs.View.{types_view}
use Rattle.core_modules.specs.Signs.{constructor_spelled, left_in, rest_view}
use Rattle.core_modules.proofs.Left.{one_more}
use Rattle.core_modules.proofs.unions.after_all_fields.Goals as goal

pub loop-fields-preserved : goal.loop-fields-preserved
loop-fields-preserved c =
    let xs = c.args.all.now in
    let i = c.loop-fields.fields-index in
    ap (left_in (flat_map constructor_spelled (map (λ f. types_view f.types.items) (drop (i + 1) xs))))
    c.after_fields-rest.ensures
    ∙ sym (one_more constructor_spelled (λ f. types_view f.types.items) xs i c.fields-item.result
    (rest_view c.loop-fields.rest) (omega arith) c.fields-item.is)
    ∙ c.loop-fields.invariant
