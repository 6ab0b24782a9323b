use Rattle.std.proofs.Common.{◌++◌, [], take, map, flat_map, sym, ap, ◌∙◌, arith}
use Rattle.std.proofs.lemmas.List.{flat_map_more}
use Rattle.elm_canon.specs.View.{declaration_view}
use Rattle.type_items.specs.Modules.{definitions_in}
use Rattle.infer_order.proofs.Owning.{map_next}
use Rattle.infer_order.proofs.order.module_groups.Goals as goal

pub loop-declaration-preserved : goal.loop-declaration-preserved
loop-declaration-preserved c =
    let i = c.loop-declaration.declaration-index in
    let x = c.declaration-item.result in
    let first = map declaration_view (take i c.args.declarations.now) in
    c.in_ok-push_group.ensures ∙ ap (λ l. l ++ definitions_in (declaration_view x)) c.loop-declaration.invariant
    ∙ flat_map_more definitions_in [] first (declaration_view x)
    ∙ ap (flat_map definitions_in) (sym (map_next declaration_view c.args.declarations.now i x (omega arith)
    c.declaration-item.is))
