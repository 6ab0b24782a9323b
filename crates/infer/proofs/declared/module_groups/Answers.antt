use Rattle.std.proofs.Common.{◌++◌, [], take, map, flat_map, sym, ap, ◌∙◌, arith}
use Rattle.std.proofs.lemmas.List.{flat_map_more}
use Rattle.elm_canon.specs.View.{declaration_view}
use Rattle.infer_order.proofs.Owning.{map_next}
use Rattle.infer.specs.Modules.{groups_in}
use Rattle.infer.proofs.declared.module_groups.Goals as goal

pub loop-declaration-preserved : goal.loop-declaration-preserved
loop-declaration-preserved c =
    let i = c.loop-declaration.declaration-index in
    let x = c.declaration-item.result in
    let first = map declaration_view (take i c.args.declarations.now) in
    c.in_ok-push_group.ensures ∙ ap (λ l. l ++ groups_in (declaration_view x)) c.loop-declaration.invariant
    ∙ flat_map_more groups_in [] first (declaration_view x)
    ∙ ap (flat_map groups_in) (sym (map_next declaration_view c.args.declarations.now i x (omega arith)
    c.declaration-item.is))
