-- The type by its nodes: `renamed_spelled`, `renamed_type`. What it stands for: `ready`, `is_declared`.
use Rattle.std.proofs.Common.{◌≡◌, ◌∙◌, length, map, ap, subst, arith}
use Rattle.elm_type.specs.Nodes.{renamed_node}
use Rattle.elm_type.specs.Types.{renamed}
use Rattle.elm_type.specs.View.{kind_view, type_view}
use Rattle.elm_type.proofs.ByNodes.{renamed_spelled, renamed_type}
use Rattle.infer_steps.specs.View.{code_of}
use Rattle.infer_types.specs.Table.{moved}
use Rattle.infer_types.proofs.Standing.{ready, is_declared, table_is, kinds_are_own}
use Rattle.infer_types.proofs.declaring.declared.Goals as goal

pub invariant_of-result : goal.invariant_of-result
invariant_of-result c = record {
  spelled =
      renamed_spelled (moved c.deref-2.result.now) c.args.ty.now.nodes.items c.in_ok-nodes.nodes.items
      c.args.ty.now.spelled
      (subst (λ ns. c.in_ok-nodes.nodes.items ≡ map (renamed_node (moved c.deref-2.result.now)) ns)
      c.deref.ensures.value c.in_ok-nodes.ensures);
}

pub returns-clause-ready : goal.returns-clause-ready
returns-clause-ready c = λ d s code_ready lack.
    let code = code_of c.args.scope.now in
    let xs = c.args.names.now in
    let ks = map kind_view c.args.kinds.now in
    let type = type_view c.args.ty.now in
    let t = c.requires.annotation in
    let is = c.requires.is in
    let many : c.in-Ok.own_count ≡ length c.in_ok-own.own.items =
    omega (arith, c.in-Ok.ensures.1, c.len.ensures, c.in_ok-own.own.ok.0) in
    let numbers = table_is code t xs ks type is c.in_ok-own.own.items c.in_ok-own.ensures c.in-Ok.own_count
    c.in_ok-numbers.numbers.items many c.in_ok-numbers.ensures in
    let moves = renamed_type (moved c.deref-2.result.now) c.args.ty.now.nodes.items c.in_ok-nodes.nodes.items
    c.args.ty.now.spelled
    (subst (λ ns. c.in_ok-nodes.nodes.items ≡ map (renamed_node (moved c.deref-2.result.now)) ns)
    c.deref.ensures.value c.in_ok-nodes.ensures) in
    ready code t xs ks type is _ (moves ∙ ap (λ ns. renamed (moved ns) type) (c.deref-2.ensures.value ∙ numbers))
    (kinds_are_own code t xs ks type is c.in_ok-own.own.items c.in_ok-own.ensures _ c.in_ok-kinds.ensures)
    c.in_ok-outer.ensures d s code_ready lack

pub returns-clause-declared : goal.returns-clause-declared
returns-clause-declared c = λ t links around is means.
    let code = code_of c.args.scope.now in
    let xs = c.args.names.now in
    let ks = map kind_view c.args.kinds.now in
    let type = type_view c.args.ty.now in
    let many : c.in-Ok.own_count ≡ length c.in_ok-own.own.items =
    omega (arith, c.in-Ok.ensures.1, c.len.ensures, c.in_ok-own.own.ok.0) in
    let numbers = table_is code t xs ks type is c.in_ok-own.own.items c.in_ok-own.ensures c.in-Ok.own_count
    c.in_ok-numbers.numbers.items many c.in_ok-numbers.ensures in
    let moves = renamed_type (moved c.deref-2.result.now) c.args.ty.now.nodes.items c.in_ok-nodes.nodes.items
    c.args.ty.now.spelled
    (subst (λ ns. c.in_ok-nodes.nodes.items ≡ map (renamed_node (moved c.deref-2.result.now)) ns)
    c.deref.ensures.value c.in_ok-nodes.ensures) in
    is_declared code t xs ks type is _ (moves ∙ ap (λ ns. renamed (moved ns) type) (c.deref-2.ensures.value ∙ numbers))
    (kinds_are_own code t xs ks type is c.in_ok-own.own.items c.in_ok-own.ensures _ c.in_ok-kinds.ensures)
    c.in_ok-outer.ensures links around means
