-- Names that are given in turn: `classes_of`.
-- What is said of a type, by its nodes: `variables_by_nodes`.
use Rattle.std.proofs.Common.{map, refl, sym, ◌∙◌, ap}
use Rattle.std.specs.List.{flat_map}
use Rattle.elm_type.specs.Types.{variables}
use Rattle.elm_type.specs.Spelling.{type_of}
use Rattle.elm_type.specs.Nodes.{leaves}
use Rattle.elm_type.specs.View.{kind_view}
use Rattle.elm_type.proofs.ByNodes.{variables_by_nodes}
use Rattle.elm_type.specs.Naming.{given, constant_names}
use Rattle.elm_type.proofs.Names.{classes_of}
use Rattle.elm_type.proofs.naming.names_of.Goals as goal

pub returns : goal.returns
returns c =
    let ns = c.args.scheme.now.ty.nodes.items in
    let ks = c.args.scheme.now.kinds.items in
    c.in_ok-names.ensures
    ∙ (ap (λ qs. given (map (λ k. k.class) qs) c.deref-3.result.now) c.deref-2.ensures.value
    ∙ (ap (given (map (λ k. k.class) ks))
    (c.deref-3.ensures.value ∙ (c.in_ok-constants.ensures
    ∙ (ap (λ ms. constant_names (flat_map leaves ms)) c.deref.ensures.value ∙ ap constant_names (variables_by_nodes ns c.args.scheme.now.ty.spelled))))
    ∙ ap (λ cs. given cs (constant_names (variables (type_of ns)))) (sym (classes_of kind_view (λ k. k.class) ks (λ k. refl)))))
