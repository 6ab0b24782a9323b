-- The scheme that has the type in order, and the kinds of its variables in order: `scheme_is`.
use Rattle.std.proofs.Common.{[], ◌∙◌, ap, map}
use Rattle.std.specs.List.{flat_map}
use Rattle.elm_type.specs.Nodes.{leaves}
use Rattle.elm_type.specs.Schemes.{in_order}
use Rattle.elm_type.specs.View.{kind_view, scheme_view, type_view}
use Rattle.type_store.specs.Store.{slot_at}
use Rattle.type_schemes.proofs.InOrder.{scheme_is}
use Rattle.type_schemes.proofs.schemes.scheme.Goals as goal

pub returns : goal.returns
returns c = record {
  type = type_view c.in_ok-ty.ty;
  reads = c.in_ok-ty.ensures;
  is =
      scheme_is c.args.store.now c.in_ok-ty.ty.nodes.items (map kind_view c.new.result.items)
      (map kind_view c.in_ok-kinds.kinds.items) (scheme_view c.in_ok-ty-2.field-0)
      c.in_ok-ty.ty.spelled c.in_ok-ty-2.ensures
      (c.in_ok-kinds.ensures ∙ ap (λ ns. map (λ v. (slot_at c.args.store.now v).kind)
      (in_order [] (flat_map leaves ns))) c.deref.ensures.value);
}
