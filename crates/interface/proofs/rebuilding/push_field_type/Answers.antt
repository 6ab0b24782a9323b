-- One more in front: `more_field`.
use Rattle.std.proofs.Common.{◌∷◌, reverse, map, refl, ap, ◌∙◌}
use Rattle.elm_canon.specs.Names.{Name}
use Rattle.elm_canon.specs.Tree.{Annotation}
use Rattle.elm_canon.specs.View.{field_type_view}
use Rattle.elm_canon.specs.declared.tree.FieldType.{FieldType}
use Rattle.elm_canon.proofs.Views.{field_type}
use Rattle.interface.proofs.Onto.{more_field}
use Rattle.interface.proofs.rebuilding.push_field_type.Goals as goal

pub returns : goal.returns
returns c =
    let f : FieldType = record { name = c.args.name; field_type = c.args.field_type } in (
      refl,
      more_field c.args.fields.now.items c.push.new.self.items f c.in_ok-push.ensures.items
          ∙ ap (λ (g : Name × Annotation). g ∷ reverse (map field_type_view c.args.fields.now.items)) (field_type f),
    )
