-- What is written is read again: `spelled_by`, `spelled_type`.
-- Types of their parts: `record_spells`.
use Rattle.std.proofs.Common.{◌∷◌, length, map, sym, ◌∙◌, ap, arith}
use Rattle.std.specs.List.{flat_map}
use Rattle.std.proofs.lemmas.List.{take_all}
use Rattle.elm_type.specs.Types.{Record}
use Rattle.elm_type.specs.Spelling.{record_node}
use Rattle.elm_type.specs.View.{field_view, fields_of, end_view}
use Rattle.elm_type.specs.declared.node.Node.TheVariants as node
use Rattle.elm_type.proofs.Reading.{spelled_by, spelled_type}
use Rattle.elm_type.proofs.OfParts.{record_spells}
use Rattle.elm_type.proofs.building.record.Goals as goal

pub invariant_of-result : goal.invariant_of-result
invariant_of-result c =
    let fs = c.args.fields.now in
    let end = end_view c.args.base in
    record {
      spelled = spelled_by c.loop-field.nodes.items (Record (fields_of (map field_view fs)) end) (record_spells end fs
          ∙ sym (c.loop-field.invariant ∙ ap (λ gs. record_node (length fs) end ∷ flat_map (λ f. node.Field f.name ∷ f.ty.nodes.items) gs) (take_all c.loop-field.field-index fs (omega arith))));
    }

pub returns : goal.returns
returns c =
    let fs = c.args.fields.now in
    let end = end_view c.args.base in
    spelled_type c.loop-field.nodes.items (Record (fields_of (map field_view fs)) end) (record_spells end fs
    ∙ sym (c.loop-field.invariant ∙ ap (λ gs. record_node (length fs) end ∷ flat_map (λ f. node.Field f.name ∷ f.ty.nodes.items) gs) (take_all c.loop-field.field-index fs (omega arith))))
