-- What is written is read again: `spelled_by`, `spelled_type`.
-- Types of their parts: `made_spells`.
use Rattle.std.proofs.Common.{◌∷◌, length, map, sym, ◌∙◌, ap, arith}
use Rattle.std.specs.List.{flat_map}
use Rattle.std.proofs.lemmas.List.{take_all}
use Rattle.elm_type.specs.Types.{Made, types_of}
use Rattle.elm_type.specs.View.{type_view}
use Rattle.elm_type.specs.declared.node.Node.TheVariants as node
use Rattle.elm_type.proofs.Reading.{spelled_by, spelled_type}
use Rattle.elm_type.proofs.OfParts.{made_spells}
use Rattle.elm_type.proofs.building.made.Goals as goal

pub invariant_of-result : goal.invariant_of-result
invariant_of-result c =
    let ts = c.args.parts.now in
    record {
      spelled = spelled_by c.loop-part.nodes.items (Made c.args.head (types_of (map type_view ts))) (made_spells c.args.head ts
          ∙ sym (c.loop-part.invariant ∙ ap (λ us. node.Made c.args.head (length ts) ∷ flat_map (λ t. t.nodes.items) us) (take_all c.loop-part.part-index ts (omega arith))));
    }

pub returns : goal.returns
returns c =
    let ts = c.args.parts.now in
    spelled_type c.loop-part.nodes.items (Made c.args.head (types_of (map type_view ts))) (made_spells c.args.head ts
    ∙ sym (c.loop-part.invariant ∙ ap (λ us. node.Made c.args.head (length ts) ∷ flat_map (λ t. t.nodes.items) us) (take_all c.loop-part.part-index ts (omega arith))))
