-- What is written is read again: `spelled_by`, `spelled_type`.
-- Types of their parts: `variable_spells`.
use Rattle.std.proofs.Common.{◌∷◌, ◌++◌, [], sym, ◌∙◌, ap}
use Rattle.elm_type.specs.Types.{variable}
use Rattle.elm_type.specs.Spelling.{leaf_of, spell}
use Rattle.elm_type.specs.declared.node.Node.TheVariants as node
use Rattle.elm_type.proofs.Reading.{spelled_by, spelled_type}
use Rattle.elm_type.proofs.OfParts.{variable_spells}
use Rattle.elm_type.proofs.building.variable.Goals as goal

pub invariant_of-result : goal.invariant_of-result
invariant_of-result c =
    record { spelled = spelled_by c.push.new.self.items (variable (leaf_of c.args.leaf)) (variable_spells c.args.leaf ∙ sym (c.in_ok-push.ensures.items ∙ ap (λ ns. ns ++ node.Open c.args.leaf 0 ∷ []) c.new-nodes.ensures.items)) }

pub returns : goal.returns
returns c =
    spelled_type c.push.new.self.items (variable (leaf_of c.args.leaf)) (variable_spells c.args.leaf ∙ sym (c.in_ok-push.ensures.items ∙ ap (λ ns. ns ++ node.Open c.args.leaf 0 ∷ []) c.new-nodes.ensures.items))
