-- One declaration more.
use Rattle.std.proofs.Common.{◌++◌, map, arith, ap, ◌∙◌}
use Rattle.elm_tree.specs.View.{declaration_view}
use Rattle.elm_tree.specs.Turns.{tokens_view}
use Rattle.canon_type.proofs.Fillings.{bad_next}
use Rattle.canon_type.specs.Parameters.{parameter_faults}
use Rattle.std.specs.Prelude.{flat_map}
use Rattle.std.proofs.lemmas.List.{take_all}
use Rattle.canon_type.proofs.parameters.push_parameter_faults.Goals as goal

pub loop-declaration-preserved : goal.loop-declaration-preserved
loop-declaration-preserved c =
    bad_next parameter_faults (declaration_view (tokens_view c.args.tokens.now)) c.args.declarations.now
    c.loop-declaration.declaration-index c.declaration-item.result c.args.findings.now.items
    c.loop-declaration.findings.items c.push_of_one.new.findings.items (omega arith) c.declaration-item.is
    c.loop-declaration.invariant c.in_ok-push_of_one.ensures

pub returns : goal.returns
returns c =
    c.loop-declaration.invariant
    ∙ ap (λ l. c.args.findings.now.items
    ++ flat_map parameter_faults (map (declaration_view (tokens_view c.args.tokens.now)) l))
    (take_all c.loop-declaration.declaration-index c.args.declarations.now (omega arith))
