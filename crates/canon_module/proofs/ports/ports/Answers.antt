-- One declaration more: `bad_next`.
use Rattle.std.proofs.Common.{[], map, arith}
use Rattle.elm_tree.specs.View.{declaration_view}
use Rattle.elm_tree.specs.Turns.{tokens_view}
use Rattle.elm_canon.specs.View.{port_declaration_view}
use Rattle.canon_type.proofs.Fillings.{bad_next}
use Rattle.canon_module.specs.Resolve.{ports_in}
use Rattle.canon_module.proofs.ports.ports.Goals as goal

pub loop-number-preserved : goal.loop-number-preserved
loop-number-preserved c = λ w h.
    bad_next (ports_in w) (declaration_view (tokens_view c.args.tokens.now)) c.args.declarations.now
    c.loop-number.number c.at-declaration.result [] (map port_declaration_view c.loop-number.ports.items)
    (map port_declaration_view c.push_port.new.ports.items) (omega arith) c.at-declaration.ensures
    (c.loop-number.invariant w h) (c.in_ok-push_port.ensures w h)
