-- What the port declares, if it is one.
use Rattle.std.proofs.Common.{◌++◌, map, refl, sym, ap, ◌∙◌}
use Rattle.elm_tree.specs.View.{declaration_view}
use Rattle.elm_tree.specs.Turns.{tokens_view}
use Rattle.elm_canon.specs.View.{port_declaration_view}
use Rattle.canon_env.proofs.Filtering.{pushed}
use Rattle.canon_module.specs.Resolve.{ports_in}
use Rattle.canon_module.proofs.Outcome.{with_made}
use Rattle.canon_module.proofs.ports.push_port.Goals as goal

pub returns-in-Port : goal.returns-in-Port
returns-in-Port c =
    with_made c.push_declaration.result c.resolve.result
    (λ p is told w h.
    pushed port_declaration_view c.args.ports.now.items _ _ _ _ is refl (told w h)
    ∙ ap (λ d. map port_declaration_view c.args.ports.now.items
    ++ ports_in w (declaration_view (tokens_view c.args.tokens.now) d)) (sym c.in-Port.is ∙ c.get.ensures))
    c.push_declaration.ensures c.resolve.ensures.declaration
