use Rattle.std.proofs.Common.{◌≡◌, map, take}
use Rattle.std.specs.Prelude.{flat_map}
use Rattle.elm_tree.specs.View.{declaration_view}
use Rattle.elm_tree.specs.Turns.{tokens_view}
use Rattle.elm_canon.specs.View.{port_declaration_view}
use Rattle.canon_env.specs.Naming.{World, IsWorld}
use Rattle.canon_module.specs.Resolve.{ports_in}
use Rattle.canon_module.proofs.ports.ports.Given as goal

abbrev pub invariant-loop-number : goal.invariant-loop-number
invariant-loop-number l =
    (w : World) → IsWorld l.world w → map port_declaration_view l.ports.items
    ≡ flat_map (ports_in w) (map (declaration_view (tokens_view l.tokens)) (take l.number l.declarations))
