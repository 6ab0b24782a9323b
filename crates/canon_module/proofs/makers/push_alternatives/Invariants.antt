use Rattle.std.proofs.Common.{◌≡◌, ◌++◌, map, take}
use Rattle.elm_canon.specs.View.{declaration_view}
use Rattle.canon_module.specs.Resolve.{maker_of}
use Rattle.canon_module.proofs.makers.push_alternatives.Given as goal

abbrev pub invariant-loop-alternative : goal.invariant-loop-alternative
invariant-loop-alternative l =
    map declaration_view l.makers.items
    ≡ map declaration_view l.initial.makers.items ++ map (maker_of l.home) (take l.alternative-index l.alternatives)
