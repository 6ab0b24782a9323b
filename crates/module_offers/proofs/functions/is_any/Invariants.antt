use Rattle.std.proofs.Common.{◌≡◌, map, drop}
use Rattle.std.specs.List.{list_any}
use Rattle.elm_canon.specs.Names.{same_name}
use Rattle.module_offers.proofs.functions.is_any.Given as goal

abbrev pub invariant-loop-text : goal.invariant-loop-text
invariant-loop-text l =
    list_any (same_name l.name) (map (λ t. t.now) (drop l.text-index l.texts))
    ≡ list_any (same_name l.name) (map (λ t. t.now) l.texts)
