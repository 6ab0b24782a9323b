use Rattle.std.proofs.Common.{◌≡◌, ◌++◌, take}
use Rattle.canon_env.specs.Filter.{filter_type, filter_makers}
use Rattle.canon_env.specs.Shown.{unions_view}
use Rattle.canon_module.specs.Offers.{unions_by}
use Rattle.canon_module.proofs.shown.push_unions.Given as goal

abbrev pub invariant-loop-union : goal.invariant-loop-union
invariant-loop-union l =
    unions_view l.unions.items
    ≡ unions_view l.initial.unions.items
    ++ unions_by (filter_type l.passing) (filter_makers l.passing) (unions_view (take l.union-index l.all))
