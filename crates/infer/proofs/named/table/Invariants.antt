use Rattle.std.proofs.Common.{◌≡◌, length}
use Rattle.std.specs.Map.{lookup}
use Rattle.std.specs.Option.{option_or}
use Rattle.std.specs.Str.{bytes_eq}
use Rattle.elm_type.specs.Types.{Name}
use Rattle.infer_steps.specs.View.{schemes_view}
use Rattle.infer.specs.Named.{named_views}
use Rattle.infer.proofs.named.table.Given as goal

abbrev pub invariant-loop-last : goal.invariant-loop-last
invariant-loop-last l =
    (x : Name) → lookup (bytes_eq x) (named_views l.fn.found.items)
    ≡ option_or (lookup (bytes_eq x) (named_views l.rest.items)) (schemes_view l.types x)

abbrev pub decreases-loop-last : goal.decreases-loop-last
decreases-loop-last l = length l.rest.items
