use Rattle.std.proofs.Common.{◌≡◌, length}
use Rattle.std.specs.Map.{lookup}
use Rattle.std.specs.Option.{option_or}
use Rattle.elm_canon.specs.Names.{same_ref}
use Rattle.elm_canon.specs.declared.reference.Ref.{Ref}
use Rattle.infer.specs.Told.{told_views}
use Rattle.infer.specs.Types.{schemes_of}
use Rattle.infer.proofs.infer.table.Given as goal

abbrev pub invariant-loop-last : goal.invariant-loop-last
invariant-loop-last l =
    (x : Ref) → lookup (same_ref x) (told_views l.fn.told.items)
    ≡ option_or (lookup (same_ref x) (told_views l.rest.items)) (schemes_of l.types x)

abbrev pub decreases-loop-last : goal.decreases-loop-last
decreases-loop-last l = length l.rest.items
