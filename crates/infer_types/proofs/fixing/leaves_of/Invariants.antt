use Rattle.std.proofs.Common.{◌≡◌, Some, take}
use Rattle.std.specs.List.{AllZip}
use Rattle.infer_steps.specs.View.{code_of}
use Rattle.infer_types.proofs.fixing.leaves_of.Given as goal

abbrev pub invariant-loop-name : goal.invariant-loop-name
invariant-loop-name l =
    AllZip (λ x v. (code_of l.scope).constants x ≡ Some v) (take l.name-index l.names) l.variables.items
