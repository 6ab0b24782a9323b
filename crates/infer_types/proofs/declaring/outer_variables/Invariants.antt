use Rattle.std.proofs.Common.{◌≡◌, ◌++◌, drop}
use Rattle.infer_steps.specs.View.{code_of}
use Rattle.infer_types.specs.Table.{outer_of}
use Rattle.infer_types.proofs.declaring.outer_variables.Given as goal

abbrev pub invariant-loop-name : goal.invariant-loop-name
invariant-loop-name l =
    l.outer.items ++ outer_of (code_of l.scope) (drop l.name-index l.names) ≡ outer_of (code_of l.scope) l.names
