-- the numbers so far, and those of the names that are left
use Rattle.std.proofs.Common.{◌≡◌, ◌++◌, drop}
use Rattle.infer_steps.specs.View.{code_of}
use Rattle.infer_types.specs.Table.{table}
use Rattle.infer_types.proofs.declaring.numbers_of.Given as goal

abbrev pub invariant-loop-name : goal.invariant-loop-name
invariant-loop-name l =
    l.table.items ++ table (code_of l.scope) l.numbers.own l.numbers.outer (drop l.name-index l.names)
    ≡ table (code_of l.scope) 0 l.own l.names
