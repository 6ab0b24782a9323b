use Rattle.std.proofs.Common.{◌≡◌, drop}
use Rattle.std.specs.List.{list_all}
use Rattle.core_modules.specs.Faults.{is_free}
use Rattle.core_modules.proofs.same.are_free.Given as goal

abbrev pub invariant-loop-sign : goal.invariant-loop-sign
invariant-loop-sign l = list_all is_free (drop l.sign-index l.signs) ≡ list_all is_free l.signs
