use Rattle.std.proofs.Common.{◌≡◌, drop}
use Rattle.std.specs.Prelude.{nat_eq}
use Rattle.std.specs.List.{list_all}
use Rattle.elm_canon.specs.declared.unions.Alternative.{Alternative}
use Rattle.module_offers.proofs.truths.are_truths.Given as goal

abbrev pub invariant-loop-constructor : goal.invariant-loop-constructor
invariant-loop-constructor l =
    list_all (λ (c : Alternative). nat_eq c.arity 0) (drop l.constructor-index l.constructors)
    ≡ list_all (λ (c : Alternative). nat_eq c.arity 0) l.constructors
