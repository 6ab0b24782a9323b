use Rattle.std.proofs.Common.{IfOk, option_map, map, subst}
use Rattle.elm_canon.specs.View.{module_view}
use Rattle.canon_env.specs.Order.{IsInOrder}
use Rattle.interface.specs.View.{interface_view}
use Rattle.module_compile.proofs.Resolving.{lacking_is}
use Rattle.module_compile.proofs.imports.Imports.lacking.Goals as goal

pub returns : goal.returns
returns c =
    subst (λ fs. IfOk c.operator_faults.result (λ v. IsInOrder fs v.items))
    (lacking_is c.args.self.now (option_map (λ i. interface_view i.now) c.in_ok-basics.basics)
    (option_map (λ i. interface_view i.now) c.in_ok-lists.lists) (module_view c.args.module.now)
    c.in_ok-basics.ensures c.in_ok-lists.ensures)
    c.operator_faults.ensures
