-- The faults of values come after those that are known.
use Rattle.std.proofs.Common.{◌++◌, map, sym, subst}
use Rattle.elm_tree.specs.View.{declaration_view}
use Rattle.elm_tree.specs.Turns.{tokens_view}
use Rattle.canon_env.specs.Order.{IsInOrder}
use Rattle.canon_module.specs.CanonValuesFaults.{value_faults}
use Rattle.canon_module.specs.declared.module.Contents.{Contents}
use Rattle.canon_module.proofs.module.valued.Goals as goal

pub returns-clause-faults : goal.returns-clause-faults
returns-clause-faults c = λ w is named.
    subst (λ (v : Contents). IsInOrder (c.args.findings.items ++ value_faults w (map (declaration_view
    (tokens_view c.args.tokens.now)) c.args.declarations.now)) v.faults.items) (sym c.in_ok-contents.ensures)
    (subst (λ fs. IsInOrder fs c.in_ok-faults.faults.items) (c.in_ok-meanings.ensures.faults w is named)
    c.in_ok-faults.ensures)
