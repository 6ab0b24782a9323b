-- The name is bound where it was before, or it is taken out: `restored`.
use Rattle.std.proofs.Common.{if◌then◌else◌, sym, ap, ◌∙◌}
use Rattle.indexmap.specs.IndexMap.{get}
use Rattle.elm_canon.specs.Names.{same_name}
use Rattle.canon_expr.specs.Scope.{locals_of}
use Rattle.canon_expr.proofs.Scoping.{restored}
use Rattle.canon_expr.proofs.scope.Scope.restore.Goals as goal

pub returns-in_ok-insert-in-Some : goal.returns-in_ok-insert-in-Some
unfolding locals_of
returns-in_ok-insert-in-Some c =
    restored (locals_of c.args.self.now) _ c.args.entered
    (λ n. c.in_ok-insert-in-Some.ensures.updates.0 n
    ∙ ap (λ o. if same_name c.args.entered.name n then o else get same_name c.args.self.now.places n) (sym c.in-Some.is))

pub returns-in-None : goal.returns-in-None
unfolding locals_of
returns-in-None c =
    restored (locals_of c.args.self.now) _ c.args.entered
    (λ n. c.swap_remove.ensures.updates.0 n
    ∙ ap (λ o. if same_name c.args.entered.name n then o else get same_name c.args.self.now.places n) (sym c.in-None.is))
