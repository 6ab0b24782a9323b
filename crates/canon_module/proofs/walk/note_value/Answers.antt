-- No names are local: `no_names`.
use Rattle.std.proofs.Common.{sym, ap}
use Rattle.elm_tree.specs.View.{expr_view}
use Rattle.elm_tree.specs.Turns.{tokens_view}
use Rattle.canon_env.specs.Locals.{no_locals}
use Rattle.canon_expr.proofs.Meaning.{grows_at}
use Rattle.canon_expr.specs.Exprs.{expr_sites}
use Rattle.canon_module.proofs.Meaning.{no_names}
use Rattle.canon_module.proofs.walk.note_value.Goals as goal

pub returns : goal.returns
returns c = λ w is.
    let e = expr_view (tokens_view c.args.tokens.now) c.args.body.now in
    grows_at _ _ (ap (λ locals. expr_sites w locals e) (sym (no_names no_locals)))
    (c.in_ok-scoped.ensures.log w no_locals (record { is_world = is; in_scope = c.new-scope.ensures }))
