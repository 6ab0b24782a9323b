-- The group of the definition, if it makes one.
use Rattle.std.proofs.Common.{[], ◌∷◌, ◌++◌, map, ap, ◌∙◌}
use Rattle.elm_canon.specs.Tree as canon
use Rattle.elm_canon.specs.View.{declaration_view}
use Rattle.canon_expr.specs.Blocks.{group_of}
use Rattle.canon_expr.specs.Kept.{made_view}
use Rattle.canon_module.proofs.Outcome.{with_made}
use Rattle.canon_module.proofs.groups.push_value.Goals as goal

pub returns : goal.returns
returns c =
    with_made c.push_made_group.result c.one_group.result
    (λ g pushed is.
    pushed
    ∙ ap (λ gs. map declaration_view c.args.declarations.now.items ++ map canon.Define gs)
    (is ∙ ap (λ m. group_of (made_view m ∷ [])) c.into_inner.ensures))
    c.push_made_group.ensures c.one_group.ensures
