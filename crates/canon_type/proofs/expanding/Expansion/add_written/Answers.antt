-- The names are those of the aliases that are declared.
use Rattle.std.proofs.Common.{List, sym, subst}
use Rattle.std.proofs.lemmas.Result.{on_ok_weaker}
use Rattle.elm_tree.specs.Turns.{tokens_view}
use Rattle.elm_canon.specs.Names.{Name}
use Rattle.canon_type.specs.Written.{AliasTree, alias_names}
use Rattle.canon_type.specs.Kept.{Keeps, aliases_view}
use Rattle.canon_type.proofs.expanding.Expansion.add_written.Goals as goal

pub returns-in-Ok : goal.returns-in-Ok
returns-in-Ok c =
    on_ok_weaker c.add_named-done.result
    (λ e s is home named same world.
    e s is home
    (subst (λ (l : List AliasTree). Keeps c.in-Ok.names s.names (alias_names l)) (sym same)
    (subst (λ (us : List Name). Keeps c.in-Ok.names us
    (alias_names (aliases_view (tokens_view c.args.tokens.now) c.args.aliases.now))) (sym named) c.in-Ok.ensures.names))
    same world)
    c.add_named-done.ensures
