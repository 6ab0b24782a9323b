-- What the aliases mean as they are declared, they mean in the world of the module: `are_declared`, `are_found`.
use Rattle.std.proofs.Common.{map, ap, ◌∙◌}
use Rattle.std.specs.Prelude.{filter_map}
use Rattle.elm_tree.specs.View.{declaration_view}
use Rattle.elm_tree.specs.Turns.{tokens_view}
use Rattle.canon_env.specs.Shown.{unions_view, aliases_view}
use Rattle.canon_type.specs.CanonAliasesKept.{world_with, made_view}
use Rattle.canon_type.specs.DeclaredTypesKept.{setting_of}
use Rattle.canon_type.proofs.Together.{are_declared, are_found}
use Rattle.canon_type.proofs.declaring.shown_by.Goals as goal

pub returns-clause-types : goal.returns-clause-types
returns-clause-types c = λ rows h values.
    let ds = map (declaration_view (tokens_view c.args.tokens.now)) c.args.declarations.now in
    let home = c.args.home.now in
    are_declared home rows ds c.args.expansion.now.world c.args.expansion.now.made.items h
    (record {
      values = values;
      unions = unions_view c.in_ok-unions.unions.items;
      aliases = aliases_view c.in_ok-aliases.aliases.items;
    })
    (c.in_ok-unions.ensures.unions (world_with (setting_of home rows ds) h.added) h.world_is)
    (c.in_ok-aliases.ensures ∙ ap (filter_map made_view) c.deref.ensures.value)

pub returns-clause-faults : goal.returns-clause-faults
returns-clause-faults c = λ rows h values.
    let ds = map (declaration_view (tokens_view c.args.tokens.now)) c.args.declarations.now in
    let home = c.args.home.now in
    let w = world_with (setting_of home rows ds) h.added in
    are_found home rows ds c.args.expansion.now.world c.args.expansion.now.made.items h
    (record {
      values = values;
      unions = unions_view c.in_ok-unions.unions.items;
      aliases = aliases_view c.in_ok-aliases.aliases.items;
    })
    (c.in_ok-unions.ensures.unions w h.world_is)
    (c.in_ok-aliases.ensures ∙ ap (filter_map made_view) c.deref.ensures.value) _ _ _
    (c.in_ok-unions.ensures.faults w h.world_is) (c.in_ok-push_alias_faults.ensures w h.world_is)
