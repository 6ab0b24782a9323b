-- What is built of the steps of a derivation is what its tokens spell: `module_kind`, `read_whole`.
use Rattle.std.proofs.Common.{map, refl, sym, subst}
use Rattle.elm_lexer.specs.View.{token_view}
use Rattle.elm_tree.specs.View.{module_view}
use Rattle.elm_grammar.specs.Table as table
use Rattle.elm_grammar.specs.Values.{One}
use Rattle.elm_grammar.specs.declared.action.Item.TheVariants as item
use Rattle.elm_values.specs.Building.{Builds}
use Rattle.elm_parser.proofs.Valued.{module_kind, read_whole}
use Rattle.elm_parser.proofs.parser.parse_module.Goals as goal

pub returns-clause-read : goal.returns-clause-read
returns-clause-read c =
    let tokens = map token_view c.args.tokens.now in
    let m = module_view tokens c.in_ok-module_of.field-0 in
    read_whole tokens table.Module 1 (One item.Module) m c.in_ok-steps.steps.items module_kind c.in_ok-steps.ensures.read
    (subst (λ z. Builds tokens (One item.Module) z m) c.deref.ensures.value (c.in_ok-module_of.ensures tokens))
