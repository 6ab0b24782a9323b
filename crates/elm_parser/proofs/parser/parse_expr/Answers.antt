-- What is built of the steps of a derivation is what its tokens spell: `expr_kind`, `read_front`.
-- From what the machine and the search for faults answer to the steps of a text, or its fault: `rest_fits`,
-- `left_over`.
use Rattle.std.proofs.lemmas.List.{length-map}
use Rattle.std.proofs.Common.{map, refl, sym, subst, arith}
use Rattle.elm_lexer.specs.View.{token_view}
use Rattle.elm_tree.specs.View.{expr_view}
use Rattle.elm_grammar.specs.Table as table
use Rattle.elm_grammar.specs.Values.{One}
use Rattle.elm_grammar.specs.declared.action.Item.TheVariants as item
use Rattle.elm_values.specs.Building.{Builds}
use Rattle.elm_parser.proofs.Valued.{expr_kind, read_front}
use Rattle.elm_parser.proofs.Answering.{rest_fits, left_over}
use Rattle.elm_parser.proofs.parser.parse_expr.Goals as goal

pub overflow_sub-result : goal.overflow_sub-result
overflow_sub-result c =
    let tokens = map token_view c.args.tokens.now in
    let h = c.in_ok-steps.ensures.read in
    omega (arith, h.1, rest_fits tokens table.Expression c.args.column h.0 c.in_ok-steps.steps.items h.2, length-map c.args.tokens.now token_view)

pub returns-clause-read : goal.returns-clause-read
returns-clause-read c =
    let tokens = map token_view c.args.tokens.now in
    let h = c.in_ok-steps.ensures.read in
    let v = expr_view tokens c.in_ok-built.built in (
      h.0,
      read_front tokens table.Expression c.args.column (One item.Expr) v h.0 c.in_ok-steps.steps.items expr_kind h.2
          (subst (λ z. Builds tokens (One item.Expr) z v) c.deref.ensures.value (c.in_ok-built.ensures tokens)),
      left_over c.args.tokens.now _ _ h.1,
    )
