-- What is built of the steps of a derivation is what its tokens spell: `head_kind`, `read_front`.
-- From what the machine and the search for faults answer to the steps of a text, or its fault: `as_many`,
-- `rest_fits`, `left_over`.
use Rattle.std.proofs.lemmas.List.{length-map}
use Rattle.std.proofs.Common.{ℕ, ◌≡◌, ◌-◌, List, length, drop, map, None, refl, sym, ap, subst, arith}
use Rattle.elm_lexer.specs.View.{token_view}
use Rattle.elm_tree.specs.Tree as tree
use Rattle.elm_tree.specs.View.{import_view, module_view}
use Rattle.elm_grammar.specs.Classes.{classed}
use Rattle.elm_grammar.specs.Table as table
use Rattle.elm_grammar.specs.Values.{One}
use Rattle.elm_grammar.specs.declared.action.Item.TheVariants as item
use Rattle.elm_values.specs.Building.{Builds}
use Rattle.elm_parser.specs.Reading.{ReadsHead, none, some}
use Rattle.elm_parser.proofs.Valued.{head_kind, read_front}
use Rattle.elm_parser.proofs.Answering.{as_many, rest_fits, left_over}
use Rattle.elm_parser.proofs.parser.head.Goals as goal

pub returns-then-begins_port-clause-read : goal.returns-then-begins_port-clause-read
returns-then-begins_port-clause-read c =
    let tokens = map token_view c.args.tokens.now in
    let empty : length c.args.tokens.now - length (classed tokens) ≡ 0 =
    omega (arith, as_many tokens, length-map c.args.tokens.now token_view) in (
      classed tokens,
      subst (λ is. ReadsHead tokens (record { header = None; imports = map (import_view tokens) is }) (classed tokens))
          (sym c.new.ensures.items) (none (c.begins_port.ensures.0 c.if-begins_port.true)),
      ap (λ (k : ℕ). drop k c.args.tokens.now) (sym empty),
    )

pub overflow_sub-result : goal.overflow_sub-result
overflow_sub-result c =
    let tokens = map token_view c.args.tokens.now in
    let h = c.in_ok-steps.ensures.read in
    omega (arith, h.1, rest_fits tokens table.Head 1 h.0 c.in_ok-steps.steps.items h.2, length-map c.args.tokens.now token_view)

pub returns-clause-read : goal.returns-clause-read
returns-clause-read c =
    let tokens = map token_view c.args.tokens.now in
    let h = c.in_ok-steps.ensures.read in
    let m = module_view tokens c.in_ok-built.built in (
      h.0,
      some {m = m} (λ b. let t = c.begins_port.ensures.1 b in let f = c.if-begins_port.false in cc)
          (read_front tokens table.Head 1 (One item.Module) m h.0 c.in_ok-steps.steps.items head_kind h.2
          (subst (λ z. Builds tokens (One item.Module) z m) c.deref.ensures.value (c.in_ok-built.ensures tokens))),
      left_over c.args.tokens.now _ _ h.1,
    )
