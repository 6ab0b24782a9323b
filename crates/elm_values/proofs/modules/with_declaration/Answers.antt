-- What is taken goes in front of the list of the module (`seen_moved`), and the others stay (`seen_tail`).
use Rattle.std.proofs.Common.{reverse, ap, ap₂, ◌∙◌}
use Rattle.std.proofs.lemmas.Result.{on_ok_weaker}
use Rattle.elm_tree.specs.View.{declaration_view}
use Rattle.elm_grammar.specs.declared.action.Item.TheVariants as item
use Rattle.elm_grammar.specs.Values.{One, act, gives, takes, with_declaration}
use Rattle.elm_values.specs.Stack.{built_module, columns, pop, push, top}
use Rattle.elm_values.proofs.Columns.{seen_moved, seen_tail}
use Rattle.elm_values.proofs.modules.with_declaration.Goals as goal

pub returns : goal.returns
unfolding takes gives act columns push pop top
returns c =
    on_ok_weaker c.put_module.result
    (λ h tokens.
    let t = columns tokens c.stacks.inside.held in
    let m = built_module tokens c.take_module-built.result in
    h tokens ∙
    (ap₂ (λ y z. push (One item.Module) (record { head = m.head; declarations = y }) (record t { declarations = z }))
    (seen_moved (declaration_view tokens) (reverse c.stacks.inside.held.declarations.items) c.in_ok-move_to.ensures.1
    (c.no_declaration.ensures tokens))
    (seen_tail (declaration_view tokens) (reverse c.stacks.inside.held.declarations.items) c.in_ok-move_to.ensures.0) ∙
    ap₂ (λ y z. push (One item.Module) (with_declaration (top tokens (One item.Declaration) z) y) (pop (One item.Declaration) z))
    (c.take_module-built.ensures.value tokens)
    (ap (columns tokens) c.stacks.view_is ∙ c.take_module-built.ensures.rest tokens)))
    c.put_module.ensures
