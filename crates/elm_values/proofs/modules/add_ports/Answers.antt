-- What is taken is put back with one field changed.
use Rattle.std.proofs.Common.{ap₂, ◌∙◌}
use Rattle.std.proofs.lemmas.Result.{on_ok_weaker}
use Rattle.elm_grammar.specs.declared.action.Item.TheVariants as item
use Rattle.elm_grammar.specs.Values.{One, with_ports}
use Rattle.elm_values.specs.Stack.{push}
use Rattle.elm_values.proofs.modules.add_ports.Goals as goal

pub returns : goal.returns
returns c =
    on_ok_weaker c.put_header.result
    (λ h tokens.
    h tokens ∙
    ap₂ (λ y z. push (One item.Header) (with_ports y) z) (c.take_header-header.ensures.value tokens)
    (c.take_header-header.ensures.rest tokens))
    c.put_header.ensures
