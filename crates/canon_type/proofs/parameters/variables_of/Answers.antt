-- One constructor more: `all_list`.
use Rattle.std.proofs.Common.{[], ◌++◌, map, arith, sym, ap, ◌∙◌}
use Rattle.std.specs.Prelude.{flat_map}
use Rattle.elm_tree.specs.View.{words_view, constructor_view, type_view}
use Rattle.canon_type.proofs.Fillings.{bad_next}
use Rattle.canon_type.specs.Written.{variables_in}
use Rattle.canon_type.specs.Parameters.{constructor_variables}
use Rattle.canon_type.proofs.Parts.{all_list}
use Rattle.std.proofs.lemmas.List.{take_all}
use Rattle.canon_type.proofs.parameters.variables_of.Goals as goal

pub loop-constructor-preserved : goal.loop-constructor-preserved
loop-constructor-preserved c = λ tokens.
    let k = c.constructor-item.result in
    bad_next constructor_variables (constructor_view tokens) c.args.constructors.now c.loop-constructor.constructor-index
    k [] (words_view tokens c.loop-constructor.words.items) (words_view tokens c.push_all.new.words.items) (omega arith)
    c.constructor-item.is (c.loop-constructor.invariant tokens)
    (c.in_ok-push_all.ensures tokens
    ∙ ap (λ l. words_view tokens c.loop-constructor.words.items ++ flat_map variables_in (map (type_view tokens) l))
    c.deref.ensures.value
    ∙ ap (λ z. words_view tokens c.loop-constructor.words.items ++ z)
    (sym (all_list (map (type_view tokens) k.arguments.items))))

pub returns : goal.returns
returns c = λ tokens.
    c.loop-constructor.invariant tokens
    ∙ ap (λ l. flat_map constructor_variables (map (constructor_view tokens) l))
    (take_all c.loop-constructor.constructor-index c.args.constructors.now (omega arith))
