-- One field more, and then all: `words_of_parts`.
use Rattle.std.proofs.Common.{map, take, sym, ap, ◌∙◌, arith}
use Rattle.elm_tree.specs.Tree.{Word}
use Rattle.elm_tree.specs.View.{WordExpr, word_view, part_view}
use Rattle.elm_tree.proofs.Views as views
use Rattle.canon_env.proofs.Filtering.{pushed, map_map_next}
use Rattle.canon_expr.proofs.Steps.{take_all}
use Rattle.canon_expr.proofs.Fielding.{words_of_parts}
use Rattle.canon_expr.proofs.fields.part_words.Goals as goal

abbrev first : WordExpr → Word
first p = p.0

pub loop-field-preserved : goal.loop-field-preserved
loop-field-preserved c = λ tokens.
    let field = c.field-item.result in
    pushed (word_view tokens) c.loop-field.words.items c.put.new.items.items field.word
    (map first (map (part_view tokens) (take c.loop-field.field-index c.args.fields.now))) (first (part_view tokens field))
    c.in_ok-put.ensures (c.loop-field.invariant tokens) (sym (ap first (views.part_of tokens field)))
    ∙ sym (map_map_next first (part_view tokens) c.args.fields.now c.loop-field.field-index field (omega arith)
    c.field-item.is)

pub returns : goal.returns
returns c = λ tokens.
    let view = part_view tokens in
    c.loop-field.invariant tokens
    ∙ ap (λ fs. map first (map view fs)) (take_all c.loop-field.field-index c.args.fields.now (omega arith))
    ∙ sym (words_of_parts (map view c.args.fields.now))
