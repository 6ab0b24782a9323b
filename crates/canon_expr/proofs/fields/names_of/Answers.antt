-- One name more.
use Rattle.std.proofs.Common.{map, arith, ap, ◌∙◌}
use Rattle.std.proofs.lemmas.List.{take_all}
use Rattle.elm_tree.specs.View.{words_view}
use Rattle.elm_tree.specs.Turns.{tokens_view}
use Rattle.canon_env.specs.Imports.{name_of}
use Rattle.canon_expr.proofs.fields.names_of.Goals as goal

pub returns : goal.returns
returns c =
    c.loop-word.invariant
    ∙ ap (λ l. map name_of (words_view (tokens_view c.args.tokens.now) l))
    (take_all c.loop-word.word-index c.args.words.now (omega arith))
