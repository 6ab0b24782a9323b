use Rattle.std.proofs.Common.{◌≡◌, ◌++◌, map, drop}
use Rattle.elm_lexer.specs.View.{token_view}
use Rattle.elm_grammar.specs.Classes.{classed, classed_from}
use Rattle.elm_grammar.proofs.classes.classed.Given as goal

abbrev pub invariant-loop-index : goal.invariant-loop-index
invariant-loop-index l =
    l.classes.items ++ classed_from l.index l.before (map token_view (drop l.index l.tokens))
    ≡ classed (map token_view l.tokens)
