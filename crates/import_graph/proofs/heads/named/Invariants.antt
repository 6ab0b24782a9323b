use Rattle.std.specs.Prelude.{◌≡◌, map, take}
use Rattle.elm_lexer.specs.View.{token_view}
use Rattle.elm_tree.specs.View as tree
use Rattle.import_graph.specs.Heads.{word_of}
use Rattle.import_graph.specs.Words.{word_view}
use Rattle.import_graph.proofs.heads.named.Given as goal

-- the names so far
abbrev pub invariant-loop-import : goal.invariant-loop-import
invariant-loop-import l = map word_view l.names.items ≡ map (λ i. word_of (tree.word_view (map token_view l.tokens) i.name)) (take l.import-index l.imports)
