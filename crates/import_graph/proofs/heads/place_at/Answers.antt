-- The token of a word, or none: `token_there`, `no_token_there`.
use Rattle.std.proofs.Common.{ap}
use Rattle.elm_tree.specs.Words.{pos_of}
use Rattle.import_graph.proofs.ModuleHeadsPlaces.{token_there, no_token_there}
use Rattle.import_graph.proofs.heads.place_at.Goals as goal

pub returns-in-Some : goal.returns-in-Some
returns-in-Some c = ap pos_of (token_there c.args.tokens.now c.args.word.index c.in-Some.token.now c.in-Some.ensures.lookup.0 c.in-Some.ensures.lookup.1)

pub returns-in-None : goal.returns-in-None
returns-in-None c = ap pos_of (no_token_there c.args.tokens.now c.args.word.index c.in-None.ensures.lookup.0)
