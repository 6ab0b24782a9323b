-- Along a derivation: `module_results`.
use Rattle.elm_grammar.proofs.Walking.{module_results}
use Rattle.elm_grammar.proofs.parsed_types_laws.results_law.Goals as goal

pub returns : goal.returns
returns c = module_results
