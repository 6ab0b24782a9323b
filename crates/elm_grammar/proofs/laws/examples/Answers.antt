-- Each text has the tree that the search for a derivation finds.
use Rattle.std.specs.Prelude.{refl}
use Rattle.elm_grammar.specs.Values.{takes, gives, act}
use Rattle.elm_grammar.proofs.laws.examples.Goals as goal

pub returns : goal.returns
unfolding takes gives act
returns c = record {
  negative_argument = refl;
  difference = refl;
  tight_difference = refl;
  negated_function = refl;
  minus_apart = refl;
  minus_function = refl;
  bracketed_negative = refl;
  flat_chain = refl;
  accesses = refl;
  bracket_access = refl;
  updated = refl;
  last_operand = refl;
  branches = refl;
  other_column = refl;
  in_let = refl;
  arrow_type = refl;
  named_pattern = refl;
  alias_name = refl;
  port_module = refl;
}
