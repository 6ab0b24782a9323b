use Rattle.std.proofs.Common.{refl}
use Rattle.std.specs.Fmt.{digits}
use Rattle.js_emit.proofs.laws.texts.Goals as goal

pub returns : goal.returns
unfolding digits
returns c = record {
  sum = refl;
  loop = refl;
  cases = refl;
  tree_of_tests = refl;
  truth_values = refl;
  blocks = refl;
  updates = refl;
  both = refl;
  field = refl;
  out_port = refl;
  in_port = refl;
  primitives = refl;
  line_of_main = refl;
}
