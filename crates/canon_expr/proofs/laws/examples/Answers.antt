-- Each is computed.
use Rattle.std.specs.Prelude.{refl}
use Rattle.std.specs.Str.{chars}
use Rattle.elm_tree.specs.Regroup.{row_of, grouped}
use Rattle.canon_expr.specs.Operators.{meaning_of}
use Rattle.canon_expr.proofs.laws.examples.Goals as goal

pub returns : goal.returns
unfolding chars row_of grouped meaning_of
returns c = record {
  each_means = refl;
  cons_function = refl;
  piped_last = refl;
  piped_twice = refl;
  builds = refl;
  wants_more = refl;
  to_the_left = refl;
  to_the_right = refl;
  decided = refl;
  power = refl;
}
