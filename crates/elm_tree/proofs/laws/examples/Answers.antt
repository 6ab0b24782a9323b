-- Each chain is grouped by the definition itself.
use Rattle.std.specs.Prelude.{refl}
use Rattle.elm_tree.specs.Regroup.{row_of, grouped, turns, clashing}
use Rattle.elm_tree.proofs.laws.examples.Goals as goal

pub returns : goal.returns
unfolding row_of grouped turns clashing
returns c = record {
  to_the_left = refl;
  to_the_right = refl;
  by_levels = refl;
  unknown = refl;
  no_sides = refl;
  other_sides = refl;
  lower_between = refl;
  in_turns = refl;
  qualified = refl;
  unqualified = refl;
  of_field = refl;
  number = refl;
}
