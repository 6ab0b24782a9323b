-- Each text is read, and its faults are listed, by the definitions themselves.
use Rattle.std.specs.Prelude.{refl}
use Rattle.elm_tree.specs.Regroup.{row_of}
use Rattle.elm_parser.specs.Faults.{faults_of}
use Rattle.elm_parser.proofs.elm_faults_laws.examples.Goals as goal

pub returns : goal.returns
unfolding row_of faults_of
returns c = record {
  four_parts = refl;
  three_parts = refl;
  comparisons = refl;
  lone_in_let = refl;
  with_definition = refl;
  lone_at_end = refl;
}
