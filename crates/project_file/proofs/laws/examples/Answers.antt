-- Each path and each file is read by the definitions themselves.
use Rattle.std.specs.Prelude.{refl}
use Rattle.std.specs.Str.{is_utf8, chars}
use Rattle.serde_json.proofs.OnLiterals.{serde_json_on_literals}
use Rattle.project_file.proofs.laws.examples.Goals as goal

pub returns : goal.returns
unfolding is_utf8 chars serde_json_on_literals
returns c = record {
  normal = refl;
  below = refl;
  not_below = refl;
  of_module = refl;
  once = refl;
  of_folder = refl;
  no_version = refl;
  wrong_version = refl;
  version_no_text = refl;
  other_type = refl;
  no_type = refl;
  absolute = refl;
  no_directories = refl;
  no_text = refl;
  no_object = refl;
  unread = refl;
}
