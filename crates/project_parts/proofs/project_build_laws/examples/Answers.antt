use Rattle.std.specs.Prelude.{refl}
use Rattle.std.specs.Fmt.{digits}
use Rattle.std.specs.Str.{is_utf8, chars}
use Rattle.serde_json.proofs.OnLiterals.{serde_json_on_literals}
use Rattle.canon_env.specs.Imports.{default_imports, more_imports}
use Rattle.project_parts.proofs.project_build_laws.examples.Goals as goal

pub returns-clause-defaults : goal.returns-clause-defaults
unfolding default_imports more_imports
returns-clause-defaults c = refl

pub returns-clause-line : goal.returns-clause-line
unfolding digits
returns-clause-line c = refl

pub returns-clause-older : goal.returns-clause-older
unfolding is_utf8 chars serde_json_on_literals
returns-clause-older c = refl
