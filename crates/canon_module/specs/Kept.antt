-- What the program keeps of a module's setting.
use Rattle.std.specs.Prelude.{List, map}
use Rattle.elm_lexer.specs.Tokens.{Token}
use Rattle.canon_env.specs.Env.{known_view}
use Rattle.canon_env.specs.Exposing.{written_view}
use Rattle.canon_env.specs.Shown.{unions_view}
use Rattle.canon_module.specs.Resolve.{Setting}
use Rattle.canon_module.specs.declared.module.Setting as program

abbrev pub setting_view : List Token → program.Setting → Setting
setting_view tokens s = record {
  home = s.home.now;
  given = unions_view s.given.now;
  imports = map known_view s.imports.now;
  written = map (written_view tokens) s.written.now;
}
