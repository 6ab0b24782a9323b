use Rattle.std.proofs.Common.{◌≡◌, List, map, take}
use Rattle.elm_lexer.specs.Tokens.{Token}
use Rattle.canon_env.specs.Exposing.{written_view}
use Rattle.module_compile.specs.Settings.{seen_written}
use Rattle.module_compile.proofs.setting.all_written.Given as goal

abbrev pub invariant-loop-one : goal.invariant-loop-one
invariant-loop-one l =
    (tokens : List Token)
    → map (written_view tokens) l.written.items ≡ map (seen_written tokens) (take l.one-index l.seen)
