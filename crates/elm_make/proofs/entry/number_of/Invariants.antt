use Rattle.std.specs.Prelude.{◌≡◌, map, drop}
use Rattle.std.specs.List.{position_from}
use Rattle.std.specs.Str.{bytes_eq}
use Rattle.project_parts.specs.Modules as build
use Rattle.project_parts.specs.Modules.{name_of}
use Rattle.project_parts.specs.View.{part_view}
use Rattle.elm_make.proofs.entry.number_of.Given as goal

-- the name is none of those that were looked at
abbrev pub invariant-loop-number : goal.invariant-loop-number
invariant-loop-number l =
    build.number_of (map part_view l.parts) l.name
    ≡ position_from (bytes_eq l.name) l.number (map name_of (map part_view (drop l.number l.parts)))
