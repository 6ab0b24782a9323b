-- The faults of patterns: a `case` that leaves something out, a branch that earlier branches cover, and a parameter or
-- what a definition takes apart that leaves something out.
use Rattle.std.specs.Prelude.{ℕ, List, [], ◌∷◌, ◌++◌, map, flat_map, get_or, Option, Some, None, option_map}
use Rattle.elm_base.specs.declared.fault.Code.{Code}
use Rattle.elm_base.specs.declared.fault.Code.TheVariants.{MissingPatterns, RedundantPattern, PartialParameter}
use Rattle.elm_base.specs.declared.position.Pos.{Pos}
use Rattle.elm_canon.specs.Names.{Name}
use Rattle.elm_canon.specs.Tree.{Pattern, Anything, LocatedPattern, Module}
use Rattle.canon_env.specs.declared.finding.Finding.{Finding}
use Rattle.canon_env.specs.Sites.{finding, utf8}
use Rattle.pattern_check.specs.Missing.{missing, redundant}
use Rattle.pattern_check.specs.Text.{pattern_text}
use Rattle.pattern_check.specs.Sites.{Site, Choice, Sole, module_sites}

-- where a pattern begins that stands at `here` if it does not say
abbrev pub place_of : Pos → Pattern → Pos
place_of here (LocatedPattern place q) = place
place_of here _ = here

-- a fault that tells a text, if there is one
abbrev pub told : Code → Pos → Option Name → List Finding
told code place None = []
told code place (Some text) = finding code place (utf8 text) ∷ []

-- if the patterns leave something out, the pattern that is reported missing
abbrev pub missing_faults : Code → Pos → List Pattern → List Finding
missing_faults code place qs = told code place (option_map pattern_text (missing qs))

-- at the pattern with that number, from 0 on
abbrev pub redundant_fault : Pos → List Pattern → ℕ → Finding
redundant_fault here qs n = finding RedundantPattern (place_of here (get_or qs n Anything)) []

abbrev pub redundant_faults : Pos → List Pattern → List Finding
redundant_faults here qs = map (redundant_fault here qs) (redundant qs)

-- the faults at a site
unfoldable pub faults_at : Site → List Finding
faults_at (Choice here qs) = missing_faults MissingPatterns here qs ++ redundant_faults here qs
faults_at (Sole here q) = missing_faults PartialParameter (place_of here q) (q ∷ [])

abbrev pub faults : List Site → List Finding
faults sites = flat_map faults_at sites

abbrev pub module_faults : Module → List Finding
module_faults m = faults (module_sites m)
