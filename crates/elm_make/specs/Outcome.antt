-- What a finished build is.
use Rattle.std.specs.Prelude.{◌≡◌, ℕ, List, Option, Some, None, map}
use Rattle.link.specs.Link.{Part, link}
use Rattle.link.specs.Programs.{Source, part_of}
use Rattle.project_parts.specs.Outcomes.{Outcome, Faulty, Text, IsLinked}
use Rattle.elm_make.specs.declared.finishing.Finished.{Finished}
use Rattle.elm_make.specs.declared.finishing.Finished.TheVariants as finished

abbrev pub outcome_of : Finished → Outcome
outcome_of (finished.Faulty fs) = Faulty fs.items
outcome_of (finished.Text bytes) = Text bytes.items

-- ---- for private clauses

-- what is linked was made of resolved modules
abbrev pub AreOfSources : List Part → Type 0
AreOfSources qs = (sources : List Source) × (map part_of sources ≡ qs)

-- what the modules link to, where all are good; and nothing where one is not
abbrev pub IsLinkOf : ℕ → Option (List Part) → Option Finished → Type 0
IsLinkOf entry (Some qs) (Some f) = IsLinked (link qs entry) (outcome_of f)
IsLinkOf entry (Some qs) None = ⊥
IsLinkOf entry None (Some f) = ⊥
IsLinkOf entry None None = Unit {0}
