-- What holds of missing and redundant patterns.
use Rattle.std.specs.Prelude.{◌≡◌, List, ◌∷◌, ◌++◌, map, length, Some, None, ◌↔◌}
use Rattle.std.specs.List.{Contains}
use Rattle.elm_canon.specs.Tree as plain
use Rattle.elm_canon.specs.Proper.{ProperPattern}
use Rattle.pattern_check.specs.Shapes.{Shape, shape_of, written, IsProper, OfOneType, IsMissing, Misses, IsRedundant}
use Rattle.pattern_check.specs.Missing.{missing, redundant}

-- the patterns are of one type
abbrev pub PatternsOfOneType : List plain.Pattern → Type 0
PatternsOfOneType ps = OfOneType (map shape_of ps)

-- the pattern that is reported is that of a missing shape
abbrev pub ReportsMissing : Type 0
ReportsMissing =
    (ps : List plain.Pattern) → PatternsOfOneType ps → (q : plain.Pattern) → missing ps ≡ Some q
    → (s : Shape) × IsMissing (map shape_of ps) s × (q ≡ written s)

-- where nothing is reported, nothing is missing
abbrev pub ReportsAll : Type 0
ReportsAll = (ps : List plain.Pattern) → PatternsOfOneType ps → missing ps ≡ None → Misses (map shape_of ps) → ⊥

-- a place is among the redundant ones exactly where the pattern there is redundant after those before it
abbrev pub TellsRedundant : Type 0
TellsRedundant =
    (earlier : List plain.Pattern) (p : plain.Pattern) (later : List plain.Pattern)
    → PatternsOfOneType (earlier ++ p ∷ later)
    → Contains (redundant (earlier ++ p ∷ later)) (length earlier) ↔ IsRedundant (map shape_of earlier) (shape_of p)

-- the shape of a proper pattern is proper
abbrev pub ProperShapes : Type 0
ProperShapes = (p : plain.Pattern) → ProperPattern p → IsProper (shape_of p)
