-- No faults are where every site is covered.
use Rattle.std.proofs.Common.{◌≡◌, List, [], ◌∷◌, ◌++◌, Option, Some, None, map, refl, ap, ◌∙◌}
use Rattle.std.specs.Prelude.{option_map}
use Rattle.elm_base.specs.declared.fault.Code.{Code}
use Rattle.elm_base.specs.declared.fault.Code.TheVariants.{MissingPatterns, PartialParameter}
use Rattle.elm_base.specs.declared.position.Pos.{Pos}
use Rattle.elm_canon.specs.Tree.{Pattern}
use Rattle.pattern_check.specs.Missing.{missing, redundant}
use Rattle.pattern_check.specs.Text.{pattern_text}
use Rattle.pattern_check.specs.Sites.{Site, Choice, Sole, module_sites}
use Rattle.pattern_check.specs.Faults.{told, missing_faults, redundant_faults, redundant_fault, place_of, faults_at, faults}
use Rattle.pattern_check.specs.PatternFaultsLaws.{IsCovered, AreCovered, FaultlessIsCovered}

first_empty : {X : Type 0} (a b : List X) → a ++ b ≡ [] → a ≡ []
first_empty [] b e = refl
first_empty (x ∷ a) b e = absurd cc

second_empty : {X : Type 0} (a b : List X) → a ++ b ≡ [] → b ≡ []
second_empty [] b e = e
second_empty (x ∷ a) b e = absurd cc

nothing_told : (code : Code) (place : Pos) (m : Option Pattern) → told code place (option_map pattern_text m) ≡ [] → m ≡ None
nothing_told code place None e = refl
nothing_told code place (Some q) e = absurd cc

none_mapped : {X Y : Type 0} (f : X → Y) (xs : List X) → map f xs ≡ [] → xs ≡ []
none_mapped f [] e = refl
none_mapped f (x ∷ xs) e = absurd cc

covered_at : (s : Site) → faults_at s ≡ [] → IsCovered s
unfolding faults_at
covered_at (Choice here qs) e = (
  nothing_told MissingPatterns here (missing qs) (first_empty (missing_faults MissingPatterns here qs) (redundant_faults here qs) e),
  none_mapped (redundant_fault here qs) (redundant qs) (second_empty (missing_faults MissingPatterns here qs) (redundant_faults here qs) e),
)
covered_at (Sole here q) e = nothing_told PartialParameter (place_of here q) (missing (q ∷ [])) e

faultless_at : (s : Site) → IsCovered s → faults_at s ≡ []
unfolding faults_at
faultless_at (Choice here qs) h =
    ap (λ m. told MissingPatterns here (option_map pattern_text m) ++ redundant_faults here qs) h.0
    ∙ ap (map (redundant_fault here qs)) h.1
faultless_at (Sole here q) h = ap (λ m. told PartialParameter (place_of here q) (option_map pattern_text m)) h

pub covered : (ss : List Site) → faults ss ≡ [] → AreCovered ss
covered [] e = tt
covered (s ∷ ss) e =
    (covered_at s (first_empty (faults_at s) (faults ss) e), covered ss (second_empty (faults_at s) (faults ss) e))

pub faultless : (ss : List Site) → AreCovered ss → faults ss ≡ []
faultless [] h = refl
faultless (s ∷ ss) h = ap (λ l. l ++ faults ss) (faultless_at s h.0) ∙ faultless ss h.1

pub faultless_is_covered : FaultlessIsCovered
faultless_is_covered m = (covered (module_sites m), faultless (module_sites m))
