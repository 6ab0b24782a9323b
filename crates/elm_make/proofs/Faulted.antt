-- The faults of modules, one after another.
use Rattle.std.proofs.Common.{◌≡◌, List, [], ◌∷◌, ◌++◌, map, Option, sym, ap, ◌∙◌}
use Rattle.std.specs.Prelude.{flat_map}
use Rattle.std.proofs.lemmas.List.{append_assoc, append-nil}
use Rattle.module_compile.specs.declared.made.Made.{Made}
use Rattle.project_parts.specs.Outcomes.{faults_of}
use Rattle.elm_make.specs.ProjectCompileView.{value_view}

pub faults_more : (vs : List (Option Made)) (v : Option Made)
    → flat_map faults_of (map value_view (vs ++ v ∷ [])) ≡ flat_map faults_of (map value_view vs) ++ faults_of
    (value_view v)
faults_more [] v = append-nil (faults_of (value_view v))
faults_more (u ∷ vs) v =
    ap (λ fs. faults_of (value_view u) ++ fs) (faults_more vs v)
    ∙ sym (append_assoc (faults_of (value_view u)) (flat_map faults_of (map value_view vs)) (faults_of (value_view v)))
