-- The faults where a constructor stands in a pattern.
use Rattle.std.specs.Prelude.{ℕ, List}
use Rattle.elm_base.specs.declared.fault.Code.TheVariants.{UnknownConstructor}
use Rattle.elm_tree.specs.Tree.{Long}
use Rattle.canon_env.specs.declared.finding.Finding.{Finding}
use Rattle.canon_env.specs.Naming.{World, maker_found}
use Rattle.canon_env.specs.Sites.{unless_one, match_faults}

-- with so many patterns
abbrev pub match_faults_at : World → Long → ℕ → List Finding
match_faults_at w x n = unless_one UnknownConstructor x (maker_found w x) (match_faults x n)
