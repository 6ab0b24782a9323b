-- The faults of patterns before and after an expression with which something is done.
use Rattle.std.specs.Prelude.{List, [], ◌∷◌, ◌++◌}
use Rattle.elm_base.specs.declared.position.Pos.{Pos}
use Rattle.elm_canon.specs.Tree.{exprs_of}
use Rattle.elm_canon.specs.View as link
use Rattle.elm_canon.specs.View.{LinkView}
use Rattle.canon_env.specs.declared.finding.Finding.{Finding}
use Rattle.pattern_check.specs.Sites.{expr_sites, exprs_sites}
use Rattle.pattern_check.specs.Faults.{faults}

abbrev pub before : Pos → LinkView → List Finding
before here (link.Given f es) = faults (expr_sites here f) ++ faults (exprs_sites here (exprs_of es))
before here (link.Composed f a) = faults (expr_sites here f)
before here (link.After o es) = faults (exprs_sites here (exprs_of es))
before here (link.Before o a) = []
before here (link.Decided place c a) = faults (expr_sites here a)

abbrev pub after : Pos → LinkView → List Finding
after here (link.Given f es) = []
after here (link.Composed f a) = faults (expr_sites here a)
after here (link.After o es) = []
after here (link.Before o a) = faults (expr_sites here a)
after here (link.Decided place c a) = []

-- the last is around all others
abbrev pub before_all : Pos → List LinkView → List Finding
before_all here [] = []
before_all here (l ∷ ls) = before_all here ls ++ before here l
