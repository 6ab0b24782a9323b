-- What a read text guarantees of its expressions: the names that they bind can be spelled, their literals are exact, a
-- lambda has a parameter, and no two names of one `let` stand at one place.
use Rattle.std.specs.Prelude.{◌≡◌, List, [], ◌∷◌, Bool, true, false}
use Rattle.std.specs.List.{list_any}
use Rattle.elm_tree.specs.Tree.{Word, Patterns, NoPattern, MorePattern, Expr, Is, Name, Constructor, OperatorName}
use Rattle.elm_tree.specs.Tree.{Accessor, Lambda, Apply, Chain, Negate, If, Case, Let, ListOf, TupleOf, RecordOf}
use Rattle.elm_tree.specs.Tree.{Update}
use Rattle.elm_tree.specs.Tree.{Access, Exprs, NoExpr, MoreExpr, Parts, NoPart, MorePart, Branches, NoBranch}
use Rattle.elm_tree.specs.Tree.{MoreBranch}
use Rattle.elm_tree.specs.Tree.{Definitions, NoDefinition, MoreDefinition, Definition, Annotate, Define, Destructure}
use Rattle.canon_env.specs.Patterns.{literal_of}
use Rattle.canon_expr.specs.Binding.{same_place, bound_in}
use Rattle.elm_canon.specs.Spelled.{is_exact_literal}
use Rattle.canon_proper.specs.Patterns.{IsSpelledWord, AreSpelledWords, IsSpelledPattern, AreSpelledPatterns}

abbrev pub has_parameter : Patterns → Bool
has_parameter NoPattern = false
has_parameter (MorePattern p ps) = true

-- each at a place of its own
abbrev pub StandApart : List Word → Type 0
StandApart [] = Unit {0}
StandApart (x ∷ xs) = (list_any (λ y. same_place x.place y.place) xs ≡ false) × StandApart xs

abbrev mutual
  pub IsSpelled : Expr → Type 0
  IsSpelled (Is p l) = is_exact_literal (literal_of l) ≡ true
  IsSpelled (Name x) = Unit {0}
  IsSpelled (Constructor x) = Unit {0}
  IsSpelled (OperatorName op) = Unit {0}
  IsSpelled (Accessor x) = IsSpelledWord x
  IsSpelled (Lambda p ps e) = (has_parameter ps ≡ true) × (AreSpelledPatterns ps × IsSpelled e)
  IsSpelled (Apply f es) = IsSpelled f × AreSpelled es
  IsSpelled (Chain e ps) = IsSpelled e × AreSpelledOperands ps
  IsSpelled (Negate p e) = IsSpelled e
  IsSpelled (If c a b) = IsSpelled c × (IsSpelled a × IsSpelled b)
  IsSpelled (Case p e bs) = IsSpelled e × AreSpelledBranches bs
  IsSpelled (Let ds e) = StandApart (bound_in ds) × (AreSpelledDefinitions ds × IsSpelled e)
  IsSpelled (ListOf p es) = AreSpelled es
  IsSpelled (TupleOf p es) = AreSpelled es
  IsSpelled (RecordOf p fs) = AreSpelledFields fs
  IsSpelled (Update p r fs) = AreSpelledFields fs
  IsSpelled (Access p e xs) = IsSpelled e × AreSpelledWords xs

  pub AreSpelled : Exprs → Type 0
  AreSpelled NoExpr = Unit {0}
  AreSpelled (MoreExpr e es) = IsSpelled e × AreSpelled es

  -- each after an operator
  pub AreSpelledOperands : Parts → Type 0
  AreSpelledOperands NoPart = Unit {0}
  AreSpelledOperands (MorePart op e ps) = IsSpelled e × AreSpelledOperands ps

  -- of a record
  pub AreSpelledFields : Parts → Type 0
  AreSpelledFields NoPart = Unit {0}
  AreSpelledFields (MorePart x e ps) = IsSpelledWord x × (IsSpelled e × AreSpelledFields ps)

  pub AreSpelledBranches : Branches → Type 0
  AreSpelledBranches NoBranch = Unit {0}
  AreSpelledBranches (MoreBranch p e bs) = IsSpelledPattern p × (IsSpelled e × AreSpelledBranches bs)

  pub AreSpelledDefinitions : Definitions → Type 0
  AreSpelledDefinitions NoDefinition = Unit {0}
  AreSpelledDefinitions (MoreDefinition d ds) = IsSpelledDefinition d × AreSpelledDefinitions ds

  pub IsSpelledDefinition : Definition → Type 0
  IsSpelledDefinition (Annotate x t) = Unit {0}
  IsSpelledDefinition (Define x ps e) = IsSpelledWord x × (AreSpelledPatterns ps × IsSpelled e)
  IsSpelledDefinition (Destructure p e) = IsSpelledPattern p × IsSpelled e
