-- What names give of expressions is what the safety of typed programs asks, but for the check of patterns.
use Rattle.std.proofs.Common.{ℕ, List, [], ◌∷◌, inl, inr}
use Rattle.std.specs.List.{AllByRecursion}
use Rattle.elm_canon.specs.Tree.{Pattern, Anything, Named, As, Exactly, Construct, FieldsOf, LocatedPattern, Patterns}
use Rattle.elm_canon.specs.Tree.{NoPattern, MorePattern, Op, TupleOf, ListOf, Build, RecordOf, Access, Update, Negate}
use Rattle.elm_canon.specs.Tree.{Binary, Expr, Is, NameOf, Accessor, Lambda, Apply, Strict, If, Logical, Let, Case}
use Rattle.elm_canon.specs.Tree.{Located}
use Rattle.elm_canon.specs.Tree.{Exprs, NoExpr, MoreExpr, Branches, NoBranch, MoreBranch, Groups, NoGroup, MoreGroup}
use Rattle.elm_canon.specs.Tree.{Group, Together, Constant, Destructure, Functions, NoFunction, MoreFunction}
use Rattle.elm_canon.specs.Tree.{Declaration, Given, Define}
use Rattle.elm_canon.specs.Proper.{Scope, with_all, bound_by, all_bound_by, after, group_names, function_names}
use Rattle.elm_canon.specs.Proper.{ProperPattern, ProperPatterns, ProperOp, count_exprs, Proper, AllProper}
use Rattle.elm_canon.specs.Proper.{ProperBranches, ProperGroups, ProperGroup, ProperFunctions}
use Rattle.elm_canon.specs.Declarations.{ProperDeclarations}
use Rattle.elm_canon.specs.Mentions.{PatternTakes, PatternsTake, OpBuilds}
use Rattle.elm_canon.specs.Obeys.{Obeys, ObeyEach, BranchesObey, BranchesMap, GroupsObey, GroupObeys, FunctionsObey}
use Rattle.elm_canon.specs.Obeys.{DeclarationObeys}
use Rattle.elm_canon.specs.Apart.{LetsApart, AllLetsApart, BranchesApart, GroupsApart, GroupApart, FunctionsApart}
use Rattle.typed_values.specs.World.{World, Declares, Makes}
use Rattle.typed_values.specs.Simple.{IsPattern, ArePatterns, IsOperation, MapsPorts}
use Rattle.type_safety.specs.Modules.{groups_in}
use Rattle.type_safety.specs.Resolved.{Resolved, ResolvedEach, ResolvedBranches, ResolvedGroups, ResolvedGroup}
use Rattle.type_safety.specs.Resolved.{ResolvedMap, ResolvedFunctions}
use Rattle.told_modules.specs.Resolved.{PatternHasFields, PatternsHaveFields, OpHasFields, HasFields, EachHasFields}
use Rattle.told_modules.specs.Resolved.{BranchesHaveFields, GroupsHaveFields, GroupHasFields, FunctionsHaveFields}
use Rattle.told_modules.specs.Resolved.{DeclarationApart, DeclarationHasFields, ResolvedAreTyped}
use Rattle.told_modules.proofs.Lets.{lets_apart, lets_earlier}

module _ (w : World) where
  mutual
    pattern_is : (q : Pattern) → ProperPattern q → PatternTakes (Declares w) q → PatternHasFields q → IsPattern w q
    pattern_is Anything p t f = tt
    pattern_is (Named x) p t f = tt
    pattern_is (As q x) p t f = pattern_is q p.0 t f
    pattern_is (Exactly l) p t f = tt
    pattern_is (Construct u c qs) p t f = (t.0, p.1.0, patterns_are qs p.1.1 t.1 f)
    pattern_is (FieldsOf xs) p t f = (p, f)
    pattern_is (LocatedPattern pos q) p t f = pattern_is q p t f

    patterns_are : (qs : Patterns) → ProperPatterns qs → PatternsTake (Declares w) qs → PatternsHaveFields qs
        → ArePatterns w qs
    patterns_are NoPattern p t f = tt
    patterns_are (MorePattern q qs) p t f = (pattern_is q p.0 t.0 f.0, patterns_are qs p.1 t.1 f.1)

  operation : (op : Op) (n : ℕ) → ProperOp op n → OpBuilds (Makes w) op → OpHasFields op → IsOperation w op n
  operation TupleOf n p b f = p
  operation ListOf n p b f = p
  operation (Build pos u c) n p b f = (b, p.1)
  operation (RecordOf xs) n p b f = p
  operation (Access x) n p b f = p
  operation (Update xs) n p b f = ((p.0, f), p.1)
  operation Negate n p b f = p
  operation (Binary pos op) n p b f = p

  mutual
    resolved : (e : Expr) (scope : Scope) → Proper scope e → Obeys (Declares w) (Makes w) (MapsPorts w) e
        → LetsApart e → HasFields e → Resolved w e
    resolved (Is l) scope p m a f = tt
    resolved (NameOf x) scope p m a f = tt
    resolved (Accessor x) scope p m a f = tt
    resolved (Lambda qs e) scope p m a f =
        (p.0, patterns_are qs p.1.0.0 m.0 f.0, resolved e (with_all (all_bound_by qs) scope) p.1.1 m.1 a f.1)
    resolved (Apply g es) scope p m a f =
        (resolved g scope p.0 m.0 a.0 f.0, each_resolved es scope p.1 m.1 a.1 f.1)
    resolved (Strict op es) scope p m a f =
        (operation op (count_exprs es) p.0 m.0 f.0, each_resolved es scope p.1 m.1 a f.1)
    resolved (If c x y) scope p m a f = (
      resolved c scope p.0 m.0 a.0 f.0,
      resolved x scope p.1.0 m.1.0 a.1.0 f.1.0,
      resolved y scope p.1.1 m.1.1 a.1.1 f.1.1,
    )
    resolved (Logical pos op x y) scope p m a f =
        (resolved x scope p.0 m.0 a.0 f.0, resolved y scope p.1 m.1 a.1 f.1)
    resolved (Let gs e) scope p m a f = (
      lets_apart gs scope p.0,
      lets_earlier gs scope p.0 a.0,
      groups_resolved gs scope p.0 m.0 a.1.0 f.0,
      resolved e (after gs scope) p.1 m.1 a.1.1 f.1,
    )
    resolved (Case e bs) scope p m a f = (
      resolved e scope p.0 m.0 a.0 f.0,
      elim m.1 [
        | inl all ↦ inl (branches_resolved bs scope p.1 all a.1 f.1)
        | inr maps ↦ inr (map_resolved bs scope p.1 maps a.1 f.1)
      ],
    )
    resolved (Located pos e) scope p m a f = resolved e scope p m a f

    each_resolved : (es : Exprs) (scope : Scope) → AllProper scope es
        → ObeyEach (Declares w) (Makes w) (MapsPorts w) es → AllLetsApart es → EachHasFields es → ResolvedEach w es
    each_resolved NoExpr scope p m a f = tt
    each_resolved (MoreExpr e es) scope p m a f =
        (resolved e scope p.0 m.0 a.0 f.0, each_resolved es scope p.1 m.1 a.1 f.1)

    branches_resolved : (bs : Branches) (scope : Scope) → ProperBranches scope bs
        → BranchesObey (Declares w) (Makes w) (MapsPorts w) bs → BranchesApart bs → BranchesHaveFields bs
        → ResolvedBranches w bs
    branches_resolved NoBranch scope p m a f = tt
    branches_resolved (MoreBranch q e bs) scope p m a f = (
      pattern_is q p.0.0 m.0 f.0,
      resolved e (with_all (bound_by q) scope) p.1.0 m.1.0 a.0 f.1.0,
      branches_resolved bs scope p.1.1 m.1.1 a.1 f.1.1,
    )

    map_resolved : (bs : Branches) (scope : Scope) → ProperBranches scope bs
        → BranchesMap (Declares w) (Makes w) (MapsPorts w) bs → BranchesApart bs → BranchesHaveFields bs
        → ResolvedMap w bs
    map_resolved NoBranch scope p m a f = absurd m
    map_resolved (MoreBranch q e NoBranch) scope p m a f = absurd m
    map_resolved (MoreBranch q e (MoreBranch r b NoBranch)) scope p m a f =
        (m.0, resolved b (with_all (bound_by r) scope) p.1.1.1.0 m.1 a.1.0 f.1.1.1.0)
    map_resolved (MoreBranch q e (MoreBranch r b (MoreBranch s c bs))) scope p m a f = absurd m

    groups_resolved : (gs : Groups) (scope : Scope) → ProperGroups scope gs
        → GroupsObey (Declares w) (Makes w) (MapsPorts w) gs → GroupsApart gs → GroupsHaveFields gs
        → ResolvedGroups w gs
    groups_resolved NoGroup scope p m a f = tt
    groups_resolved (MoreGroup g gs) scope p m a f = (
      group_resolved g scope p.0 m.0 a.0 f.0,
      groups_resolved gs (with_all (group_names g) scope) p.1 m.1 a.1 f.1,
    )

    group_resolved : (g : Group) (scope : Scope) → ProperGroup scope g
        → GroupObeys (Declares w) (Makes w) (MapsPorts w) g → GroupApart g → GroupHasFields g → ResolvedGroup w g
    group_resolved (Together fs) scope p m a f =
        functions_resolved fs (with_all (function_names fs) scope) p.1 m a f
    group_resolved (Constant title e) scope p m a f = resolved e scope p.1.1 m a f
    group_resolved (Destructure q e) scope p m a f =
        (pattern_is q p.0.0 m.0 f.0, resolved e scope p.1 m.1 a f.1)

    functions_resolved : (fs : Functions) (scope : Scope) → ProperFunctions scope fs
        → FunctionsObey (Declares w) (Makes w) (MapsPorts w) fs → FunctionsApart fs → FunctionsHaveFields fs
        → ResolvedFunctions w fs
    functions_resolved NoFunction scope p m a f = tt
    functions_resolved (MoreFunction title qs e fs) scope p m a f = (
      p.1.0,
      (
        patterns_are qs p.1.1.0.0 m.0.0 f.0.0,
        resolved e (with_all (all_bound_by qs) scope) p.1.1.1.0 m.0.1 a.0 f.0.1,
      ),
      functions_resolved fs scope p.1.1.1.1 m.1 a.1 f.1,
    )

  declared_resolved : (ds : List Declaration) (scope : Scope) → ProperDeclarations scope ds
      → AllByRecursion (DeclarationObeys (Declares w) (Makes w) (MapsPorts w)) ds → AllByRecursion DeclarationApart ds
      → AllByRecursion DeclarationHasFields ds → ResolvedGroups w (groups_in ds)
  declared_resolved [] scope p m a f = tt
  declared_resolved (Given r k ∷ ds) scope p m a f = declared_resolved ds (r ∷ scope) p.1 m.1 a.1 f.1
  declared_resolved (Define g ∷ ds) scope p m a f = (
    group_resolved g scope p.0.1 m.0 a.0 f.0,
    declared_resolved ds (with_all (group_names g) scope) p.1 m.1 a.1 f.1,
  )

pub resolved_typed : ResolvedAreTyped
resolved_typed w ds is = declared_resolved w ds is.scope is.proper is.obey is.apart is.fields
