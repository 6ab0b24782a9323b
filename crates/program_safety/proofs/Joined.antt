-- What meets a condition, and obeys another, obeys a third that follows from both.
use Rattle.std.proofs.Common.{inl, inr}
use Rattle.elm_canon.specs.Unions.{Union}
use Rattle.elm_canon.specs.declared.unions.Alternative.{Alternative}
use Rattle.elm_canon.specs.Tree.{Pattern, Anything, Named, As, Exactly, Construct, FieldsOf, LocatedPattern, Patterns}
use Rattle.elm_canon.specs.Tree.{NoPattern, MorePattern, Op, TupleOf, ListOf, Build, RecordOf, Access, Update, Negate}
use Rattle.elm_canon.specs.Tree.{Binary, Expr, Is, NameOf, Accessor, Lambda, Apply, Strict, If, Logical, Let, Case}
use Rattle.elm_canon.specs.Tree.{Located, Exprs, NoExpr, MoreExpr, Branches, NoBranch, MoreBranch, Groups, NoGroup}
use Rattle.elm_canon.specs.Tree.{MoreGroup, Group, Together, Constant, Destructure, Functions, NoFunction, MoreFunction}
use Rattle.elm_canon.specs.Mentions.{Condition, PatternTakes, PatternsTake, OpBuilds, Mentions, MentionEach}
use Rattle.elm_canon.specs.Mentions.{BranchesMention, GroupsMention, GroupMentions, FunctionsMention}
use Rattle.elm_canon.specs.Obeys.{Mapping, Obeys, ObeyEach, BranchesObey, BranchesMap, GroupsObey, GroupObeys}
use Rattle.elm_canon.specs.Obeys.{FunctionsObey}

module _ (P Q R B C D : Condition) (takes : (u : Union) (c : Alternative) → P u c → Q u c → R u c)
    (builds : (u : Union) (c : Alternative) → B u c → C u c → D u c) (M N : Mapping)
    (maps : (q : Pattern) (e : Expr) (r : Pattern) → PatternTakes P q → PatternTakes P r → M q e r → N q e r) where
  mutual
    pattern : (q : Pattern) → PatternTakes P q → PatternTakes Q q → PatternTakes R q
    pattern Anything f g = tt
    pattern (Named x) f g = tt
    pattern (As q x) f g = pattern q f g
    pattern (Exactly l) f g = tt
    pattern (Construct u c qs) f g = (takes u c f.0 g.0, patterns qs f.1 g.1)
    pattern (FieldsOf xs) f g = tt
    pattern (LocatedPattern pos q) f g = pattern q f g

    patterns : (qs : Patterns) → PatternsTake P qs → PatternsTake Q qs → PatternsTake R qs
    patterns NoPattern f g = tt
    patterns (MorePattern q qs) f g = (pattern q f.0 g.0, patterns qs f.1 g.1)

  operation : (op : Op) → OpBuilds B op → OpBuilds C op → OpBuilds D op
  operation TupleOf f g = tt
  operation ListOf f g = tt
  operation (Build pos u c) f g = builds u c f g
  operation (RecordOf xs) f g = tt
  operation (Access x) f g = tt
  operation (Update xs) f g = tt
  operation Negate f g = tt
  operation (Binary pos op) f g = tt

  mutual
    expression : (e : Expr) → Mentions P B e → Obeys Q C M e → Obeys R D N e
    expression (Is l) f g = tt
    expression (NameOf x) f g = tt
    expression (Accessor x) f g = tt
    expression (Lambda qs e) f g = (patterns qs f.0 g.0, expression e f.1 g.1)
    expression (Apply h es) f g = (expression h f.0 g.0, each es f.1 g.1)
    expression (Strict op es) f g = (operation op f.0 g.0, each es f.1 g.1)
    expression (If c a b) f g = (expression c f.0 g.0, (expression a f.1.0 g.1.0, expression b f.1.1 g.1.1))
    expression (Logical pos op a b) f g = (expression a f.0 g.0, expression b f.1 g.1)
    expression (Let gs e) f g = (groups gs f.0 g.0, expression e f.1 g.1)
    expression (Case e bs) f g = (
      expression e f.0 g.0,
      elim g.1 [
        | inl all ↦ inl (branches bs f.1 all)
        | inr map ↦ inr (mapping bs f.1 map)
      ],
    )
    expression (Located pos e) f g = expression e f g

    each : (es : Exprs) → MentionEach P B es → ObeyEach Q C M es → ObeyEach R D N es
    each NoExpr f g = tt
    each (MoreExpr e es) f g = (expression e f.0 g.0, each es f.1 g.1)

    branches : (bs : Branches) → BranchesMention P B bs → BranchesObey Q C M bs → BranchesObey R D N bs
    branches NoBranch f g = tt
    branches (MoreBranch q e bs) f g = (pattern q f.0 g.0, (expression e f.1.0 g.1.0, branches bs f.1.1 g.1.1))

    mapping : (bs : Branches) → BranchesMention P B bs → BranchesMap Q C M bs → BranchesMap R D N bs
    mapping NoBranch f g = absurd g
    mapping (MoreBranch q e NoBranch) f g = absurd g
    mapping (MoreBranch q e (MoreBranch r b NoBranch)) f g =
        (maps q e r f.0 f.1.1.0 g.0, expression b f.1.1.1.0 g.1)
    mapping (MoreBranch q e (MoreBranch r b (MoreBranch s c bs))) f g = absurd g

    groups : (gs : Groups) → GroupsMention P B gs → GroupsObey Q C M gs → GroupsObey R D N gs
    groups NoGroup f g = tt
    groups (MoreGroup h gs) f g = (group h f.0.1 g.0, groups gs f.1 g.1)

    pub group : (h : Group) → GroupMentions P B h → GroupObeys Q C M h → GroupObeys R D N h
    group (Together fs) f g = functions fs f g
    group (Constant title e) f g = expression e f g
    group (Destructure q e) f g = (pattern q f.0 g.0, expression e f.1 g.1)

    functions : (fs : Functions) → FunctionsMention P B fs → FunctionsObey Q C M fs → FunctionsObey R D N fs
    functions NoFunction f g = tt
    functions (MoreFunction title qs e fs) f g =
        ((patterns qs f.0.0 g.0.0, expression e f.0.1 g.0.1), functions fs f.1 g.1)
