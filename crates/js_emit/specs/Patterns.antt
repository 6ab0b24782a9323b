-- What patterns bind: a constant for each name, by its path from the value.
use Rattle.std.specs.Prelude.{ℕ, suc, ◌+◌, List, [], ◌∷◌}
use Rattle.elm_canon.specs.Names as source
use Rattle.elm_canon.specs.Tree.{Pattern, Anything, Named, As, Exactly, Construct, FieldsOf, LocatedPattern, Patterns}
use Rattle.elm_canon.specs.Tree.{NoPattern, MorePattern}
use Rattle.js_tree.specs.Tree.{Name, Local, Made, Js, JVar, JArrow, JProperty, Stmts, Const, Return}
use Rattle.js_emit.specs.Names.{part_name}

-- ---- names by their paths

-- each of the fields
abbrev pub field_consts : List source.Name → Js → Stmts → Stmts
field_consts [] path s = s
field_consts (x ∷ xs) path s = Const (Local x) (JProperty path x) (field_consts xs path s)

abbrev mutual
  pub consts : Pattern → Js → Stmts → Stmts
  consts Anything path s = s
  consts (Named x) path s = Const (Local x) path s
  consts (As p x) path s = consts p path (Const (Local x) path s)
  consts (Exactly l) path s = s
  consts (Construct u a ps) path s = part_consts 0 ps path s
  consts (FieldsOf xs) path s = field_consts xs path s
  consts (LocatedPattern place p) path s = consts p path s

  -- of the parts from the i-th on
  pub part_consts : ℕ → Patterns → Js → Stmts → Stmts
  part_consts i NoPattern path s = s
  part_consts i (MorePattern p ps) path s =
      consts p (JProperty path (part_name i)) (part_consts (suc i) ps path s)

-- ---- parameters

-- how many made names it takes
abbrev pub made_one : Pattern → ℕ
made_one (Named x) = 0
made_one (LocatedPattern place p) = made_one p
made_one _ = 1

abbrev pub made_for : Patterns → ℕ
made_for NoPattern = 0
made_for (MorePattern p ps) = made_one p + made_for ps

-- its own name, or the next made one
abbrev pub parameter : ℕ → Pattern → Name
parameter d (Named x) = Local x
parameter d (LocatedPattern place p) = parameter d p
parameter d _ = Made d

-- the names in a parameter that has a made name
abbrev pub parameter_consts : ℕ → Pattern → Stmts → Stmts
parameter_consts d (Named x) s = s
parameter_consts d (LocatedPattern place p) s = parameter_consts d p s
parameter_consts d p s = consts p (JVar (Made d)) s

-- a function for each parameter
abbrev pub arrows : ℕ → Patterns → Stmts → Stmts
arrows d NoPattern s = s
arrows d (MorePattern p ps) s =
    Return (JArrow (parameter d p) (parameter_consts d p (arrows (d + made_one p) ps s)))
