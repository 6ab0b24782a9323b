-- What patterns bind, after the statements that stand before.
use Rattle.std.specs.Prelude.{ℕ, suc, List, [], ◌∷◌, Option, Some, None}
use Rattle.elm_canon.specs.Names.{Name}
use Rattle.elm_canon.specs.Tree.{Pattern, Anything, Named, As, Exactly, Construct, FieldsOf, LocatedPattern, Patterns}
use Rattle.elm_canon.specs.Tree.{NoPattern, MorePattern}
use Rattle.js_tree.specs.Tree.{Local, Made, Js, JVar, JProperty}
use Rattle.js_tree.specs.Postorder.{Before, NoStatement, ConstThen}
use Rattle.js_emit.specs.Names.{part_name}

-- the part of a part, and so on, by their numbers
abbrev pub path_js : Js → List ℕ → Js
path_js e [] = e
path_js e (i ∷ is) = path_js (JProperty e (part_name i)) is

abbrev pub fields_before : Before → List Name → Js → Before
fields_before before [] path = before
fields_before before (x ∷ xs) path = fields_before (ConstThen before (Local x) (JProperty path x)) xs path

abbrev mutual
  pub consts_before : Before → Pattern → Js → Before
  consts_before before Anything path = before
  consts_before before (Named x) path = ConstThen before (Local x) path
  consts_before before (As p x) path = ConstThen (consts_before before p path) (Local x) path
  consts_before before (Exactly l) path = before
  consts_before before (Construct u a ps) path = parts_before before 0 ps path
  consts_before before (FieldsOf xs) path = fields_before before xs path
  consts_before before (LocatedPattern place p) path = consts_before before p path

  -- of the parts from the i-th on
  pub parts_before : Before → ℕ → Patterns → Js → Before
  parts_before before i NoPattern path = before
  parts_before before i (MorePattern p ps) path =
      parts_before (consts_before before p (JProperty path (part_name i))) (suc i) ps path

-- the name that is the whole of a pattern
abbrev pub own_name : Pattern → Option Name
own_name (Named x) = Some x
own_name (LocatedPattern place p) = own_name p
own_name _ = None

abbrev pub parameter_before : ℕ → Pattern → Option Name → Before
parameter_before d p None = consts_before NoStatement p (JVar (Made d))
parameter_before d p (Some x) = NoStatement
