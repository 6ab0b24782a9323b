-- Records, which may be changes of others.
use Rattle.std.specs.Prelude.{List, [], ◌∷◌, Option, Some, None}
use Rattle.elm_tree.specs.Tree.{Word}
use Rattle.elm_canon.specs.Names.{Name}
use Rattle.elm_canon.specs.Tree.{Expr, Op, RecordOf, Update}
use Rattle.canon_env.specs.Naming.{World}
use Rattle.canon_env.specs.Locals.{Locals}
use Rattle.canon_env.specs.Sites.{Site, ValueUse}
use Rattle.canon_expr.specs.Exprs.{base_value, long_word}

-- the value of the record that is changed, if there is one
abbrev pub base_values : World → Locals → Option Word → List Expr
base_values w locals None = []
base_values w locals (Some r) = base_value w locals r ∷ []

-- the use of its name
abbrev pub base_sites : Locals → Option Word → List Site
base_sites locals None = []
base_sites locals (Some r) = ValueUse locals (long_word r) ∷ []

-- what a record with these fields does with their values
abbrev pub record_op : Option Word → List Name → Op
record_op None xs = RecordOf xs
record_op (Some r) xs = Update xs
