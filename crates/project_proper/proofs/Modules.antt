-- Declarations make one module at most: its types are the only ones, since the uses of its aliases have an order.
use Rattle.std.proofs.Common.{◌≡◌, List, sym}
use Rattle.elm_tree.specs.Tree.{Declaration}
use Rattle.elm_canon.specs.Tree.{Module}
use Rattle.decl_groups.specs.InOrder.{ordered_groups}
use Rattle.decl_groups.proofs.Ordering.{order_is}
use Rattle.canon_env.specs.Env.{imported_rows}
use Rattle.canon_type.proofs.Grouping.{aliases_within}
use Rattle.canon_type.specs.DeclaredTypes.{AreAll, uses_in}
use Rattle.canon_type.specs.DeclaredTypesKept.{setting_of}
use Rattle.canon_type.proofs.Only.{none_other}
use Rattle.canon_module.specs.Resolve.{Setting, IsModule, declared_by}
use Rattle.canon_module.proofs.Whole.{only_module}
use Rattle.project_proper.specs.Once.{OneModule}

only_types : (s : Setting) (ds : List Declaration) (m : Module) → IsModule s ds m
    → AreAll s.home (imported_rows s.imports) ds (declared_by ds m)
only_types s ds m is other h =
    let rows = imported_rows s.imports in
    none_other s.home rows ds (ordered_groups (uses_in ds))
    (order_is (uses_in ds) (aliases_within (setting_of s.home rows ds))) (declared_by ds m) other is.types h

pub one_module : OneModule
one_module s ds m n is other =
    sym (only_module s ds m (declared_by ds m) (λ i. declared_by ds m) (only_types s ds m is) is n other)
