-- The rows of the table as the program keeps them; for private clauses.
use Rattle.std.specs.Prelude.{List, Option, Some, None}
use Rattle.std.specs.Borrow.{Bor}
use Rattle.elm_canon.specs.Names.{Name}
use Rattle.elm_canon.specs.Tree.{Annotation, Title, Module}
use Rattle.elm_canon.specs.View.{annotation_view}
use Rattle.elm_canon.specs.declared.tree.Annotation as code
use Rattle.canon_env.specs.declared.finding.Finding.{Finding}
use Rattle.core_modules.specs.Signs.{Sign, signs_view}
use Rattle.core_modules.specs.Facts.{lack_of_union, type_faults, function_faults}
use Rattle.core_modules.specs.declared.rows.UnionRow as union
use Rattle.core_modules.specs.declared.rows.BareRow as bare
use Rattle.core_modules.specs.declared.rows.FunctionRow as function

-- a module, a name of it, and what is spelled
pub record Coded : Type 0 where
  pub home : Name
  pub name : Name
  pub spelling : List Sign

abbrev pub union_row_view : union.UnionRow → Coded
union_row_view r = record { home = r.home.now; name = r.name.now; spelling = signs_view r.signs.now }

abbrev pub row_view : function.FunctionRow → Coded
row_view r = record { home = r.home.now; name = r.name.now; spelling = signs_view r.signs.now }

abbrev pub bare_row_view : bare.BareRow → Name × Name
bare_row_view r = (r.home.now, r.name.now)

abbrev pub union_row_faults : Module → Coded → List Finding
union_row_faults m r = lack_of_union m r.home r.name r.spelling

abbrev pub bare_row_faults : Module → Name × Name → List Finding
bare_row_faults m r = type_faults m r.0 r.1

abbrev pub coded_faults : Title → Coded → List Finding
coded_faults t r = function_faults t r.home r.name r.spelling

abbrev pub annotated : Option (Bor code.Annotation) → Option Annotation
annotated None = None
annotated (Some t) = Some (annotation_view t.now)
