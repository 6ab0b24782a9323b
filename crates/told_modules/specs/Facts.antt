-- What a module has that lacks nothing of what the compiler takes for granted of the core library.
use Rattle.std.specs.Prelude.{◌≡◌, [], Some}
use Rattle.elm_canon.specs.declared.reference.Ref.TheVariants.{Top}
use Rattle.elm_canon.specs.Tree.{Title, Declaration, UnionDeclaration, Module}
use Rattle.typed_values.specs.World.{Among}
use Rattle.core_modules.specs.Facts.{core_faults, titles_of}
use Rattle.core_modules.specs.Table.{UnionRow, union_rows, BareRow, bare_rows, FunctionRow, function_rows}

-- its unions of the table, no type that is to have no text, and the annotations of the table
pub record HasFacts (m : Module) : Type 0 where
  pub unions : (r : UnionRow) → Among r union_rows → m.name ≡ r.home → Among r.declared m.unions
  pub bare : (r : BareRow) → Among r bare_rows → m.name ≡ r.home → (u : UnionDeclaration) → Among u m.unions
      → u.name ≡ r.name → ⊥
  pub functions : (d : Declaration) (t : Title) (r : FunctionRow) → Among d m.declarations → Among t (titles_of d)
      → Among r function_rows → t.name ≡ Top r.home r.name → t.annotation ≡ Some r.type

abbrev pub FactsHold : Type 0
FactsHold = (m : Module) → core_faults m ≡ [] → HasFacts m
