-- What a module is made to, of what its imports are made to.
use Rattle.std.specs.Prelude.{◌≡◌, ℕ, ◌<◌, List, length, map, slice_get, Some}
use Rattle.std.specs.List.{AllByRecursion}
use Rattle.decl_groups.specs.Groups.{list_at}
use Rattle.module_compile.specs.View.{made_view, IsAtHome}
use Rattle.module_compile.specs.declared.made.Made as program
use Rattle.import_graph.specs.Fold.{values_at}
use Rattle.module_made.specs.Around.{Around, home_of as around_home}
use Rattle.module_made.specs.Made.{Made}
use Rattle.project_parts.specs.Modules.{Part, graph_of, home_of, CompilesWith, Compiles}
use Rattle.project_parts.specs.Laws.{Fits, IsBuild}
use Rattle.elm_make.specs.Desks.{offers, IsElsewhere, IsLaid}
use Rattle.elm_make.specs.ProjectCompileView.{Value, value_view, IsOf}
use Rattle.elm_make.specs.declared.desk.Desk.{Desk}

-- the part compiles to this in these surroundings, and what is offered is its own
pub record IsCompiled (p : Part) (a : Around) (m : program.Made) : Type 0 where
  pub made : Fits p.module_.source.text → Made a p.module_.source.path p.module_.source.text (made_view m)
  pub home : IsAtHome (around_home a) m

-- of these values, which are of other modules
pub record MadeOf (p : Part) (vs : List Value) (v : Value) : Type 0 where
  pub compiles : CompilesWith p (offers vs) (value_view v)
  pub home : IsOf (home_of p) v

abbrev pub IsMadeOf : Part → List Value → Value → Type 0
IsMadeOf p vs v = AllByRecursion (IsElsewhere (home_of p)) vs → Fits p.module_.source.text → MadeOf p vs v

-- each of the values below a number is of its own module
abbrev pub AreHomes : List Part → ℕ → List Value → Type 0
AreHomes ps i values =
    (j : ℕ) (q : Part) (v : Value) → j < i → slice_get ps j ≡ Some q → slice_get values j ≡ Some v → IsOf (home_of q) v

-- the values of all modules, of which those below a number are of their own modules
pub record AreBelow (ps : List Part) (i : ℕ) (values : List Value) : Type 0 where
  pub each : length values ≡ length ps
  pub homes : AreHomes ps i values

-- the module of a number is made to a value of those of its imports
pub record IsMade (ps : List Part) (i : ℕ) (vs : List Value) (v : Value) : Type 0 where
  pub compiles : Compiles ps i (map value_view vs) (value_view v)
  pub home : (p : Part) → slice_get ps i ≡ Some p → IsOf (home_of p) v

abbrev pub Makes : List Part → ℕ → List Value → Value → Type 0
Makes ps i vs v =
    IsBuild ps → (values : List Value) → AreBelow ps i values → vs ≡ values_at values (list_at (graph_of ps) i)
    → IsMade ps i vs v

-- the values lie on the desk of the module of this number
pub record Holds (ps : List Part) (d : Desk) (i : ℕ) (vs : List Value) : Type 0 where
  pub number : d.number ≡ i
  pub within : i < length ps
  pub laid : (p : Part) → slice_get ps i ≡ Some p → IsLaid p d vs
