-- A module compiles to one value at most, by the values of its imports.
use Rattle.std.proofs.Common.{◌≡◌, ℕ, List, Option, Some, None, sym, ◌∙◌, refl}
use Rattle.std.specs.Prelude.{slice_get}
use Rattle.elm_canon.specs.Names.{Name}
use Rattle.interface.specs.Interface.{Interface}
use Rattle.import_graph.specs.Fold.{IsFunction, IsOrdered}
use Rattle.import_graph.proofs.Values.{folds_once}
use Rattle.module_made.specs.Made.{Value}
use Rattle.project_proper.specs.Once.{OneMade}
use Rattle.project_parts.specs.Modules.{Part, CompilesWith, CompilesAmong, Compiles, graph_of, Values}

one_with : OneMade → (p : Part) (is : Option (List (Name × Interface))) (v w : Value) → CompilesWith p is v
    → CompilesWith p is w → v ≡ w
one_with law p None v w a b = a ∙ sym b
one_with law p (Some is) v w a b = law _ _ _ v w a b

one_among : OneMade → (ps : List Part) (vs : List Value) (o : Option Part) (numbers : List ℕ) (v w : Value)
    → CompilesAmong ps vs o numbers v → CompilesAmong ps vs o numbers w → v ≡ w
one_among law ps vs None numbers v w a b = absurd a
one_among law ps vs (Some p) numbers v w a b = one_with law p _ v w a b

is_function : OneMade → (ps : List Part) → IsFunction (Compiles ps)
is_function law ps i vs v w a b = one_among law ps vs (slice_get ps i) _ v w a b

pub one_values : OneMade → (ps : List Part) → IsOrdered (graph_of ps) → (values others : List Value)
    → Values ps values → Values ps others → values ≡ others
one_values law ps ordered values others a b =
    folds_once (Compiles ps) (graph_of ps) ordered (is_function law ps) values others a b
