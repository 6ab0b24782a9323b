-- The names that are bound, as they are kept: with their marks, and with an index of their places.
use Rattle.std.specs.Prelude.{◌≡◌, List, [], ◌∷◌, length, Bool, true, not, ◌&&◌}
use Rattle.js_tree.specs.Tree.{Name}
use Rattle.js_tree.specs.Postorder.{name_view}
use Rattle.js_scope.specs.declared.index.Index.{Index}
use Rattle.js_scope.specs.declared.scopes.Binding.{Binding}
use Rattle.js_scope.specs.declared.scopes.Marks.{Marks}
use Rattle.js_scope.specs.Walk.{Bound}
use Rattle.js_scope.specs.Places.{place_of}
use Rattle.js_scope.specs.Index.{place_in}

-- the names, the innermost first, before others
abbrev pub names_on : List Binding → List Name → List Name
names_on [] names = names
names_on (b ∷ bindings) names = names_on bindings (name_view b.name.now ∷ names)

-- with their marks
abbrev pub bound_on : List Binding → List Marks → List Bound → List Bound
bound_on [] marks bound = bound
bound_on (b ∷ bindings) [] bound = bound
bound_on (b ∷ bindings) (m ∷ marks) bound =
    bound_on bindings marks ((record { name = name_view b.name.now; assigned = m.assigned; captured = m.captured }) ∷ bound)

-- each knows the place that its name had before it
abbrev pub Hides : List Binding → List Name → Type 0
Hides [] names = Unit {0}
Hides (b ∷ bindings) names = (b.before ≡ place_of names (name_view b.name.now)) × Hides bindings (name_view b.name.now ∷ names)

-- the index has the place of each name
pub record IsIndexed (bindings : List Binding) (marks : List Marks) (index : Index) : Type 0 where
  pub marked : length marks ≡ length bindings
  pub places : place_in index ≡ place_of (names_on bindings [])
  pub hides : Hides bindings []

-- the innermost name is not both assigned and met in a nested function
abbrev pub innermost_settled : List Bound → Bool
innermost_settled [] = true
innermost_settled (b ∷ bound) = not (b.assigned && b.captured)

-- the names round the innermost one
abbrev pub outer : List Bound → List Bound
outer [] = []
outer (b ∷ bound) = bound
