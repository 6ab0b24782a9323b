-- The walk of a definition with its annotation, from that of its body.
use Rattle.std.specs.Prelude.{◌≡◌, ℕ, List, [], ◌∷◌, ◌++◌, length, false}
use Rattle.std.specs.List.{AllByRecursion, Contains}
use Rattle.elm_canon.specs.Tree.{Annotation}
use Rattle.elm_type.specs.Types.{Name, Rigid}
use Rattle.type_items.specs.Items.{Place, child, Item}
use Rattle.type_items.specs.Scopes.{Scope, with_constants}
use Rattle.type_items.specs.Annotations.{own_variables, constant, own_constants, fixed_variable, fixed_type}
use Rattle.type_items.specs.Annotations.{annotation_items}
use Rattle.type_items.specs.Definitions.{Definition, outer_types, annotated_items}
use Rattle.type_store.specs.Store.{Store}
use Rattle.type_store.specs.Shape.{IsStore}
use Rattle.type_walks.specs.Regions.{only, below, either}
use Rattle.type_walks.specs.Links.{Links, AreLive, Within}
use Rattle.type_walks.specs.Walks.{Around, Walk}
use Rattle.type_schemes.specs.Constants.{Own, own_links, within, Opened, Loosened, Outer}

-- the constants of an annotation at the place p, in turn, with their variables
abbrev pub owned : Place → Annotation → List Name → List ℕ → List Own
owned p annotation [] vs = []
owned p annotation (x ∷ xs) [] = []
owned p annotation (x ∷ xs) (v ∷ vs) = record { rigid = constant p annotation x; slot = v } ∷ owned p annotation xs vs

-- the scope inside it
abbrev pub inner_scope : Annotation → Scope → Place → Scope
inner_scope annotation scope q = with_constants (own_constants scope.constants q annotation) scope

-- the items of its body, after those of the annotation
abbrev pub body_items : Definition → Annotation → Scope → Place → List Item
body_items d annotation scope q =
    let inner = inner_scope annotation scope q in
    annotation_items d.place annotation (fixed_variable inner.constants q)
    ++ d.list inner (child q 0) (fixed_type inner.constants q annotation)

-- The code's own place is p. Its constants get variables, the body is walked, and the variables are let go.
abbrev pub ClosesAnnotated : Type 0
ClosesAnnotated =
    (a : Around) (p q : Place) (d : Definition) (annotation : Annotation) (scope : Scope) (vs : List ℕ)
    (s opened walked s' : Store) (links after : Links)
    → length vs ≡ length (own_variables scope.constants annotation)
    → IsStore walked → Within a.constants s → AreLive a.depth s links
    → ((r : Rigid) → Contains a.constants r → only p r.place ≡ false)
    → AllByRecursion (Outer a.depth s links) (outer_types scope)
    → Opened a.depth p s (owned p annotation (own_variables scope.constants annotation) vs) opened
    → Walk (within a (owned p annotation (own_variables scope.constants annotation) vs)) (below (child q 0))
    (body_items d annotation scope q) opened
    (own_links q (owned p annotation (own_variables scope.constants annotation) vs) ++ links) walked after
    → Loosened a.depth p walked s'
    → Walk a (either (only q) (below q)) (annotated_items d annotation scope q) s links s' links
