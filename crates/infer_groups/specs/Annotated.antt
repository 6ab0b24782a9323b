-- A definition with an annotation: the variables of its annotation are constants while its body is walked.
use Rattle.std.specs.Prelude.{◌≡◌, ℕ, ◌+◌, List, [], ◌∷◌, ◌++◌, length, filter, is_none, slice_get, Some}
use Rattle.std.specs.Prelude.{Bool, true}
use Rattle.std.specs.List.{All}
use Rattle.elm_base.specs.declared.position.Pos.{Pos}
use Rattle.elm_canon.specs.Tree.{Annotation}
use Rattle.elm_type.specs.Types.{Name}
use Rattle.type_items.specs.Items.{Place, child}
use Rattle.type_items.specs.Scopes.{Scope}
use Rattle.type_items.specs.Annotations.{variables_of, fixed_variable, fixed_type, annotation_items}
use Rattle.type_items.specs.Definitions.{Definition, annotated_items}
use Rattle.type_store.specs.Store.{Store}
use Rattle.type_store.specs.Shape.{IsStore}
use Rattle.type_walks.specs.Regions.{none, below}
use Rattle.type_walks.specs.Links.{Links, Has, Tells, Live}
use Rattle.type_walks.specs.Walks.{Around}
use Rattle.type_schemes.specs.Constants.{Own, rigids, own_links, within, Opened, Distinct, IsFree}
use Rattle.type_schemes.specs.Calls.{EscapesAt, CanLetGo, LetsGo}
use Rattle.type_constructs.specs.Stepping.{Step}
use Rattle.type_constructs.specs.Failing.{Bad, Keeps, Large}
use Rattle.type_constructs.specs.TypeDefinitionsAnnotated.{owned, inner_scope, body_items}
use Rattle.infer_steps.specs.Codes.{Code, State, with_constant}
use Rattle.infer_steps.specs.Ready.{IsReady, Follows}
use Rattle.infer_steps.specs.Means.{Setting}
use Rattle.infer_steps.specs.Promises.{Walked, Stopped}
use Rattle.infer_groups.specs.Defined.{Listing, IsClear, Defined, DefinitionsStop, IsSmallIn, IsLargeIn, group_places}
use Rattle.infer_groups.specs.Defined.{at_child, moved}
use Rattle.infer_groups.specs.Members.{at_number}

-- what it lists; its name is in scope before it
abbrev pub listed_annotated : Definition → Annotation → Listing
listed_annotated d annotation scope p = record { items = annotated_items d annotation scope p; scope = scope }

-- the variables of an annotation that are not those of annotations around
abbrev pub own_names : Code → Annotation → List Name
own_names code annotation = filter (λ x. is_none (code.constants x)) (variables_of annotation)

-- they are constants of the place p, and each has a variable
abbrev pub its_own : Code → Annotation → Place → List ℕ → List Own
its_own code annotation p vs = owned p annotation (own_names code annotation) vs

-- the first one is the innermost
abbrev pub with_owned : List Own → Code → Code
with_owned [] code = code
with_owned (o ∷ os) code = with_constant o.rigid.name o.slot (with_owned os code)

-- the code's scope inside the definition
abbrev pub inside_of : Code → Annotation → Place → List ℕ → Code
inside_of code annotation p vs = with_owned (its_own code annotation p vs) code

-- The definition of the number i was entered: its constants have these variables.
pub record ConstantsOpen (code : Code) (annotation : Annotation) (i : ℕ) (vs : List ℕ) (old mid : State) : Type 0 where
  pub before : IsReady code old.depth old.store
  pub clear : IsClear old
  pub count : length vs ≡ length (own_names code annotation)
  pub depth : mid.depth ≡ old.depth + 1
  pub place : mid.place ≡ child old.place i
  pub whole : IsStore mid.store
  pub distinct : Distinct (rigids (its_own code annotation (child old.place i) vs))
  pub opens : Opened old.depth (child old.place i) old.store (its_own code annotation (child old.place i) vs) mid.store

-- so the code's scope inside it can be used
abbrev pub ConstantsReady : Type 0
ConstantsReady =
    (code : Code) (annotation : Annotation) (i : ℕ) (vs : List ℕ) (old mid : State)
    → ConstantsOpen code annotation i vs old mid
    → IsReady (inside_of code annotation (child old.place i) vs) mid.depth mid.store

-- and it stands for the scope inside it, at every place
abbrev pub ConstantsMean : Type 0
ConstantsMean =
    (code : Code) (annotation : Annotation) (i : ℕ) (vs : List ℕ) (old mid : State) (a : Around) (links : Links)
    (scope : Scope) (q : Place)
    → ConstantsOpen code annotation i vs old mid → Setting a links code scope old
    → Setting (within a (its_own code annotation (child old.place i) vs))
    (own_links q (its_own code annotation (child old.place i) vs) ++ links)
    (inside_of code annotation (child old.place i) vs) (inner_scope annotation scope q) mid

-- ---- what the annotation asks, and its type

-- it was asked at the place p, and v is a variable of its type
pub record AskedAt (real : Bool) (a : Around) (pos : Pos) (annotation : Annotation) (scope : Scope) (p : Place) (v : ℕ)
    (s : Store) (links : Links) (s' : Store) : Type 0 where
  pub after : Links
  pub step : Step real a none (annotation_items pos annotation (fixed_variable scope.constants p)) s links s' after
  pub tells : Tells after links
  pub has : Has after v (fixed_type scope.constants p annotation)

-- so it was at every place
pub record AnnotationAsked (inner : Code) (pos : Pos) (annotation : Annotation) (v : ℕ) (mid u : State) : Type 0 where
  pub follows : Follows mid u
  pub live : Live u.depth u.store v
  pub each : (real : Bool) (a : Around) (links : Links) (scope : Scope) (p : Place) → Setting a links inner scope mid
      → AskedAt real a pos annotation scope p v mid.store links u.store

-- ---- the body

-- the body was walked where the definition is listed at q
pub record BodyAt (real : Bool) (a : Around) (d : Definition) (annotation : Annotation) (own : List Own) (v : ℕ)
    (scope : Scope) (q : Place) (links : Links) (opened s' : Store) : Type 0 where
  pub after : Links
  pub step : Step real (within a own) (below (child q 0)) (body_items d annotation scope q) opened
      (own_links q own ++ links) s' after
  pub has : Has after v (fixed_type (inner_scope annotation scope q).constants q annotation)

pub record AnnotatedDone (code : Code) (d : Definition) (annotation : Annotation) (i : ℕ) (vs : List ℕ) (v : ℕ)
    (old mid now : State) : Type 0 where
  pub opening : ConstantsOpen code annotation i vs old mid
  pub follows : Follows mid now
  pub live : Live now.depth now.store v
  pub each : (real : Bool) (a : Around) (links : Links) (scope : Scope) (q : Place)
      → (real ≡ true → q ≡ child old.place i) → Setting a links code scope old
      → BodyAt real a d annotation (its_own code annotation (child old.place i) vs) v scope q links mid.store now.store

-- what the annotation asks, and then its body at child 0
abbrev pub BodyIsDone : Type 0
BodyIsDone =
    (code : Code) (d : Definition) (annotation : Annotation) (i : ℕ) (vs : List ℕ) (v : ℕ) (old mid u x : State)
    → ConstantsOpen code annotation i vs old mid
    → AnnotationAsked (inside_of code annotation (child old.place i) vs) d.place annotation v mid u
    → Follows (at_child u 0) x
    → Walked (inside_of code annotation (child old.place i) vs) v d.list (at_child u 0) x
    → AnnotatedDone code d annotation i vs v old mid (moved x (child old.place i))

abbrev pub BodyStops : Type 0
BodyStops =
    (code : Code) (d : Definition) (annotation : Annotation) (i : ℕ) (vs : List ℕ) (v : ℕ) (old mid u x : State)
    (bad : Bad)
    → ConstantsOpen code annotation i vs old mid
    → AnnotationAsked (inside_of code annotation (child old.place i) vs) d.place annotation v mid u
    → Stopped (inside_of code annotation (child old.place i) vs) v d.list (at_child u 0) x bad
    → DefinitionsStop code (λ q. group_places (child q i)) (at_number i (listed_annotated d annotation)) old x bad

-- ---- after the body

-- a constant is in a type of what is around
abbrev pub ConstantEscapes : Type 0
ConstantEscapes =
    (code : Code) (d : Definition) (annotation : Annotation) (i k : ℕ) (vs : List ℕ) (v : ℕ) (x : Name)
    (old mid now new : State)
    → AnnotatedDone code d annotation i vs v old mid now → EscapesAt old.depth now.store vs k
    → slice_get (own_names code annotation) k ≡ Some x
    → DefinitionsStop code (λ q. group_places (child q i)) (at_number i (listed_annotated d annotation)) old new
    (Keeps d.place x)

-- the type is too large
abbrev pub AnnotatedIsLarge : Type 0
AnnotatedIsLarge =
    (code : Code) (d : Definition) (annotation : Annotation) (i : ℕ) (vs : List ℕ) (v : ℕ) (old mid now new : State)
    → AnnotatedDone code d annotation i vs v old mid now → All (IsFree old.depth now.store) vs
    → IsLargeIn now.store v
    → DefinitionsStop code (λ q. group_places (child q i)) (at_number i (listed_annotated d annotation)) old new
    (Large d.place v)

-- the constants may be let go
abbrev pub MayLetGo : Type 0
MayLetGo =
    (code : Code) (d : Definition) (annotation : Annotation) (i : ℕ) (vs : List ℕ) (v : ℕ) (old mid now : State)
    → AnnotatedDone code d annotation i vs v old mid now → All (IsFree old.depth now.store) vs → CanLetGo now.store vs

-- and then the definition was walked
abbrev pub AnnotatedCloses : Type 0
AnnotatedCloses =
    (code : Code) (d : Definition) (annotation : Annotation) (i : ℕ) (vs : List ℕ) (v : ℕ) (old mid now : State)
    (s' : Store)
    → AnnotatedDone code d annotation i vs v old mid now → All (IsFree old.depth now.store) vs
    → IsSmallIn now.store v → LetsGo now.store vs s'
    → Defined code code (λ q. group_places (child q i)) (at_number i (listed_annotated d annotation)) old
    (record { store = s'; depth = old.depth; place = old.place })
