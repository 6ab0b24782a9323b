-- Instances of types that are written: their own variables, what is asked of these, and the type over them.
use Rattle.std.specs.Prelude.{◌≡◌, ℕ, List, [], ◌∷◌, length, Some}
use Rattle.std.specs.List.{AllByRecursion, AllZip}
use Rattle.elm_base.specs.declared.position.Pos.{Pos}
use Rattle.elm_type.specs.Types.{Kind, Scheme}
use Rattle.type_items.specs.Items.{Place, at, children, kind_items}
use Rattle.type_items.specs.Scopes.{instance, instance_items}
use Rattle.type_items.specs.Patterns.{declared_shape, declared_items}
use Rattle.type_store.specs.Store.{Store}
use Rattle.type_walks.specs.Regions.{only, below}
use Rattle.type_walks.specs.Links.{Links, Live, AreLive, Has, Tells}
use Rattle.type_walks.specs.Walks.{Around, Walk}
use Rattle.type_constructs.specs.Failing.{Bad, Fails}
use Rattle.type_constructs.specs.Regions.{tops}
use Rattle.type_constructs.specs.Binding.{Shaped}
use Rattle.type_walks.specs.TypeStepsLaws.{Lacking}
use Rattle.infer_steps.specs.Codes.{Declared, State}
use Rattle.infer_steps.specs.Ready.{Follows}
use Rattle.infer_steps.specs.Means.{IsDeclared}

-- ---- variables of kinds

-- a variable was made, for any place, of a kind
pub record IsOfKind (pos : Pos) (k : Kind) (old new : State) (v : ℕ) : Type 0 where
  pub follows : Follows old new
  pub live : Live new.depth new.store v
  pub lacking : Lacking new.store v k.lacks
  pub walk : (a : Around) (links : Links) (p : Place) → a.depth ≡ old.depth → AreLive a.depth old.store links
      → Walk a (only p) (kind_items pos (at p) k) old.store links new.store ((v, at p) ∷ links)

-- there are no types of the kind
pub record NoneOfKind (pos : Pos) (k : Kind) (old new : State) (bad : Bad) : Type 0 where
  pub fails : (a : Around) (links : Links) (p : Place) → a.depth ≡ old.depth → AreLive a.depth old.store links
      → Fails a old.store links (only p) (kind_items pos (at p) k) bad new.store

-- the children of a place have variables of kinds
pub record Kinds (a : Around) (p : Place) (pos : Pos) (ks : List Kind) (s : Store) (links : Links) (s' : Store)
    (vs : List ℕ) : Type 0 where
  pub after : Links
  pub walk : Walk a (tops p 0 (length ks)) (instance_items ks pos p) s links s' after
  pub tells : Tells after links
  pub each : AllZip (Has after) vs (children p (length ks))

-- variables were made, for the children of any place, each of its kind
pub record AreOfKinds (pos : Pos) (ks : List Kind) (old new : State) (vs : List ℕ) : Type 0 where
  pub follows : Follows old new
  pub live : AllByRecursion (Live new.depth new.store) vs
  pub lacking : AllZip (λ v k. Lacking new.store v k.lacks) vs ks
  pub kinds : (a : Around) (links : Links) (p : Place) → a.depth ≡ old.depth → AreLive a.depth old.store links
      → Kinds a p pos ks old.store links new.store vs

-- of one of the kinds there are no types
pub record NoneOfKinds (pos : Pos) (ks : List Kind) (old new : State) (bad : Bad) : Type 0 where
  pub fails : (a : Around) (links : Links) (p : Place) → a.depth ≡ old.depth → AreLive a.depth old.store links
      → Fails a old.store links (below p) (instance_items ks pos p) bad new.store

-- ---- instances

-- the variable v was made for an instance, at any place and for any scheme that the declared type stands for
pub record IsInstance (t : Declared) (pos : Pos) (old new : State) (v : ℕ) : Type 0 where
  pub follows : Follows old new
  pub live : Live new.depth new.store v
  pub walk : (a : Around) (links : Links) (s : Scheme) (p : Place) → a.depth ≡ old.depth
      → AreLive a.depth old.store links → IsDeclared links t s
      → Walk a (below p) (instance_items s.kinds pos p) old.store links new.store ((v, instance s p) ∷ links)

-- there is no instance
pub record NoInstance (t : Declared) (pos : Pos) (old new : State) (bad : Bad) : Type 0 where
  pub fails : (a : Around) (links : Links) (s : Scheme) (p : Place) → a.depth ≡ old.depth
      → AreLive a.depth old.store links → IsDeclared links t s
      → Fails a old.store links (below p) (instance_items s.kinds pos p) bad new.store

-- a scheme over variables of the store
abbrev pub over : Scheme → List ℕ → Declared
over s vs = record { scheme = s; outer = vs }

-- a type that is declared elsewhere
abbrev pub elsewhere : Scheme → Declared
elsewhere s = over s []

-- ---- constructors

-- variables were made for what a constructor of so many fields makes and for its fields, at any place
pub record Constructs (s : Scheme) (arity : ℕ) (pos : Pos) (old new : State) (result : ℕ) (parts : List ℕ)
    : Type 0 where
  pub follows : Follows old new
  pub result_live : Live new.depth new.store result
  pub parts_live : AllByRecursion (Live new.depth new.store) parts
  pub shaped : (a : Around) (links : Links) (p : Place) → a.depth ≡ old.depth → AreLive a.depth old.store links
      → Shaped a (below p) (declared_items (Some s) pos p) (declared_shape (Some s) arity p) old.store links new.store
      result parts

-- what the constructor asks of its variables fails
pub record NoConstructor (s : Scheme) (pos : Pos) (old new : State) (bad : Bad) : Type 0 where
  pub fails : (a : Around) (links : Links) (p : Place) → a.depth ≡ old.depth → AreLive a.depth old.store links
      → Fails a old.store links (below p) (declared_items (Some s) pos p) bad new.store
