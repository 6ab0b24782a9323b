-- Annotations are read: what they ask of the variables of annotations around is asked, and each name has a type that is
-- written. Then the names come into scope.
use Rattle.std.specs.Prelude.{◌≡◌, List, [], ◌∷◌, ◌++◌, map}
use Rattle.std.specs.List.{AllByRecursion, AllZip}
use Rattle.elm_base.specs.declared.position.Pos.{Pos}
use Rattle.elm_canon.specs.declared.reference.Ref.{Ref}
use Rattle.elm_canon.specs.Tree.{Annotation, Title}
use Rattle.type_items.specs.Items.{Item}
use Rattle.type_items.specs.Scopes.{Entry, Mono, Instance, General, Constants}
use Rattle.type_items.specs.Annotations.{variables_of, kind_of, scheme_inside}
use Rattle.type_walks.specs.Regions.{Region, none}
use Rattle.type_walks.specs.Links.{Links, AreLive}
use Rattle.type_walks.specs.Walks.{Around, Walk}
use Rattle.type_constructs.specs.Failing.{Bad, Fails}
use Rattle.infer_steps.specs.Codes.{Declared, Each, Code, State, with_meaning}
use Rattle.infer_steps.specs.Ready.{DeclaredReady, Follows}
use Rattle.infer_steps.specs.Means.{IsDeclared}
use Rattle.infer_steps.specs.View.{declared_view}
use Rattle.infer_types.specs.Asking.{MeansConstants, AsksAround, RefusesAround}
use Rattle.infer_exprs.specs.Titles.{titles_items, titles_names}
use Rattle.infer_exprs.specs.declared.declare.Reading as program

-- ---- one annotation

-- it was read: what it asks, which stands at pos, was asked, and t is its type
pub record IsRead (code : Code) (pos : Pos) (annotation : Annotation) (old new : State) (t : Declared) : Type 0 where
  pub asks : AsksAround code old new pos (variables_of annotation) (map (kind_of annotation) (variables_of annotation))
  pub ready : DeclaredReady new.depth new.store t
  pub declared : (links : Links) (around : Constants) → MeansConstants code links around
      → IsDeclared links t (scheme_inside around annotation)

-- what it asks fails
abbrev pub IsRefused : Code → Pos → Annotation → State → State → Bad → Type 0
IsRefused code pos annotation old new bad =
    RefusesAround code old new pos (variables_of annotation) (map (kind_of annotation) (variables_of annotation)) bad

-- ---- titles in turn

-- a name and its type
abbrev pub Reading : Type 0
Reading = Ref × Declared

abbrev pub reading_view : program.Reading → Reading
reading_view r = (r.name.now, declared_view r.declared)

-- the first one is the innermost
abbrev pub with_readings : List Reading → Code → Code
with_readings [] code = code
with_readings (r ∷ rs) code = with_meaning r.0 (Each r.1) (with_readings rs code)

-- the type that is written stands for that of the entry
abbrev pub ReadsEntry : Links → Reading → Ref × Entry → Type 0
ReadsEntry links r (x, Mono t) = ⊥
ReadsEntry links r (x, Instance scheme) = (x ≡ r.0) × IsDeclared links r.1 scheme
ReadsEntry links r (x, General list type) = ⊥

-- the annotations of these titles were read
pub record AreRead (code : Code) (titles : List Title) (rs : List Reading) (old new : State) : Type 0 where
  pub follows : Follows old new
  pub ready : AllByRecursion (λ r. DeclaredReady new.depth new.store r.1) rs
  pub walk : (a : Around) (links : Links) (around : Constants) → a.depth ≡ old.depth → AreLive a.depth old.store links
      → MeansConstants code links around
      → Walk a none (titles_items titles around) old.store links new.store links
  pub names : (links : Links) (around : Constants) → MeansConstants code links around
      → AllZip (ReadsEntry links) rs (titles_names titles around)

-- what one of them asks fails
pub record NotRead (code : Code) (titles : List Title) (old new : State) (bad : Bad) : Type 0 where
  pub fails : (a : Around) (links : Links) (around : Constants) (Q : Region) (rest : List Item) → a.depth ≡ old.depth
      → AreLive a.depth old.store links → MeansConstants code links around
      → Fails a old.store links Q (titles_items titles around ++ rest) bad new.store
