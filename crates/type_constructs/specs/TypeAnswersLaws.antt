-- From what was walked of a module, and from where its items stop, to what is told of it.
use Rattle.std.specs.Prelude.{◌≡◌, ℕ, ◌<◌, List, [], ◌∷◌, ◌++◌, length}
use Rattle.std.specs.List.{AllByRecursion}
use Rattle.elm_base.specs.declared.position.Pos.{Pos}
use Rattle.elm_base.specs.declared.fault.Code.{Code}
use Rattle.elm_canon.specs.Tree.{Module}
use Rattle.elm_type.specs.Types.{Name}
use Rattle.elm_type.specs.declared.head.Head.TheVariants as head
use Rattle.type_items.specs.Items.{Place, Item}
use Rattle.type_items.specs.Scopes.{Known}
use Rattle.type_items.specs.Modules.{module_items}
use Rattle.type_items.specs.Faults.{FirstBad}
use Rattle.type_items.specs.Inferred.{Schemes, Inferred, Refused}
use Rattle.type_store.specs.Store.{Built, Store}
use Rattle.type_store.specs.Shape.{IsStore}
use Rattle.type_store.specs.Steps.{put}
use Rattle.type_store.specs.Levels.{IsLowered}
use Rattle.type_walks.specs.Regions.{Region, none, below, either, Inside, Apart}
use Rattle.type_walks.specs.Links.{Links}
use Rattle.type_walks.specs.Walks.{Walk}
use Rattle.type_walks.specs.Told.{start}
use Rattle.type_walks.specs.TypeCopiesLaws.{deeper}
use Rattle.type_constructs.specs.Passing.{Passes}
use Rattle.type_constructs.specs.Failing.{Bad, Fails, FailsAt}
use Rattle.type_constructs.specs.Texts.{Pairs, Explains}
use Rattle.type_constructs.specs.Lasting.{Telling, Inferring, IsTold, ModuleHasTold}

-- ---- what is refused

-- a tuple of two variables that a store makes
abbrev pub MakesPair : Type 0
MakesPair =
    (s s' : Store) (v w : ℕ)
    → IsStore s → IsStore s' → v < length s → w < length s
    → IsLowered (s ++ put (Built head.Tuple (v ∷ w ∷ [])) 0 ∷ []) s' → Pairs s v w s' (length s)

-- the bad item at which items stop is the first bad one, and what the store tells of it is what is said
abbrev pub ExplainsFirst : Type 0
ExplainsFirst =
    (p : Place) (items : List Item) (s : Store) (bad : Bad) (code : Code) (pos : Pos) (text : Name)
    → IsStore s → FailsAt p items bad s → Explains s bad code pos text → FirstBad p items code pos text

-- a module whose items fail from the start on
abbrev pub Refuses : Type 0
Refuses =
    (module_ : Module) (env : Known) (p : Place) (s : Store) (bad : Bad) (code : Code) (pos : Pos) (text : Name)
    → IsStore s → Fails start [] [] (below p) (module_items module_ env p) bad s → Explains s bad code pos text
    → Refused module_ env p code pos text

-- or from some group on
abbrev pub RefusesLater : Type 0
RefusesLater =
    (module_ : Module) (env : Known) (p : Place) (R Q : Region) (first items : List Item) (told : List Telling)
    (u s : Store) (bad : Bad) (code : Code) (pos : Pos) (text : Name)
    → IsStore s → Inferring p R Q first u told → Fails start u [] Q items bad s → Explains s bad code pos text
    → module_items module_ env p ≡ first ++ items → Refused module_ env p code pos text

-- ---- what is inferred

-- at the start
abbrev pub Begins : Type 0
Begins = (p : Place) → Inferring p none (below p) [] [] []

-- after an annotated definition, or a group of which nothing is told
abbrev pub GoesOn : Type 0
GoesOn =
    (p : Place) (R Q X Y : Region) (items more : List Item) (s s' : Store) (told : List Telling)
    → Apart Q X → Inside Q Y → Inside X Y → IsStore s' → Inferring p R Y items s told
    → Walk start Q more s [] s' [] → Passes start s [] Q more → Inferring p (either R Q) X (items ++ more) s' told

-- After a group, whose names have the types that the store tells. It was walked inside the definition, and outside.
abbrev pub TellsGroup : Type 0
TellsGroup =
    (p : Place) (R Q X Y : Region) (items more : List Item) (s s' : Store) (after : Links) (told new : List Telling)
    → Apart Q X → Inside Q Y → Inside X Y → IsStore s' → Inferring p R Y items s told
    → Walk start Q more s [] s' [] → Walk (deeper start) Q more s [] s' after → Passes start s [] Q more
    → AllByRecursion (IsTold s' after) new → Inferring p (either R Q) X (items ++ more) s' (told ++ new)

-- at the end
abbrev pub Ends : Type 0
Ends =
    (module_ : Module) (env : Known) (p : Place) (R Q : Region) (s : Store) (told : List Telling) (schemes : Schemes)
    → IsStore s → Inferring p R Q (module_items module_ env p) s told → ModuleHasTold module_ env p told schemes
    → Inferred module_ env p schemes
