-- What stays of a scope and of a setting, and what becomes of them.
use Rattle.std.specs.Prelude.{ℕ, List, [], ◌∷◌}
use Rattle.std.specs.List.{AllByRecursion}
use Rattle.elm_canon.specs.declared.reference.Ref.{Ref}
use Rattle.elm_type.specs.Types.{Name, variable, Rigid, Fixed, Scheme}
use Rattle.type_items.specs.Items.{Place, child, Wanted, Item}
use Rattle.type_items.specs.Scopes.{Mono, Instance, General, Entries, Scope, with_names, with_constants}
use Rattle.type_store.specs.Store.{Store}
use Rattle.type_walks.specs.Regions.{Region}
use Rattle.type_walks.specs.Links.{Links, Live, AreLive, Tells}
use Rattle.type_walks.specs.Walks.{Around, Walk}
use Rattle.type_walks.specs.Frozen.{Frozen}
use Rattle.type_walks.specs.Says.{Says}
use Rattle.type_constructs.specs.Passing.{NoSizes}
use Rattle.infer_steps.specs.Codes.{Declared, Meaning, One, Many, Each, Code, State, Bound, with_meaning, with_bound}
use Rattle.infer_steps.specs.Codes.{with_constant}
use Rattle.infer_steps.specs.Ready.{MeaningReady, IsReady, Follows}
use Rattle.infer_steps.specs.Means.{IsDeclared, Means, Binds, IsAround, Setting}

-- ---- later states

abbrev pub FollowsItself : Type 0
FollowsItself = (code : Code) (s : State) → IsReady code s.depth s.store → Follows s s

abbrev pub FollowsOn : Type 0
FollowsOn = (r s t : State) → Follows r s → Follows s t → Follows r t

-- a scope that could be used still can
abbrev pub ReadyLater : Type 0
ReadyLater =
    (code : Code) (old new : State) → IsReady code old.depth old.store → Follows old new
    → IsReady code new.depth new.store

-- and it stands for what it stood for
abbrev pub MeansLater : Type 0
MeansLater =
    (a : Around) (R : Region) (items : List Item) (s s' : Store) (links before after : Links) (code : Code)
    (scope : Scope)
    → IsReady code a.depth s → Walk a R items s before s' after → Means a links code scope s → Means a links code scope s'

abbrev pub SettingLater : Type 0
SettingLater =
    (a : Around) (R : Region) (items : List Item) (old new : State) (links before after : Links) (code : Code)
    (scope : Scope)
    → IsReady code old.depth old.store → Follows old new → Walk a R items old.store before new.store after
    → Setting a links code scope old → Setting a links code scope new

-- with more links
abbrev pub SettingLinks : Type 0
SettingLinks =
    (a : Around) (links more : Links) (code : Code) (scope : Scope) (s : State)
    → Tells more links → AreLive a.depth s.store more → Setting a links code scope s → Setting a more code scope s

-- at a child
abbrev pub AroundChild : Type 0
AroundChild = (a : Around) (s : State) (i : ℕ) → IsAround a s → IsAround a (record s { place = child s.place i })

abbrev pub SettingChild : Type 0
SettingChild =
    (a : Around) (links : Links) (code : Code) (scope : Scope) (s : State) (i : ℕ)
    → Setting a links code scope s → Setting a links code scope (record s { place = child s.place i })

-- ---- names come into scope

abbrev pub ReadyEnters : Type 0
ReadyEnters =
    (code : Code) (d : ℕ) (s : Store) (x : Ref) (m : Meaning)
    → IsReady code d s → MeaningReady d s m → IsReady (with_meaning x m code) d s

abbrev pub ReadyConstant : Type 0
ReadyConstant =
    (code : Code) (d : ℕ) (s : Store) (x : Name) (v : ℕ)
    → IsReady code d s → Live d s v → IsReady (with_constant x v code) d s

-- a name with one type
abbrev pub EntersOne : Type 0
EntersOne =
    (a : Around) (links : Links) (code : Code) (scope : Scope) (s : Store) (x : Ref) (v : ℕ) (t : Wanted)
    → Live a.depth s v → Means a links code scope s
    → Means a ((v, t) ∷ links) (with_meaning x (One v) code) (with_names ((x, Mono t) ∷ []) scope) s

-- a general name, whose copies ask for no sizes
abbrev pub EntersMany : Type 0
EntersMany =
    (a : Around) (links : Links) (code : Code) (scope : Scope) (s : Store) (x : Ref) (frozen : Frozen)
    (list : Place → List Item) (type : Place → Wanted)
    → Says a s links frozen list type → ((q : Place) → NoSizes (list q)) → Means a links code scope s
    → Means a links (with_meaning x (Many frozen) code) (with_names ((x, General list type) ∷ []) scope) s

-- a name with an annotation
abbrev pub EntersEach : Type 0
EntersEach =
    (a : Around) (links : Links) (code : Code) (scope : Scope) (s : Store) (x : Ref) (t : Declared) (scheme : Scheme)
    → IsDeclared links t scheme → Means a links code scope s
    → Means a links (with_meaning x (Each t) code) (with_names ((x, Instance scheme) ∷ []) scope) s

-- a variable of an annotation
abbrev pub EntersConstant : Type 0
EntersConstant =
    (a : Around) (links : Links) (code : Code) (scope : Scope) (s : Store) (x : Name) (v : ℕ) (r : Rigid)
    → Live a.depth s v → Means a links code scope s
    → Means a ((v, variable (Fixed r)) ∷ links) (with_constant x v code) (with_constants ((x, r) ∷ []) scope) s

-- the names that a pattern binds
abbrev pub SettingBinds : Type 0
SettingBinds =
    (a : Around) (links : Links) (code : Code) (scope : Scope) (s : State) (bound : List Bound) (names : Entries)
    → AllByRecursion (λ b. Live s.depth s.store b.1) bound → Binds links bound names → Setting a links code scope s
    → Setting a links (with_bound bound code) (with_names names scope) s

abbrev pub ReadyBinds : Type 0
ReadyBinds =
    (code : Code) (d : ℕ) (s : Store) (bound : List Bound)
    → AllByRecursion (λ b. Live d s b.1) bound → IsReady code d s → IsReady (with_bound bound code) d s
