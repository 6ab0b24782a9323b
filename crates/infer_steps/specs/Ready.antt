-- What of the code's scope can be used over a store: its variables are in use, and its types can be written there.
use Rattle.std.specs.Prelude.{◌≡◌, ℕ, ◌<◌, ◌++◌, length, List, Some, true}
use Rattle.std.specs.List.{AllByRecursion, AllZip}
use Rattle.elm_canon.specs.declared.reference.Ref.{Ref}
use Rattle.elm_type.specs.Types.{Name, Leaf, Free, Fixed, Kind, Scheme, variables}
use Rattle.type_items.specs.Principal.{is_formed}
use Rattle.type_items.specs.Scopes.{Known}
use Rattle.type_store.specs.Store.{Store}
use Rattle.type_store.specs.Solutions.{Values, Fit}
use Rattle.type_walks.specs.Links.{Live, Later}
use Rattle.type_walks.specs.Walks.{Earlier}
use Rattle.type_store.specs.Shape.{IsStore}
use Rattle.type_walks.specs.Frozen.{Frozen, OuterLive}
use Rattle.type_schemes.specs.Formed.{IsFormed}
use Rattle.type_schemes.specs.Freezing.{ConstantsAround, CanCopy}
use Rattle.type_walks.specs.TypeStepsLaws.{Lacking}
use Rattle.infer_steps.specs.Codes.{Declared, Meaning, One, Many, Each, Code, State}

-- a variable with a number below n
abbrev pub IsBelow : ℕ → Leaf ℕ → Type 0
IsBelow n (Free i) = i < n
IsBelow n (Fixed r) = ⊥

-- A scheme without constants. Its variables have these kinds, and what its records end in lacks their fields.
pub record IsWritten (kinds : List Kind) (s : Scheme) : Type 0 where
  pub below : AllByRecursion (IsBelow (length kinds)) (variables s.type)
  pub formed : is_formed kinds s.type ≡ true

abbrev pub AreWritten : Known → Type 0
AreWritten known = (m x : Name) (s : Scheme) → known m x ≡ Some s → IsWritten s.kinds s

pub record DeclaredReady (d : ℕ) (s : Store) (t : Declared) : Type 0 where
  pub kinds : List Kind
  pub written : IsWritten (t.scheme.kinds ++ kinds) t.scheme
  pub live : AllByRecursion (Live d s) t.outer
  pub lacks : AllZip (λ v k. Lacking s v k.lacks) t.outer kinds

pub record FrozenReady (d : ℕ) (s : Store) (frozen : Frozen) : Type 0 where
  pub formed : IsFormed frozen
  pub live : OuterLive d s frozen
  pub copies : CanCopy s frozen

abbrev pub MeaningReady : ℕ → Store → Meaning → Type 0
MeaningReady d s (One v) = Live d s v
MeaningReady d s (Many frozen) = FrozenReady d s frozen
MeaningReady d s (Each t) = DeclaredReady d s t

-- The code's scope can be used inside so many definitions. No constant is deeper.
pub record IsReady (code : Code) (d : ℕ) (s : Store) : Type 0 where
  pub whole : IsStore s
  pub around : ConstantsAround d s
  pub known : AreWritten code.known
  pub names : (x : Ref) (m : Meaning) → code.names x ≡ Some m → MeaningReady d s m
  pub constants : (a : Name) (v : ℕ) → code.constants a ≡ Some v → Live d s v

-- a later state, at the same place
pub record Follows (old new : State) : Type 0 where
  pub place : new.place ≡ old.place
  pub depth : new.depth ≡ old.depth
  pub whole : IsStore new.store
  pub later : Later old.store new.store
  pub back : (σ : Values) → Fit σ new.store → Earlier old.depth old.store σ
