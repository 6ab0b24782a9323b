-- The walk of an annotated definition.
use Rattle.std.specs.Prelude.{◌≡◌, ℕ, ◌+◌, ◌<◌, List, [], ◌∷◌, ◌++◌, length, true, false}
use Rattle.std.specs.List.{AllByRecursion, Contains}
use Rattle.elm_type.specs.Types.{Rigid}
use Rattle.elm_base.specs.declared.position.Pos.{Pos}
use Rattle.type_items.specs.Items.{Place, Wanted, Item}
use Rattle.type_store.specs.Store.{Constant, Store, slot_at}
use Rattle.type_store.specs.Shape.{IsStore}
use Rattle.type_store.specs.Solutions.{constants_of}
use Rattle.type_store.specs.Steps.{Leads, is_bound, put}
use Rattle.type_store.specs.Loosening.{IsLoosened}
use Rattle.type_walks.specs.Regions.{Region, only}
use Rattle.type_walks.specs.Links.{Links, AreLive, Within}
use Rattle.type_walks.specs.Walks.{Around, Walk}
use Rattle.type_schemes.specs.Constants.{Own, rigids, own_links, within, AreOwn, Opened, Loosened, scope_items, Outer}
use Rattle.type_schemes.specs.Constants.{IsBody, HaveOwn, IsFree, Loosening}

-- Its constants, which are of the place p, get variables. Its body is walked, where it is listed at q. The variables
-- are let go. Then the definition was walked, with the items on scopes.
abbrev pub Closes : Type 0
Closes =
    (a : Around) (p q : Place) (body all : Region) (items : List Item) (own : List Own) (outer : List Wanted)
    (type : Wanted) (pos : Pos) (s opened walked s' : Store) (links after : Links)
    → IsStore walked → Within a.constants s → AreLive a.depth s links → AreOwn p a own → IsBody q body all
    → AllByRecursion (Outer a.depth s links) outer
    → Opened a.depth p s own opened → Walk (within a own) body items opened (own_links q own ++ links) walked after
    → Loosened a.depth p walked s'
    → Walk a all (items ++ scope_items pos q own outer type) s links s' links

-- ---- to make the constants: one call of the store after another

abbrev pub OpensNone : Type 0
OpensNone = (d : ℕ) (p : Place) (s : Store) → Opened d p s [] s

-- a constant that was not made is new
abbrev pub IsNew : Type 0
IsNew =
    (d : ℕ) (p : Place) (s between : Store) (own : List Own) (r : Rigid)
    → Opened d p s own between → ((t : Rigid) → Contains (constants_of s) t → only p t.place ≡ false)
    → only p r.place ≡ true → (Contains (rigids own) r → ⊥) → Contains (constants_of between) r → ⊥

abbrev pub OpensOneMore : Type 0
OpensOneMore =
    (d : ℕ) (p : Place) (s between s' : Store) (own : List Own) (r : Rigid) (v : ℕ)
    → IsStore between → Opened d p s own between → only p r.place ≡ true
    → v ≡ length between → s' ≡ between ++ put (Constant r) (d + 1) ∷ []
    → Opened d p s (own ++ record { rigid = r; slot = v } ∷ []) s'

-- ---- after the walk of the body

-- the variables still have their constants
abbrev pub StaysOwn : Type 0
StaysOwn =
    (a : Around) (p : Place) (body : Region) (items : List Item) (own : List Own) (s opened walked : Store)
    (links after : Links)
    → Opened a.depth p s own opened → Walk (within a own) body items opened links walked after → HaveOwn walked own

-- so the variable that one is bound to in the end holds the constant
abbrev pub HoldsOwn : Type 0
HoldsOwn =
    (s : Store) (own : List Own) (o : Own) (root : ℕ)
    → IsStore s → HaveOwn s own → Contains own o → Leads s o.slot root → is_bound (slot_at s root).cell ≡ false
    → (slot_at s root).cell ≡ Constant o.rigid

-- ---- to let the constants go: one call of the store after another

abbrev pub LoosensNone : Type 0
LoosensNone =
    (a : Around) (p : Place) (body : Region) (items : List Item) (own : List Own) (s opened walked : Store)
    (links after : Links)
    → ((t : Rigid) → Contains (constants_of s) t → only p t.place ≡ false)
    → Opened a.depth p s own opened → Walk (within a own) body items opened links walked after
    → Loosening a.depth p own walked walked

-- the next one holds its constant still
abbrev pub MayLoosen : Type 0
MayLoosen =
    (d : ℕ) (p : Place) (own rest : List Own) (o : Own) (s between : Store) (root : ℕ)
    → IsStore s → HaveOwn s own → Contains own o → Loosening d p (o ∷ rest) s between
    → Leads between o.slot root → is_bound (slot_at between root).cell ≡ false
    → (slot_at between root).cell ≡ Constant o.rigid

abbrev pub LoosensOneMore : Type 0
LoosensOneMore =
    (d : ℕ) (p : Place) (own rest : List Own) (o : Own) (s between s' : Store) (root : ℕ)
    → IsStore s → HaveOwn s own → Contains own o → only p o.rigid.place ≡ true → (Contains (rigids rest) o.rigid → ⊥)
    → IsFree d s o.slot → Loosening d p (o ∷ rest) s between
    → Leads between o.slot root → is_bound (slot_at between root).cell ≡ false → IsLoosened between root s'
    → root < length between → Loosening d p rest s s'

abbrev pub LoosensAll : Type 0
LoosensAll = (d : ℕ) (p : Place) (s s' : Store) → Loosening d p [] s s' → Loosened d p s s'
