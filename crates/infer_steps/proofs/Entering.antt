-- Names that come into scope.
use Rattle.std.proofs.Common.{◌≡◌, ℕ, zero, suc, List, [], ◌∷◌, ◌++◌, map, Bool, true, false, Option, Some, None, sym, subst, arith}
use Rattle.std.specs.Prelude.{if◌then◌else◌}
use Rattle.std.specs.List.{AllByRecursion, AllZip, Contains}
use Rattle.std.specs.Map.{lookup}
use Rattle.std.specs.Str.{bytes_eq}
use Rattle.std.proofs.lemmas.List.Elements.{Contains-append_left, Contains-append_right, Contains-push}
use Rattle.elm_canon.specs.Names.{same_ref}
use Rattle.elm_canon.specs.declared.reference.Ref.{Ref}
use Rattle.elm_canon.specs.declared.reference.Ref.TheVariants.{Local}
use Rattle.elm_type.specs.Types.{Name, variable, Rigid, Fixed, Scheme}
use Rattle.type_items.specs.Items.{Wanted}
use Rattle.type_items.specs.Scopes.{Entry, Mono, Instance, General, Entries, Scope, one_types, with_names}
use Rattle.type_items.specs.Definitions.{outer_types}
use Rattle.type_store.specs.Store.{Store}
use Rattle.type_walks.specs.Links.{Link, Links, Live, Has, Tells}
use Rattle.type_walks.specs.Walks.{Around}
use Rattle.type_walks.specs.TypeCopiesLaws.{SaysWithMore}
use Rattle.type_schemes.specs.Constants.{Outer}
use Rattle.infer_steps.specs.Codes.{Declared, Meaning, One, Many, Each, Code, Bound, with_meaning, with_bound, with_constant}
use Rattle.infer_steps.specs.Ready.{MeaningReady, IsReady}
use Rattle.infer_steps.specs.Means.{IsDeclared, MeansEntry, MeansConstant, Means, Binds}
use Rattle.infer_steps.specs.Laws.{ReadyBinds, EntersOne, EntersMany, EntersEach, EntersConstant, SettingBinds}

-- ---- what can be used

module _ (code : Code) (d : ℕ) (s : Store) where
  pub ready_enters : (x : Ref) (m : Meaning) → IsReady code d s → MeaningReady d s m → IsReady (with_meaning x m code) d s
  ready_enters x m ready h = record {
    whole = ready.whole;
    around = ready.around;
    known = ready.known;
    names = λ y n is. go y n (same_ref y x) is;
    constants = ready.constants;
  }
    where
      go : (y : Ref) (n : Meaning) (b : Bool) → (if b then Some m else code.names y) ≡ Some n → MeaningReady d s n
      go y n true is = let same : m ≡ n = cc in subst (MeaningReady d s) same h
      go y n false is = ready.names y n is

  pub ready_constant : (x : Name) (v : ℕ) → IsReady code d s → Live d s v → IsReady (with_constant x v code) d s
  ready_constant x v ready h = record {
    whole = ready.whole;
    around = ready.around;
    known = ready.known;
    names = ready.names;
    constants = λ a w is. go a w (bytes_eq a x) is;
  }
    where
      go : (a : Name) (w : ℕ) (b : Bool) → (if b then Some v else code.constants a) ≡ Some w → Live d s w
      go a w true is = let same : v ≡ w = cc in subst (Live d s) same h
      go a w false is = ready.constants a w is

pub readies_bound : ReadyBinds
readies_bound code d s [] live ready = ready
readies_bound code d s (b ∷ bs) live ready =
    ready_enters (with_bound bs code) d s (Local b.0) (One b.1) (readies_bound code d s bs live.1 ready) live.0

-- ---- more links

has_more : (links more : Links) (v : ℕ) (t : Wanted) → Tells more links → Has links v t → Has more v t
has_more links more v t tells h = record { same = λ σ types l. h.same σ types (tells.each σ types l) }

has_each : (links more : Links) (vs : List ℕ) (rs : List Rigid) → Tells more links → AllZip (λ v r. Has links v (variable (Fixed r))) vs rs
    → AllZip (λ v r. Has more v (variable (Fixed r))) vs rs
has_each links more [] [] tells h = tt
has_each links more [] (r ∷ rs) tells h = absurd h
has_each links more (v ∷ vs) [] tells h = absurd h
has_each links more (v ∷ vs) (r ∷ rs) tells h = (has_more links more v (variable (Fixed r)) tells h.0, has_each links more vs rs tells h.1)

outer_more : (d : ℕ) (s : Store) (links more : Links) (ts : List Wanted) → Tells more links → AllByRecursion (Outer d s links) ts
    → AllByRecursion (Outer d s more) ts
outer_more d s links more [] tells h = tt
outer_more d s links more (t ∷ ts) tells h = (
  record { slot = h.0.slot; has = has_more links more h.0.slot t tells h.0.has; live = h.0.live },
  outer_more d s links more ts tells h.1,
)

module _ (says_with_more : SaysWithMore) (a : Around) (s : Store) (links more : Links) (tells : Tells more links) where
  declared_more : (t : Declared) (scheme : Scheme) → IsDeclared links t scheme → IsDeclared more t scheme
  declared_more t scheme h = record {
    constants = h.constants;
    has = has_each links more t.outer h.constants tells h.has;
    kinds = h.kinds;
    type = h.type;
  }

  entry_more : (o : Option Meaning) (e : Option Entry) → MeansEntry a links s o e → MeansEntry a more s o e
  entry_more None None h = tt
  entry_more None (Some e) h = absurd h
  entry_more (Some (One v)) None h = absurd h
  entry_more (Some (One v)) (Some (Mono t)) h = has_more links more v t tells h
  entry_more (Some (One v)) (Some (Instance scheme)) h = absurd h
  entry_more (Some (One v)) (Some (General list type)) h = absurd h
  entry_more (Some (Many frozen)) None h = absurd h
  entry_more (Some (Many frozen)) (Some (Mono t)) h = absurd h
  entry_more (Some (Many frozen)) (Some (Instance scheme)) h = absurd h
  entry_more (Some (Many frozen)) (Some (General list type)) h = (says_with_more a s links more frozen list type tells h.0, h.1)
  entry_more (Some (Each t)) None h = absurd h
  entry_more (Some (Each t)) (Some (Mono u)) h = absurd h
  entry_more (Some (Each t)) (Some (Instance scheme)) h = declared_more t scheme h
  entry_more (Some (Each t)) (Some (General list type)) h = absurd h

  constant_more : (o : Option ℕ) (r : Option Rigid) → MeansConstant links o r → MeansConstant more o r
  constant_more None None h = tt
  constant_more None (Some r) h = absurd h
  constant_more (Some v) None h = absurd h
  constant_more (Some v) (Some r) h = has_more links more v (variable (Fixed r)) tells h

-- ---- types in scope

among_more : (ts : List Wanted) (t u : Wanted) → Contains ts u → Contains (t ∷ ts) u
among_more ts t u h = Contains-append_right (t ∷ []) ts u h

among_first : (ts : List Wanted) (t : Wanted) → Contains (t ∷ ts) t
among_first ts t = Contains-append_left (t ∷ []) ts t (Contains-push [] t)

only_more : (outer : List Wanted) (t : Wanted) (links : Links) → AllByRecursion (λ (l : Link). Contains outer l.1) links
    → AllByRecursion (λ (l : Link). Contains (t ∷ outer) l.1) links
only_more outer t [] h = tt
only_more outer t (l ∷ ls) h = (among_more outer t l.1 h.0, only_more outer t ls h.1)

among_between : (xs ys : List Wanted) (t u : Wanted) → Contains (xs ++ ys) u → Contains (xs ++ t ∷ ys) u
among_between [] ys t u h = among_more ys t u h
among_between (x ∷ xs) ys t u (zero, l, e) = (zero, omega arith, e)
among_between (x ∷ xs) ys t u (suc k, l, e) =
    among_more (xs ++ t ∷ ys) x u (among_between xs ys t u (k, omega (arith, l), e))

among_there : (xs ys : List Wanted) (t : Wanted) → Contains (xs ++ t ∷ ys) t
among_there xs ys t = Contains-append_right xs (t ∷ ys) t (among_first ys t)

only_between : (xs ys : List Wanted) (t : Wanted) (links : Links) → AllByRecursion (λ (l : Link). Contains (xs ++ ys) l.1) links
    → AllByRecursion (λ (l : Link). Contains (xs ++ t ∷ ys) l.1) links
only_between xs ys t [] h = tt
only_between xs ys t (l ∷ ls) h = (among_between xs ys t l.1 h.0, only_between xs ys t ls h.1)

all_between : {X : Type 0} (P : X → Type 0) (xs ys : List X) (t : X) → P t → AllByRecursion P (xs ++ ys) → AllByRecursion P (xs ++ t ∷ ys)
all_between P [] ys t p h = (p, h)
all_between P (x ∷ xs) ys t p h = (h.0, all_between P xs ys t p h.1)

-- ---- names

one_link : (links : Links) (v : ℕ) (t : Wanted) → Tells ((v, t) ∷ links) links
one_link links v t = record { each = λ σ types h. h.1 }

has_first : (links : Links) (v : ℕ) (t : Wanted) → Has ((v, t) ∷ links) v t
has_first links v t = record { same = λ σ types h. h.0 }

module _ (says_with_more : SaysWithMore) (a : Around) (links : Links) (code : Code) (scope : Scope) (s : Store) (m : Means a links code scope s) (v : ℕ) (t : Wanted) where
  abbrev more : Links
  more = (v, t) ∷ links

  entry_one : (y : Ref) (b : Bool) → MeansEntry a more s (if b then Some (One v) else code.names y) (if b then Some (Mono t) else lookup (same_ref y) scope.names)
  entry_one y true = has_first links v t
  entry_one y false = entry_more says_with_more a s links more (one_link links v t) (code.names y) (lookup (same_ref y) scope.names) (m.names y)

  still_constants : (y : Name) → MeansConstant more (code.constants y) (lookup (bytes_eq y) scope.constants)
  still_constants y = constant_more says_with_more a s links more (one_link links v t) (code.constants y) (lookup (bytes_eq y) scope.constants) (m.constants y)

  still_names : (y : Ref) → MeansEntry a more s (code.names y) (lookup (same_ref y) scope.names)
  still_names y = entry_more says_with_more a s links more (one_link links v t) (code.names y) (lookup (same_ref y) scope.names) (m.names y)

  still_types : AllByRecursion (Outer a.depth s more) (outer_types scope)
  still_types = outer_more a.depth s links more (outer_types scope) (one_link links v t) m.types

  one_type_here : Live a.depth s v → Outer a.depth s more t
  one_type_here live = record { slot = v; has = has_first links v t; live = live }

pub enters_one : SaysWithMore → EntersOne
enters_one says_with_more a links code scope s x v t live m = record {
  live = (live, m.live);
  known = m.known;
  names = λ y. entry_one says_with_more a links code scope s m v t y (same_ref y x);
  constants = still_constants says_with_more a links code scope s m v t;
  types = (one_type_here says_with_more a links code scope s m v t live, still_types says_with_more a links code scope s m v t);
  only = (among_first (outer_types scope) t, only_more (outer_types scope) t links m.only);
}

pub enters_many : EntersMany
enters_many a links code scope s x frozen list type says plain m = record {
  live = m.live;
  known = m.known;
  names = λ y. go y (same_ref y x);
  constants = m.constants;
  types = m.types;
  only = m.only;
}
  where
    go : (y : Ref) (b : Bool) → MeansEntry a links s (if b then Some (Many frozen) else code.names y)
        (if b then Some (General list type) else lookup (same_ref y) scope.names)
    go y true = (says, plain)
    go y false = m.names y

pub enters_each : EntersEach
enters_each a links code scope s x t scheme declared m = record {
  live = m.live;
  known = m.known;
  names = λ y. go y (same_ref y x);
  constants = m.constants;
  types = m.types;
  only = m.only;
}
  where
    go : (y : Ref) (b : Bool) → MeansEntry a links s (if b then Some (Each t) else code.names y)
        (if b then Some (Instance scheme) else lookup (same_ref y) scope.names)
    go y true = declared
    go y false = m.names y

abbrev constant_types : Scope → List Wanted
constant_types scope = map (λ c. variable (Fixed c.1)) scope.constants

constant_entry : SaysWithMore → (a : Around) (links : Links) (code : Code) (scope : Scope) (s : Store) → Means a links code scope s → (v : ℕ) (r : Rigid) (y : Name) (b : Bool)
    → MeansConstant ((v, variable (Fixed r)) ∷ links) (if b then Some v else code.constants y) (if b then Some r else lookup (bytes_eq y) scope.constants)
constant_entry says_with_more a links code scope s m v r y true = has_first links v (variable (Fixed r))
constant_entry says_with_more a links code scope s m v r y false = still_constants says_with_more a links code scope s m v (variable (Fixed r)) y

pub enters_constant : SaysWithMore → EntersConstant
enters_constant says_with_more a links code scope s x v r live m = record {
  live = (live, m.live);
  known = m.known;
  names = still_names says_with_more a links code scope s m v (variable (Fixed r));
  constants = λ y. constant_entry says_with_more a links code scope s m v r y (bytes_eq y x);
  types =
      all_between (Outer a.depth s ((v, variable (Fixed r)) ∷ links)) (one_types scope.names) (constant_types scope) (variable (Fixed r))
      (one_type_here says_with_more a links code scope s m v (variable (Fixed r)) live) (still_types says_with_more a links code scope s m v (variable (Fixed r)));
  only = (
    among_there (one_types scope.names) (constant_types scope) (variable (Fixed r)),
    only_between (one_types scope.names) (constant_types scope) (variable (Fixed r)) links m.only,
  );
}

-- ---- the names that a pattern binds

record BoundMeans (a : Around) (links named : Links) (code : Code) (scope : Scope) (s : Store) : Type 0 where
  all : Links
  tells : Tells links all
  means : Means a all code scope s

module _ (says_with_more : SaysWithMore) (a : Around) (links named : Links) (code : Code) (scope : Scope) (s : Store) (tells : Tells links named)
    (means : Means a named code scope s) where
  binds : (bound : List Bound) (names : Entries) → AllByRecursion (λ (b : Bound). Live a.depth s b.1) bound → Binds links bound names
      → BoundMeans a links named (with_bound bound code) (with_names names scope) s
  binds [] [] live h = record { all = named; tells = tells; means = means }
  binds [] (n ∷ ns) live h = absurd h
  binds (b ∷ bs) [] live h = absurd h
  binds (b ∷ bs) ((x, Mono t) ∷ ns) live h =
      let rest = binds bs ns live.1 h.1 in
      let one = enters_one says_with_more a rest.all (with_bound bs code) (with_names ns scope) s (Local b.0) b.1 t live.0 rest.means in
      record {
        all = (b.1, t) ∷ rest.all;
        tells = record { each = λ σ types l. (h.0.1.same σ types l, rest.tells.each σ types l) };
        means =
            subst (λ y. Means a ((b.1, t) ∷ rest.all) (with_meaning (Local b.0) (One b.1) (with_bound bs code))
            (with_names ((y, Mono t) ∷ []) (with_names ns scope)) s) (sym h.0.0) one;
      }
  binds (b ∷ bs) ((x, Instance scheme) ∷ ns) live h = absurd h.0
  binds (b ∷ bs) ((x, General list type) ∷ ns) live h = absurd h.0

live_at : (d e : ℕ) (s : Store) (bound : List Bound) → d ≡ e → AllByRecursion (λ (b : Bound). Live e s b.1) bound → AllByRecursion (λ (b : Bound). Live d s b.1) bound
live_at d e s bound is h = subst (λ n. AllByRecursion (λ (b : Bound). Live n s b.1) bound) (sym is) h

pub setting_binds : SaysWithMore → SettingBinds
setting_binds says_with_more a links code scope s bound names live h set =
    let m = binds says_with_more a links set.named code scope s.store set.tells set.means bound names
    (live_at a.depth s.depth s.store bound set.around.depth live) h in
    record { around = set.around; live = set.live; named = m.all; tells = m.tells; means = m.means }
