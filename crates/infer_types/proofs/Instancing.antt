-- The type of an instance is the type over the children of its place, and over the constants of annotations around.
use Rattle.std.proofs.Common.{◌≡◌, ℕ, zero, suc, ◌+◌, ◌-◌, ◌<◌, ◌≤◌, List, [], ◌∷◌, ◌++◌, length, map, Bool, true}
use Rattle.std.proofs.Common.{false, Some, refl, sym, ap, ◌∙◌, subst, arith, append-nil}
use Rattle.std.proofs.Common.{length-append}
use Rattle.std.specs.Prelude.{nat_lt, slice_get, unwrap_or, option_map, if◌then◌else◌}
use Rattle.std.specs.List.{AllByRecursion, AllZip, range_with_len}
use Rattle.std.proofs.lemmas.Bool.Decides.{nat_tests}
use Rattle.elm_base.specs.declared.position.Pos.{Pos}
use Rattle.elm_type.specs.Types.{ElmType, int_type, variable, variables, renamed, Rigid, Leaf, Free, Fixed, Kind}
use Rattle.elm_type.specs.Types.{Scheme}
use Rattle.elm_type.specs.Rows.{ordered}
use Rattle.type_items.specs.Items.{Place, child, Wanted, at, children}
use Rattle.type_items.specs.Scopes.{leaf_at, instance, instance_items}
use Rattle.type_store.specs.Store.{Store}
use Rattle.type_walks.specs.Regions.{none, below, either}
use Rattle.type_walks.specs.Links.{Links, Live, AreLive, Has}
use Rattle.type_walks.specs.Walks.{Around, Walk}
use Rattle.type_walks.proofs.Regions.{none_inside, apart_none, either_inside}
use Rattle.type_walks.proofs.Linking.{all_live_later}
use Rattle.type_walks.proofs.Walking.{goes_on, widens, forgets}
use Rattle.type_constructs.specs.Failing.{Bad, Fails}
use Rattle.type_constructs.specs.Regions.{tops}
use Rattle.type_constructs.proofs.Chains.{tells_on, all_still}
use Rattle.type_constructs.proofs.Parts.{zip_both, zip_length}
use Rattle.type_constructs.proofs.Spots.{Here, Tops, In, atom_inside}
use Rattle.type_walks.specs.TypeStepsLaws.{Lacking}
use Rattle.infer_steps.specs.Codes.{Declared, State}
use Rattle.infer_steps.specs.Ready.{IsBelow, IsWritten, DeclaredReady}
use Rattle.infer_steps.specs.Means.{own_or_constant, IsDeclared}
use Rattle.infer_steps.proofs.Stepping.{follows_on, all_still_live}
use Rattle.infer_types.specs.Writing.{leaf_type, written, CanWrite, Writes}
use Rattle.infer_types.specs.Instances.{AreOfKinds, NoneOfKinds, IsInstance, NoInstance, elsewhere}
use Rattle.infer_types.proofs.Loops.{lacking_later}
use Rattle.infer_types.proofs.Substituted.{renamed_twice, renamed_itself, formed_ordered, by_variables}

-- ---- what the variables of a declared type stand for

abbrev constant_types : List Rigid → List Wanted
constant_types constants = map (λ r. variable (Fixed r)) constants

abbrev pub leaf_types : Place → ℕ → List Rigid → List Wanted
leaf_types p n constants = children p n ++ constant_types constants

own_there : (p : Place) (j m i : ℕ) (more : List Wanted) → i < m
    → slice_get (map (λ k. at (child p k)) (range_with_len j m) ++ more) i ≡ Some (at (child p (j + i)))
own_there p j zero i more l = absurd (omega arith)
own_there p j (suc m) zero more l = (let e : j ≡ j + 0 = omega arith in ap (λ k. Some (at (child p k))) e)
own_there p j (suc m) (suc i) more l =
    (let e : (j + 1) + i ≡ j + suc i = omega arith in own_there p (j + 1) m i more (omega arith) ∙ ap
    (λ k. Some (at (child p k))) e)

own_past : (p : Place) (j m i : ℕ) (more : List Wanted) → m ≤ i
    → slice_get (map (λ k. at (child p k)) (range_with_len j m) ++ more) i ≡ slice_get more (i - m)
own_past p j zero i more l = (let e : i ≡ i - 0 = omega arith in ap (slice_get more) e)
own_past p j (suc m) zero more l = absurd (omega arith)
own_past p j (suc m) (suc i) more l =
    (let e : i - m ≡ suc i - suc m = omega arith in own_past p (j + 1) m i more (omega arith) ∙ ap (slice_get more) e)

record Constant (constants : List Rigid) (i : ℕ) : Type 0 where
  rigid : Rigid
  there : slice_get constants i ≡ Some rigid
  type : slice_get (constant_types constants) i ≡ Some (variable (Fixed rigid))

constant_there : (constants : List Rigid) (i : ℕ) → i < length constants → Constant constants i
constant_there [] i l = absurd (omega arith)
constant_there (r ∷ rs) zero l = record { rigid = r; there = refl; type = refl }
constant_there (r ∷ rs) (suc i) l =
    (let c = constant_there rs i (omega arith) in record { rigid = c.rigid; there = c.there; type = c.type })

module _ (p : Place) (n : ℕ) (constants : List Rigid) where
  abbrev place_of : Leaf ℕ → Leaf Place
  place_of x = leaf_at p (own_or_constant n constants x)

  leaf_there : (x : Leaf ℕ) → IsBelow (n + length constants) x
      → leaf_type (leaf_types p n constants) x ≡ variable (place_of x)
  leaf_there (Free i) l = go (nat_lt i n) refl
    where
      go : (b : Bool) → nat_lt i n ≡ b
          → leaf_type (leaf_types p n constants) (Free i) ≡ variable
          (leaf_at p (if b then Free i else unwrap_or (option_map (λ r. Fixed r) (slice_get constants (i - n)))
          (Free i)))
      go true e =
          (let less : i < n = grind (arith, nat_tests) in
          let z : 0 + i ≡ i = omega arith in
          ap (λ o. unwrap_or o int_type) (own_there p 0 n i (constant_types constants) less ∙ ap
          (λ k. Some (at (child p k))) z))
      go false e =
          (let more : n ≤ i = grind (arith, nat_tests) in
          let c = constant_there constants (i - n) (omega (arith, l, more)) in
          ap (λ o. unwrap_or o int_type) (own_past p 0 n i (constant_types constants) more ∙ c.type)
          ∙ ap (λ o. variable (leaf_at p (unwrap_or (option_map (λ r. Fixed r) o) (Free i)))) (sym c.there))
  leaf_there (Fixed r) l = absurd l

  all_there : (xs : List (Leaf ℕ)) → AllByRecursion (IsBelow (n + length constants)) xs
      → AllByRecursion (λ x. leaf_type (leaf_types p n constants) x ≡ variable (place_of x)) xs
  all_there [] h = tt
  all_there (x ∷ xs) h = (leaf_there x h.0, all_there xs h.1)

  pub written_there : (t : ElmType (Leaf ℕ)) → ordered t ≡ true → AllByRecursion (IsBelow (n + length constants))
      (variables t)
      → written (leaf_types p n constants) t ≡ renamed (leaf_at p) (renamed (own_or_constant n constants) t)
  written_there t o h =
      by_variables (leaf_type (leaf_types p n constants)) place_of t o (all_there (variables t) h) ∙ sym
      (renamed_twice (leaf_at p) (own_or_constant n constants) t)

-- ---- the instance

-- the variables of the type, and what is known of them
pub can_write : (old u : State) (pos : Pos) (t : Declared) (vs : List ℕ) → DeclaredReady old.depth old.store t
    → AreOfKinds pos t.scheme.kinds old u vs → CanWrite u.store (vs ++ t.outer) t.scheme.type
can_write old u pos t vs ready kinds = record {
  kinds = t.scheme.kinds ++ ready.kinds;
  below = ready.written.below;
  formed = ready.written.formed;
  lacks =
      zip_both (λ v (k : Kind). Lacking u.store v k.lacks) vs t.outer t.scheme.kinds ready.kinds kinds.lacking
      (lacking_later old u kinds.follows t.outer ready.kinds ready.live ready.lacks);
}

all_live : (d : ℕ) (s : Store) (vs ws : List ℕ) → AllByRecursion (Live d s) vs → AllByRecursion (Live d s) ws
    → AllByRecursion (Live d s) (vs ++ ws)
all_live d s [] ws h k = k
all_live d s (v ∷ vs) ws h k = (h.0, all_live d s vs ws h.1 k)

pub leaves_live : (old u : State) (pos : Pos) (t : Declared) (vs : List ℕ) → DeclaredReady old.depth old.store t
    → AreOfKinds pos t.scheme.kinds old u vs → AllByRecursion (Live u.depth u.store) (vs ++ t.outer)
leaves_live old u pos t vs ready kinds =
    all_live u.depth u.store vs t.outer kinds.live (all_still_live old u t.outer kinds.follows ready.live)

constants_have : (links : Links) (vs : List ℕ) (rs : List Rigid)
    → AllZip (λ v r. Has links v (variable (Fixed r))) vs rs → AllZip (Has links) vs (constant_types rs)
constants_have links [] [] h = tt
constants_have links [] (r ∷ rs) h = h
constants_have links (v ∷ vs) [] h = h
constants_have links (v ∷ vs) (r ∷ rs) h = (h.0, constants_have links vs rs h.1)

module _ (old u new : State) (pos : Pos) (t : Declared) (vs : List ℕ) (v : ℕ)
    (ready : DeclaredReady old.depth old.store t) (kinds : AreOfKinds pos t.scheme.kinds old u vs)
    (made : Writes (vs ++ t.outer) t.scheme.type u new v) where
  module _ (a : Around) (links : Links) (s : Scheme) (p : Place) (e : a.depth ≡ old.depth)
      (live : AreLive a.depth old.store links) (declared : IsDeclared links t s) where
    abbrev own : ℕ
    own = length t.scheme.kinds

    type_there : written (leaf_types p own declared.constants) t.scheme.type ≡ instance s p
    type_there =
        written_there p own declared.constants t.scheme.type
        (formed_ordered (t.scheme.kinds ++ ready.kinds) t.scheme.type ready.written.formed)
        (subst (λ n. AllByRecursion (IsBelow n) (variables t.scheme.type)) many ready.written.below)
        ∙ ap (renamed (leaf_at p)) (sym declared.type)
      where
        many : length (t.scheme.kinds ++ ready.kinds) ≡ own + length declared.constants
        many =
            length-append t.scheme.kinds ready.kinds
            ∙ ap (λ n. own + n) (sym (zip_length (λ w (k : Kind). Lacking old.store w k.lacks) t.outer ready.kinds
            ready.lacks)
            ∙ zip_length (λ w r. Has links w (variable (Fixed r))) t.outer declared.constants declared.has)

    pub instance_walk : Walk a (below p) (instance_items s.kinds pos p) old.store links new.store
        ((v, instance s p) ∷ links)
    instance_walk =
        let one = kinds.kinds a links p e live in
        let leaves = zip_both (Has one.after) vs t.outer (children p own) (constant_types declared.constants) one.each
        (all_still t.outer (constant_types declared.constants) one.tells
        (constants_have links t.outer declared.constants declared.has)) in
        let two = made.typed a one.after (leaf_types p own declared.constants) (e ∙ sym kinds.follows.depth)
        (one.walk.live live) leaves in
        let here = has_type type_there two.has in
        let walk =
        widens a (either (tops p 0 own) none) (below p) (instance_items t.scheme.kinds pos p ++ []) old.store new.store
        links two.after
        (either_inside (tops p 0 own) none (below p) (atom_inside p (In Here (Tops 0 own)) refl)
        (none_inside (below p)))
        (goes_on a (tops p 0 own) none (instance_items t.scheme.kinds pos p) [] old.store u.store new.store links
        one.after two.after (apart_none (tops p 0 own)) live one.walk two.walk) in
        subst (λ l. Walk a (below p) l old.store links new.store ((v, instance s p) ∷ links))
        (append-nil (instance_items t.scheme.kinds pos p) ∙ ap (λ ks. instance_items ks pos p) (sym declared.kinds))
        (forgets a (below p) (instance_items t.scheme.kinds pos p ++ []) old.store new.store links two.after
        ((v, instance s p) ∷ links)
        (record { each = λ σ all h. (here.same σ all h, (tells_on two.tells one.tells).each σ all h) })
        (λ l. (
          subst (λ d. Live d new.store v) (sym depth_there) made.live,
          all_live_later a.depth old.store new.store
              links walk.later live,
        )) walk)
      where
        has_type : {after : Links} {w : ℕ} {x y : Wanted} → x ≡ y → Has after w x → Has after w y
        has_type {after = after} {w = w} is h = subst (Has after w) is h

        depth_there : a.depth ≡ new.depth
        depth_there = e ∙ sym (made.follows.depth ∙ kinds.follows.depth)

  pub is_instance : IsInstance t pos old new v
  is_instance = record {
    follows = follows_on old u new kinds.follows made.follows;
    live = made.live;
    walk = λ a links s p e live declared. instance_walk a links s p e live declared;
  }

pub no_instance : (old new : State) (pos : Pos) (t : Declared) (bad : Bad) → NoneOfKinds pos t.scheme.kinds old new bad
    → NoInstance t pos old new bad
no_instance old new pos t bad none = record {
  fails = λ a links s p e live declared.
      subst (λ ks. Fails a old.store links (below p) (instance_items ks pos p) bad new.store) (sym declared.kinds)
      (none.fails a links p e live);
}

-- ---- of a scheme that is declared elsewhere

pub scheme_ready : (d : ℕ) (st : Store) (s : Scheme) → IsWritten s.kinds s → DeclaredReady d st (elsewhere s)
scheme_ready d st s w = record {
  kinds = [];
  written = subst (λ ks. IsWritten ks s) (sym (append-nil s.kinds)) w;
  live = tt;
  lacks = tt;
}

pub no_constants : (n : ℕ) (x : Leaf ℕ) → own_or_constant n [] x ≡ x
no_constants n (Free i) = go (nat_lt i n)
  where
    go : (b : Bool) → (if b then Free i else unwrap_or (option_map (λ (r : Rigid). Fixed r) (slice_get [] (i - n)))
        (Free i)) ≡ Free i
    go true = refl
    go false = refl
no_constants n (Fixed r) = refl

pub scheme_declared : (links : Links) (s : Scheme) → IsDeclared links (elsewhere s) s
scheme_declared links s = record {
  constants = [];
  has = tt;
  kinds = refl;
  type = sym (renamed_itself (own_or_constant (length s.kinds) []) (no_constants (length s.kinds)) s.type);
}
