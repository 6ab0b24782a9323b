-- Steps in turn, each of which has its places in a part of a region.
use Rattle.std.proofs.Common.{◌≡◌, ℕ, List, [], ◌∷◌, ◌++◌, true, refl, subst}
use Rattle.std.proofs.lemmas.List.{append-nil}
use Rattle.type_items.specs.Items.{Place, Wanted, Item}
use Rattle.type_items.specs.Scopes.{Scope}
use Rattle.type_store.specs.Store.{Store}
use Rattle.type_walks.specs.Regions.{Region, none, Inside}
use Rattle.type_walks.specs.Links.{Links, AreLive}
use Rattle.type_walks.specs.Walks.{Around, Walk}
use Rattle.type_walks.proofs.Regions.{none_inside, either_inside}
use Rattle.type_walks.proofs.Walking.{widens}
use Rattle.type_constructs.specs.Passing.{NoSizes}
use Rattle.type_constructs.specs.Failing.{Bad, Fails}
use Rattle.type_constructs.proofs.Failing.{fails_earlier}
use Rattle.type_constructs.proofs.Spots.{Atom, Nowhere, atom_region, cover, all_off}
use Rattle.type_constructs.proofs.Running.{plain}
use Rattle.type_constructs.proofs.Chains as chains
use Rattle.type_constructs.proofs.Chains.{Chain}
use Rattle.type_constructs.proofs.Stops as stops
use Rattle.type_constructs.proofs.Stops.{Stop}
use Rattle.infer_steps.specs.Codes.{Code, State}
use Rattle.infer_steps.specs.Promises.{Listing}
use Rattle.infer_steps.specs.Begun.{Gives, Types, Begun, BeginStops}

-- ---- walks

-- steps that have their places in X
pub record Line (a : Around) (q : Place) (X : Region) (parts : List Atom) (items : List Item) (s : Store)
    (before : Links) (s' : Store) (after : Links) : Type 0 where
  pub chain : Chain a q parts items s before s' after
  pub inside : Inside (cover q parts) X

-- the last step, which has no places
pub ends : {a : Around} {q : Place} {X : Region} {items : List Item} {s s' : Store} {before after : Links}
    → Walk a none items s before s' after
    → Line a q X (Nowhere ∷ []) items s before s' after
ends {q = q} {X = X} w = record {
  chain = chains.last Nowhere w;
  inside = either_inside none none X (none_inside X)
      (none_inside X);
}

-- a step that has no places, and more
pub quiet : {a : Around} {q : Place} {X : Region} {ys : List Atom} {first second : List Item} {s u s' : Store}
    {before between after : Links}
    → Walk a none first s before u between → Line a q X ys second u between s' after
    → Line a q X (Nowhere ∷ ys) (first ++ second) s before s' after
quiet {q = q} {X = X} {ys = ys} w rest = record {
  chain = chains.on Nowhere (nowhere_off ys) w rest.chain;
  inside = either_inside none (cover q ys) X (none_inside X) rest.inside;
}
  where
    nowhere_off : (ys : List Atom) → all_off Nowhere ys ≡ true
    nowhere_off [] = refl
    nowhere_off (y ∷ ys) = nowhere_off ys

-- a step at places, and more
pub spot : {a : Around} {q : Place} {X : Region} {ys : List Atom} {first second : List Item} {s u s' : Store}
    {before between after : Links} (x : Atom)
    → all_off x ys ≡ true → Inside (atom_region q x) X → Walk a (atom_region q x) first s before u between
    → Line a q X ys second u between s' after
    → Line a q X (x ∷ ys) (first ++ second) s before s' after
spot {q = q} {X = X} {ys = ys} x h i w rest = record {
  chain = chains.on x h w rest.chain;
  inside = either_inside (atom_region q x) (cover q ys) X i rest.inside;
}

pub lined : {a : Around} {q : Place} {X : Region} {xs : List Atom} {items : List Item} {s s' : Store}
    {before after : Links} → AreLive a.depth s before
    → Line a q X xs items s before s' after → Walk a X items s before s' after
lined {a = a} {q = q} {X = X} {xs = xs} {items = items} {s = s} {s' = s'} {before = before} {after = after} live line =
    widens a (cover q xs) X items s s' before after line.inside (line.chain.walk live)

-- ---- stops

-- steps that stop, and have their places in X
pub record Halt (a : Around) (q : Place) (X : Region) (parts : List Atom) (items : List Item) (s : Store)
    (before : Links) (bad : Bad) (s' : Store) : Type 0 where
  pub stop : Stop a q parts items s before bad s'
  pub inside : Inside (cover q parts) X

-- here, at no place
pub halts : {a : Around} {q : Place} {X : Region} {items : List Item} {s s' : Store} {before : Links} {bad : Bad}
    → Fails a s before none items bad s'
    → Halt a q X (Nowhere ∷ []) items s before bad s'
halts {q = q} {X = X} f = record {
  stop = stops.ends Nowhere f;
  inside = either_inside none none X (none_inside X)
      (none_inside X);
}

-- here, at places, whatever comes later
pub halts_at : {a : Around} {q : Place} {X : Region} {items : List Item} {s s' : Store} {before : Links} {bad : Bad}
    (x : Atom) (more : List Item)
    → Inside (atom_region q x) X → Fails a s before (atom_region q x) items bad s'
    → Halt a q X (x ∷ []) (items ++ more) s before bad s'
halts_at {q = q} {X = X} x more i f = record {
  stop = stops.stuck x more f;
  inside = either_inside (atom_region q x)
      none X i (none_inside X);
}

pub past_quiet : {a : Around} {q : Place} {X : Region} {ys : List Atom} {first second : List Item} {s u s' : Store}
    {before between : Links} {bad : Bad}
    → NoSizes first → Walk a none first s before u between → Halt a q X ys second u between bad s'
    → Halt a q X (Nowhere ∷ ys) (first ++ second) s before bad s'
past_quiet {q = q} {X = X} {ys = ys} sizes w rest = record {
  stop = stops.past Nowhere (nowhere_off ys) (plain sizes w) rest.stop;
  inside = either_inside none (cover q ys) X (none_inside X) rest.inside;
}
  where
    nowhere_off : (ys : List Atom) → all_off Nowhere ys ≡ true
    nowhere_off [] = refl
    nowhere_off (y ∷ ys) = nowhere_off ys

pub past_spot : {a : Around} {q : Place} {X : Region} {ys : List Atom} {first second : List Item} {s u s' : Store}
    {before between : Links} {bad : Bad} (x : Atom)
    → all_off x ys ≡ true → Inside (atom_region q x) X → NoSizes first → Walk a (atom_region q x) first s before u
    between
    → Halt a q X ys second u between bad s' → Halt a q X (x ∷ ys) (first ++ second) s before bad s'
past_spot {q = q} {X = X} {ys = ys} x h i sizes w rest = record {
  stop = stops.past x h (plain sizes w) rest.stop;
  inside = either_inside (atom_region q x) (cover q ys) X i rest.inside;
}

pub halted : {a : Around} {q : Place} {X : Region} {xs : List Atom} {items : List Item} {s s' : Store} {before : Links}
    {bad : Bad}
    → Halt a q X xs items s before bad s' → Fails a s before X items bad s'
halted {a = a} {q = q} {X = X} {xs = xs} {items = items} {s = s} {s' = s'} {before = before} {bad = bad} halt =
    subst (λ l. Fails a s before X l bad s') (append-nil items)
    (fails_earlier a s before (cover q xs) X items [] bad s' halt.inside halt.stop.fails)

-- ---- the same, said in other words

pub begun_as : (code : Code) (v : ℕ) (R : Place → Region) (list other : Listing) (vs : List ℕ) (types kinds : Types)
    (old new : State)
    → ((scope : Scope) (q : Place) (w : Wanted) → list scope q w ≡ other scope q w)
    → ((scope : Scope) (q : Place) (w : Wanted) → types scope q w ≡ kinds scope q w)
    → Begun code v R list vs types old new → Begun code v R other vs kinds old new
begun_as code v R list other vs types kinds old new same alike h = record {
  follows = h.follows;
  live = h.live;
  plain = λ scope q w. subst NoSizes (same scope q w) (h.plain scope q w);
  gives = λ a links scope q w set has.
      subst (λ l. Gives a (R q) l old.store links new.store vs (kinds scope q w)) (same scope q w)
      (subst (λ ts. Gives a (R q) (list scope q w) old.store links new.store vs ts) (alike scope q w)
      (h.gives a links scope q w set has));
}

pub stops_as : (code : Code) (v : ℕ) (R : Place → Region) (list other : Listing) (old new : State) (bad : Bad)
    → ((scope : Scope) (q : Place) (w : Wanted) → list scope q w ≡ other scope q w)
    → BeginStops code v R list old new bad → BeginStops code v R other old new bad
stops_as code v R list other old new bad same h = record {
  fails = λ a links scope q w set has.
      subst (λ l. Fails a old.store links (R q) l bad new.store) (same scope q w) (h.fails a links scope q w set has);
}
