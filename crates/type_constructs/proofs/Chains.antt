-- Walks in turn, whose places are parts of the tree below a place.
use Rattle.std.proofs.Common.{◌≡◌, ℕ, List, [], ◌∷◌, ◌++◌, true}
use Rattle.std.specs.List.{AllZip}
use Rattle.type_items.specs.Items.{Place, Wanted, Item}
use Rattle.type_store.specs.Store.{Store}
use Rattle.type_walks.specs.Regions.{below}
use Rattle.type_walks.specs.Links.{Links, AreLive, Has, Tells}
use Rattle.type_walks.specs.Walks.{Around, Walk}
use Rattle.type_walks.proofs.Linking.{left_inside, all_live_later}
use Rattle.type_walks.proofs.Walking.{goes_on, widens, forgets}
use Rattle.type_constructs.proofs.Spots.{Atom, atom_region, cover, all_off, cover_apart, all_below, cover_inside}

-- ---- links

pub tells_same : (links : Links) → Tells links links
tells_same links = record { each = λ σ all h. h }

pub tells_more : {more links : Links} (v : ℕ) (t : Wanted) → Tells more links → Tells ((v, t) ∷ more) links
tells_more v t h = record { each = λ σ all k. h.each σ all k.1 }

pub tells_on : {more between links : Links} → Tells more between → Tells between links → Tells more links
tells_on h k = record { each = λ σ all l. k.each σ all (h.each σ all l) }

pub has_new : (v : ℕ) (t : Wanted) (links : Links) → Has ((v, t) ∷ links) v t
has_new v t links = record { same = λ σ all h. h.0 }

pub has_still : {more links : Links} {v : ℕ} {t : Wanted} → Tells more links → Has links v t → Has more v t
has_still h k = record { same = λ σ all l. k.same σ all (h.each σ all l) }

pub all_still : {more links : Links} (vs : List ℕ) (ts : List Wanted) → Tells more links → AllZip (Has links) vs ts → AllZip (Has more) vs ts
all_still [] [] h k = tt
all_still [] (t ∷ ts) h k = k
all_still (v ∷ vs) [] h k = k
all_still (v ∷ vs) (t ∷ ts) h k = (has_still h k.0, all_still vs ts h k.1)

-- ---- walks in turn

pub record Chain (a : Around) (q : Place) (parts : List Atom) (items : List Item) (s : Store) (before : Links) (s' : Store) (after : Links) : Type 0 where
  pub walk : AreLive a.depth s before → Walk a (cover q parts) items s before s' after

pub last : {a : Around} {q : Place} {items : List Item} {s s' : Store} {before after : Links} (x : Atom)
    → Walk a (atom_region q x) items s before s' after → Chain a q (x ∷ []) items s before s' after
last {a = a} {q = q} {items = items} {s = s} {s' = s'} {before = before} {after = after} x w = record {
  walk = λ live. widens a (atom_region q x) (cover q (x ∷ [])) items s s' before after (left_inside (atom_region q x) (cover q [])) w;
}

pub on : {a : Around} {q : Place} {ys : List Atom} {first second : List Item} {s u s' : Store} {before between after : Links} (x : Atom)
    → all_off x ys ≡ true → Walk a (atom_region q x) first s before u between → Chain a q ys second u between s' after
    → Chain a q (x ∷ ys) (first ++ second) s before s' after
on {a = a} {q = q} {ys = ys} {first = first} {second = second} {s = s} {u = u} {s' = s'} {before = before} {between = between} {after = after} x h w rest = record {
  walk = λ live. goes_on a (atom_region q x) (cover q ys) first second s u s' before between after (cover_apart q x ys h) live w (rest.walk (w.live live));
}

-- all of it is below the place
pub under : {a : Around} {q : Place} {xs : List Atom} {items : List Item} {s s' : Store} {before after : Links} → all_below xs ≡ true
    → AreLive a.depth s before → Chain a q xs items s before s' after → Walk a (below q) items s before s' after
under {a = a} {q = q} {xs = xs} {items = items} {s = s} {s' = s'} {before = before} {after = after} h live chain =
    widens a (cover q xs) (below q) items s s' before after (cover_inside q xs h) (chain.walk live)

-- and the links are those that were
pub whole : {a : Around} {q : Place} {xs : List Atom} {items : List Item} {s s' : Store} {before after : Links} → all_below xs ≡ true
    → Tells after before → AreLive a.depth s before → Chain a q xs items s before s' after → Walk a (below q) items s before s' before
whole {a = a} {q = q} {items = items} {s = s} {s' = s'} {before = before} {after = after} h tells live chain =
    let w = under h live chain in
    forgets a (below q) items s s' before after before tells (λ l. all_live_later a.depth s s' before w.later live) w
