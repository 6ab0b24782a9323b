-- What stops in a part of a tree stops the whole.
use Rattle.std.proofs.Common.{◌≡◌, ℕ, ◌+◌, ◌≤◌, List, [], ◌∷◌, ◌++◌, true, refl, subst, arith}
use Rattle.std.proofs.lemmas.List.{append-nil}
use Rattle.type_items.specs.Items.{Place, child, Item}
use Rattle.type_store.specs.Store.{Store}
use Rattle.type_walks.specs.Regions.{Region, none, below, Inside, Apart}
use Rattle.type_walks.specs.Links.{Links}
use Rattle.type_walks.specs.Walks.{Around, Walk}
use Rattle.type_walks.proofs.Regions.{none_inside, apart_none}
use Rattle.type_walks.proofs.Linking.{left_inside, right_inside}
use Rattle.type_constructs.specs.Passing.{Passes}
use Rattle.type_constructs.specs.Failing.{Bad, Fails}
use Rattle.type_constructs.proofs.Failing.{fails_after, fails_earlier}
use Rattle.type_constructs.specs.Regions.{deep}
use Rattle.type_constructs.specs.Stepping.{Step}
use Rattle.type_constructs.proofs.Spots.{Atom, atom_region, cover, all_off, cover_apart, all_below, cover_inside}
use Rattle.type_constructs.proofs.Parts.{deep_in_deep, below_in_deep, deep_apart_below}

pub record Stop (a : Around) (q : Place) (parts : List Atom) (items : List Item) (s : Store) (links : Links) (bad : Bad) (s' : Store) : Type 0 where
  pub fails : Fails a s links (cover q parts) items bad s'

-- at this part, whatever comes later
pub stuck : {a : Around} {q : Place} {items : List Item} {s s' : Store} {links : Links} {bad : Bad} (x : Atom) (more : List Item)
    → Fails a s links (atom_region q x) items bad s' → Stop a q (x ∷ []) (items ++ more) s links bad s'
stuck {a = a} {q = q} {items = items} {s = s} {s' = s'} {links = links} {bad = bad} x more f = record {
  fails = fails_earlier a s links (atom_region q x) (cover q (x ∷ [])) items more bad s' (left_inside (atom_region q x) (cover q [])) f;
}

fails_in : (a : Around) (R Q : Region) (items : List Item) (s s' : Store) (links : Links) (bad : Bad) → Inside R Q
    → Fails a s links R items bad s' → Fails a s links Q items bad s'
fails_in a R Q items s s' links bad i f =
    subst (λ l. Fails a s links Q l bad s') (append-nil items) (fails_earlier a s links R Q items [] bad s' i f)

-- at the last part
pub ends : {a : Around} {q : Place} {items : List Item} {s s' : Store} {links : Links} {bad : Bad} (x : Atom)
    → Fails a s links (atom_region q x) items bad s' → Stop a q (x ∷ []) items s links bad s'
ends {a = a} {q = q} {items = items} {s = s} {s' = s'} {links = links} {bad = bad} x f = record {
  fails = fails_in a (atom_region q x) (cover q (x ∷ [])) items s s' links bad (left_inside (atom_region q x) (cover q [])) f;
}

-- after a part that was walked
pub past : {a : Around} {q : Place} {ys : List Atom} {first second : List Item} {s u s' : Store} {before between : Links} {bad : Bad} (x : Atom)
    → all_off x ys ≡ true → Step true a (atom_region q x) first s before u between → Stop a q ys second u between bad s'
    → Stop a q (x ∷ ys) (first ++ second) s before bad s'
past {a = a} {q = q} {ys = ys} {first = first} {second = second} {s = s} {u = u} {s' = s'} {before = before} {between = between} {bad = bad} x h one rest = record {
  fails =
      fails_after a (atom_region q x) (cover q ys) (cover q (x ∷ ys)) first second s u s' before between bad (cover_apart q x ys h)
      (left_inside (atom_region q x) (cover q ys)) (right_inside (atom_region q x) (cover q ys)) one.walk (one.passes refl) rest.fails;
}

-- all of it is below the place
pub stopped : {a : Around} {q : Place} {xs : List Atom} {items : List Item} {s s' : Store} {links : Links} {bad : Bad} → all_below xs ≡ true
    → Stop a q xs items s links bad s' → Fails a s links (below q) items bad s'
stopped {a = a} {q = q} {xs = xs} {items = items} {s = s} {s' = s'} {links = links} {bad = bad} h stop =
    fails_in a (cover q xs) (below q) items s s' links bad (cover_inside q xs h) stop.fails

-- at a child, after those before it
pub stops_next : {a : Around} {first second : List Item} {s u s' : Store} {before between : Links} {bad : Bad} (q : Place) (i n j m : ℕ) (more : List Item)
    → i + n ≡ j → n + 1 ≤ m → Walk a (deep q i n) first s before u between → Passes a s before (deep q i n) first
    → Fails a u between (below (child q j)) second bad s' → Fails a s before (deep q i m) (first ++ (second ++ more)) bad s'
stops_next {a = a} {first = first} {second = second} {s = s} {u = u} {s' = s'} {before = before} {between = between} {bad = bad} q i n j m more e f walk passes fails =
    fails_after a (deep q i n) (below (child q j)) (deep q i m) first (second ++ more) s u s' before between bad apart left right walk passes
    (fails_earlier a u between (below (child q j)) (below (child q j)) second more bad s' (record { each = λ r h. h }) fails)
  where
    left : Inside (deep q i n) (deep q i m)
    left = deep_in_deep q i m i n (omega arith) (omega arith)

    right : Inside (below (child q j)) (deep q i m)
    right = below_in_deep q i m j (omega arith) (omega arith)

    apart : Apart (deep q i n) (below (child q j))
    apart = deep_apart_below q i n j (omega arith)

-- where the next item is nonsense
pub stops_there : {a : Around} {first second : List Item} {s u s' : Store} {before between : Links} {bad : Bad} (q : Place) (i n m : ℕ)
    → n ≤ m → Walk a (deep q i n) first s before u between → Passes a s before (deep q i n) first
    → Fails a u between none second bad s' → Fails a s before (deep q i m) (first ++ second) bad s'
stops_there {a = a} {first = first} {second = second} {s = s} {u = u} {s' = s'} {before = before} {between = between} {bad = bad} q i n m f walk passes fails =
    fails_after a (deep q i n) none (deep q i m) first second s u s' before between bad (apart_none (deep q i n))
    (deep_in_deep q i m i n (omega arith) (omega arith)) (none_inside (deep q i m)) walk passes fails
