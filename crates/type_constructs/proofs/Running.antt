-- Steps in turn, whose places are parts of the tree below a place.
use Rattle.std.proofs.Common.{◌≡◌, ℕ, ◌+◌, List, [], ◌∷◌, ◌++◌, Bool, true, arith}
use Rattle.type_items.specs.Items.{Place, child, Item}
use Rattle.type_store.specs.Store.{Store}
use Rattle.type_walks.specs.Regions.{Region, none, below, either, Inside, Apart}
use Rattle.type_walks.specs.Links.{Links, AreLive, Tells}
use Rattle.type_walks.specs.Walks.{Around, Walk}
use Rattle.type_walks.proofs.Regions.{either_inside}
use Rattle.type_walks.proofs.Linking.{left_inside, right_inside, all_live_later}
use Rattle.type_walks.proofs.Walking.{rests, goes_on, widens, forgets}
use Rattle.type_constructs.specs.Passing.{Passes, NoSizes}
use Rattle.type_constructs.proofs.Passing.{passes_plain, passes_on, passes_widely}
use Rattle.type_constructs.specs.Regions.{deep}
use Rattle.type_constructs.specs.Stepping.{Step}
use Rattle.type_constructs.proofs.Spots.{Atom, atom_region, cover, all_off, cover_apart, all_below, cover_inside}
use Rattle.type_constructs.proofs.Parts.{deep_in_deep, below_in_deep, deep_apart_below}

pub record Run (real : Bool) (a : Around) (q : Place) (parts : List Atom) (items : List Item) (s : Store) (before : Links) (s' : Store) (after : Links) : Type 0 where
  pub walk : AreLive a.depth s before → Walk a (cover q parts) items s before s' after
  pub passes : real ≡ true → Passes a s before (cover q parts) items

-- what asks for no sizes
pub plain : {real : Bool} {a : Around} {R : Region} {items : List Item} {s s' : Store} {before after : Links} → NoSizes items
    → Walk a R items s before s' after → Step real a R items s before s' after
plain {a = a} {R = R} {items = items} {s = s} {before = before} h w = record { walk = w; passes = λ r. passes_plain a s before R items h }

pub last : {real : Bool} {a : Around} {q : Place} {items : List Item} {s s' : Store} {before after : Links} (x : Atom)
    → Step real a (atom_region q x) items s before s' after → Run real a q (x ∷ []) items s before s' after
last {a = a} {q = q} {items = items} {s = s} {s' = s'} {before = before} {after = after} x one = record {
  walk = λ live. widens a (atom_region q x) (cover q (x ∷ [])) items s s' before after (left_inside (atom_region q x) (cover q [])) one.walk;
  passes = λ r. passes_widely a s before (atom_region q x) (cover q (x ∷ [])) items (left_inside (atom_region q x) (cover q [])) (one.passes r);
}

pub nothing : {real : Bool} {a : Around} {q : Place} (s : Store) (links : Links) → Run real a q [] [] s links s links
nothing {a = a} {q = q} s links = record { walk = λ live. rests a s links; passes = λ r. passes_plain a s links none [] tt }

pub on : {real : Bool} {a : Around} {q : Place} {ys : List Atom} {first second : List Item} {s u s' : Store} {before between after : Links} (x : Atom)
    → all_off x ys ≡ true → Step real a (atom_region q x) first s before u between → Run real a q ys second u between s' after
    → Run real a q (x ∷ ys) (first ++ second) s before s' after
on {a = a} {q = q} {ys = ys} {first = first} {second = second} {s = s} {u = u} {s' = s'} {before = before} {between = between} {after = after} x h one rest = record {
  walk = λ live.
      goes_on a (atom_region q x) (cover q ys) first second s u s' before between after (cover_apart q x ys h) live one.walk
      (rest.walk (one.walk.live live));
  passes = λ r.
      passes_on a (atom_region q x) (cover q ys) (cover q (x ∷ ys)) first second s u before between (cover_apart q x ys h)
      (left_inside (atom_region q x) (cover q ys)) (right_inside (atom_region q x) (cover q ys)) one.walk (one.passes r) (rest.passes r);
}

-- all of it is below the place
pub under : {real : Bool} {a : Around} {q : Place} {xs : List Atom} {items : List Item} {s s' : Store} {before after : Links} → all_below xs ≡ true
    → AreLive a.depth s before → Run real a q xs items s before s' after → Step real a (below q) items s before s' after
under {a = a} {q = q} {xs = xs} {items = items} {s = s} {s' = s'} {before = before} {after = after} h live run = record {
  walk = widens a (cover q xs) (below q) items s s' before after (cover_inside q xs h) (run.walk live);
  passes = λ r. passes_widely a s before (cover q xs) (below q) items (cover_inside q xs h) (run.passes r);
}

pub forget : {real : Bool} {a : Around} {R : Region} {items : List Item} {s s' : Store} {before after : Links} → Tells after before
    → AreLive a.depth s before → Step real a R items s before s' after → Step real a R items s before s' before
forget {a = a} {R = R} {items = items} {s = s} {s' = s'} {before = before} {after = after} tells live one = record {
  walk = forgets a R items s s' before after before tells (λ l. all_live_later a.depth s s' before one.walk.later live) one.walk;
  passes = one.passes;
}

-- and the links are those that were
pub whole : {real : Bool} {a : Around} {q : Place} {xs : List Atom} {items : List Item} {s s' : Store} {before after : Links} → all_below xs ≡ true
    → Tells after before → AreLive a.depth s before → Run real a q xs items s before s' after → Step real a (below q) items s before s' before
whole h tells live run = forget tells live (under h live run)

-- one child more
pub next : {real : Bool} {a : Around} {first second : List Item} {s u s' : Store} {before between after : Links} (q : Place) (i n j m : ℕ)
    → i + n ≡ j → n + 1 ≡ m → AreLive a.depth s before → Step real a (deep q i n) first s before u between
    → Step real a (below (child q j)) second u between s' after → Step real a (deep q i m) (first ++ second) s before s' after
next {a = a} {first = first} {second = second} {s = s} {u = u} {s' = s'} {before = before} {between = between} {after = after} q i n j m e f live one two = record {
  walk =
      widens a (either (deep q i n) (below (child q j))) (deep q i m) (first ++ second) s s' before after
      (either_inside (deep q i n) (below (child q j)) (deep q i m) left right)
      (goes_on a (deep q i n) (below (child q j)) first second s u s' before between after apart live one.walk two.walk);
  passes = λ r.
      passes_on a (deep q i n) (below (child q j)) (deep q i m) first second s u before between apart left right one.walk (one.passes r)
      (two.passes r);
}
  where
    left : Inside (deep q i n) (deep q i m)
    left = deep_in_deep q i m i n (omega arith) (omega arith)

    right : Inside (below (child q j)) (deep q i m)
    right = below_in_deep q i m j (omega arith) (omega arith)

    apart : Apart (deep q i n) (below (child q j))
    apart = deep_apart_below q i n j (omega arith)
