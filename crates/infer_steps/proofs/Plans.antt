-- Items and types as the plan of an operation has them.
use Rattle.std.proofs.Common.{None, Result, Err, ◌≡◌, ℕ, zero, suc, ◌+◌, List, [], ◌∷◌, ◌++◌, arith, length, map}
use Rattle.std.proofs.Common.{replicate, Bool, true, false, refl, sym, ap, ◌∙◌, subst}
use Rattle.std.specs.List.{AllByRecursion, AllZip, range_with_len, enumerate_from, zip}
use Rattle.elm_base.specs.declared.position.Pos.{Pos}
use Rattle.elm_canon.specs.Tree.{Op, TupleOf, ListOf, Build}
use Rattle.elm_type.specs.Types.{Name, ElmType, Fields, NoField, MoreField, Record, Closed}
use Rattle.elm_type.specs.Rows.{name_lt, insert_field, insert_all, sorted, closed, extend}
use Rattle.type_items.specs.Items.{Place, child, Wanted, at, children, Item}
use Rattle.type_items.specs.Scopes.{Scope}
use Rattle.type_items.specs.Patterns.{fields_at, open_record}
use Rattle.type_items.specs.Operations.{in_turn}
use Rattle.elm_type.specs.Ground.{lacks_all}
use Rattle.type_store.specs.Store.{Store}
use Rattle.type_store.proofs.Rows.{insert_after, insert_before, insert_swap}
use Rattle.type_walks.specs.Regions.{Region}
use Rattle.type_walks.specs.Links.{Links, Has}
use Rattle.infer_steps.specs.Codes.{Code, State}
use Rattle.infer_steps.specs.Promises.{Listing}
use Rattle.infer_steps.specs.Records.{RestLacks}
use Rattle.infer_steps.specs.Begun.{Begun}
use Rattle.infer_steps.specs.Operations.{all_types, types_at, part_types, when_any, some_count, own_count, first_count}
use Rattle.infer_steps.specs.Filled.{some_types}

-- ---- parts in turn

pub turn_before : (before : List Item) (ts : List Wanted) → (in_turn before ts).before ≡ before
turn_before before [] = refl
turn_before before (t ∷ ts) = refl

pub turn_types : (before : List Item) (ts : List Wanted) → all_types (in_turn before ts) ≡ some_types ts
turn_types before [] = refl
turn_types before (t ∷ ts) = refl

pub tuple_types : (n : ℕ) (here : Pos) (scope : Scope) (q : Place) (w : Wanted)
    → children (child q 0) n ≡ part_types TupleOf n here scope q w
tuple_types zero here scope q w = refl
tuple_types (suc n) here scope q w = refl

pub build_types : (pos : Pos) (u : _) (c : _) (n : ℕ) (here : Pos) (scope : Scope) (q : Place) (w : Wanted)
    → children (child q 0) n ≡ part_types (Build pos u c) n here scope q w
build_types pos u c zero here scope q w = refl
build_types pos u c (suc n) here scope q w = refl

pub list_types : (n : ℕ) (here : Pos) (scope : Scope) (q : Place) (w : Wanted)
    → replicate n (at (child q 1)) ≡ part_types ListOf n here scope q w
list_types zero here scope q w = refl
list_types (suc n) here scope q w = refl

-- of no parts nothing is wanted
pub when_parts : (code : Code) (v : ℕ) (R : Place → Region) (list : Listing) (op : Op) (n : ℕ) (here : Pos)
    (vs : List ℕ) (old new : State)
    → Begun code v R list vs (λ scope q w. types_at op n scope here q w) old new
    → Begun code v R list (when_any n vs) (part_types op n here) old new
when_parts code v R list op zero here vs old new h = record {
  follows = h.follows;
  live = tt;
  plain = h.plain;
  gives = λ a links scope q w set has. (
      let g = h.gives a links scope q w set has in
      record { after = g.after; walk = g.walk; tells = g.tells; has = tt });
}
when_parts code v R list op (suc n) here vs old new h = h

-- ---- one variable several times

pub all_repeated : (P : ℕ → Type 0) (n v : ℕ) → P v → AllByRecursion P (replicate n v)
all_repeated P zero v h = tt
all_repeated P (suc n) v h = (h, all_repeated P n v h)

pub zip_repeated : (links : Links) (n v : ℕ) (t : Wanted) → Has links v t
    → AllZip (Has links) (replicate n v) (replicate n t)
zip_repeated links zero v t h = tt
zip_repeated links (suc n) v t h = (h, zip_repeated links n v t h)

-- ---- the fields of a record

fields_from : (xs : List Name) (i : ℕ) (p : Place)
    → map (λ (x : ℕ × Name). (x.1, at (child p x.0))) (enumerate_from i xs) ≡ zip xs (map (λ j. at (child p j))
    (range_with_len i (length xs)))
fields_from [] i p = refl
fields_from (x ∷ xs) i p = ap (λ l. (x, at (child p i)) ∷ l) (fields_from xs (i + 1) p)

pub fields_zip : (xs : List Name) (p : Place) → fields_at xs p ≡ zip xs (children p (length xs))
fields_zip xs p = fields_from xs 0 p

pub open_zip : (xs : List Name) (p : Place) (rest : Wanted) → open_record xs p rest ≡ extend
    (sorted (zip xs (children p (length xs)))) rest
open_zip xs p rest = ap (λ fs. extend (sorted fs) rest) (fields_zip xs p)

-- fields where each stays in its place
abbrev Still : {X : Type 0} → Fields X → Type 0
Still NoField = Unit {0}
Still (MoreField k t fs) = (insert_field k t fs ≡ MoreField k t fs) × Still fs

kept : {X : Type 0} (fs : Fields X) → Still fs → insert_all fs NoField ≡ fs
kept NoField h = refl
kept (MoreField k t fs) h = ap (insert_field k t) (kept fs h.1) ∙ h.0

still_inserted : {X : Type 0} (k : Name) (t : ElmType X) (fs : Fields X) → Still fs → Still (insert_field k t fs)
still_inserted k t NoField h = (refl, tt)
still_inserted k t (MoreField m v fs) h = go (still_inserted k t fs h.1) (name_lt m k) refl
  where
    go : Still (insert_field k t fs) → (b : Bool) → name_lt m k ≡ b → Still (insert_field k t (MoreField m v fs))
    go inner true e =
        subst Still (sym (insert_after k m t v fs e))
        (insert_swap m k v t fs e ∙ (ap (insert_field k t) h.0 ∙ insert_after k m t v fs e), inner)
    go inner false e = subst Still (sym (insert_before k m t v fs e)) (insert_before k m t v fs e, h)

sorted_still : {X : Type 0} (fs : List (Name × ElmType X)) → Still (sorted fs)
sorted_still [] = tt
sorted_still (f ∷ fs) = still_inserted f.0 f.1 (sorted fs) (sorted_still fs)

pub closed_zip : (xs : List Name) (p : Place) → closed (fields_at xs p) ≡ extend (sorted
    (zip xs (children p (length xs)))) (Record NoField Closed)
closed_zip xs p =
    ap (λ fs. closed fs) (fields_zip xs p)
    ∙ ap (λ gs. Record gs Closed) (sym (kept (sorted (zip xs (children p (length xs))))
    (sorted_still (zip xs (children p (length xs))))))

-- ---- in a loop

repeated_last : (n v : ℕ) → replicate (n + 1) v ≡ replicate n v ++ v ∷ []
repeated_last n v = ap (λ k. replicate k v) (add_one n) ∙ go n
  where
    add_one : (n : ℕ) → n + 1 ≡ suc n
    add_one n = omega arith

    go : (n : ℕ) → replicate (suc n) v ≡ replicate n v ++ v ∷ []
    go zero = refl
    go (suc n) = ap (λ l. v ∷ l) (go n)

pub repeated_more : (vs us : List ℕ) (n v : ℕ) → vs ≡ replicate n v → us ≡ vs ++ v ∷ [] → us ≡ replicate (n + 1) v
repeated_more vs us n v is more = more ∙ (ap (λ l. l ++ v ∷ []) is ∙ sym (repeated_last n v))

-- ---- what a call answers

-- an error is the error of a call
abbrev Failed : (A E : Type 0) → E → Result A E
Failed A E x = Err x

pub err_is : {A B E : Type 0} (r : Result B E) (x y : E) → r ≡ Err x → Failed A E x ≡ Failed A E y → r ≡ Err y
err_is r x y is e = is ∙ ap Err (let d : x ≡ y = cc in d)

-- ---- how many variables there are

pub tuple_count : (n m : ℕ) → m ≡ n → m ≡ first_count TupleOf n
tuple_count zero m h = h
tuple_count (suc n) m h = h

pub build_count : (pos : Pos) (u : _) (c : _) (n m : ℕ) → m ≡ n → m ≡ first_count (Build pos u c) n
build_count pos u c zero m h = h
build_count pos u c (suc n) m h = h

pub list_count : (n v : ℕ) (vs : List ℕ) → vs ≡ replicate n v → length vs ≡ first_count ListOf n
list_count zero v vs is = ap length is
list_count (suc n) v vs is = ap length is ∙ go (suc n)
  where
    go : (n : ℕ) → length (replicate n v) ≡ n
    go zero = refl
    go (suc n) = ap suc (go n)

pub any_count : (op : Op) (n : ℕ) (vs us : List ℕ) → us ≡ when_any n vs → ((m : ℕ)
    → length vs ≡ own_count op (suc m)) → length us ≡ first_count op n
any_count op zero vs us is h = ap length is
any_count op (suc n) vs us is h = ap length is ∙ h n

pub filled_count : (vs : List ℕ) → (length vs ≡ 0 → ⊥) → length vs ≡ some_count (length vs)
filled_count [] h = absurd (h refl)
filled_count (v ∷ vs) h = refl

-- ---- a record that is closed lacks all fields

pub lacks_closed : (s : Store) (xs : List Name) → RestLacks s xs None
lacks_closed s xs = record { each = λ σ f. go xs }
  where
    go : (xs : List Name) → lacks_all xs (Record NoField Closed) ≡ true
    go [] = refl
    go (x ∷ xs) = go xs
