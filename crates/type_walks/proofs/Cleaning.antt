-- Where the constants of types come from.
use Rattle.std.proofs.Common.{◌≡◌, ℕ, List, [], ◌∷◌, ◌++◌, map, Bool, true, false, cond, inl, inr, sym, ap, subst, arith}
use Rattle.std.specs.List.{AllByRecursion}
use Rattle.std.specs.Prelude.{zero, suc}
use Rattle.std.specs.List.{Contains}
use Rattle.std.proofs.lemmas.List.Elements.{Contains-append_left, Contains-append_right, Contains-append_cases, Contains-push}
use Rattle.elm_type.specs.Types.{Name, Made, Record, NoField, MoreField, ElmType, Fields, types_of, variables, variables_all, variables_fields, end_variables, Rigid}
use Rattle.elm_type.specs.Classes.{Ground}
use Rattle.elm_type.specs.Rows.{extend, insert_field, insert_all, name_lt}
use Rattle.type_store.specs.Store.{FieldSlot, Store, Cell, Open, Bound, Built, Row, Constant, slot_at, field_slots}
use Rattle.type_store.specs.Solutions.{row_value, constants_of, constant_of}

module _ {A : Type 0} (P : A → Type 0) where
  pub all_both : (xs ys : List A) → AllByRecursion P xs → AllByRecursion P ys → AllByRecursion P (xs ++ ys)
  all_both [] ys h k = k
  all_both (x ∷ xs) ys h k = (h.0, all_both xs ys h.1 k)

  pub all_first : (xs ys : List A) → AllByRecursion P (xs ++ ys) → AllByRecursion P xs
  all_first [] ys h = tt
  all_first (x ∷ xs) ys h = (h.0, all_first xs ys h.1)

  pub all_second : (xs ys : List A) → AllByRecursion P (xs ++ ys) → AllByRecursion P ys
  all_second [] ys h = h
  all_second (x ∷ xs) ys h = all_second xs ys h.1

module _ {X : Type 0} (P : X → Type 0) where
  inserted : (k : Name) (t : ElmType X) (fs : Fields X) → AllByRecursion P (variables t) → AllByRecursion P (variables_fields fs)
      → AllByRecursion P (variables_fields (insert_field k t fs))
  inserted k t NoField h g = all_both P (variables t) [] h tt
  inserted k t (MoreField j u fs) h g = go (name_lt j k) (inserted k t fs h (all_second P (variables u) (variables_fields fs) g))
    where
      go : (b : Bool) → AllByRecursion P (variables_fields (insert_field k t fs))
          → AllByRecursion P (variables_fields (cond b (MoreField j u (insert_field k t fs)) (MoreField k t (MoreField j u fs))))
      go true rest =
          all_both P (variables u) (variables_fields (insert_field k t fs)) (all_first P (variables u) (variables_fields fs) g) rest
      go false rest = all_both P (variables t) (variables_fields (MoreField j u fs)) h g

  inserted_all : (fs gs : Fields X) → AllByRecursion P (variables_fields fs) → AllByRecursion P (variables_fields gs)
      → AllByRecursion P (variables_fields (insert_all fs gs))
  inserted_all NoField gs h g = g
  inserted_all (MoreField k t fs) gs h g =
      inserted k t (insert_all fs gs) (all_first P (variables t) (variables_fields fs) h)
      (inserted_all fs gs (all_second P (variables t) (variables_fields fs) h) g)

  pub extended : (fs : Fields X) (t : ElmType X) → AllByRecursion P (variables_fields fs) → AllByRecursion P (variables t)
      → AllByRecursion P (variables (extend fs t))
  extended fs (Made h ts) f g = g
  extended fs (Record gs end) f g =
      all_both P (end_variables end) (variables_fields (insert_all fs gs)) (all_first P (end_variables end) (variables_fields gs) g)
      (inserted_all fs gs f (all_second P (end_variables end) (variables_fields gs) g))

module _ (P : Rigid → Type 0) (types : ℕ → Ground) where
  pub of_parts : (ws : List ℕ) → AllByRecursion (λ w. AllByRecursion P (variables (types w))) ws → AllByRecursion P (variables_all (types_of (map types ws)))
  of_parts [] h = tt
  of_parts (w ∷ ws) h = all_both P (variables (types w)) (variables_all (types_of (map types ws))) h.0 (of_parts ws h.1)

  pub of_fields : (fs : List FieldSlot) → AllByRecursion (λ w. AllByRecursion P (variables (types w))) (field_slots fs) → AllByRecursion P (variables_fields (row_value types fs))
  of_fields [] h = tt
  of_fields (f ∷ fs) h = all_both P (variables (types f.1)) (variables_fields (row_value types fs)) h.0 (of_fields fs h.1)

-- a constant of a variable is one of the store
pub constant_there : (s : Store) (v : ℕ) (r : Rigid) → (slot_at s v).cell ≡ Constant r → Contains (constants_of s) r
constant_there [] v r e = absurd cc
constant_there (x ∷ xs) zero r e =
    Contains-append_left (constant_of x.cell) (constants_of xs) r (subst (λ c. Contains (constant_of c) r) (sym e) (Contains-push [] r))
constant_there (x ∷ xs) (suc v) r e = Contains-append_right (constant_of x.cell) (constants_of xs) r (constant_there xs v r e)

-- and a constant of the store is one of a variable
pub record Stored (s : Store) (r : Rigid) : Type 0 where
  pub variable : ℕ
  pub is : (slot_at s variable).cell ≡ Constant r

in_cell : (c : Cell) (r : Rigid) → Contains (constant_of c) r → c ≡ Constant r
in_cell Open r (k, l, e) = absurd (omega arith)
in_cell (Bound w) r (k, l, e) = absurd (omega arith)
in_cell (Built h ws) r (k, l, e) = absurd (omega arith)
in_cell (Row fs end) r (k, l, e) = absurd (omega arith)
in_cell (Constant t) r (zero, l, e) = ap Constant e
in_cell (Constant t) r (suc k, l, e) = absurd (omega arith)

pub stored : (s : Store) (r : Rigid) → Contains (constants_of s) r → Stored s r
stored [] r (k, l, e) = absurd (omega arith)
stored (x ∷ xs) r h = elim (Contains-append_cases (constant_of x.cell) (constants_of xs) r h) [
  | inl here ↦ record { variable = 0; is = in_cell x.cell r here }
  | inr there ↦ (let t = stored xs r there in record { variable = suc t.variable; is = t.is })
]
