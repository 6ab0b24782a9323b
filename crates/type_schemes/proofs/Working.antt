-- How much there is to do on a walk.
use Rattle.std.proofs.Common.{◌≡◌, ℕ, zero, suc, ◌+◌, ◌<◌, ◌≤◌, List, [], ◌∷◌, ◌++◌, length, get_or, map, take, reverse, Bool, true, false, cond, nat_eq, refl, sym, ap, ◌∙◌, arith}
use Rattle.std.proofs.lemmas.Bool.Decides.{nat_tests}
use Rattle.std.proofs.lemmas.Bool.{eq-eqb}
use Rattle.std.proofs.lemmas.List.{take_more, take_all, map_push, reverse-append}
use Rattle.type_store.specs.Store.{Store, slot_at}
use Rattle.type_store.specs.Shape.{parts_of}
use Rattle.type_store.specs.declared.slot.FieldSlot.{FieldSlot}
use Rattle.type_store.specs.Store.{field_slots}
use Rattle.type_store.specs.View.{field_view}
use Rattle.type_schemes.specs.declared.order.Task.{Task}
use Rattle.type_schemes.specs.declared.order.Task.TheVariants.{Enter, Leave}
use Rattle.type_schemes.specs.Walk.{entered, unseen_work, work_left}

module _ (seen seen' : ℕ → Bool) (v : ℕ) (more : (q : ℕ) → seen' q ≡ cond (nat_eq v q) true (seen q)) where
  other_seen : (q : ℕ) → nat_eq v q ≡ false → seen' q ≡ seen q
  other_seen q e = more q ∙ ap (λ b. cond b true (seen q)) e

  late_work : (n : ℕ) (s : Store) → v < n → unseen_work seen' n s ≡ unseen_work seen n s
  late_work n [] l = refl
  late_work n (slot ∷ slots) l =
      let e : nat_eq v n ≡ false = grind (arith, nat_tests) in
      ap (λ b. cond b 0 (suc (length (parts_of slot.cell))) + unseen_work seen' (suc n) slots) (other_seen n e)
      ∙ ap (λ k. cond (seen n) 0 (suc (length (parts_of slot.cell))) + k) (late_work (suc n) slots (omega arith))

  entered_work : (n : ℕ) (s : Store) (k : ℕ) → v ≡ n + k → k < length s → seen v ≡ false
      → unseen_work seen' n s + suc (length (parts_of (slot_at s k).cell)) ≡ unseen_work seen n s
  entered_work n [] k e l f = absurd (omega arith)
  entered_work n (slot ∷ slots) zero e l f =
      let x : v ≡ n = omega (arith, e) in
      let a : seen' n ≡ true = more n ∙ ap (λ b. cond b true (seen n)) (eq-eqb v n x) in
      let b : seen n ≡ false = ap seen (sym x) ∙ f in
      let c = ap (λ b. cond b 0 (suc (length (parts_of slot.cell))) + unseen_work seen' (suc n) slots) a in
      let d = ap (λ b. cond b 0 (suc (length (parts_of slot.cell))) + unseen_work seen (suc n) slots) b in
      let g = late_work (suc n) slots (omega (arith, x)) in
      omega (arith, c, d, g)
  entered_work n (slot ∷ slots) (suc k) e l f =
      let x : nat_eq v n ≡ false = (let y : n < v = omega (arith, e) in grind (arith, nat_tests)) in
      let c = ap (λ b. cond b 0 (suc (length (parts_of slot.cell))) + unseen_work seen' (suc n) slots) (other_seen n x) in
      let g = entered_work (suc n) slots k (omega (arith, e)) (omega arith) f in
      omega (arith, c, g)

entered_length : (ps : List ℕ) (stack : List Task) → length (entered ps stack) ≡ length ps + length stack
entered_length [] stack = omega arith
entered_length (p ∷ ps) stack = let e = entered_length ps (Enter p ∷ stack) in omega (arith, e)

-- a variable that is new is done with: the tasks to enter its parts are no more than what it was counted for
pub less_work : (s : Store) (seen seen' : ℕ → Bool) (v : ℕ) (stack : List Task) → ((q : ℕ) → seen' q ≡ cond (nat_eq v q) true (seen q)) → v < length s
    → seen v ≡ false → work_left s (entered (parts_of (slot_at s v).cell) (Leave v ∷ stack)) seen' ≤ work_left s stack seen
less_work s seen seen' v stack more l f =
    let a = entered_work seen seen' v more 0 s v (omega arith) l f in
    let b = entered_length (parts_of (slot_at s v).cell) (Leave v ∷ stack) in
    omega (arith, a, b)

pub entered_append : (xs ys : List ℕ) (stack : List Task) → entered (xs ++ ys) stack ≡ entered ys (entered xs stack)
entered_append [] ys stack = refl
entered_append (x ∷ xs) ys stack = entered_append xs ys (Enter x ∷ stack)

pub reverse_push : {X : Type 0} (xs : List X) (x : X) → reverse (xs ++ x ∷ []) ≡ x ∷ reverse xs
reverse_push xs x = reverse-append xs (x ∷ [])

-- one task more
pub pushed : {X : Type 0} (slot : X → ℕ) (xs : List X) (i : ℕ) (d : X) (old now after : List Task) → i < length xs
    → reverse now ≡ entered (map slot (take i xs)) (reverse old) → after ≡ now ++ Enter (slot (get_or xs i d)) ∷ []
    → reverse after ≡ entered (map slot (take (i + 1) xs)) (reverse old)
pushed slot xs i d old now after l a b =
    ap reverse b
    ∙ (reverse_push now (Enter (slot (get_or xs i d)))
    ∙ (ap (λ st. Enter (slot (get_or xs i d)) ∷ st) a
    ∙ (sym (entered_append (map slot (take i xs)) (slot (get_or xs i d) ∷ []) (reverse old))
    ∙ ap (λ ys. entered ys (reverse old)) (sym (ap (map slot) (take_more xs i d l) ∙ map_push slot (take i xs) (get_or xs i d))))))

pub all_pushed : {X : Type 0} (slot : X → ℕ) (xs : List X) (i : ℕ) (old now : List Task) → length xs ≤ i
    → reverse now ≡ entered (map slot (take i xs)) (reverse old) → reverse now ≡ entered (map slot xs) (reverse old)
all_pushed slot xs i old now l a = a ∙ ap (λ ys. entered (map slot ys) (reverse old)) (take_all i xs l)

pub same_list : (xs : List ℕ) → map (λ x. x) xs ≡ xs
same_list [] = refl
same_list (x ∷ xs) = ap (λ ys. x ∷ ys) (same_list xs)

pub slots_of : (fs : List FieldSlot) → map (λ (f : FieldSlot). f.slot) fs ≡ field_slots (map field_view fs)
slots_of [] = refl
slots_of (f ∷ fs) = ap (λ ys. f.slot ∷ ys) (slots_of fs)
