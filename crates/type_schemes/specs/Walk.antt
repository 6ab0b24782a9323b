-- A walk over the variables that a variable leads to. Each is entered, then what it leads to, and then it is left. The
-- tasks that wait stand with the next one first.
use Rattle.std.specs.Prelude.{◌≡◌, ℕ, suc, ◌+◌, ◌<◌, List, [], ◌∷◌, length, map, reverse, Bool, true, false}
use Rattle.std.specs.Prelude.{None, nat_eq, if◌then◌else◌, ◌⊎◌}
use Rattle.std.specs.List.{AllByRecursion}
use Rattle.std.specs.HashMap as hash
use Rattle.std.specs.HashSet as bag
use Rattle.type_store.specs.Store.{Store, slot_at}
use Rattle.type_store.specs.Shape.{parts_of}
use Rattle.type_store.specs.Steps.{is_bound}
use Rattle.type_schemes.specs.declared.order.Task.{Task}
use Rattle.type_schemes.specs.declared.order.Task.TheVariants.{Enter, Leave}
use Rattle.type_schemes.specs.declared.order.Order.{Order}
use Rattle.type_schemes.specs.declared.order.Walk.{Walk}
use Rattle.type_schemes.specs.Ends.{end_of, IsDeep}
use Rattle.type_schemes.specs.Order.{number_in, IsListed, PartsFirst}

abbrev pub In : List ℕ → ℕ → Type 0
In [] u = ⊥
In (a ∷ as_) u = (a ≡ u) ⊎ In as_ u

-- the variable that a task is about
abbrev pub target : Store → Task → ℕ
target s (Enter w) = end_of s w
target s (Leave v) = v

-- to enter these too: the last of them comes next
abbrev pub entered : List ℕ → List Task → List Task
entered [] stack = stack
entered (p ∷ ps) stack = entered ps (Enter p ∷ stack)

-- a part is listed, or will be before the tasks that stand below
abbrev pub Waits : ℕ → Store → List ℕ → List ℕ → ℕ → Type 0
Waits floor s older above w = IsDeep floor s (end_of s w) → IsListed older (end_of s w) ⊎ In above (end_of s w)

-- a variable that was entered, where tasks about the variables above come before it is left
pub record MayLeave (rank : ℕ → ℕ) (floor : ℕ) (s : Store) (older above : List ℕ) (v : ℕ) : Type 0 where
  pub new : number_in older v ≡ None
  pub inside : v < length s
  pub deep : IsDeep floor s v
  pub end : is_bound (slot_at s v).cell ≡ false
  pub parts : AllByRecursion (Waits floor s older above) (parts_of (slot_at s v).cell)
  pub higher : AllByRecursion (λ u. rank u < rank v) above

abbrev pub Stacked : (ℕ → ℕ) → ℕ → Store → List ℕ → List ℕ → List Task → Type 0
Stacked rank floor s older above [] = Unit {0}
Stacked rank floor s older above (Enter w ∷ stack) = (w < length s) × Stacked rank floor s older (end_of s w ∷ above) stack
Stacked rank floor s older above (Leave v ∷ stack) =
    MayLeave rank floor s older above v × Stacked rank floor s older (v ∷ above) stack

-- the variable is to be left
abbrev pub IsOpen : List Task → ℕ → Type 0
IsOpen [] x = ⊥
IsOpen (Enter w ∷ stack) x = IsOpen stack x
IsOpen (Leave v ∷ stack) x = (v ≡ x) ⊎ IsOpen stack x

pub record Ranks (s : Store) : Type 0 where
  pub rank : ℕ → ℕ
  pub each : (v : ℕ) → AllByRecursion (λ w. rank w < rank v) (parts_of (slot_at s v).cell)

-- what holds on the way: `seen` has the variables that were entered
pub record Walks (floor : ℕ) (s : Store) (start : ℕ) (older : List ℕ) (stack : List Task) (seen : ℕ → Bool) : Type 0 where
  pub ranks : Ranks s
  pub first : PartsFirst floor s older
  pub stacked : Stacked ranks.rank floor s older [] stack
  pub known : (x : ℕ) → seen x ≡ true → IsListed older x ⊎ IsOpen stack x
  pub listed : (x : ℕ) → IsListed older x → seen x ≡ true
  pub opened : (x : ℕ) → IsOpen stack x → seen x ≡ true
  pub begins : Waits floor s older (map (target s) stack) start

abbrev pub stack_of : Walk → List Task
stack_of walk = reverse walk.todo.items

abbrev pub older_of : Walk → List ℕ
older_of walk = reverse walk.order.variables.items

abbrev pub seen_of : Walk → ℕ → Bool
seen_of walk v = bag.contains nat_eq walk.seen v

-- the table has the numbers of the list
pub record IsTable (order : Order) : Type 0 where
  pub each : (v : ℕ) → hash.get nat_eq order.numbers v ≡ number_in (reverse order.variables.items) v

pub record IsWalk (floor : ℕ) (s : Store) (start : ℕ) (stack : List Task) (walk : Walk) : Type 0 where
  pub walks : Walks floor s start (older_of walk) stack (seen_of walk)
  pub table : IsTable walk.order

-- how much there is to do of variables that were not entered yet, of which the first has the number n
abbrev pub unseen_work : (ℕ → Bool) → ℕ → Store → ℕ
unseen_work seen n [] = 0
unseen_work seen n (slot ∷ slots) = (if seen n then 0 else suc (length (parts_of slot.cell))) + unseen_work seen (suc n) slots

abbrev pub work_left : Store → List Task → (ℕ → Bool) → ℕ
work_left s stack seen = unseen_work seen 0 s + length stack
