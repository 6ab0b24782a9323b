-- Which faults of a module stand, by phases.
use Rattle.std.proofs.Common.{◌≡◌, ◌≢◌, ℕ, List, [], ◌∷◌, ◌↔◌, Some, length, map, refl, arith}
use Rattle.std.specs.Prelude.{Contains}
use Rattle.elm_base.specs.declared.fault.Fault.{Fault}
use Rattle.elm_canon.specs.Tree.{Module}
use Rattle.elm_tree.specs.Tree as tree
use Rattle.canon_env.specs.declared.finding.Finding.{Finding}
use Rattle.canon_env.specs.Order.{IsInOrder}
use Rattle.module_made.specs.Around.{Around, head_faults}
use Rattle.module_made.specs.Made.{Spells, Means, name_faults, lacking, fault_in, Made, Bad, misplaced, misnamed}
use Rattle.module_made.specs.Made.{incomplete}

-- where nothing is listed in order, nothing was found
pub none_in_order : (found : List Finding) → IsInOrder found [] → found ≡ []
none_in_order [] o = refl
none_in_order (f ∷ fs) o =
    let here : Contains (f ∷ fs) f = (0, omega arith, refl) in
    let there : Contains {X = Finding} [] f = (o.members f).1 here in
    absurd (omega (arith, there.1))

pub none_listed : (found fs : List Finding) → IsInOrder found fs → length fs ≡ 0 → found ≡ []
none_listed found [] o none = none_in_order found o
none_listed found (f ∷ fs) o none = absurd (omega arith)

-- faults of imports
pub misplaced_by : (a : Around) (path text : List ℕ) (t : tree.Module) (fs : List Finding) → Spells text t
    → IsInOrder (head_faults a t.head) fs → (length fs ≡ 0 → ⊥)
    → Made a path (Some text) (Bad (map (fault_in path) fs))
misplaced_by a path text t [] spelled o some = absurd (some refl)
misplaced_by a path text t (f ∷ fs) spelled o some = misplaced spelled o

-- faults of names
pub misnamed_by : (a : Around) (path text : List ℕ) (t : tree.Module) (m : Module) (fs : List Finding)
    → Means a text t m → IsInOrder (name_faults a t m) fs → (length fs ≡ 0 → ⊥)
    → Made a path (Some text) (Bad (map (fault_in path) fs))
misnamed_by a path text t m [] means o some = absurd (some refl)
misnamed_by a path text t m (f ∷ fs) means o some = misnamed means o

-- what is lacking
pub incomplete_by : (a : Around) (path text : List ℕ) (t : tree.Module) (m : Module) (fs : List Finding)
    → Means a text t m → name_faults a t m ≡ [] → IsInOrder (lacking a m) fs → (length fs ≡ 0 → ⊥)
    → Made a path (Some text) (Bad (map (fault_in path) fs))
incomplete_by a path text t m [] means named o some = absurd (some refl)
incomplete_by a path text t m (f ∷ fs) means named o some = incomplete means named o
