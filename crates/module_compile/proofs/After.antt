-- What a module without faults in its names compiles to.
use Rattle.std.proofs.Common.{◌≡◌, ℕ, List, [], ◌∷◌, map, length, Some, refl, sym, subst}
use Rattle.std.specs.List.{AllByRecursion}
use Rattle.elm_base.specs.declared.position.Pos.{Pos}
use Rattle.elm_base.specs.declared.fault.Code.{Code}
use Rattle.elm_canon.specs.Names.{Name}
use Rattle.elm_canon.specs.Tree.{Module}
use Rattle.elm_canon.specs.declared.reference.Ref.{Ref}
use Rattle.elm_type.specs.Types.{Leaf, Free, Fixed, Scheme, variables}
use Rattle.canon_env.specs.Shown.{Shown}
use Rattle.canon_env.specs.declared.finding.Finding.{Finding}
use Rattle.canon_module.specs.Resolve.{module_shows}
use Rattle.canon_env.specs.Order.{IsInOrder}
use Rattle.pattern_check.specs.Faults as patterns
use Rattle.type_items.specs.Inferred.{Schemes, Inferred, Refused}
use Rattle.infer_steps.specs.Ready.{IsBelow}
use Rattle.infer.specs.Modules.{SchemesWritten}
use Rattle.module_offers.specs.Offers.{known_by, module_interface}
use Rattle.module_made.specs.Around.{Around, home_of, setting_of}
use Rattle.module_made.specs.Made.{Value, Bad, Made, mistyped, uncovered, fine, fault_in, type_finding, root, IsVariable}
use Rattle.infer_proper.specs.Sound.{SoundInterface}
use Rattle.module_compile.specs.Phases.{Resolves}
use Rattle.module_compile.proofs.Verdicts.{none_in_order}
use Rattle.module_compile.specs.Typing.{AllSound, value_of, AfterNames}

no_constants : (n : ℕ) (xs : List (Leaf ℕ)) → AllByRecursion (IsBelow n) xs → AllByRecursion IsVariable xs
no_constants n [] h = tt
no_constants n (Free i ∷ xs) h = (tt, no_constants n xs h.1)
no_constants n (Fixed r ∷ xs) h = absurd h.0

module _ (a : Around) (path : List ℕ) (m : Module) (s : Shown) where
  pub mistyped_after : (code : Code) (place : Pos) (detail : Name)
      → Refused m (known_by a.interfaces) root code place detail
      → AfterNames a path m s (Bad (fault_in path (type_finding code place detail) ∷ []))
  mistyped_after code place detail refused text t named shows = mistyped named refused

  module _ (told : Schemes) (typed : Inferred m (known_by a.interfaces) root told) (written : SchemesWritten told) where
    closed : (x : Ref) (k : Scheme) → told x ≡ Some k → AllByRecursion IsVariable (variables k.type)
    closed x k e = no_constants (length k.kinds) (variables k.type) (written x k e).below

    pub uncovered_after : (found : List Finding) → (length found ≡ 0 → ⊥)
        → IsInOrder (patterns.module_faults m) found → AfterNames a path m s (Bad (map (fault_in path) found))
    uncovered_after [] some order text t named shows = absurd (some refl)
    uncovered_after (f ∷ fs) some order text t named shows =
        uncovered (record { is_named = named; typed = typed; closed = closed }) order

    pub fine_after : (found : List Finding) → length found ≡ 0 → IsInOrder (patterns.module_faults m) found
        → AfterNames a path m s (value_of m s told)
    fine_after (f ∷ fs) none order text t named shows = absurd cc
    fine_after [] none order text t named shows =
        subst (λ x. Made a path (Some text) (value_of m x told)) (sym shows)
        (fine (record { is_named = named; typed = typed; closed = closed }) (none_in_order (patterns.module_faults m) order))

-- the interface of what a text means is sound with any types that others can know
pub all_sound : (a : Around) (text : List ℕ) (m : Module) (s : Shown) (r : Resolves a text m s)
    → ((told : Schemes) → SchemesWritten told
    → SoundInterface (home_of a) (module_interface (module_shows (setting_of a r.written) r.written m) m told))
    → AllSound a m s
all_sound a text m s r h = subst (AllSound a m) (sym r.shows) h
