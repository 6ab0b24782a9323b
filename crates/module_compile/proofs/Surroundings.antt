-- What a module is compiled in, before any interface is known and with one interface more.
use Rattle.std.proofs.Common.{◌≡◌, ℕ, List, [], Bool, true, false, cond, Option, Some, None, refl, sym, ap, ◌∙◌, subst}
use Rattle.std.specs.Prelude.{if◌then◌else◌, option_map}
use Rattle.std.specs.Map.{lookup}
use Rattle.std.specs.declared.alloc.Global.{Global}
use Rattle.std.specs.declared.sync.Arc.{Arc}
use Rattle.indexmap.specs.IndexMap.{IndexMap, get}
use Rattle.std.proofs.Math.Path.{fun_ext}
use Rattle.elm_canon.specs.Names.{Name, same_name}
use Rattle.interface.specs.Interface.{Interface}
use Rattle.interface.specs.View.{interface_view}
use Rattle.import_graph.specs.declared.found.Found.{Found}
use Rattle.module_offers.specs.Offers.{Interfaces}
use Rattle.module_made.specs.Around.{home_of, in_project, in_core}
use Rattle.infer_proper.specs.Sound.{SoundInterface, IsSound, with_interface}
use Rattle.infer_proper.proofs.Around.{project_bare, core_bare, with_more}
use Rattle.module_compile.specs.Parts.{interfaces_view, around_of}
use Rattle.module_compile.specs.declared.offered.Offered.{Offered}

-- ---- the interfaces that are kept

pub empty_view : {S : Type 0} (m : IndexMap Name (Arc Offered Global) S) → m.entries ≡ [] → (x : Name)
    → interfaces_view m x ≡ None
unfolding interfaces_view
empty_view m e x =
    ap (λ es. option_map (λ (o : Arc Offered Global). interface_view o.value.interface) (lookup (same_name x) es)) e

one_inserted : (b : Bool) (o : Arc Offered Global) (rest : Option (Arc Offered Global))
    → option_map (λ a. interface_view a.value.interface) (cond b (Some o) rest)
    ≡ (if b then Some (interface_view o.value.interface) else option_map (λ a. interface_view a.value.interface) rest)
one_inserted true o rest = refl
one_inserted false o rest = refl

pub inserted_view : {S : Type 0} (m n : IndexMap Name (Arc Offered Global) S) (home : Name) (o : Arc Offered Global)
    → ((q : Name) → get same_name n q ≡ cond (same_name home q) (Some o) (get same_name m q)) → (x : Name)
    → interfaces_view n x ≡ with_interface home (interface_view o.value.interface) (interfaces_view m) x
unfolding interfaces_view
inserted_view m n home o more x =
    ap (option_map (λ (a : Arc Offered Global). interface_view a.value.interface)) (more x)
    ∙ one_inserted (same_name home x) o (get same_name m x)

-- ---- before

pub bare_is : (is_core : Bool) (name : List ℕ) (found places : List ℕ → Found) (interfaces : Interfaces)
    → ((x : List ℕ) → found x ≡ places x) → ((x : Name) → interfaces x ≡ None)
    → around_of is_core name found interfaces ≡ around_of is_core name places (λ x. None)
bare_is is_core name found places interfaces same none =
    λ k. around_of is_core name (fun_ext same k) (fun_ext none k)

pub bare_sound : (is_core : Bool) (name : List ℕ) (found : List ℕ → Found) (interfaces : Interfaces)
    → ((x : Name) → interfaces x ≡ None) → IsSound (around_of is_core name found interfaces)
bare_sound true name found interfaces none =
    subst (λ is. IsSound (in_core name found is)) (sym (fun_ext none)) (core_bare name found)
bare_sound false name found interfaces none =
    subst (λ is. IsSound (in_project name found is)) (sym (fun_ext none)) (project_bare name found)

-- ---- one interface more

module _ (name : List ℕ) (found : List ℕ → Found) (old new : Interfaces) (home : Name) (i : Interface) where
  pub with_is : (is_core : Bool) → ((x : Name) → new x ≡ with_interface home i old x)
      → around_of is_core name found new
      ≡ record (around_of is_core name found old) {
        interfaces = with_interface home i (around_of is_core name found old).interfaces;
      }
  with_is true more = λ k. in_core name found (fun_ext more k)
  with_is false more = λ k. in_project name found (fun_ext more k)

  pub with_stays : (is_core : Bool) → ((x : Name) → new x ≡ with_interface home i old x)
      → IsSound (around_of is_core name found old)
      → same_name home (home_of (around_of is_core name found old)) ≡ false → SoundInterface home i
      → IsSound (around_of is_core name found new)
  with_stays is_core more sound other offered =
      subst IsSound (sym (with_is is_core more))
      (with_more (around_of is_core name found old) home i sound other offered)
