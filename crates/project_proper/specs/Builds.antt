-- Builds whose modules are all good: what a link takes of them is resolved, module after module, and so the program
-- that it makes has proper names.
use Rattle.std.specs.Prelude.{◌≡◌, ℕ, List, [], ◌∷◌, Some, map, slice_get}
use Rattle.std.specs.List.{zip}
use Rattle.link.specs.Made.{fragment_of}
use Rattle.interface.specs.Interface.{Interface}
use Rattle.type_items.specs.Inferred.{Schemes}
use Rattle.canon_module.specs.Resolve.{module_shows}
use Rattle.link.specs.Cores.{cores_of, without_cores}
use Rattle.emit_size_laws.specs.Small.{NamedProgram}
use Rattle.link.specs.Link as linked
use Rattle.link.specs.Link.{Output, Links, link}
use Rattle.link.specs.Programs.{part_of, program_of}
use Rattle.module_made.specs.Made.{Value, Good}
use Rattle.module_offers.specs.Offers.{main_type, module_interface}
use Rattle.project_parts.specs.Modules.{Part, home_of, Values}
use Rattle.project_parts.specs.Outcomes.{linked_parts}
use Rattle.project_parts.specs.Laws.{IsBuild}
use Rattle.project_proper.specs.Resolved.{Resolved, source_of, AreResolved, IsMain}

-- ---- the modules, resolved

abbrev pub interface_by : Resolved → Schemes → Interface
interface_by r told = module_interface (module_shows r.setting r.written r.whole) r.whole told

-- the module is good, and was resolved so
pub record IsBuilt (p : Part) (v : Value) (r : Resolved) : Type 0 where
  pub told : Schemes
  pub path : r.path ≡ p.module_.source.path
  pub home : r.setting.home ≡ home_of p
  pub main : r.main ≡ main_type r.whole told
  pub value : v ≡ Good (interface_by r told) (fragment_of (cores_of r.whole) (without_cores r.whole) r.main)

abbrev pub AreBuilt : List Part → List Value → List Resolved → Type 0
AreBuilt [] [] [] = Unit {0}
AreBuilt (p ∷ ps) (v ∷ vs) (r ∷ rs) = IsBuilt p v r × AreBuilt ps vs rs
AreBuilt _ _ _ = ⊥

-- ---- the laws

-- the modules of a build that is linked, as a link takes them
pub record AreLinked (qs : List linked.Part) (rs : List Resolved) : Type 0 where
  pub resolved : AreResolved rs
  pub parts : map part_of (map source_of rs) ≡ qs
  pub main : (i : ℕ) (r : Resolved) → slice_get rs i ≡ Some r → IsMain r

abbrev pub BuildsAreLinked : Type 0
BuildsAreLinked =
    (ps : List Part) (values : List Value) (qs : List linked.Part) → IsBuild ps → Values ps values →
    linked_parts (zip ps values) ≡ Some qs → (rs : List Resolved) × AreBuilt ps values rs × AreLinked qs rs

-- then the program that a link from one of them makes has proper names
abbrev pub LinksAreNamed : Type 0
LinksAreNamed =
    (qs : List linked.Part) (rs : List Resolved) (entry : ℕ) (r : Resolved) (o : Output) → AreLinked qs rs →
    slice_get rs entry ≡ Some r → link qs entry ≡ Links o →
    NamedProgram (program_of (map source_of rs) (source_of r))
