-- Modules without faults of commands and subscriptions leave these as ports made them: `modules_leave`.
use Rattle.std.proofs.Common.{◌≡◌, List, [], ◌∷◌, ◌++◌, Bool, true, false, ◌⊎◌, inl, inr, ⊎_elim, refl, codes}
use Rattle.std.proofs.lemmas.Bool.{false≢true}
use Rattle.std.specs.Prelude.{◌&&◌, ◌||◌, not, if◌then◌else◌}
use Rattle.std.proofs.lemmas.Bool.{and_parts}
use Rattle.std.specs.List.{list_all, AllByRecursion}
use Rattle.elm_base.specs.declared.fault.Code.TheVariants.{ConstructorArity}
use Rattle.elm_canon.specs.declared.reference.Ref.{Ref}
use Rattle.elm_canon.specs.declared.reference.Ref.TheVariants.{Local, Top}
use Rattle.elm_canon.specs.Tree.{Known, Maker, RecordMaker, OutPort, InPort, Group, Declaration, Given, Define}
use Rattle.core_modules.specs.Facts.{fault_of}
use Rattle.program_safety.specs.Ports.{is_port_home}
use Rattle.program_safety.specs.Leaving.{is_small, IsLargeMaker, Leaves}
use Rattle.core_modules.specs.PortFaultsSigns.{group_signs}
use Rattle.core_modules.specs.Faults.{is_free, is_map, command_map, subscription_map, are_kept, is_named, keeps}
use Rattle.core_modules.specs.Faults.{port_faults}
use Rattle.core_modules.specs.declared.port_faults_sign.Sign.{Sign}
use Rattle.program_safety.specs.Signs.{ModulesLeave}
use Rattle.program_safety.proofs.Same.{map_rows}
use Rattle.program_safety.proofs.Free.{free_group}
use Rattle.program_safety.proofs.Mapping.{command_kept, subscription_kept}

-- ---- constructors

large : (r : Ref) (k : Known) → is_named r k ≡ true → IsLargeMaker r k
large (Local x) k e = tt
large (Top m x) (Maker c) e = by (is_port_home m) (is_small x) e
  where
    by : (a b : Bool) → not (a && b) ≡ true → a ≡ true → b ≡ false
    by a false e h = refl
    by true true e h = absurd (false≢true e)
    by false true e h = absurd (false≢true h)
large (Top m x) (RecordMaker ks) e = tt
large (Top m x) (OutPort port t) e = tt
large (Top m x) (InPort port t) e = tt

-- ---- definitions

or_parts : (a b : Bool) → (a || b) ≡ true → (a ≡ true) ⊎ (b ≡ true)
or_parts true b e = inl refl
or_parts false b e = inr e

-- what is spelled as one of the mappings leaves these as ports made them
mapped : (rows : List Sign) →
    ((g : Group) (t : List Sign) → group_signs g ≡ rows ++ t → list_all is_free t ≡ true → Leaves (Define g)) →
    (g : Group) → is_map rows (group_signs g) ≡ true → Leaves (Define g)
mapped rows f g e = let r = map_rows rows (group_signs g) e in f g r.0 r.1 r.2

kept : (g : Group) → are_kept (group_signs g) ≡ true → Leaves (Define g)
kept g e =
    ⊎_elim (free_group g)
    (λ h. ⊎_elim (mapped command_map command_kept g) (mapped subscription_map subscription_kept g)
    (or_parts (is_map command_map s) (is_map subscription_map s) h))
    (or_parts (list_all is_free s) (is_map command_map s || is_map subscription_map s) e)
  where
    s : List Sign
    s = group_signs g

-- ---- modules

one : (d : Declaration) → keeps d ≡ true → Leaves d
one (Given r k) e = large r k e
one (Define g) e = kept g e

each : (ds : List Declaration) → list_all keeps ds ≡ true → AllByRecursion Leaves ds
each [] e = tt
each (d ∷ ds) e = let h = and_parts (keeps d) (list_all keeps ds) e in (one d h.0, each ds h.1)

-- where no fault is found, each declaration passes
quiet : (b : Bool) → (if b then [] else fault_of ConstructorArity (codes "Platform")) ≡ [] → b ≡ true
quiet true e = refl
quiet false e = absurd cc

pub modules_leave : ModulesLeave
unfolding port_faults
modules_leave m e = each m.declarations (quiet (list_all keeps m.declarations) e)
