-- A union of a module is found by its name: `unions_found`.
use Rattle.std.proofs.Common.{◌≡◌, ℕ, zero, suc, ◌+◌, ◌≤◌, List, [], ◌∷◌, ◌++◌, map, length, Bool, true, false, Some}
use Rattle.std.proofs.Common.{inl, inr, sym, ap, ◌∙◌, subst, arith, if◌then◌else◌}
use Rattle.std.specs.Prelude.{slice_get}
use Rattle.std.specs.List.{flat_map}
use Rattle.std.specs.Str.{bytes_eq}
use Rattle.elm_tree.specs.Tree as tree
use Rattle.elm_tree.specs.Tree.{Declaration, Value, Port, Union, Alias}
use Rattle.elm_canon.specs.Names.{Name, same_name}
use Rattle.elm_canon.specs.Tree as canon
use Rattle.elm_canon.specs.Tree.{UnionDeclaration}
use Rattle.canon_env.proofs.Adding.{same_name-sym}
use Rattle.canon_env.specs.Exposing.{import_faults}
use Rattle.canon_env.specs.Imports.{name_of}
use Rattle.canon_env.specs.Naming.{World}
use Rattle.canon_env.specs.Sites.{repeats}
use Rattle.canon_type.specs.Unions.{unions_in, union_of}
use Rattle.canon_module.specs.Names.{Names, names_in}
use Rattle.canon_module.specs.Faults.{duplicate_faults}
use Rattle.canon_proper.proofs.Quiet.{append_none, map_none}
use Rattle.canon_proper.proofs.Scopes.{name_itself}
use Rattle.canon_module.specs.CanonValuesFaults.{value_faults}
use Rattle.canon_type.specs.DeclaredTypes.{declared_faults}
use Rattle.canon_module.specs.Resolve.{Setting, IsModule, module_faults, heading_faults, world_of}
use Rattle.module_proper.proofs.Makers.{tops_fresh}
use Rattle.typed_values.specs.World.{Among}
use Rattle.project_proper.specs.Resolved.{HomesApart}
use Rattle.told_modules.proofs.Counts.{one_if, times, fresh_times}
use Rattle.build_safety.specs.Compiled.{Compiled, home_of, resolved_of}
use Rattle.build_safety.proofs.Among.{get_here, compiled_here, is_next}
use Rattle.build_safety.proofs.Told.{other_home}
use Rattle.build_safety.specs.BuildWorlds.{constructors, constructors_in, unions_at}
use Rattle.build_safety.specs.UnionNames.{UnionsAreFound}

-- ---- unions of a list

abbrev union_names : List UnionDeclaration → List Name
union_names us = map (λ (u : UnionDeclaration). u.name) us

there : (us : List UnionDeclaration) (u : UnionDeclaration) → Among u us → 1 ≤ times u.name (union_names us)
there [] u a = absurd a
there (v ∷ us) u (inl s) =
    let h : bytes_eq u.name v.name ≡ true =
    subst (λ (z : UnionDeclaration). bytes_eq u.name z.name ≡ true) s (name_itself u.name) in
    let k : one_if (bytes_eq u.name v.name) ≡ 1 = ap one_if h in
    omega (arith, k)
there (v ∷ us) u (inr a) = let h = there us u a in omega (arith, h)

found : (m : Name) (us : List UnionDeclaration) (u : UnionDeclaration) → Among u us →
    times u.name (union_names us) ≤ 1 → constructors_in m us u.name ≡ constructors m u
found m [] u a l = absurd a
found m (v ∷ us) u (inl s) l =
    ap (λ b. if b then constructors m v else constructors_in m us u.name)
    (subst (λ (z : UnionDeclaration). same_name z.name u.name ≡ true) s (name_itself u.name))
    ∙ ap (constructors m) (sym s)
found m (v ∷ us) u (inr a) l =
    ap (λ b. if b then constructors m v else constructors_in m us u.name) (same_name-sym v.name u.name)
    ∙ by (bytes_eq u.name v.name) l (there us u a) (λ h. found m us u a h)
  where
    by : (b : Bool) → one_if b + times u.name (union_names us) ≤ 1 → 1 ≤ times u.name (union_names us) →
        (times u.name (union_names us) ≤ 1 → constructors_in m us u.name ≡ constructors m u) →
        (if b then constructors m v else constructors_in m us u.name) ≡ constructors m u
    by true h k rest = absurd (omega (arith, h, k))
    by false h k rest = rest (omega (arith, h))

-- ---- of a module

type_times : (x home : Name) (w : World) (ds : List Declaration) →
    times x (union_names (map (union_of home w) (unions_in ds))) ≤ times x (map name_of (names_in ds).types)
type_times x home w [] = omega arith
type_times x home w (Value d ∷ ds) = type_times x home w ds
type_times x home w (Port y t ∷ ds) = type_times x home w ds
type_times x home w (Union y ps cs ∷ ds) = let h = type_times x home w ds in omega (arith, h)
type_times x home w (Alias y ps t ∷ ds) = let h = type_times x home w ds in omega (arith, h)

no_repeats : (n : Names) → duplicate_faults n ≡ [] → repeats n.types ≡ []
no_repeats n e =
    let a = append_none _ _ e in
    let b = append_none _ _ a.0 in
    map_none _ (repeats n.types) b.1

names_none : (s : Setting) (t : tree.Module) (m : canon.Module) → module_faults s t m ≡ [] →
    duplicate_faults (names_in t.declarations) ≡ []
names_none s t m none =
    let w = world_of s t.declarations m in
    let types = declared_faults w t.declarations in
    let p = append_none (heading_faults s t ++ types) (value_faults w t.declarations) none in
    let q = append_none (heading_faults s t) types p.0 in
    let h = append_none (flat_map import_faults s.written) _ q.0 in
    let n = append_none _ _ h.1 in
    (append_none _ _ n.0).0

once : (s : Setting) (t : tree.Module) (m : canon.Module) → IsModule s t.declarations m → module_faults s t m ≡ [] →
    (x : Name) → times x (union_names m.unions) ≤ 1
once s t m is none x =
    let ts = (names_in t.declarations).types in
    let few = fresh_times s.home x (map name_of ts) []
    (tops_fresh s.home [] ts (no_repeats (names_in t.declarations) (names_none s t m none))) in
    let some : times x (union_names m.unions) ≤ times x (map name_of ts) =
    subst (λ us. times x (union_names us) ≤ times x (map name_of ts)) (sym is.types.unions)
    (type_times x s.home (world_of s t.declarations m) t.declarations) in
    omega (arith, few, some)

-- ---- of a build

unions_here : (cs : List Compiled) (i : ℕ) (c : Compiled) → HomesApart (resolved_of cs) → slice_get cs i ≡ Some c →
    (x : Name) → unions_at cs (home_of c) x ≡ constructors_in (home_of c) c.resolved.whole.unions x
unions_here [] i c apart at x = absurd cc
unions_here (d ∷ cs) zero c apart at x =
    let h : d ≡ c = cc in
    subst
    (λ (z : Compiled). unions_at (d ∷ cs) (home_of z) x ≡ constructors_in (home_of z) z.resolved.whole.unions x) h
    (ap (λ b. if b then constructors_in (home_of d) d.resolved.whole.unions x else unions_at cs (home_of d) x)
    (name_itself (home_of d)))
unions_here (d ∷ cs) (suc i) c apart at x =
    ap (λ b. if b then constructors_in (home_of c) d.resolved.whole.unions x else unions_at cs (home_of c) x)
    (same_name-sym (home_of c) (home_of d) ∙ other_home (home_of d) cs i c apart.0 at)
    ∙ unions_here cs i c apart.1 at x

pub unions_found : UnionsAreFound
unions_found before c after all u a =
    unions_here (before ++ c ∷ after) (length before) c all.resolved.apart (get_here before after c) u.name
    ∙ found (home_of c) c.resolved.whole.unions u a (once c.resolved.setting c.resolved.written c.resolved.whole
    (is_next before c after all).is no_faults u.name)
  where
    no_faults : module_faults c.resolved.setting c.resolved.written c.resolved.whole ≡ []
    no_faults =
        subst (λ s. module_faults s c.resolved.written c.resolved.whole ≡ [])
        (sym (compiled_here before c after all).setting)
        (compiled_here before c after all).typed.is_named.named
