-- The names of the core library and of the modules of a build.
use Rattle.std.proofs.Common.{◌≡◌, ℕ, zero, suc, List, [], ◌∷◌, ◌++◌, take, map, Some, refl, sym, ap, subst, ◌∙◌}
use Rattle.std.proofs.Common.{append_assoc}
use Rattle.std.proofs.Common.{append-nil}
use Rattle.std.specs.Prelude.{slice_get}
use Rattle.std.specs.List.{filter_map}
use Rattle.std.proofs.lemmas.List.{map-append}
use Rattle.import_graph.specs.Graph.{names_of}
use Rattle.import_graph.specs.Modules.{Module}
use Rattle.project_parts.specs.Modules.{Part, IsCoreModule, AreCoreModules, names_in, core_part, project_part, parts_of}
use Rattle.project_parts.specs.Modules.{name_of}

abbrev pub Library : Type 0
Library = List (List ℕ × List ℕ)

pub core_names_are : (before cs : Library) (ms : List Module) → AreCoreModules before cs ms → names_of ms ≡ names_in cs
core_names_are before [] [] a = refl
core_names_are before [] (m ∷ ms) a = absurd a
core_names_are before (c ∷ cs) [] a = absurd a
core_names_are before (c ∷ cs) (m ∷ ms) a =
    ap (λ s. s.name ∷ names_of ms) a.0.source ∙ ap (λ xs. c.0 ∷ xs) (core_names_are (before ++ c ∷ []) cs ms a.1)

-- the module at a place, with those before it
pub core_at : (before cs : Library) (ms : List Module) → AreCoreModules before cs ms → (i : ℕ) (m : Module)
    → slice_get ms i ≡ Some m
    → (c : List ℕ × List ℕ) × (slice_get cs i ≡ Some c) × IsCoreModule (before ++ take i cs) c m
core_at before [] [] a i m e = absurd cc
core_at before [] (x ∷ ms) a i m e = absurd a
core_at before (c ∷ cs) [] a i m e = absurd a
core_at before (c ∷ cs) (x ∷ ms) a zero m e =
    let h : x ≡ m = cc in
    (c, refl, subst (λ b. IsCoreModule b c m) (sym (append-nil before)) (subst (IsCoreModule before c) h a.0))
core_at before (c ∷ cs) (x ∷ ms) a (suc i) m e =
    let r = core_at (before ++ c ∷ []) cs ms a.1 i m e in
    (r.0, r.1, subst (λ b. IsCoreModule b r.0 m) (append_assoc before (c ∷ []) (take i cs)) r.2)

core_part_names : (ms : List Module) → map name_of (map core_part ms) ≡ names_of ms
core_part_names [] = refl
core_part_names (m ∷ ms) = ap (λ xs. m.source.name ∷ xs) (core_part_names ms)

project_part_names : (ms : List Module) → map name_of (map project_part ms) ≡ names_of ms
project_part_names [] = refl
project_part_names (m ∷ ms) = ap (λ xs. m.source.name ∷ xs) (project_part_names ms)

pub part_names : (core ms : List Module) (order : List ℕ)
    → map name_of (parts_of core ms order) ≡ names_of core ++ names_of (filter_map (slice_get ms) order)
part_names core ms order =
    let there = filter_map (slice_get ms) order in
    map-append name_of (map core_part core) (map project_part there)
    ∙ ap (λ xs. xs ++ map name_of (map project_part there)) (core_part_names core)
    ∙ ap (λ xs. names_of core ++ xs) (project_part_names there)
