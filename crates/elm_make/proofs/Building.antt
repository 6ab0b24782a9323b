-- What each step of a build gives, and that it is the only outcome.
use Rattle.std.proofs.Common.{◌≡◌, ℕ, List, [], ◌∷◌, Bool, true, false, Option, Some, None, Result, Ok, Err, length}
use Rattle.std.proofs.Common.{refl, sym, subst}
use Rattle.std.specs.Prelude.{MatchBool, IfOk, IfSome, codes, flat_map}
use Rattle.std.specs.List.{zip}
use Rattle.std.specs.Str.{IsUtf8}
use Rattle.core_modules.specs.Library.{core_library}
use Rattle.elm_base.specs.declared.fault.Code.TheVariants.{BadOutput}
use Rattle.elm_base.specs.declared.fault.Fault.{Fault}
use Rattle.elm_files.specs.Tree.{Tree}
use Rattle.import_graph.specs.Order.{IsOrder}
use Rattle.link.specs.Link as linked
use Rattle.link.specs.Link.{Linked, Links, Unlinked, link}
use Rattle.import_graph.specs.Entries.{NamesEntry}
use Rattle.import_graph.specs.Faults.{IsRefused}
use Rattle.import_graph.specs.Graph.{AreModules, names_of, uses_of}
use Rattle.import_graph.specs.Heads.{HasImports}
use Rattle.module_made.specs.Made.{Value}
use Rattle.import_graph.specs.Entry.{HasEntry}
use Rattle.import_graph.specs.Modules.{Module}
use Rattle.import_graph.specs.ModuleWalkView.{setting}
use Rattle.project_parts.specs.Modules.{Part, AreCoreModules, core_names, parts_of, number_of}
use Rattle.project_parts.specs.Outcomes.{Outcome, Stopped, Faulty, Text, IsLinked, IsFinished, IsCompiled, linked_parts}
use Rattle.project_parts.specs.Outcomes.{faults_of, Builds, refused, compiles, ProjectBuilds, Clean, is_output}
use Rattle.project_parts.specs.Outcomes.{start_fault}
use Rattle.project_file.specs.Paths.{normal_path, is_absolute}
use Rattle.project_file.specs.View.{directories_of}
use Rattle.project_file.specs.declared.project.Project.{Project}
use Rattle.project_proper.specs.BuildOnce.{OneOutcome}
use Rattle.elm_make.specs.Counts.{HasModules, Counts, OneCount}
use Rattle.elm_make.specs.End.{HasOutcome, HasCount}
use Rattle.elm_make.specs.Steps.{Holds, IsTold, IsStopped}
use Rattle.elm_make.specs.View.{outcome_view}
use Rattle.elm_make.specs.declared.project.Built.{Built}
use Rattle.elm_make.specs.declared.project.BuildEnd.{BuildEnd}

-- ---- a build that stopped

pub stopped_holds : (told : Option Tree) (entry : List ℕ) (R : Tree → Outcome → Type 0) (faults : List Fault)
    (built : Built)
    → IfSome told (λ tree. R tree (Stopped faults)) → IsStopped faults built
    → IfSome told (λ tree. R tree (outcome_view built.outcome)
    × Counts tree entry (outcome_view built.outcome) built.modules)
stopped_holds None entry R faults built h s = tt
stopped_holds (Some tree) entry R faults built h s =
    (subst (R tree) (sym s.outcome) h, subst (λ o. Counts tree entry o built.modules) (sym s.outcome) s.count)

pub refused_builds : (told : Option Tree) (entry : List ℕ) (p : Project) (names : List (List ℕ)) (f : Fault)
    → names ≡ core_names → IfSome told (λ tree. IsRefused HasImports (setting tree p names) entry f)
    → IfSome told (λ tree. Builds (setting tree p core_names) entry (Stopped (f ∷ [])))
refused_builds None entry p names f same h = tt
refused_builds (Some tree) entry p names f same h =
    refused (subst (λ ns. IsRefused HasImports (setting tree p ns) entry f) same h)

-- ---- modules that are compiled

linked_goes_on : (l : Linked) (fs : List Fault) → IsLinked l (Stopped fs) → ⊥
linked_goes_on (Links o) fs f = absurd (let e : Stopped fs ≡ Text f.0 = f.2 in cc)
linked_goes_on (Unlinked gs) fs f = absurd (let e : Stopped fs ≡ Faulty gs = f in cc)

finished_goes_on : (values : List Value) (qs : Option (List linked.Part)) (n : Option ℕ) (fs : List Fault)
    → IsFinished values qs n (Stopped fs) → ⊥
finished_goes_on values None n fs f = absurd (let e : Stopped fs ≡ Faulty (flat_map faults_of values) = f in cc)
finished_goes_on values (Some qs) None fs f = f
finished_goes_on values (Some qs) (Some n) fs f = linked_goes_on (link qs n) fs f

counted : (tree : Tree) (entry : List ℕ) (n : ℕ) (ps : List Part) (name : List ℕ) (outcome : Outcome)
    → IsCompiled ps name outcome → HasModules tree entry n → Counts tree entry outcome n
counted tree entry n ps name (Stopped fs) c h =
    absurd (finished_goes_on c.0 (linked_parts (zip ps c.0)) (number_of ps name) fs c.2)
counted tree entry n ps name (Faulty fs) c h = h
counted tree entry n ps name (Text text) c h = h

module _
    (entry : List ℕ) (p : Project) (names : List (List ℕ)) (core ms : List Module) (order : List ℕ)
    (same : names ≡ core_names) (are_core : AreCoreModules [] core_library core)
    (is_order : IsOrder (uses_of ms) [] order) (has_entry : HasEntry (directories_of p) entry (names_of ms)) where
  -- what the modules compile to
  abbrev pub Compiles : Result Built BuildEnd → Type 0
  Compiles result =
      IfOk result (λ built. (name : List ℕ) → NamesEntry (normal_path entry) (directories_of p) name
      → IsCompiled (parts_of core ms order) name (outcome_view built.outcome))

  pub modules_build : (told : Option Tree) → IfSome told (IsTold p)
      → IfSome told (λ tree. AreModules HasImports (setting tree p names) entry ms) → (result : Result Built BuildEnd)
      → Compiles result → IfOk result (λ built. built.modules ≡ length ms)
      → Holds told entry (λ tree. Builds (setting tree p core_names) entry) result
  modules_build told is are (Err end) c n = tt
  modules_build None is are (Ok built) c n = tt
  modules_build (Some tree) is are (Ok built) c n =
      let modules : AreModules HasImports (setting tree p core_names) entry ms =
      subst (λ ns. AreModules HasImports (setting tree p ns) entry ms) same are in
      let compiled = c has_entry.0 has_entry.1.named in
      let has : HasModules tree entry built.modules = record {
        bytes = is.bytes;
        there = is.there;
        paths = directories_of p;
        told = is.told;
        modules = ms;
        are = modules;
        count = n;
      } in (
        compiles (record {
          modules = ms;
          are_modules = modules;
          order = order;
          is_order = is_order;
          core = core;
          are_core = are_core;
          entry = has_entry.0;
          names_entry = has_entry.1.named;
          compiled = compiled;
        }),
        counted tree entry built.modules (parts_of core ms order) has_entry.0 (outcome_view built.outcome) compiled has,
      )

-- ---- the path of the output

match_true : (P Q : Type 0) (b : Bool) → b ≡ true → P → MatchBool b P Q
match_true P Q true e p = p
match_true P Q false e p = absurd cc

match_false : (P Q : Type 0) (b : Bool) → b ≡ false → Q → MatchBool b P Q
match_false P Q true e q = absurd cc
match_false P Q false e q = q

pub absolute_stops : (told : Option Tree) (entry output : List ℕ) → is_absolute output ≡ true
    → IfSome told (λ tree. Clean tree entry output (Stopped (start_fault BadOutput output ∷ [])))
absolute_stops None entry output e = tt
absolute_stops (Some tree) entry output e = match_true _ _ (is_absolute output) e refl

pub other_stops : (told : Option Tree) (entry output : List ℕ) → is_absolute output ≡ false
    → is_output (normal_path output) ≡ false
    → IfSome told (λ tree. Clean tree entry output (Stopped (start_fault BadOutput (normal_path output) ∷ [])))
other_stops None entry output e f = tt
other_stops (Some tree) entry output e f =
    match_false _ _ (is_absolute output) e (match_false _ _ (is_output (normal_path output)) f refl)

pub output_goes_on : (told : Option Tree) (entry output : List ℕ) → is_absolute output ≡ false
    → is_output (normal_path output) ≡ true → (result : Result Built BuildEnd)
    → Holds told entry (λ tree. ProjectBuilds tree entry (tree (codes "elm.json"))) result
    → Holds told entry (λ tree. Clean tree entry output) result
output_goes_on told entry output e f (Err end) h = tt
output_goes_on None entry output e f (Ok built) h = tt
output_goes_on (Some tree) entry output e f (Ok built) h =
    (match_false _ _ (is_absolute output) e (match_true _ _ (is_output (normal_path output)) f h.0), h.1)

-- ---- there is no other

pub only_outcome : OneOutcome → (told : Option Tree) (entry output : List ℕ) → IsUtf8 entry
    → (result : Result Built BuildEnd) → Holds told entry (λ tree. Clean tree entry output) result
    → HasOutcome told (λ tree. Clean tree entry output) result
only_outcome one told entry output utf8 (Err end) h = tt
only_outcome one None entry output utf8 (Ok built) h = tt
only_outcome one (Some tree) entry output utf8 (Ok built) h = record {
  holds = h.0;
  only = λ other k. one tree entry output other (outcome_view built.outcome) utf8 k h.0;
}

pub only_count : OneCount → (told : Option Tree) (entry : List ℕ) (R : Tree → Outcome → Type 0)
    → (result : Result Built BuildEnd) → Holds told entry R result → HasCount told entry result
only_count one told entry R (Err end) h = tt
only_count one None entry R (Ok built) h = tt
only_count one (Some tree) entry R (Ok built) h = record {
  holds = h.1;
  only = λ other k. one tree entry (outcome_view built.outcome) other built.modules k h.1;
}
