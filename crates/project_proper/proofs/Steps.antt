-- Each step of a build has one outcome.
use Rattle.std.proofs.Common.{◌≡◌, ℕ, List, [], ◌∷◌, Bool, true, false, Option, Some, None, refl, sym, ap, ◌∙◌, subst}
use Rattle.std.specs.Prelude.{MatchBool, codes}
use Rattle.std.specs.List.{zip}
use Rattle.std.specs.Str.{IsUtf8}
use Rattle.elm_base.specs.declared.fault.Code.TheVariants.{BadOutput, ProjectMissing}
use Rattle.elm_files.specs.Tree.{Tree}
use Rattle.import_graph.specs.Order.{IsOrder}
use Rattle.import_graph.proofs.OneOrder.{one_order}
use Rattle.link.specs.Link as linked
use Rattle.link.specs.Link.{Links, Unlinked, link}
use Rattle.core_modules.specs.Library.{core_library}
use Rattle.import_graph.specs.Graph.{uses_of}
use Rattle.import_graph.specs.Laws.{IsDetermined}
use Rattle.import_graph.proofs.OneList.{one_list}
use Rattle.import_graph.proofs.OneEntry.{one_named}
use Rattle.import_graph.proofs.OneFault.{one_fault, not_refused}
use Rattle.import_graph.specs.Heads.{HasImports}
use Rattle.import_graph.specs.Fold.{IsOrdered}
use Rattle.import_graph.specs.Modules.{Setting, Module}
use Rattle.project_file.specs.Paths.{normal_path, is_absolute}
use Rattle.project_file.specs.Project.{Told, directories, fault, project_of}
use Rattle.module_made.specs.Made.{Value}
use Rattle.project_proper.specs.Once.{OneMade}
use Rattle.project_parts.specs.Laws.{Ordered, AreOfBuild}
use Rattle.project_parts.specs.Modules.{Part, parts_of, core_names, graph_of, number_of}
use Rattle.project_parts.specs.Outcomes.{Outcome, Stopped, Faulty, Text, linked_parts, faults_of, IsLinked, IsEntered}
use Rattle.project_parts.specs.Outcomes.{IsFinished, IsCompiled, start_fault, Compiled, Builds, refused, compiles}
use Rattle.project_parts.specs.Outcomes.{ToldBuilds, ProjectBuilds, is_output, Clean}
use Rattle.project_proper.specs.BuildOnce.{OneOutcome}
use Rattle.project_proper.proofs.Core.{one_core}
use Rattle.project_proper.proofs.Values.{one_values}
use Rattle.project_proper.proofs.Texts.{one_text}

-- ---- the link

one_linked : (l : linked.Linked) (a b : Outcome) → IsLinked l a → IsLinked l b → a ≡ b
one_linked (Links o) a b f g = f.2 ∙ (ap Text (one_text o f.0 g.0 f.1 g.1) ∙ sym g.2)
one_linked (Unlinked fs) a b f g = f ∙ sym g

one_entered : (qs : List linked.Part) (entry : Option ℕ) (a b : Outcome) → IsEntered qs entry a → IsEntered qs entry b
    → a ≡ b
one_entered qs None a b f g = absurd f
one_entered qs (Some entry) a b f g = one_linked (link qs entry) a b f g

one_finished : (values : List Value) (qs : Option (List linked.Part)) (entry : Option ℕ) (a b : Outcome)
    → IsFinished values qs entry a → IsFinished values qs entry b → a ≡ b
one_finished values None entry a b f g = f ∙ sym g
one_finished values (Some qs) entry a b f g = one_entered qs entry a b f g

-- ---- the modules

module _ (law : OneMade) (one : IsDetermined HasImports) (ordered : Ordered) where
  one_compiled : (ps : List Part) → IsOrdered (graph_of ps) → (name : List ℕ) (a b : Outcome) → IsCompiled ps name a
      → IsCompiled ps name b → a ≡ b
  one_compiled ps up name a b f g =
      let same = one_values law ps up f.0 g.0 f.1 g.1 in
      one_finished g.0 (linked_parts (zip ps g.0)) (number_of ps name) a b
      (subst (λ vs. IsFinished vs (linked_parts (zip ps vs)) (number_of ps name) a) same f.2) g.2

  module _ (s : Setting) (written : List ℕ) (utf8 : IsUtf8 written) (core : s.core ≡ core_names) where
    abbrev of_build : (outcome : Outcome) (c : Compiled s written outcome) → AreOfBuild c.core c.modules c.order
    of_build outcome c = record {
      setting = s;
      written = written;
      is_text = utf8;
      core_is = core;
      are_modules = c.are_modules;
      is_order = c.is_order;
      are_core = c.are_core;
    }

    one_project : (a b : Outcome) → Compiled s written a → Compiled s written b → a ≡ b
    one_project a b f g =
        let cores = one_core one [] core_library f.core g.core f.are_core g.are_core in
        let modules = one_list HasImports one s written f.modules g.modules f.are_modules g.are_modules in
        let order = one_order (subst (λ ms. IsOrder (uses_of ms) [] f.order) modules f.is_order) g.is_order in
        let entry = one_named f.names_entry g.names_entry in
        let parts : parts_of f.core f.modules f.order ≡ parts_of g.core g.modules g.order =
        λ i. parts_of (cores i) (modules i) (order i) in
        one_compiled (parts_of g.core g.modules g.order) (ordered g.core g.modules g.order (of_build b g)) g.entry a b
        (subst (λ ps. IsCompiled ps g.entry a) parts
        (subst (λ x. IsCompiled (parts_of f.core f.modules f.order) x a) entry f.compiled))
        g.compiled

    one_built : (a b : Outcome) → Builds s written a → Builds s written b → a ≡ b
    one_built a b (refused p) (refused q) =
        ap (λ f. Stopped (f ∷ [])) (one_fault HasImports one s written _ _ p q)
    one_built a b (refused p) (compiles c) =
        absurd (not_refused HasImports one s written c.modules c.order _ c.are_modules c.is_order p)
    one_built a b (compiles c) (refused q) =
        absurd (not_refused HasImports one s written c.modules c.order _ c.are_modules c.is_order q)
    one_built a b (compiles c) (compiles d) = one_project a b c d

  -- ---- before the modules

  one_told : (tree : Tree) (written : List ℕ) → IsUtf8 written → (t : Told) (a b : Outcome)
      → ToldBuilds tree written t a → ToldBuilds tree written t b → a ≡ b
  one_told tree written utf8 (fault code) a b f g = f ∙ sym g
  one_told tree written utf8 (directories paths) a b f g =
      one_built (record { tree = tree; directories = paths; core = core_names }) written utf8 refl a b f g

  one_opened : (tree : Tree) (written : List ℕ) → IsUtf8 written → (o : Option (List ℕ)) (a b : Outcome)
      → ProjectBuilds tree written o a → ProjectBuilds tree written o b → a ≡ b
  one_opened tree written utf8 None a b f g = f ∙ sym g
  one_opened tree written utf8 (Some bytes) a b f g = one_told tree written utf8 (project_of bytes) a b f g

  one_way : (c : Bool) (P Q R S : Type 0) (x : Type 0) → (P → Q → x) → (R → S → x) → MatchBool c P R → MatchBool c Q S
      → x
  one_way true P Q R S x f g p q = f p q
  one_way false P Q R S x f g p q = g p q

  pub one_outcome : OneOutcome
  one_outcome tree entry output a b utf8 =
      one_way (is_absolute output) _ _ _ _ (a ≡ b) (λ f g. f ∙ sym g)
      (one_way (is_output (normal_path output)) _ _ _ _ (a ≡ b)
      (one_opened tree entry utf8 (tree (codes "elm.json")) a b) (λ f g. f ∙ sym g))
