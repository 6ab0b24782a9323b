-- What the phases of text, imports and names say of a text.
use Rattle.std.specs.Prelude.{◌≡◌, ℕ, List, [], Some}
use Rattle.elm_base.specs.declared.fault.Fault.{Fault}
use Rattle.elm_canon.specs.Tree.{Module}
use Rattle.elm_canon.specs.View.{module_view}
use Rattle.elm_tree.specs.Tree as tree
use Rattle.canon_env.specs.Shown.{Shown, shown_view}
use Rattle.canon_module.specs.Resolve.{module_shows}
use Rattle.canon_module.specs.declared.module.Resolved.{Resolved}
use Rattle.module_made.specs.Around.{Around, setting_of}
use Rattle.module_made.specs.Made.{Means, name_faults, IsNamed, Made, Bad}
use Rattle.module_compile.specs.declared.phases.Outcome.{Outcome}
use Rattle.module_compile.specs.declared.phases.Outcome.TheVariants as outcome

-- the text means this module, without faults in its imports and names, and shows this
pub record Resolves (a : Around) (text : List ℕ) (m : Module) (s : Shown) : Type 0 where
  pub written : tree.Module
  pub is_named : IsNamed a text written m
  pub shows : s ≡ module_shows (setting_of a written) written m

-- the imports and the names of the text have no faults, and give this
pub record AreClean (a : Around) (text : List ℕ) (r : Resolved) : Type 0 where
  pub written : tree.Module
  pub means : Means a text written (module_view r.module)
  pub named : name_faults a written (module_view r.module) ≡ []
  pub shows : shown_view r.shown ≡ module_shows (setting_of a written) written (module_view r.module)

-- the module has those faults
abbrev pub Fails : Around → List ℕ → List ℕ → List Fault → Type 0
Fails a path text fs = Made a path (Some text) (Bad fs)

-- what the phases say of the text of the file at the path
abbrev pub Tells : Around → List ℕ → List ℕ → Outcome → Type 0
Tells a path text (outcome.Named r) = Resolves a text (module_view r.value.module) (shown_view r.value.shown)
Tells a path text (outcome.Bad fs) = Fails a path text fs.items
