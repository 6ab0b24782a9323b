-- What the names of a module are resolved against.
use Rattle.std.proofs.Common.{◌≡◌, ℕ, List, [], ◌∷◌, ◌++◌, Bool, true, false, map, refl, sym, ap, ◌∙◌}
use Rattle.std.proofs.Common.{append_assoc, append-nil}
use Rattle.std.specs.Prelude.{Option, Result, Ok, Err, IfOk, codes}
use Rattle.std.proofs.lemmas.List.Elements.{filter_map-append}
use Rattle.std.specs.Str.Lossy.{utf8_lossy}
use Rattle.elm_base.specs.Units.{text_units}
use Rattle.canon_env.specs.Imports.{Import, import_of, default_imports}
use Rattle.canon_env.specs.Shown.{Shown}
use Rattle.canon_module.specs.Resolve.{Setting}
use Rattle.elm_canon.specs.Tree.{Module}
use Rattle.elm_tree.specs.Tree as tree
use Rattle.core_modules.specs.Given as given
use Rattle.core_modules.specs.declared.given.GivenImport.{GivenImport}
use Rattle.interface.specs.Interface.{Interface}
use Rattle.module_offers.specs.Faults.{operator_faults}
use Rattle.import_graph.specs.declared.found.Found.{Found}
use Rattle.module_offers.specs.Offers.{Interfaces}
use Rattle.module_made.specs.Around.{Around, home_of, setting_of, known_import}
use Rattle.module_made.specs.Made.{lacking}
use Rattle.module_compile.specs.Parts.{found_view, interfaces_view, around_of}
use Rattle.module_compile.specs.Settings.{given_view, known_of, written_of, known_before}
use Rattle.module_compile.specs.ModulePhasesView.{around_view}
use Rattle.module_compile.specs.declared.imports.Imports.{Imports}

interfaces_of : (is_core : Bool) (name : List ℕ) (found : List ℕ → Found) (interfaces : Interfaces)
    → (around_of is_core name found interfaces).interfaces ≡ interfaces
interfaces_of true name found interfaces = refl
interfaces_of false name found interfaces = refl

name_of : (is_core : Bool) (name : List ℕ) (found : List ℕ → Found) (interfaces : Interfaces)
    → (around_of is_core name found interfaces).name ≡ name
name_of true name found interfaces = refl
name_of false name found interfaces = refl

found_of : (is_core : Bool) (name : List ℕ) (found : List ℕ → Found) (interfaces : Interfaces)
    → (around_of is_core name found interfaces).found ≡ found
found_of true name found interfaces = refl
found_of false name found interfaces = refl

pub view_interfaces : (i : Imports) → (around_view i).interfaces ≡ interfaces_view i.interfaces
unfolding around_view
view_interfaces i = interfaces_of i.is_core i.name _ _

pub view_name : (i : Imports) → (around_view i).name ≡ i.name
unfolding around_view
view_name i = name_of i.is_core i.name _ _

pub view_found : (i : Imports) → (around_view i).found ≡ found_view i.found
unfolding around_view
view_found i = found_of i.is_core i.name _ _

-- the module is at home
pub view_home : (i : Imports) → i.home ≡ home_of (around_view i)
view_home i = i.home_is ∙ ap (λ n. text_units (utf8_lossy n)) (sym (view_name i))

-- ---- the imports that it has without writing them

pairs_known : (gs : List GivenImport)
    → map given_view gs ≡ map (λ i. record { import = i.0; shown = i.1 }) (map given.given_view gs)
pairs_known [] = refl
pairs_known (g ∷ gs) = ap (λ l. given_view g ∷ l) (pairs_known gs)

pub before_core : (i : Imports) (gs : List GivenImport) → i.is_core ≡ true
    → map given.given_view gs ≡ given.given_imports → map given_view gs ≡ known_before (around_view i)
unfolding around_view
before_core i gs core e =
    pairs_known gs ∙ ap (map (λ (p : Import × Shown). record { import = p.0; shown = p.1 })) e
    ∙ sym (append-nil (map (λ (p : Import × Shown). record { import = p.0; shown = p.1 }) given.given_imports))
    ∙ ap (λ b. known_before (around_of b i.name (found_view i.found) (interfaces_view i.interfaces))) (sym core)

-- where something is made
pub if_made : {T E : Type 0} (P Q : T → Type 0) (r : Result T E) → ((v : T) → P v → Q v) → IfOk r P → IfOk r Q
if_made P Q (Ok v) f h = f v h
if_made P Q (Err e) f h = h

pub before_project : (i : Imports) → i.is_core ≡ false
    → known_of (interfaces_view i.interfaces) default_imports ≡ known_before (around_view i)
unfolding around_view
before_project i project =
    ap (λ b. known_before (around_of b i.name (found_view i.found) (interfaces_view i.interfaces))) (sym project)

-- ---- settings

-- a setting of these parts
pub setting_is : (a : Around) (t : tree.Module) (s : Setting) → s.home ≡ home_of a → s.given ≡ a.given
    → s.imports ≡ known_before a ++ known_of a.interfaces (map import_of t.head.imports)
    → s.written ≡ written_of a.interfaces t.head.imports → s ≡ setting_of a t
setting_is a t s home given imports written =
    let all : s.imports ≡ (setting_of a t).imports =
    imports ∙ append_assoc a.known (known_of a.interfaces a.defaults) _
    ∙ ap (λ l. a.known ++ l) (sym (filter_map-append (known_import a.interfaces) a.defaults _)) in
    λ k. record { home = home k; given = given k; imports = all k; written = written k }

-- what the module lacks, by two interfaces
pub lacking_is : (i : Imports) (basics lists : Option Interface) (m : Module)
    → basics ≡ interfaces_view i.interfaces (codes "Basics") → lists ≡ interfaces_view i.interfaces (codes "List")
    → operator_faults basics lists m ≡ lacking (around_view i) m
lacking_is i basics lists m first other =
    ap (λ o. operator_faults o lists m) (first ∙ ap (λ is. is (codes "Basics")) (sym (view_interfaces i)))
    ∙ ap (λ o. operator_faults ((around_view i).interfaces (codes "Basics")) o m)
    (other ∙ ap (λ is. is (codes "List")) (sym (view_interfaces i)))
