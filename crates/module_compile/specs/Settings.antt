-- What the names of a module are resolved against, as the program has it.
use Rattle.std.specs.Prelude.{◌≡◌, ◌++◌, List, map}
use Rattle.std.specs.List.{filter_map}
use Rattle.elm_canon.specs.View.{module_view}
use Rattle.elm_lexer.specs.Tokens.{Token}
use Rattle.elm_tree.specs.Tree as tree
use Rattle.elm_tree.specs.View as tree_view
use Rattle.elm_parser.specs.declared.text.Parsed.{Parsed}
use Rattle.elm_tree.specs.Turns.{tokens_view}
use Rattle.canon_env.specs.Env as env
use Rattle.canon_env.specs.Exposing.{Written}
use Rattle.canon_env.specs.Imports.{Import, import_view, import_of}
use Rattle.canon_env.specs.Shown.{shown_view}
use Rattle.canon_module.specs.Resolve.{Setting, IsModule, module_shows, module_faults}
use Rattle.canon_module.specs.declared.module.Resolved.{Resolved}
use Rattle.canon_env.specs.Order.{IsInOrder}
use Rattle.core_modules.specs.declared.given.GivenImport.{GivenImport}
use Rattle.module_made.specs.Around.{Around, known_import, written_import, setting_of}
use Rattle.module_offers.specs.Offers.{Interfaces}
use Rattle.module_compile.specs.declared.seen.Seen.{Seen}

-- the module that was read
abbrev pub parsed_view : Parsed → tree.Module
parsed_view p = tree_view.module_view (tokens_view p.tokens.items) p.module

-- ---- imports beside what their modules show

abbrev pub given_view : GivenImport → env.Known
given_view g = record { import = import_view g.import; shown = shown_view g.shown }

abbrev pub seen_known : Seen → env.Known
seen_known s = record { import = import_view s.import; shown = shown_view s.shown }

abbrev pub seen_written : List Token → Seen → Written
seen_written tokens s = record { import = tree_view.import_view tokens s.written.now; shown = shown_view s.shown }

-- those of which that is known
abbrev pub known_of : Interfaces → List Import → List env.Known
known_of interfaces is = filter_map (known_import interfaces) is

abbrev pub written_of : Interfaces → List tree.Import → List Written
written_of interfaces is = filter_map (written_import interfaces) is

-- ---- before the imports that are written

abbrev pub known_before : Around → List env.Known
known_before a = a.known ++ known_of a.interfaces a.defaults

-- the imports that are written, as they are seen
pub record AreSeen (interfaces : Interfaces) (tokens : List Token) (is : List tree.Import) (seen : List Seen)
    : Type 0 where
  pub known : map seen_known seen ≡ known_of interfaces (map import_of is)
  pub written : map (seen_written tokens) seen ≡ written_of interfaces is

-- ---- what is resolved

-- the setting gives this module, these names that it shows, and these faults
pub record IsResolved (s : Setting) (t : tree.Module) (r : Resolved) : Type 0 where
  pub module_is : IsModule s t.declarations (module_view r.module)
  pub shown : shown_view r.shown ≡ module_shows s t (module_view r.module)
  pub faults : IsInOrder (module_faults s t (module_view r.module)) r.faults.items
