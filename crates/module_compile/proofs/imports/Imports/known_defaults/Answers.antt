use Rattle.std.proofs.Common.{◌∙◌, ◌++◌, [], ◌∷◌, ap}
use Rattle.canon_env.specs.Imports.{import_view}
use Rattle.module_made.specs.Around.{known_import}
use Rattle.module_compile.specs.Parts.{interfaces_view}
use Rattle.module_compile.specs.Settings.{known_of}
use Rattle.module_compile.proofs.Listing.{yielded_next}
use Rattle.module_compile.proofs.imports.Imports.known_defaults.Goals as goal

pub loop-import-preserved : goal.loop-import-preserved
loop-import-preserved c =
    let is = interfaces_view c.args.self.now.interfaces in
    c.in_ok-push_known.ensures
    ∙ ap (λ l. l ++ known_of is (import_view c.in-Some.import ∷ [])) c.loop-import.invariant
    ∙ yielded_next (known_import is) import_view c.loop-import.yielded c.in-Some.import
