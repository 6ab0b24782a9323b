use Rattle.module_compile.proofs.Resolving.{before_core, if_made}
use Rattle.module_compile.proofs.imports.Imports.known_before.Goals as goal

pub returns-then-self : goal.returns-then-self
returns-then-self c =
    if_made _ _ c.given_imports.result (λ v e. before_core c.args.self.now v.items c.if-self.true e)
    c.given_imports.ensures
