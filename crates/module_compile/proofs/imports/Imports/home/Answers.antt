use Rattle.module_compile.proofs.Resolving.{view_home}
use Rattle.module_compile.proofs.imports.Imports.home.Goals as goal

pub returns : goal.returns
returns c = view_home c.args.self.now
