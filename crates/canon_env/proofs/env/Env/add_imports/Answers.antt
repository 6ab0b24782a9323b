-- Lists and filters, one item after the other: `map_next`.
-- Environments to which names are added: `imported_rows-append`.
use Rattle.std.proofs.Common.{map, take, arith, sym, subst}
use Rattle.canon_env.specs.Env.{IsEnvOf, imported_rows, known_view}
use Rattle.canon_env.proofs.Filtering.{map_next}
use Rattle.canon_env.proofs.Envs.{imported_rows-append}
use Rattle.canon_env.proofs.env.Env.add_imports.Goals as goal

pub loop-known-preserved : goal.loop-known-preserved
loop-known-preserved c = λ h.
    let before = take c.loop-known.known-index c.args.imports.now in
    subst (λ ks. IsEnvOf c.add_import.new.self (imported_rows ks))
    (sym (map_next known_view c.args.imports.now c.loop-known.known-index c.known-item.result (omega arith)
    c.known-item.is))
    (subst (IsEnvOf c.add_import.new.self) (imported_rows-append (map known_view before) (known_view c.known-item.result))
    (c.in_ok-add_import.ensures (imported_rows (map known_view before)) (c.loop-known.invariant h)))
