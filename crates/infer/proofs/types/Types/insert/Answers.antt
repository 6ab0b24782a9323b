use Rattle.std.proofs.Common.{Some, cond, refl, sym, ap, ◌∙◌}
use Rattle.elm_canon.specs.Names.{same_ref}
use Rattle.elm_type.specs.View.{scheme_view}
use Rattle.infer.specs.Types.{schemes_of}
use Rattle.infer.proofs.Tables.{local_set, top_set}
use Rattle.infer.proofs.types.Types.insert.Goals as goal

pub returns-in_ok-insert-in-Local : goal.returns-in_ok-insert-in-Local
returns-in_ok-insert-in-Local c y =
    local_set c.args.self.now (record c.args.self.now { locals = c.insert.new.self }) c.in-Local.local c.args.scheme
    (λ n. c.in_ok-insert-in-Local.ensures.updates.0 n) refl y
    ∙ ap (λ x. cond (same_ref y x) (Some (scheme_view c.args.scheme)) (schemes_of c.args.self.now y)) (sym c.in-Local.is)

pub returns-in_ok-insert-in-Top : goal.returns-in_ok-insert-in-Top
returns-in_ok-insert-in-Top c y =
    top_set c.args.self.now (record c.args.self.now { tops = c.insert-in-Top.new.self }) c.in-Top.home c.in-Top.top
    c.args.scheme (λ n. c.in_ok-insert-in-Top.ensures.updates.0 n) refl y
    ∙ ap (λ x. cond (same_ref y x) (Some (scheme_view c.args.scheme)) (schemes_of c.args.self.now y)) (sym c.in-Top.is)
