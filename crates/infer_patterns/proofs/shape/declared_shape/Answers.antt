-- By the type that is known: `declared_shaped`.
use Rattle.std.proofs.Common.{sym, ap, ◌∙◌}
use Rattle.std.specs.Prelude.{option_map}
use Rattle.elm_type.specs.View.{scheme_view}
use Rattle.infer_patterns.proofs.shape.declared_shape.Goals as goal

pub constructor-requires-clause-written : goal.constructor-requires-clause-written
constructor-requires-clause-written c =
    c.requires.known c.args.home.now c.args.alternative.now.name (scheme_view c.in-Some.scheme.now)
    (sym c.get.ensures ∙ ap (option_map (λ s. scheme_view s.now)) c.in-Some.is)
