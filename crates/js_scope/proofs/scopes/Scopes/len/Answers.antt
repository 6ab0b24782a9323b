-- The names that are bound, as they are kept: `length-bound_on`.
use Rattle.std.proofs.Common.{◌∙◌, sym, ap, length}
use Rattle.js_scope.specs.Walk.{State}
use Rattle.js_scope.proofs.Bindings.{length-bound_on}
use Rattle.js_scope.proofs.scopes.Scopes.len.Goals as goal

pub returns : goal.returns
returns c =
    c.len.ensures ∙ (c.self.inside.bindings.ok.0 ∙ (sym (length-bound_on c.self.inside.bindings.items c.self.inside.marks.items c.self.invariant.marked) ∙ ap (λ (s : State). length s.bound) c.self.view_is))
