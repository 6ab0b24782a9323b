-- The names that are bound, as they are kept: `length-bound_on`.
use Rattle.std.proofs.Common.{◌∙◌, sym, ap, length, [], List, ℕ}
use Rattle.js_scope.specs.Walk.{State, Bound}
use Rattle.js_scope.specs.Scopes.{bound_on}
use Rattle.js_scope.proofs.Bindings.{length-bound_on}
use Rattle.js_scope.proofs.scopes.Scopes.begin.Goals as goal

abbrev begun : State → State
begun s = record { start = length s.bound; bound = s.bound }

abbrev made : List Bound → ℕ → State
made bound n = record { start = n; bound = bound }

pub returns : goal.returns
returns c =
    let bound = bound_on c.self.inside.bindings.items c.self.inside.marks.items [] in
    ap (λ n. made bound n) (c.len-self-inside.ensures ∙ (c.self.inside.bindings.ok.0 ∙ sym (length-bound_on c.self.inside.bindings.items c.self.inside.marks.items c.self.invariant.marked))) ∙ ap (λ s. begun s) c.self.view_is
