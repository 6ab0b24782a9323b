use Rattle.std.proofs.Common.{◌≡◌, ◌≤◌, length}
use Rattle.elm_tree.specs.View.{words_view}
use Rattle.elm_tree.specs.Turns.{tokens_view}
use Rattle.canon_env.specs.Locals.{with_names}
use Rattle.canon_expr.specs.Scope.{locals_of, without}
use Rattle.canon_expr.proofs.scope.Scope.enter.Given as goal

abbrev pub invariant-loop-rest : goal.invariant-loop-rest
invariant-loop-rest l = record {
  names : with_names (words_view (tokens_view l.tokens) l.rest) (locals_of l.self)
      ≡ with_names (words_view (tokens_view l.tokens) l.words) (locals_of l.initial.self);
  within : length l.rest ≤ length l.words;
  entered : without l.entered.items (locals_of l.self) ≡ locals_of l.initial.self;
}

abbrev pub decreases-loop-rest : goal.decreases-loop-rest
decreases-loop-rest l = length l.rest
