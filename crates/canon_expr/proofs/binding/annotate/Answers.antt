-- A written type uses no local names.
use Rattle.std.proofs.Common.{◌++◌, sym, ap, ◌∙◌}
use Rattle.std.proofs.lemmas.List.{append-nil}
use Rattle.elm_tree.specs.View.{type_view}
use Rattle.elm_tree.specs.Turns.{tokens_view}
use Rattle.canon_expr.proofs.Unused.{type_unused}
use Rattle.canon_expr.proofs.binding.annotate.Goals as goal

pub returns-clause-log : goal.returns-clause-log
returns-clause-log c =
    let t = type_view (tokens_view c.args.tokens.now) c.args.written.now in
    let uses = c.args.log.now.uses.items in
    λ w h. record {
      findings = c.in_ok-meant.ensures.faults w h;
      uses = sym (append-nil uses) ∙ ap (λ l. uses ++ l) (sym (type_unused w t));
    }
