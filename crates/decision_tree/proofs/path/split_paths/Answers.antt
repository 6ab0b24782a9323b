use Rattle.std.proofs.Common.{◌+◌, ◌++◌, ap, ◌∙◌, sym, arith}
use Rattle.std.proofs.lemmas.List.{length-map, take_rest}
use Rattle.std.proofs.lemmas.Result.{on_ok_weaker}
use Rattle.decision_tree.specs.Views.{path_view, paths_view}
use Rattle.decision_tree.proofs.Splitting.{split_past, split_more}
use Rattle.decision_tree.proofs.path.split_paths.Goals as goal

pub returns-then-paths-column : goal.returns-then-paths-column
returns-then-paths-column c =
    on_ok_weaker c.add_paths.result
    (λ e subject.
    e subject
    ∙ ap (λ zs. paths_view subject c.args.out.now.items ++ zs)
    (sym (split_past c.args.arity c.args.column (paths_view subject c.args.paths.now)
    (omega (arith, c.if-paths-column.true, length-map c.args.paths.now (path_view subject))))))
    c.add_paths.ensures

pub returns : goal.returns
returns c =
    on_ok_weaker c.add_paths-3.result
    (λ e subject.
    split_more (path_view subject) c.args.paths.now c.args.column c.args.arity c.index-paths-column.result
    (paths_view subject c.args.out.now.items) (paths_view subject c.add_paths-2.new.out.items)
    (paths_view subject c.add_parts.new.out.items) (paths_view subject c.add_paths-3.new.out.items)
    (omega (arith, c.if-paths-column.false)) (sym c.index-paths-column.is) (c.in_ok-add_paths.ensures subject)
    (c.in_ok-add_parts.ensures subject)
    (e subject
    ∙ ap (λ zs. paths_view subject c.add_parts.new.out.items ++ paths_view subject zs)
    (take_rest c.args.paths.now (c.args.column + 1))))
    c.add_paths-3.ensures
