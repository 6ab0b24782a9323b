-- What a file tells, by whether it is read: `some_items`.
use Rattle.std.proofs.Common.{◌∙◌, ap, sym, arith}
use Rattle.serde_json.specs.View.{items_view}
use Rattle.project_file.specs.Project.{all_directories}
use Rattle.project_file.proofs.Told.{some_items}
use Rattle.project_file.proofs.project.are_directories.Goals as goal

pub returns-then-not-is_empty : goal.returns-then-not-is_empty
returns-then-not-is_empty c =
    let all = c.all_directories.ensures ∙ ap (λ vs. all_directories (items_view vs)) c.deref.ensures.value in
    rw c.in-Some.is (all ∙ some_items c.in-Some.items.now.items c.in-Some.items.now.len (omega arith) (sym c.is_empty.ensures ∙ c.if-not-is_empty.true))
