-- One name after another: `one_number`.
use Rattle.std.proofs.Common.{List, ℕ, codes, take}
use Rattle.project_parts.specs.Modules.{default_names}
use Rattle.project_parts.specs.View.{number_at}
use Rattle.project_parts.proofs.Rows.{one_number}
use Rattle.project_parts.proofs.graph.default_numbers.Goals as goal

abbrev names_to : ℕ → List (List ℕ)
names_to n = take n default_names

pub returns : goal.returns
returns c =
    let f = number_at c.args.numbers.now in
    one_number f (names_to 10) (codes "Platform.Sub") c.in_ok-push_default-11.ensures
    (one_number f (names_to 9) (codes "Platform.Cmd") c.in_ok-push_default-10.ensures
    (one_number f (names_to 8) (codes "Platform") c.in_ok-push_default-9.ensures
    (one_number f (names_to 7) (codes "Debug") c.in_ok-push_default-8.ensures
    (one_number f (names_to 6) (codes "Tuple") c.in_ok-push_default-7.ensures
    (one_number f (names_to 5) (codes "Char") c.in_ok-push_default-6.ensures
    (one_number f (names_to 4) (codes "String") c.in_ok-push_default-5.ensures
    (one_number f (names_to 3) (codes "Result") c.in_ok-push_default-4.ensures
    (one_number f (names_to 2) (codes "Maybe") c.in_ok-push_default-3.ensures
    (one_number f (names_to 1) (codes "List") c.in_ok-push_default-2.ensures
    (one_number f (names_to 0) (codes "Basics") c.in_ok-push_default.ensures c.in_ok-row.ensures.items))))))))))
