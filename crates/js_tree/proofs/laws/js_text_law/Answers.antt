-- Reading is exact: `one_program`.
use Rattle.js_tree.proofs.Exact.{one_program}
use Rattle.js_tree.proofs.laws.js_text_law.Goals as goal

-- src/lib.rt:13:1
pub returns : goal.returns
returns c = one_program
