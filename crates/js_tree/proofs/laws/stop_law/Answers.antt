-- Bytes stop to be a text at exactly one place: `stops`, `one_place`.
use Rattle.js_tree.proofs.Places.{stops, one_place}
use Rattle.js_tree.proofs.laws.stop_law.Goals as goal

-- src/lib.rt:17:1
pub returns-clause-place : goal.returns-clause-place
returns-clause-place c = stops

-- src/lib.rt:17:1
pub returns-clause-only : goal.returns-clause-only
returns-clause-only c = one_place
