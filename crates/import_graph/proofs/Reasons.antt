-- Why modules are not told.
use Rattle.std.proofs.Common.{◌≡◌, ℕ, ◌<◌, List, ◌∙◌, subst}
use Rattle.import_graph.specs.ModuleWalkView.{HasReason}
use Rattle.import_graph.specs.declared.walk.ReachError.{ReachError}
use Rattle.import_graph.specs.declared.walk.ReachError.TheVariants.{NoEntry, TooMany, File, NoMemory}

-- the reason of a call is one of its caller
pub reason_on : (e : ReachError) (P Q R : Type 0) (before between after : List ℕ → ℕ) → HasReason e ⊥ Q between after → between ≡ before → (Q → R) → HasReason e P R before after
reason_on NoEntry P Q R before between after h same f = absurd h.0
reason_on TooMany P Q R before between after h same f = (f h.0, h.1 ∙ same)
reason_on (File path) P Q R before between after h same f = subst (λ (b : List ℕ → ℕ). b path < after path) same h
reason_on NoMemory P Q R before between after h same f = h ∙ same
