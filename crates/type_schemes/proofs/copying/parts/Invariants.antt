use Rattle.std.proofs.Common.{◌≡◌, take, map}
use Rattle.type_schemes.specs.View.{part_view}
use Rattle.type_schemes.specs.Copies.{copied}
use Rattle.type_schemes.proofs.copying.parts.Given as goal

abbrev pub invariant-loop-each : goal.invariant-loop-each
invariant-loop-each l = map (λ v. v) l.variables.items ≡ map (λ p. copied l.copies (part_view p)) (take l.each-index l.parts)
