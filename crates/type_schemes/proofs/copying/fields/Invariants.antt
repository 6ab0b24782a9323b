use Rattle.std.proofs.Common.{◌≡◌, take, map}
use Rattle.type_store.specs.View as stored
use Rattle.type_schemes.specs.View as frozen
use Rattle.type_schemes.specs.Copies.{copied_field}
use Rattle.type_schemes.proofs.copying.fields.Given as goal

abbrev pub invariant-loop-each : goal.invariant-loop-each
invariant-loop-each l = map stored.field_view l.fields.items ≡ map (λ p. copied_field l.copies (frozen.field_view p)) (take l.each-index l.parts)
