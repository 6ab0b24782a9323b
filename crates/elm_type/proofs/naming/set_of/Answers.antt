-- Names that are given in turn: `set_more`.
use Rattle.std.proofs.Common.{◌≡◌, true, cond, rules, ◌∙◌, ap}
use Rattle.std.specs.Str.{bytes_eq}
use Rattle.std.specs.HashSet as bag
use Rattle.elm_type.proofs.Names.{set_more}
use Rattle.elm_type.proofs.naming.set_of.Goals as goal

pub loop-name-preserved : goal.loop-name-preserved
loop-name-preserved c =
    let e : c.in_ok-clone.field-0 ≡ c.name-item.result = search rules in
    set_more c.loop-name.set c.insert.new.self c.args.names.now c.loop-name.name-index c.name-item.result c.loop-name-test.true c.name-item.is c.loop-name.invariant
    (λ q. c.in_ok-insert.ensures.updates.0 q ∙ ap (λ k. cond (bytes_eq k q) true (bag.contains bytes_eq c.loop-name.set q)) e)
