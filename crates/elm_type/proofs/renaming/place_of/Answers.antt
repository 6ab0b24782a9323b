-- Places of numbers in an order that grows: `absent`, `room`, `place_last`, `numbered_push`.
use Rattle.std.proofs.Common.{◌≡◌, ◌<◌, ◌^◌, false, length, Some, cond, nat_eq, ◌∙◌, sym, ap, arith}
use Rattle.std.specs.List.{list_any}
use Rattle.std.specs.Option.{option_copied}
use Rattle.std.specs.HashMap as hash
use Rattle.elm_type.proofs.Places.{absent, room, place_last, numbered_push}
use Rattle.elm_type.proofs.renaming.place_of.Goals as goal

pub overflow_cast-place : goal.overflow_cast-place
overflow_cast-place c =
    let order = c.args.order.now.items in
    let a : list_any (nat_eq c.args.number) order ≡ false = absent c.args.number order (sym (c.requires.has c.args.number) ∙ (sym c.get.ensures.value ∙ ap option_copied c.in_default.is)) in
    let r : length order < 2 ^ 32 = room c.args.places.now order c.args.number c.requires a (omega arith) in
    omega (arith, c.len-place.ensures, c.args.order.now.ok.0)

pub returns-clause-places : goal.returns-clause-places
returns-clause-places c =
    let order = c.args.order.now.items in
    let a : list_any (nat_eq c.args.number) order ≡ false = absent c.args.number order (sym (c.requires.has c.args.number) ∙ (sym c.get.ensures.value ∙ ap option_copied c.in_default.is)) in
    let e : c.len-place.result ≡ length order = omega (arith, c.len-place.ensures, c.args.order.now.ok.0) in
    rw c.in_ok-push.ensures.items
    (numbered_push c.args.places.now c.insert.new.self order c.args.number c.requires a (omega arith)
    (λ q. c.in_ok-insert.ensures.updates.0 q ∙ ap (λ p. cond (nat_eq c.args.number q) (Some p) (hash.get nat_eq c.args.places.now q)) e))

pub returns-clause-place : goal.returns-clause-place
returns-clause-place c =
    let order = c.args.order.now.items in
    let a : list_any (nat_eq c.args.number) order ≡ false = absent c.args.number order (sym (c.requires.has c.args.number) ∙ (sym c.get.ensures.value ∙ ap option_copied c.in_default.is)) in
    let e : c.len-place.result ≡ length order = omega (arith, c.len-place.ensures, c.args.order.now.ok.0) in
    rw c.in_ok-push.ensures.items (e ∙ sym (place_last c.args.number order a))
