use Rattle.std.proofs.Common.{◌≡◌, ◌<◌, ◌+◌, ◌∷◌, ◌++◌, [], ◌∙◌, ap, sym, subst, take, length, get_or, rules, Err, arith}
use Rattle.std.proofs.lemmas.List.{take_more}
use Rattle.type_schemes.specs.Copies.{Grows, Partly, CanHave}
use Rattle.type_schemes.proofs.Growing.{opened_as, in_class_more, in_class_fits, lacks_more, lacks_fits, can_fewer}
use Rattle.type_schemes.proofs.copying.open.Goals as goal

pub unreachable-requires : goal.unreachable-requires
unreachable-requires c =
    in_class_fits c.args.depth c.args.store.now c.open.new.self c.in_ok-variable.variable c.args.kind.now.class
    (opened_as c.args.depth c.args.store.now c.in_ok-variable.variable c.open.new.self c.requires.whole c.in_ok-variable.ensures.made c.in_ok-variable.ensures.number)
    (can_fewer c.args.store.now c.args.kind.now.class 0 c.args.kind.now.lacks.items c.requires.possible)
    (c.in_class.ensures.clash (c.in-Err-Clash.is ∙ ap Err c.in-Err-Clash.field-0-is))

pub loop-name-init : goal.loop-name-init
loop-name-init c = record {
  whole = c.in-Ok.ensures.whole;
  made =
      in_class_more c.args.depth c.args.store.now c.open.new.self c.in_ok-variable.variable c.args.kind.now.class c.in_class.new.self
      (opened_as c.args.depth c.args.store.now c.in_ok-variable.variable c.open.new.self c.requires.whole c.in_ok-variable.ensures.made c.in_ok-variable.ensures.number)
      c.in-Ok.ensures.added c.in-Ok.ensures.goes;
}

pub unreachable-requires-in-Err-Clash-lacks : goal.unreachable-requires-in-Err-Clash-lacks
unreachable-requires-in-Err-Clash-lacks c =
    let xs = take c.loop-name.name-index c.args.kind.now.lacks.items in
    let e : c.in_ok-clone.field-0 ≡ c.name-item.result = search rules in
    let i : c.name-item.result ≡ get_or c.args.kind.now.lacks.items c.loop-name.name-index c.name-item.result = cc in
    let l : c.loop-name.name-index < length c.args.kind.now.lacks.items = omega (arith, c.loop-name-test.true) in
    let t : take (c.loop-name.name-index + 1) c.args.kind.now.lacks.items ≡ xs ++ c.in_ok-clone.field-0 ∷ [] =
    take_more c.args.kind.now.lacks.items c.loop-name.name-index c.name-item.result l ∙ ap (λ y. xs ++ y ∷ []) (sym i ∙ sym e) in
    lacks_fits c.args.depth c.args.store.now c.loop-name.store c.in_ok-variable.variable c.args.kind.now.class xs c.in_ok-clone.field-0 c.loop-name.invariant.made
    (subst (λ ys. CanHave c.args.store.now (Partly c.args.kind.now.class ys)) t
    (can_fewer c.args.store.now c.args.kind.now.class (c.loop-name.name-index + 1) c.args.kind.now.lacks.items c.requires.possible))
    (c.lacks.ensures.clash (c.in-Err-Clash-lacks.is ∙ ap Err c.in-Err-Clash-lacks.field-0-is))

pub loop-name-preserved : goal.loop-name-preserved
loop-name-preserved c =
    let xs = take c.loop-name.name-index c.args.kind.now.lacks.items in
    let e : c.in_ok-clone.field-0 ≡ c.name-item.result = search rules in
    let i : c.name-item.result ≡ get_or c.args.kind.now.lacks.items c.loop-name.name-index c.name-item.result = cc in
    let l : c.loop-name.name-index < length c.args.kind.now.lacks.items = omega (arith, c.loop-name-test.true) in
    let t : take (c.loop-name.name-index + 1) c.args.kind.now.lacks.items ≡ xs ++ c.in_ok-clone.field-0 ∷ [] =
    take_more c.args.kind.now.lacks.items c.loop-name.name-index c.name-item.result l ∙ ap (λ y. xs ++ y ∷ []) (sym i ∙ sym e) in
    record {
      whole = c.in-Ok-lacks.ensures.whole;
      made =
          subst (λ ys. Grows c.args.depth c.args.store.now c.in_ok-variable.variable c.lacks.new.self (Partly c.args.kind.now.class ys)) (sym t)
          (lacks_more c.args.depth c.args.store.now c.loop-name.store c.in_ok-variable.variable c.args.kind.now.class xs c.in_ok-clone.field-0 c.loop-name.invariant.made
          c.lacks.new.self c.in-Ok-lacks.ensures.added c.in-Ok-lacks.ensures.goes);
    }
