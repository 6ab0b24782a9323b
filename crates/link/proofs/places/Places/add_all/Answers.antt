-- One name more.
use Rattle.std.proofs.Common.{◌≡◌, ◌+◌, [], ◌∷◌, ◌++◌, take, subst, sym, ap, ◌∙◌, arith}
use Rattle.canon_env.proofs.Filtering.{take_next}
use Rattle.std.proofs.lemmas.List.{take_all}
use Rattle.link.specs.Kept.{Numbered}
use Rattle.link.proofs.Numbering.{none_yet}
use Rattle.link.proofs.places.Places.add_all.Goals as goal

pub loop-name-init : goal.loop-name-init
loop-name-init c = λ each many was x. was x ∙ sym (none_yet each x)

pub loop-name-preserved : goal.loop-name-preserved
loop-name-preserved c = λ each many was.
    let i = c.loop-name.name-index in
    let y = c.name-item.result in
    subst (λ ns. Numbered c.add.new.self (each ++ ns ∷ [])) (sym (take_next c.args.names.now i y (omega arith)
    c.name-item.is))
    (c.in_ok-add.ensures each (take i c.args.names.now) many (c.loop-name.invariant each many was))

pub returns : goal.returns
returns c = λ each many was.
    subst (λ ns. Numbered c.loop-name.self (each ++ ns ∷ [])) (take_all c.loop-name.name-index c.args.names.now (omega
    arith))
    (c.loop-name.invariant each many was)
