-- A name that is known keeps its place, and another one gets this one: `known_already`, `known_now`.
use Rattle.std.proofs.Common.{Some, if◌then◌else◌, sym, ap, ◌∙◌}
use Rattle.indexmap.specs.IndexMap.{get}
use Rattle.link.specs.Names.{same_top}
use Rattle.link.proofs.Numbering.{known_already, known_now}
use Rattle.link.proofs.places.Places.add.Goals as goal

pub returns-then-contains_key : goal.returns-then-contains_key
returns-then-contains_key c = λ each ns many was.
    known_already each ns c.args.name.now (get same_top c.args.self.now.by_name) (sym c.contains_key.ensures
    ∙ c.if-contains_key.true) was

pub returns : goal.returns
returns c = λ each ns many was.
    let old = get same_top c.args.self.now.by_name in
    known_now each ns c.args.name.now old (get same_top c.insert.new.self) (sym c.contains_key.ensures
    ∙ c.if-contains_key.false) was
    (λ x. c.in_ok-insert.ensures.updates.0 x
    ∙ ap (λ z. if same_top z x then Some c.args.place else old x) c.in_ok-key.ensures
    ∙ ap (λ n. if same_top c.args.name.now x then Some n else old x) (sym many))
