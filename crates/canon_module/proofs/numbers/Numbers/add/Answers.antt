-- A name that is known keeps its number, and another one gets this one: `known_already`, `known_now`.
use Rattle.std.proofs.Common.{Some, if◌then◌else◌, sym, ap, ◌∙◌}
use Rattle.indexmap.specs.IndexMap.{get}
use Rattle.elm_canon.specs.Names.{same_name}
use Rattle.canon_module.proofs.Numbering.{known_already, known_now}
use Rattle.canon_module.proofs.numbers.Numbers.add.Goals as goal

pub returns-then-contains_key : goal.returns-then-contains_key
returns-then-contains_key c = λ each many was.
    known_already each c.args.name (get same_name c.args.self.now.by_name) (sym c.contains_key.ensures ∙ c.if-contains_key.true) was

pub returns : goal.returns
returns c = λ each many was.
    let old = get same_name c.args.self.now.by_name in
    known_now each c.args.name old (get same_name c.insert.new.self) (sym c.contains_key.ensures ∙ c.if-contains_key.false) was
    (λ x. c.in_ok-insert.ensures.updates.0 x ∙ ap (λ n. if same_name c.args.name x then Some n else old x) (sym many))
