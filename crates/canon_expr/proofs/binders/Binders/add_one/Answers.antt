-- At a place at which a definition binds already no other does, and else this one: `binds_there`, `binds_now`.
use Rattle.std.proofs.Common.{Some, if◌then◌else◌, sym, ap, ◌∙◌}
use Rattle.std.specs.Prelude.{is_some}
use Rattle.indexmap.specs.IndexMap.{get}
use Rattle.canon_expr.specs.Binding.{same_place}
use Rattle.canon_expr.proofs.CanonBlocksBinding.{binds_there, binds_now}
use Rattle.canon_expr.proofs.binders.Binders.add_one.Goals as goal

pub returns-then-contains_key : goal.returns-then-contains_key
returns-then-contains_key c = λ each xs x at many was.
    binds_there each xs x (get same_place c.args.self.now.places)
    (ap (λ p. is_some (get same_place c.args.self.now.places p)) at ∙ sym c.contains_key.ensures ∙ c.if-contains_key.true) was

pub returns : goal.returns
returns c = λ each xs x at many was.
    let old = get same_place c.args.self.now.places in
    binds_now each xs x old (get same_place c.insert.new.self)
    (ap (λ p. is_some (old p)) at ∙ sym c.contains_key.ensures ∙ c.if-contains_key.false) was
    (λ p. c.in_ok-insert.ensures.updates.0 p
    ∙ ap (λ q. if same_place q p then Some c.args.number else old p) (sym at)
    ∙ ap (λ n. if same_place x.place p then Some n else old p) (sym many))
