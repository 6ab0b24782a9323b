-- Names that are added one after the other: `put_back`.
use Rattle.canon_env.proofs.Adding.{put_back}
use Rattle.canon_env.proofs.space.Space.add_all.Goals as goal

pub returns : goal.returns
returns g c =
    put_back c.args.self.now c.take-names.new.self (record { by_qualifier = c.insert.new.self }) c.take-names.result c.add_each.new.self
    c.args.qualifier.now c.in_ok-clone.field-0 c.args.home.now c.args.named.items c.in_ok-clone.ensures.cases
    c.take-names.ensures.taken c.take-names.ensures.others c.in_ok-add_each.ensures c.in_ok-insert.ensures.updates.0
