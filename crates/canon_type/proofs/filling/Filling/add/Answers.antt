-- What the program's map says: `stays`, `put_one`.
use Rattle.std.proofs.Common.{sym, ◌∙◌}
use Rattle.indexmap.specs.IndexMap.{get}
use Rattle.elm_canon.specs.Names.{same_name}
use Rattle.canon_type.proofs.Fillings.{stays, put_one}
use Rattle.canon_type.proofs.filling.Filling.add.Goals as goal

pub returns-then-contains_key : goal.returns-then-contains_key
returns-then-contains_key c = λ s h.
    stays s c.args.name.now c.args.t (λ a. get same_name c.args.self.now.by_name a) h
    (sym c.contains_key.ensures ∙ c.if-contains_key.true)

pub returns : goal.returns
returns c = λ s h.
    put_one s c.args.name.now c.args.t (λ a. get same_name c.args.self.now.by_name a) h c.in_ok-clone.field-0
    (λ a. get same_name c.insert.new.self a) c.in_ok-clone.ensures.cases
    (sym c.contains_key.ensures ∙ c.if-contains_key.false) c.in_ok-insert.ensures.updates.0
