-- Names that are added one after the other: `added_all-append`.
use Rattle.std.proofs.Common.{if◌then◌else◌, sym, ap, ◌∙◌}
use Rattle.elm_canon.specs.Names.{same_name}
use Rattle.canon_env.specs.Space.{named_at, added}
use Rattle.canon_env.proofs.Adding.{added_all-append}
use Rattle.canon_env.proofs.space.Names.add_each.Goals as goal

pub loop-one-preserved : goal.loop-one-preserved
loop-one-preserved g c = λ x.
    c.in_ok-add.ensures x
    ∙ ap (λ f. if same_name x c.in-Some.one.name
    then added f (record { home = c.args.home.now; meaning = c.in-Some.one.meaning }) else f) (c.loop-one.invariant x)
    ∙ sym (added_all-append (named_at c.args.self.now x) x c.args.home.now c.loop-one.yielded c.in-Some.one)
