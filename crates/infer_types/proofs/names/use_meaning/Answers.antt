use Rattle.std.proofs.Common.{OnOk, sym, subst}
use Rattle.infer_steps.specs.Ready.{MeaningReady}
use Rattle.infer_steps.specs.View.{here, bad_view, meaning_view}
use Rattle.infer_steps.specs.declared.scope.Meaning.{Meaning}
use Rattle.infer_types.specs.Uses.{EntryOf, Uses, NoUse}
use Rattle.infer_types.proofs.names.use_meaning.Goals as goal

pub use_one-requires-clause-variable : goal.use_one-requires-clause-variable
use_one-requires-clause-variable c =
    subst (λ (m : Meaning). MeaningReady (here c.args.state.now).depth (here c.args.state.now).store (meaning_view m))
    c.in-One.is c.requires.ready

pub use_many-requires-clause-ready : goal.use_many-requires-clause-ready
use_many-requires-clause-ready c =
    subst (λ (m : Meaning). MeaningReady (here c.args.state.now).depth (here c.args.state.now).store (meaning_view m))
    c.in-Many.is c.requires.ready

pub use_each-requires-clause-ready : goal.use_each-requires-clause-ready
use_each-requires-clause-ready c =
    subst (λ (m : Meaning). MeaningReady (here c.args.state.now).depth (here c.args.state.now).store (meaning_view m))
    c.in-Each.is c.requires.ready

pub returns-in-One-clause-walked : goal.returns-in-One-clause-walked
returns-in-One-clause-walked c =
    subst (λ (m : Meaning). OnOk c.use_one.result
    (Uses (EntryOf (meaning_view m)) c.args.position c.args.wanted
    (here c.args.state.now)
    (here c.use_one.new.state))) (sym c.in-One.is) c.use_one.ensures.walked

pub returns-in-One-clause-stopped : goal.returns-in-One-clause-stopped
returns-in-One-clause-stopped c b e =
    subst (λ (m : Meaning). NoUse (EntryOf (meaning_view m)) c.args.position
    c.args.wanted (here c.args.state.now)
    (here c.use_one.new.state) (bad_view b)) (sym c.in-One.is) (c.use_one.ensures.stopped b e)

pub returns-in-Many-clause-walked : goal.returns-in-Many-clause-walked
returns-in-Many-clause-walked c =
    subst (λ (m : Meaning). OnOk c.use_many.result
    (Uses (EntryOf (meaning_view m)) c.args.position c.args.wanted
    (here c.args.state.now)
    (here c.use_many.new.state))) (sym c.in-Many.is) c.use_many.ensures.walked

pub returns-in-Many-clause-stopped : goal.returns-in-Many-clause-stopped
returns-in-Many-clause-stopped c b e =
    subst (λ (m : Meaning). NoUse (EntryOf (meaning_view m)) c.args.position
    c.args.wanted (here c.args.state.now)
    (here c.use_many.new.state) (bad_view b)) (sym c.in-Many.is) (c.use_many.ensures.stopped b e)

pub returns-in-Each-clause-walked : goal.returns-in-Each-clause-walked
returns-in-Each-clause-walked c =
    subst (λ (m : Meaning). OnOk c.use_each.result
    (Uses (EntryOf (meaning_view m)) c.args.position c.args.wanted
    (here c.args.state.now)
    (here c.use_each.new.state))) (sym c.in-Each.is) c.use_each.ensures.walked

pub returns-in-Each-clause-stopped : goal.returns-in-Each-clause-stopped
returns-in-Each-clause-stopped c b e =
    subst (λ (m : Meaning). NoUse (EntryOf (meaning_view m)) c.args.position
    c.args.wanted (here c.args.state.now)
    (here c.use_each.new.state) (bad_view b)) (sym c.in-Each.is) (c.use_each.ensures.stopped b e)
