use Rattle.std.proofs.Common.{OnOk, sym, subst}
use Rattle.elm_canon.specs.Tree.{Is}
use Rattle.elm_canon.specs.declared.tree.Literal.{Literal}
use Rattle.infer_steps.specs.View.{here, bad_view}
use Rattle.infer_steps.specs.Leaves.{listed, WalksAlone, StopsAlone}
use Rattle.infer_steps.proofs.literal.infer_literal.Goals as goal

pub returns-in-Int-clause-walked : goal.returns-in-Int-clause-walked
returns-in-Int-clause-walked c =
    subst (λ (l : Literal). OnOk c.infer_number.result (WalksAlone c.args.wanted (listed (Is l) c.args.position) (here c.args.state.now) (here c.infer_number.new.state)))
    (sym c.in-Int.is) c.infer_number.ensures.walked

pub returns-in-Int-clause-stopped : goal.returns-in-Int-clause-stopped
returns-in-Int-clause-stopped c b e =
    subst (λ (l : Literal). StopsAlone c.args.wanted (listed (Is l) c.args.position) (here c.args.state.now) (here c.infer_number.new.state) (bad_view b))
    (sym c.in-Int.is) (c.infer_number.ensures.stopped b e)

pub returns-in-Char-clause-walked : goal.returns-in-Char-clause-walked
returns-in-Char-clause-walked c =
    subst (λ (l : Literal). OnOk c.infer_char.result (WalksAlone c.args.wanted (listed (Is l) c.args.position) (here c.args.state.now) (here c.infer_char.new.state)))
    (sym c.in-Char.is) c.infer_char.ensures.walked

pub returns-in-Char-clause-stopped : goal.returns-in-Char-clause-stopped
returns-in-Char-clause-stopped c b e =
    subst (λ (l : Literal). StopsAlone c.args.wanted (listed (Is l) c.args.position) (here c.args.state.now) (here c.infer_char.new.state) (bad_view b))
    (sym c.in-Char.is) (c.infer_char.ensures.stopped b e)

pub returns-in-Text-clause-walked : goal.returns-in-Text-clause-walked
returns-in-Text-clause-walked c =
    subst (λ (l : Literal). OnOk c.infer_text.result (WalksAlone c.args.wanted (listed (Is l) c.args.position) (here c.args.state.now) (here c.infer_text.new.state)))
    (sym c.in-Text.is) c.infer_text.ensures.walked

pub returns-in-Text-clause-stopped : goal.returns-in-Text-clause-stopped
returns-in-Text-clause-stopped c b e =
    subst (λ (l : Literal). StopsAlone c.args.wanted (listed (Is l) c.args.position) (here c.args.state.now) (here c.infer_text.new.state) (bad_view b))
    (sym c.in-Text.is) (c.infer_text.ensures.stopped b e)
