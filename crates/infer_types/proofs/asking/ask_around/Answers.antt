-- Names in turn: `nothing_asked`, `asked_next`, `refused_at`.
use Rattle.std.proofs.Common.{◌≡◌, ◌∙◌, length, map}
use Rattle.std.proofs.lemmas.List.{length-map}
use Rattle.elm_type.specs.View.{kind_view}
use Rattle.infer_steps.specs.View.{here, bad_view, code_of}
use Rattle.infer_steps.proofs.Stepping.{still_live}
use Rattle.infer_types.proofs.Kinding.{nothing_asked, asked_next, refused_at, at_view}
use Rattle.infer_types.proofs.asking.ask_around.Goals as goal

pub loop-i-init : goal.loop-i-init
loop-i-init c = nothing_asked (code_of c.args.scope.now) c.args.position (here c.args.state.now) c.requires.ready.whole

pub ask_name-requires-clause-live : goal.ask_name-requires-clause-live
ask_name-requires-clause-live c = λ v is.
    still_live (here c.args.state.now) (here c.loop-i.state) v c.loop-i.invariant.follows
    (c.requires.ready.constants c.index-names-i.result v is)

pub loop-i-preserved : goal.loop-i-preserved
loop-i-preserved c =
    (let ks = map kind_view c.args.kinds.now in
    let many : length ks ≡ length c.args.names.now = length-map c.args.kinds.now kind_view ∙ c.requires.number in
    asked_next (code_of c.args.scope.now) (here c.args.state.now) (here c.loop-i.state) (here c.ask_name.new.state)
    c.args.position c.args.names.now ks c.loop-i.i
    c.index-names-i.result (kind_view c.index-kinds-i.result) many c.loop-i-test.true c.index-names-i.is
    (at_view kind_view c.args.kinds.now c.loop-i.i c.index-kinds-i.result c.index-kinds-i.is) c.loop-i.invariant
    c.requires.ready.constants c.in-Ok.ensures.asks)

pub returns-in-Err-clause-refuses : goal.returns-in-Err-clause-refuses
returns-in-Err-clause-refuses c b e =
    (let ks = map kind_view c.args.kinds.now in
    let many : length ks ≡ length c.args.names.now = length-map c.args.kinds.now kind_view ∙ c.requires.number in
    refused_at (code_of c.args.scope.now) (here c.args.state.now) (here c.loop-i.state) (here c.ask_name.new.state)
    c.args.position c.args.names.now ks c.loop-i.i
    c.index-names-i.result (kind_view c.index-kinds-i.result) many c.loop-i-test.true c.index-names-i.is
    (at_view kind_view c.args.kinds.now c.loop-i.i c.index-kinds-i.result c.index-kinds-i.is) c.loop-i.invariant
    (bad_view b)
    (c.ask_name.ensures.refuses b (c.in-Err.is ∙ e)))
