use Rattle.std.proofs.Common.{◌≡◌, ◌<◌, ◌-◌, ℕ, List, length, Some, refl, sym, ap, ◌∙◌, subst, arith}
use Rattle.std.specs.Prelude.{All, slice_get}
use Rattle.std.specs.List.{slice_index_or}
use Rattle.type_items.specs.Items.{child}
use Rattle.type_schemes.specs.Constants.{IsFree}
use Rattle.type_schemes.specs.Calls.{EscapesAt, CanLetGo, LetsGo}
use Rattle.type_constructs.specs.Failing as failing
use Rattle.infer_steps.specs.declared.bad.Bad.TheVariants as bad
use Rattle.infer_steps.specs.Codes.{State}
use Rattle.infer_steps.specs.View.{here, bad_view}
use Rattle.infer_groups.specs.Defined.{Defined, DefinitionsStop, group_places}
use Rattle.infer_groups.specs.Members.{at_number}
use Rattle.infer_groups.specs.Annotated.{listed_annotated}
use Rattle.infer_groups.proofs.Ending.{slots_inside, less, at_inside, get_is}
use Rattle.infer_groups.proofs.annotated.close_annotated.Goals as goal

pub escaped-requires : goal.escaped-requires
escaped-requires c =
    let r = c.requires in
    subst (λ (l : List ℕ). (k e : ℕ) → k < length l → slice_index_or l k e < length c.args.state.now.store)
    (sym c.deref.ensures.value)
    (slots_inside r.code r.definition r.annotation r.number c.args.inside.slots.items c.args.variable r.old r.mid
    (here c.args.state.now) r.done)

pub let_go-requires-clause-inside : goal.let_go-requires-clause-inside
let_go-requires-clause-inside c =
    let r = c.requires in
    subst (λ (l : List ℕ). (k e : ℕ) → k < length l → slice_index_or l k e < length c.args.state.now.store)
    (sym c.deref-2.ensures.value)
    (slots_inside r.code r.definition r.annotation r.number c.args.inside.slots.items c.args.variable r.old r.mid
    (here c.args.state.now) r.done)

pub let_go-requires-clause-own : goal.let_go-requires-clause-own
let_go-requires-clause-own c =
    let r = c.requires in
    let vs = c.args.inside.slots.items in
    let s = c.args.state.now.store in
    let now = here c.args.state.now in
    let found : All (IsFree (c.args.state.now.depth - 1) s) c.deref.result.now = c.in_default.ensures.free refl in
    let free : All (IsFree r.old.depth s) vs =
    subst (λ d. All (IsFree d s) vs) (less r.code r.definition r.annotation r.number vs c.args.variable r.old r.mid now
    r.done)
    (subst (All (IsFree (c.args.state.now.depth - 1) s)) c.deref.ensures.value found) in
    subst (CanLetGo s) (sym c.deref-2.ensures.value)
    (c.closing_law.ensures.may r.code r.definition r.annotation r.number vs c.args.variable r.old r.mid now r.done free)

pub returns-in-Some-clause-stops : goal.returns-in-Some-clause-stops
returns-in-Some-clause-stops c b e code d t i old mid done names at =
    let vs = c.args.inside.slots.items in
    let s = c.args.state.now.store in
    let now = here c.args.state.now in
    let x = c.in_ok-name.name in
    let found : EscapesAt (c.args.state.now.depth - 1) s c.deref.result.now c.in-Some.at = c.in-Some.ensures.first in
    let escape : EscapesAt old.depth s vs c.in-Some.at =
    subst (λ n. EscapesAt n s vs c.in-Some.at) (less code d t i vs c.args.variable old mid now done)
    (subst (λ l. EscapesAt (c.args.state.now.depth - 1) s l c.in-Some.at) c.deref.ensures.value found) in
    let inside : c.in-Some.at < length c.args.inside.names.items =
    omega (arith, found.inside, ap length c.deref.ensures.value, done.opening.count, ap length names) in
    let is : slice_get c.args.inside.names.items c.in-Some.at ≡ Some x =
    get_is c.args.inside.names.items c.in-Some.at c.index.result.now inside c.index.ensures ∙ ap Some
    (sym c.in_ok-name.ensures.cases) in
    let inner : bad.Keeps c.args.position x ≡ b = cc in
    let says : failing.Keeps c.args.position x ≡ bad_view b = ap bad_view inner in
    subst (DefinitionsStop code (λ q. group_places (child q i)) (at_number i (listed_annotated d t)) old now)
    (ap (λ z. failing.Keeps z x) (sym at) ∙ says)
    (c.closing_law.ensures.escapes code d t i c.in-Some.at vs c.args.variable x old mid now now done escape
    (subst (λ l. slice_get l c.in-Some.at ≡ Some x) names is))

pub returns-in-Err-clause-stops : goal.returns-in-Err-clause-stops
returns-in-Err-clause-stops c b e code d t i old mid done names at =
    let vs = c.args.inside.slots.items in
    let s = c.args.state.now.store in
    let now = here c.args.state.now in
    let found : All (IsFree (c.args.state.now.depth - 1) s) c.deref.result.now = c.in_default.ensures.free refl in
    let free : All (IsFree old.depth s) vs =
    subst (λ n. All (IsFree n s) vs) (less code d t i vs c.args.variable old mid now done)
    (subst (All (IsFree (c.args.state.now.depth - 1) s)) c.deref.ensures.value found) in
    subst (DefinitionsStop code (λ q. group_places (child q i)) (at_number i (listed_annotated d t)) old now)
    (ap (λ z. failing.Large z c.args.variable) (sym at) ∙ sym (c.in-Err.ensures.what b e))
    (c.closing_law.ensures.large code d t i vs c.args.variable old mid now now done free (c.in-Err.ensures.large b e))

pub returns-clause-closed : goal.returns-clause-closed
returns-clause-closed c code d t i old mid left done =
    let vs = c.args.inside.slots.items in
    let s = c.args.state.now.store in
    let s' = c.let_go.new.store in
    let now = here c.args.state.now in
    let new : State = record { store = s'; depth = old.depth; place = old.place } in
    let found : All (IsFree (c.args.state.now.depth - 1) s) c.deref.result.now = c.in_default.ensures.free refl in
    let free : All (IsFree old.depth s) vs =
    subst (λ n. All (IsFree n s) vs) (less code d t i vs c.args.variable old mid now done)
    (subst (All (IsFree (c.args.state.now.depth - 1) s)) c.deref.ensures.value found) in
    let gone : LetsGo s vs s' = subst (λ l. LetsGo s l s') c.deref-2.ensures.value c.in_ok-let_go.ensures in (
      c.in_ok-leave_constants.ensures ∙ left,
      subst (λ z. Defined code code (λ q. group_places (child q i)) (at_number i (listed_annotated d t)) old z)
          (sym (c.come_back.ensures new i (at_inside code d t i vs c.args.variable old mid now done s')))
          (c.closing_law.ensures.closes code d t i vs c.args.variable old mid now s' done free
          c.in-Ok.ensures.small gone),
    )
