use Rattle.std.proofs.Common.{◌≡◌, ◌-◌, ◌<◌, length, map, sym, ap, ◌∙◌, subst, arith}
use Rattle.std.specs.Prelude.{All}
use Rattle.type_items.specs.Items.{child}
use Rattle.infer_steps.specs.Codes.{State}
use Rattle.infer_steps.specs.View.{code_of, here}
use Rattle.infer_groups.specs.Defined.{Defined, group_places, inside}
use Rattle.infer_groups.specs.Members.{listed_group, at_number}
use Rattle.infer_groups.specs.General.{with_general, AreFrozen}
use Rattle.infer_groups.specs.Names.{named_views, general_view}
use Rattle.infer_groups.proofs.Entering.{each_inside}
use Rattle.infer_groups.proofs.groups.close_group.Goals as goal

pub freeze_named-requires-clause-inside : goal.freeze_named-requires-clause-inside
freeze_named-requires-clause-inside c =
    subst (λ ns. All (λ n. n.variable < length c.args.state.now.store) ns) (sym c.deref.ensures.value)
    (each_inside c.args.state.now.depth c.args.state.now.store c.args.opened.names.items c.requires.live)

pub returns-clause-closed : goal.returns-clause-closed
returns-clause-closed c code ds i old left done =
    let now = here c.args.state.now in
    let names = named_views c.args.opened.names.items in
    let gs = map general_view c.in_ok-general.general.items in
    let new : State = record { store = now.store; depth = old.depth; place = old.place } in
    let was : now ≡ inside new i = λ j. record
    { store = now.store; depth = done.follows.depth j; place = done.follows.place j } in
    let depth : now.depth - 1 ≡ old.depth = omega (arith, done.follows.depth) in
    let frozen : AreFrozen old.depth now.store names gs =
    subst (λ d. AreFrozen d now.store names gs) depth
    (subst (λ ns. AreFrozen (now.depth - 1) now.store (named_views ns) gs) c.deref.ensures.value
    c.in_ok-general.ensures) in
    subst (λ s. Defined code (code_of c.enter_general.new.scope) (λ q. group_places (child q i))
    (at_number i (listed_group ds)) old s)
    (sym (c.come_back.ensures.back new i was))
    (subst (λ k. Defined code k (λ q. group_places (child q i)) (at_number i (listed_group ds)) old new)
    (sym (c.in_ok-left.ensures.scope ∙ ap (with_general gs) (c.in_ok-leave.ensures ∙ left)))
    (c.closing_law.ensures code ds i names gs old now done frozen))
