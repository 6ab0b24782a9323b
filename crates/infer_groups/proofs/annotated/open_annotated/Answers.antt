use Rattle.std.proofs.Common.{◌≡◌, length, map, sym, ap, ◌∙◌, subst}
use Rattle.std.proofs.lemmas.List.{length-map}
use Rattle.elm_type.specs.View.{kind_view}
use Rattle.type_items.specs.Items.{child}
use Rattle.type_schemes.specs.Constants.{Distinct}
use Rattle.type_schemes.specs.Calls.{AreNew, Opens}
use Rattle.infer_steps.specs.Codes.{State}
use Rattle.infer_steps.specs.View.{code_of, here}
use Rattle.infer_groups.specs.Given.{constants_at, with_slots}
use Rattle.infer_groups.proofs.Opening.{only_child}
use Rattle.infer_groups.proofs.Built.{constants_new, constants_distinct, constants_length, constants_open, in_scope}
use Rattle.infer_groups.proofs.annotated.open_annotated.Goals as goal

pub open_constants-requires-clause-new : goal.open_constants-requires-clause-new
open_constants-requires-clause-new c =
    let old = here c.args.state.now in
    let p = child old.place c.args.number in
    let ks = map kind_view c.args.kinds.now in
    let there = c.in_ok-go_inside.ensures in
    let list : c.deref-3.result.now ≡ constants_at p c.args.names.items ks =
    c.deref-3.ensures.value ∙ c.in_ok-rigids.ensures ∙
    (λ j. constants_at ((c.deref.ensures.value ∙ ap (λ s. s.place) there) j) (c.deref-2.ensures.value j) ks) in
    subst (λ l. AreNew c.go_inside.new.state.store l) (sym list)
    (subst (λ s. AreNew s (constants_at p c.args.names.items ks)) (sym (ap (λ s. s.store) there))
    (constants_new p old.store (λ r h. only_child old.place c.args.number r.place (c.requires.clear.each r h))
    c.args.names.items ks))

pub open_constants-requires-clause-distinct : goal.open_constants-requires-clause-distinct
open_constants-requires-clause-distinct c =
    let old = here c.args.state.now in
    let p = child old.place c.args.number in
    let ks = map kind_view c.args.kinds.now in
    let there = c.in_ok-go_inside.ensures in
    let list : c.deref-3.result.now ≡ constants_at p c.args.names.items ks =
    c.deref-3.ensures.value ∙ c.in_ok-rigids.ensures ∙
    (λ j. constants_at ((c.deref.ensures.value ∙ ap (λ s. s.place) there) j) (c.deref-2.ensures.value j) ks) in
    subst (λ l. Distinct l) (sym list) (constants_distinct p c.args.names.items ks c.requires.apart)

pub enter_constants-requires : goal.enter_constants-requires
enter_constants-requires c =
    let old = here c.args.state.now in
    let p = child old.place c.args.number in
    let ks = map kind_view c.args.kinds.now in
    let there = c.in_ok-go_inside.ensures in
    let list : c.deref-3.result.now ≡ constants_at p c.args.names.items ks =
    c.deref-3.ensures.value ∙ c.in_ok-rigids.ensures ∙
    (λ j. constants_at ((c.deref.ensures.value ∙ ap (λ s. s.place) there) j) (c.deref-2.ensures.value j) ks) in
    ap length c.deref-5.ensures.value ∙ c.in_ok-slots.ensures.count ∙ ap length list
    ∙ constants_length p c.args.names.items ks (length-map c.args.kinds.now kind_view ∙ c.requires.kinds)
    ∙ sym (ap length c.deref-4.ensures.value)

pub returns-clause-opens : goal.returns-clause-opens
returns-clause-opens c annotation own =
    let old = here c.args.state.now in
    let p = child old.place c.args.number in
    let ks = map kind_view c.args.kinds.now in
    let st = c.go_inside.new.state in
    let s' = c.open_constants.new.store in
    let vs = c.in_ok-slots.slots.items in
    let mid : State = record { store = s'; depth = st.depth; place = st.place.items } in
    let there = c.in_ok-go_inside.ensures in
    let list : c.deref-3.result.now ≡ constants_at p c.args.names.items ks =
    c.deref-3.ensures.value ∙ c.in_ok-rigids.ensures ∙
    (λ j. constants_at ((c.deref.ensures.value ∙ ap (λ s. s.place) there) j) (c.deref-2.ensures.value j) ks) in
    let opens : Opens st.depth (constants_at p c.args.names.items ks) old.store vs s' =
    subst (λ s. Opens st.depth (constants_at p c.args.names.items ks) s vs s') (ap (λ s. s.store) there)
    (subst (λ l. Opens st.depth l st.store vs s') list c.in_ok-slots.ensures) in
    constants_open (code_of c.args.scope.now) annotation c.args.number c.args.names.items ks own old vs mid
    c.requires.ready c.requires.clear c.requires.apart
    st.depth (ap (λ s. s.depth) there) opens (ap (λ s. s.depth) there) (ap (λ s. s.place) there)

pub returns-clause-scope : goal.returns-clause-scope
returns-clause-scope c annotation own =
    c.in_ok-entered.ensures.scope
    ∙ (λ j. with_slots (c.deref-4.ensures.value j) (c.deref-5.ensures.value j) (code_of c.args.scope.now))
    ∙ in_scope (code_of c.args.scope.now) annotation c.args.number c.args.names.items (map kind_view c.args.kinds.now)
    own (here c.args.state.now)
    c.in_ok-slots.slots.items
