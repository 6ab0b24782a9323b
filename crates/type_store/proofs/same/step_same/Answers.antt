use Rattle.std.proofs.Common.{List, subst}
use Rattle.std.proofs.lemmas.Result.{IfOk-weaker}
use Rattle.type_store.specs.Steps.{Leads}
use Rattle.type_store.specs.View.{store_view, work_view}
use Rattle.type_store.specs.declared.slot.Slot as stored
use Rattle.type_store.proofs.Joins.{same_stepped, same_clashed}
use Rattle.type_store.proofs.SameSteps.{same_already, same_swapped, swapped_clash}
use Rattle.type_store.proofs.same.step_same.Goals as goal

pub returns-then-first-second-clause-yes : goal.returns-then-first-second-clause-yes
returns-then-first-second-clause-yes c done =
    let l = subst (λ (xs : List stored.Slot). Leads (store_view xs) c.args.variable c.find-first.result) c.deref.ensures.value c.find-first.ensures.leads in
    let m = subst (λ (xs : List stored.Slot). Leads (store_view xs) c.args.other c.find-second.result) c.deref-2.ensures.value c.find-second.ensures.leads in
    same_already (store_view c.args.slots.now.items) c.args.variable c.args.other c.find-first.result c.find-second.result (work_view c.args.work.now.items) c.requires.graph l m c.if-first-second.true

pub returns-then-first-second-2-clause-yes : goal.returns-then-first-second-2-clause-yes
returns-then-first-second-2-clause-yes c =
    let l = subst (λ (xs : List stored.Slot). Leads (store_view xs) c.args.variable c.find-first.result) c.deref.ensures.value c.find-first.ensures.leads in
    let m = subst (λ (xs : List stored.Slot). Leads (store_view xs) c.args.other c.find-second.result) c.deref-2.ensures.value c.find-second.ensures.leads in
    IfOk-weaker c.join_roots.result _ _ (λ done h yes.
    same_stepped (store_view c.args.slots.now.items) (store_view c.join_roots.new.slots.items) c.args.variable c.args.other c.find-first.result c.find-second.result
    (work_view c.args.work.now.items) (work_view c.join_roots.new.work.items) l m (h yes)) c.join_roots.ensures.yes

pub returns-then-first-second-2-clause-no : goal.returns-then-first-second-2-clause-no
returns-then-first-second-2-clause-no c =
    let l = subst (λ (xs : List stored.Slot). Leads (store_view xs) c.args.variable c.find-first.result) c.deref.ensures.value c.find-first.ensures.leads in
    let m = subst (λ (xs : List stored.Slot). Leads (store_view xs) c.args.other c.find-second.result) c.deref-2.ensures.value c.find-second.ensures.leads in
    IfOk-weaker c.join_roots.result _ _ (λ done h no.
    same_clashed (store_view c.args.slots.now.items) c.args.variable c.args.other c.find-first.result c.find-second.result l m (h no)) c.join_roots.ensures.no

pub returns-else-first-second-2-clause-yes : goal.returns-else-first-second-2-clause-yes
returns-else-first-second-2-clause-yes c =
    let l = subst (λ (xs : List stored.Slot). Leads (store_view xs) c.args.variable c.find-first.result) c.deref.ensures.value c.find-first.ensures.leads in
    let m = subst (λ (xs : List stored.Slot). Leads (store_view xs) c.args.other c.find-second.result) c.deref-2.ensures.value c.find-second.ensures.leads in
    IfOk-weaker c.join_roots-else-first-second-2.result _ _ (λ done h yes.
    same_swapped (store_view c.args.slots.now.items) (store_view c.join_roots-else-first-second-2.new.slots.items) c.args.variable c.args.other c.find-first.result c.find-second.result
    (work_view c.args.work.now.items) (work_view c.join_roots-else-first-second-2.new.work.items) l m (h yes)) c.join_roots-else-first-second-2.ensures.yes

pub returns-else-first-second-2-clause-no : goal.returns-else-first-second-2-clause-no
returns-else-first-second-2-clause-no c =
    let l = subst (λ (xs : List stored.Slot). Leads (store_view xs) c.args.variable c.find-first.result) c.deref.ensures.value c.find-first.ensures.leads in
    let m = subst (λ (xs : List stored.Slot). Leads (store_view xs) c.args.other c.find-second.result) c.deref-2.ensures.value c.find-second.ensures.leads in
    IfOk-weaker c.join_roots-else-first-second-2.result _ _ (λ done h no.
    swapped_clash (store_view c.args.slots.now.items) c.args.variable c.args.other c.find-first.result c.find-second.result l m (h no)) c.join_roots-else-first-second-2.ensures.no
