use Rattle.std.proofs.Common.{◌≡◌, ◌≤◌, ◌∷◌, ◌∙◌, ap, sym, subst, reverse, true, false, arith}
use Rattle.std.specs.HashSet as bag
use Rattle.std.specs.Prelude.{nat_eq}
use Rattle.type_store.specs.Store.{Slot, slot_at}
use Rattle.type_store.specs.Shape.{parts_of}
use Rattle.type_schemes.specs.declared.order.Task.TheVariants.{Leave}
use Rattle.type_schemes.specs.Walk.{entered, Walks, stack_of, older_of, seen_of, work_left}
use Rattle.type_schemes.proofs.Working.{reverse_push, less_work}
use Rattle.type_schemes.proofs.Entering.{slot_is, was_new, was_there, enter_shallow, enter_known, enter_new}
use Rattle.type_schemes.proofs.order.enter.Goals as goal

pub returns-then-from-floor-clause-walk : goal.returns-then-from-floor-clause-walk
returns-then-from-floor-clause-walk c = λ start w.
    let e = slot_is c.slots.result.now c.args.store.now c.root-at.result c.index-slots-at.result c.slots.ensures c.root-at.ensures.inside c.index-slots-at.is in
    let d = ap (λ (x : Slot). x.depth) e in
    record {
      walks =
          enter_shallow c.args.floor c.args.store.now start (older_of c.args.walk.now) (stack_of c.args.walk.now) (seen_of c.args.walk.now) c.requires.whole c.args.variable
          c.root-at.result c.root-at.ensures.leads c.root-at.ensures.ends c.root-at.ensures.inside w.walks (omega (arith, d, c.from.ensures, c.if-from-floor.true));
      table = w.table;
    }

pub returns-in_ok-push_parts-clause-walk : goal.returns-in_ok-push_parts-clause-walk
returns-in_ok-push_parts-clause-walk c = λ start w.
    let e = slot_is c.slots.result.now c.args.store.now c.root-at.result c.index-slots-at.result c.slots.ensures c.root-at.ensures.inside c.index-slots-at.is in
    let d = ap (λ (x : Slot). x.depth) e in
    let n : bag.contains nat_eq c.args.walk.now.seen c.root-at.result ≡ false =
    was_new (bag.contains nat_eq c.args.walk.now.seen c.root-at.result) c.in_ok-insert.field-0 c.in_ok-insert.ensures.added c.if-branch.true in
    let t : reverse c.push_parts.new.todo.items ≡ entered (parts_of (slot_at c.args.store.now c.root-at.result).cell) (Leave c.root-at.result ∷ reverse c.args.walk.now.todo.items) =
    c.in_ok-push_parts.ensures
    ∙ (ap (λ (x : Slot). entered (parts_of x.cell) (reverse c.push.new.self.items)) (sym e)
    ∙ ap (entered (parts_of (slot_at c.args.store.now c.root-at.result).cell)) (ap reverse c.in_ok-push.ensures.items ∙ reverse_push c.args.walk.now.todo.items (Leave c.root-at.result))) in
    record {
      walks =
          subst (λ st. Walks c.args.floor c.args.store.now start (older_of c.args.walk.now) st (λ v. bag.contains nat_eq c.insert.new.self v)) (sym t)
          (enter_new c.args.floor c.args.store.now start (older_of c.args.walk.now) (stack_of c.args.walk.now) (seen_of c.args.walk.now) c.requires.whole c.args.variable
          c.root-at.result c.root-at.ensures.leads c.root-at.ensures.ends c.root-at.ensures.inside w.walks (λ v. bag.contains nat_eq c.insert.new.self v)
          (λ q. c.in_ok-insert.ensures.updates.0 q) n (omega (arith, d, c.from.ensures, c.if-from-floor.false)));
      table = w.table;
    }

pub returns-in_ok-push_parts-clause-work : goal.returns-in_ok-push_parts-clause-work
returns-in_ok-push_parts-clause-work c =
    let e = slot_is c.slots.result.now c.args.store.now c.root-at.result c.index-slots-at.result c.slots.ensures c.root-at.ensures.inside c.index-slots-at.is in
    let n : bag.contains nat_eq c.args.walk.now.seen c.root-at.result ≡ false =
    was_new (bag.contains nat_eq c.args.walk.now.seen c.root-at.result) c.in_ok-insert.field-0 c.in_ok-insert.ensures.added c.if-branch.true in
    let t : reverse c.push_parts.new.todo.items ≡ entered (parts_of (slot_at c.args.store.now c.root-at.result).cell) (Leave c.root-at.result ∷ reverse c.args.walk.now.todo.items) =
    c.in_ok-push_parts.ensures
    ∙ (ap (λ (x : Slot). entered (parts_of x.cell) (reverse c.push.new.self.items)) (sym e)
    ∙ ap (entered (parts_of (slot_at c.args.store.now c.root-at.result).cell)) (ap reverse c.in_ok-push.ensures.items ∙ reverse_push c.args.walk.now.todo.items (Leave c.root-at.result))) in
    subst (λ st. work_left c.args.store.now st (λ v. bag.contains nat_eq c.insert.new.self v) ≤ work_left c.args.store.now (stack_of c.args.walk.now) (seen_of c.args.walk.now)) (sym t)
    (less_work c.args.store.now (seen_of c.args.walk.now) (λ v. bag.contains nat_eq c.insert.new.self v) c.root-at.result (stack_of c.args.walk.now)
    (λ q. c.in_ok-insert.ensures.updates.0 q) c.root-at.ensures.inside n)

pub returns-else-branch-clause-walk : goal.returns-else-branch-clause-walk
returns-else-branch-clause-walk c = λ start w.
    let n : bag.contains nat_eq c.args.walk.now.seen c.root-at.result ≡ true =
    was_there (bag.contains nat_eq c.args.walk.now.seen c.root-at.result) c.in_ok-insert.field-0 c.in_ok-insert.ensures.added c.if-branch.false in
    record {
      walks =
          enter_known c.args.floor c.args.store.now start (older_of c.args.walk.now) (stack_of c.args.walk.now) (seen_of c.args.walk.now) c.requires.whole c.args.variable
          c.root-at.result c.root-at.ensures.leads c.root-at.ensures.ends c.root-at.ensures.inside w.walks (λ v. bag.contains nat_eq c.insert.new.self v)
          (λ q. c.in_ok-insert.ensures.updates.0 q) n;
      table = w.table;
    }
