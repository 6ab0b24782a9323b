use Rattle.std.proofs.Common.{◌≡◌, ◌∷◌, ◌++◌, [], ◌∙◌, ap, sym, subst, reverse, rules}
use Rattle.std.specs.Prelude.{nat_eq}
use Rattle.std.specs.List.{list_any}
use Rattle.std.specs.Map.{lookup}
use Rattle.std.specs.HashSet as bag
use Rattle.type_schemes.specs.Order.{number_in}
use Rattle.type_schemes.specs.declared.order.Task.TheVariants.{Enter, Leave}
use Rattle.type_schemes.specs.Walk.{Walks, older_of, seen_of}
use Rattle.type_schemes.proofs.Working.{reverse_push}
use Rattle.type_schemes.proofs.Walking.{left, at_start}
use Rattle.type_schemes.proofs.order.parts_first.Goals as goal

pub loop-task-init : goal.loop-task-init
loop-task-init c =
    let e : reverse c.push.new.self.items ≡ Enter c.args.variable ∷ [] =
    ap reverse (c.in_ok-push.ensures.items ∙ ap (λ xs. xs ++ Enter c.args.variable ∷ []) c.new.ensures.items) in
    let o : [] ≡ reverse c.new-3.result.items = sym (ap reverse c.new-3.ensures.items) in
    record {
      walks =
          subst (λ st. Walks c.args.floor c.args.store.now c.args.variable (reverse c.new-3.result.items) st (λ v. bag.contains nat_eq c.new-2.result v)) (sym e)
          (subst (λ os. Walks c.args.floor c.args.store.now c.args.variable os (Enter c.args.variable ∷ []) (λ v. bag.contains nat_eq c.new-2.result v)) o
          (at_start c.args.floor c.args.store.now c.args.variable (λ v. bag.contains nat_eq c.new-2.result v) c.requires.whole c.requires.inside
          (λ x. ap (list_any (nat_eq x)) c.new-2.ensures.empty)));
      table = record {
        each = λ v. ap (λ es. lookup (nat_eq v) es) c.new-4.ensures.empty ∙ ap (λ os. number_in os v) o;
      };
    }

pub loop-task-preserved-in-Continue-branch-2 : goal.loop-task-preserved-in-Continue-branch-2
loop-task-preserved-in-Continue-branch-2 c =
    let i : c.loop-task.walk.todo.items ≡ c.pop.new.self.items ++ c.in-Some.task ∷ [] = search rules in
    let e : reverse c.loop-task.walk.todo.items ≡ Enter c.in-Enter.next ∷ reverse c.pop.new.self.items =
    ap reverse i ∙ (reverse_push c.pop.new.self.items c.in-Some.task ∙ ap (λ t. t ∷ reverse c.pop.new.self.items) c.in-Enter.is) in
    c.in_ok-enter-in-Enter.ensures.walk c.args.variable
    (record {
      walks = subst (λ st. Walks c.args.floor c.args.store.now c.args.variable (older_of c.loop-task.walk) st (seen_of c.loop-task.walk)) e c.loop-task.invariant.walks;
      table = c.loop-task.invariant.table;
    })

pub loop-task-preserved : goal.loop-task-preserved
loop-task-preserved c =
    let i : c.loop-task.walk.todo.items ≡ c.pop.new.self.items ++ c.in-Some.task ∷ [] = search rules in
    let e : reverse c.loop-task.walk.todo.items ≡ Leave c.in-Leave.next ∷ reverse c.pop.new.self.items =
    ap reverse i ∙ (reverse_push c.pop.new.self.items c.in-Some.task ∙ ap (λ t. t ∷ reverse c.pop.new.self.items) c.in-Leave.is) in
    record {
      walks =
          subst (λ os. Walks c.args.floor c.args.store.now c.args.variable os (reverse c.pop.new.self.items) (seen_of c.loop-task.walk)) (sym c.in_ok-leave-in-Leave.ensures.list)
          (left c.args.floor c.args.store.now c.args.variable (older_of c.loop-task.walk) (reverse c.pop.new.self.items) (seen_of c.loop-task.walk) c.in-Leave.next
          (subst (λ st. Walks c.args.floor c.args.store.now c.args.variable (older_of c.loop-task.walk) st (seen_of c.loop-task.walk)) e c.loop-task.invariant.walks));
      table = c.in_ok-leave-in-Leave.ensures.table;
    }
