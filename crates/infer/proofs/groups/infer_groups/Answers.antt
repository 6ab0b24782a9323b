use Rattle.std.proofs.Common.{◌≡◌, ◌<◌, Err, Some, length, map, ap, ◌∙◌, subst, arith}
use Rattle.std.specs.Prelude.{slice_get}
use Rattle.std.specs.Borrow.{Bor}
use Rattle.elm_canon.specs.View.{group_view}
use Rattle.elm_canon.specs.declared.tree.Group.{Group}
use Rattle.type_items.specs.Items.{child}
use Rattle.type_items.specs.Definitions.{in_written_order, list_group, type_groups}
use Rattle.type_items.specs.Modules.{module_definitions}
use Rattle.type_constructs.specs.TypeModulesGroups.{groups_of}
use Rattle.infer_steps.specs.View.{bad_view, code_of, here}
use Rattle.infer_steps.specs.declared.bad.InferError.TheVariants as error
use Rattle.infer_groups.specs.Defined.{group_places}
use Rattle.infer.specs.Middle.{Middle}
use Rattle.infer.specs.Told.{GroupIsTold, told_views}
use Rattle.infer.proofs.Ending.{group_stops}
use Rattle.infer.proofs.Grouping.{can_later, count_groups, group_fine, some_group}
use Rattle.infer.proofs.Stepping.{one_more}
use Rattle.infer.proofs.groups.infer_groups.Goals as goal

pub returns-in-Err-clause-stopped : goal.returns-in-Err-clause-stopped
returns-in-Err-clause-stopped c b e module_ env begun =
    let gs = map (λ (g : Bor Group). group_view g.now) c.args.groups.now in
    let k = c.loop-number.number in
    let inside : k < length c.args.order.now.groups.items =
    omega (arith, c.loop-number-test.true, c.len-number-end.ensures) in
    let f = some_group gs c.args.order.now k c.requires.order inside in
    let same : c.in-Err.error ≡ error.Bad b = cc in
    group_stops module_ env k f.group (code_of c.loop-number.scope) (here c.loop-number.state)
    (here c.infer_group.new.state) (told_views c.loop-number.told.items) (bad_view b)
    (c.loop-number.invariant.middle module_ env begun) (c.in-Err.ensures.stopped b (ap Err same) f.group f.at)
    (subst (λ ds. slice_get (type_groups (in_written_order ds)) k ≡ Some f.group) begun.groups f.at)

pub loop-number-preserved : goal.loop-number-preserved
loop-number-preserved c =
    let gs = map (λ (g : Bor Group). group_view g.now) c.args.groups.now in
    let k = c.loop-number.number in
    let inside : k < length c.args.order.now.groups.items =
    omega (arith, c.loop-number-test.true, c.len-number-end.ensures) in
    let f = some_group gs c.args.order.now k c.requires.order inside in
    let code = code_of c.loop-number.scope in
    let after = code_of c.infer_group.new.scope in
    let old = here c.loop-number.state in
    let new = here c.infer_group.new.state in
    let before = told_views c.loop-number.told.items in
    let told = told_views c.infer_group.new.told.items in
    let is : GroupIsTold code after f.group k old new before told = c.in-Ok.ensures.told f.group f.at in
    record {
      can =
          can_later code after (λ q. group_places (child q k)) (λ scope q. list_group f.group scope (child q k)) old new
          c.loop-number.invariant.can is.defined;
      middle =
          λ module_ env begun. one_more c.module_law.ensures.on c.module_law.ensures.tells c.reading_law.ensures.told
          c.reading_law.ensures.ordered module_ env k f.group code after old new before told
          (c.loop-number.invariant.middle module_ env begun) is
          (subst (λ ds. slice_get (type_groups (in_written_order ds)) k ≡ Some f.group) begun.groups f.at)
          (group_fine gs c.args.order.now k f.group c.requires.order c.requires.titled c.requires.once f.at);
    }

pub returns-clause-told : goal.returns-clause-told
returns-clause-told c module_ env begun =
    let gs = map (λ (g : Bor Group). group_view g.now) c.args.groups.now in
    let count : length c.args.order.now.groups.items
    ≡ length (type_groups (in_written_order (module_definitions module_))) =
    count_groups gs c.args.order.now c.requires.order
    ∙ ap (λ ds. length (type_groups (in_written_order ds))) begun.groups in
    let all : c.loop-number.number ≡ length (groups_of module_) =
    omega (arith, c.loop-number-test.false, c.loop-number.auto.number-end, c.len-number-end.ensures, count) in
    subst (λ n. Middle module_ env n (code_of c.loop-number.scope) (here c.loop-number.state)
    (told_views c.loop-number.told.items)) all (c.loop-number.invariant.middle module_ env begun)
