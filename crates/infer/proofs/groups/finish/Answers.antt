use Rattle.std.proofs.Common.{◌≡◌, ◌<◌, length, sym, subst}
use Rattle.std.specs.Prelude.{All}
use Rattle.std.specs.List.{AllZip}
use Rattle.type_items.specs.Items.{child}
use Rattle.infer_steps.specs.View.{code_of, here}
use Rattle.infer_groups.specs.Defined.{Defined, group_places}
use Rattle.infer_groups.specs.Names.{named_views}
use Rattle.infer_groups.proofs.Entering.{each_inside}
use Rattle.infer.specs.Told.{HasItsScheme, IsToldAs, NamesTold, AddsSchemes, told_views}
use Rattle.infer.proofs.Grouping.{lists_same}
use Rattle.infer.proofs.groups.finish.Goals as goal

pub tell_each-requires-clause-inside : goal.tell_each-requires-clause-inside
tell_each-requires-clause-inside c =
    subst (λ ns. All (λ n. n.variable < length c.args.state.now.store) ns) (sym c.deref.ensures.value)
    (each_inside c.args.state.now.depth c.args.state.now.store c.args.opened.names.items c.requires.live)

pub returns : goal.returns
returns c code g i old left none done =
    let now = here c.args.state.now in
    let new = here c.close_group.new.state in
    let names = named_views c.args.opened.names.items in
    let told : AddsSchemes now.store names (told_views c.args.told.now.items) (told_views c.tell_each.new.told.items) =
    subst (λ ns. AddsSchemes now.store (named_views ns) (told_views c.args.told.now.items)
    (told_views c.tell_each.new.told.items)) c.deref.ensures.value c.in_ok-tell_each.ensures in
    let store : new.store ≡ now.store = c.in_ok-close_group.ensures.store in
    let names_told : NamesTold code g i old new told.more = record {
      names = names;
      inner = now;
      done = done;
      store = store;
      each = subst (λ s. AllZip (HasItsScheme s) names told.more) (sym store) told.each;
    } in
    record {
      defined =
          subst (λ list. Defined code (code_of c.close_group.new.scope) (λ q. group_places (child q i)) list old new)
          (sym (lists_same g i none)) (c.in_ok-close_group.ensures.closed code g i old left done);
      more = told.more;
      added = told.added;
      is = subst (λ o. IsToldAs o code g i old new told.more) (sym none) names_told;
    }
