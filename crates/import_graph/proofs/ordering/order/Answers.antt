-- The ring with the least first module, among one more group: `plain_at`.
-- Where no group is a ring, the order of groups is that of the modules: `modules_ordered`, `ring_is`, `no_rings`.
-- Members of groups and of uses are modules: `members_within`, `uses_within`.
use Rattle.std.proofs.Common.{[], length, Vec, Global, ℕ, Some, None, subst, sym, ap, ◌∙◌}
use Rattle.std.proofs.lemmas.List.{length-map}
use Rattle.decl_groups.specs.Groups.{plain, list_at}
use Rattle.decl_groups.specs.Groups as groups
use Rattle.import_graph.specs.Order.{IsOrder, IsRing}
use Rattle.import_graph.specs.Rings.{IsLeast, joined}
use Rattle.import_graph.proofs.Least.{plain_at}
use Rattle.import_graph.proofs.Orders.{modules_ordered, ring_is, no_rings}
use Rattle.import_graph.proofs.Within.{members_within, uses_within}
use Rattle.import_graph.proofs.ordering.order.Goals as goal

pub least_ring-requires : goal.least_ring-requires
least_ring-requires c = record {
  members = members_within c.args.uses.now c.deref.result.now
      (subst (λ gs. groups.IsOrder (plain c.args.uses.now) [] (plain gs)) (sym c.deref.ensures.value) c.in_ok-groups.ensures);
}

pub returns-in-Some-clause-ring : goal.returns-in-Some-clause-ring
returns-in-Some-clause-ring c =
    let uses = plain c.args.uses.now in
    let gs = c.in_ok-groups.groups.items in
    let place = c.in-Some.place in
    let least : IsLeast uses (plain gs) (length gs) (Some place) = subst (λ hs. IsLeast uses (plain hs) (length hs) (Some place)) c.deref.ensures.value c.in-Some.ensures in
    let l : IsLeast uses (plain gs) (length (plain gs)) (Some place) = rw (length-map gs (λ (x : Vec ℕ Global). x.items)) least in
    let ring = ring_is place c.in_ok-groups.ensures (uses_within c.args.uses.now c.requires.places) l in
    subst (IsRing uses) (plain_at gs place c.swap_remove.result least.0 c.swap_remove.ensures.value) ring

pub returns-clause-order : goal.returns-clause-order
returns-clause-order c =
    let uses = plain c.args.uses.now in
    let gs = c.in_ok-groups.groups.items in
    let least : IsLeast uses (plain gs) (length gs) None = subst (λ hs. IsLeast uses (plain hs) (length hs) None) c.deref.ensures.value c.in-None.ensures in
    let l : IsLeast uses (plain gs) (length (plain gs)) None = rw (length-map gs (λ (x : Vec ℕ Global). x.items)) least in
    let order = modules_ordered c.in_ok-groups.ensures (no_rings uses (plain gs) l) in
    subst (IsOrder uses []) (sym (c.in_ok-all-in-None.ensures ∙ ap (λ hs. joined (plain hs)) c.deref-in-None.ensures.value)) order
