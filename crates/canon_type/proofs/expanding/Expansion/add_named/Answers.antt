-- All groups stand in order, and each alias in one of them: `groups_within`, `all_joined`.
use Rattle.std.proofs.Common.{◌≡◌, ◌<◌, ℕ, [], List, length, map, arith, sym, ap, ◌∙◌, subst}
use Rattle.std.specs.List.{All}
use Rattle.std.proofs.lemmas.List.{length-map}
use Rattle.elm_tree.specs.Turns.{tokens_view}
use Rattle.decl_groups.specs.Groups.{plain, IsOrder}
use Rattle.decl_groups.specs.InOrder.{is_recursive}
use Rattle.decl_groups.specs.View.{members_of, marks_of}
use Rattle.decl_groups.specs.declared.grouping.Group.{Group}
use Rattle.canon_type.specs.Written.{AliasTree, alias_names}
use Rattle.canon_type.specs.Recursion.{alias_uses}
use Rattle.canon_type.specs.Kept.{Keeps, alias_view, aliases_view}
use Rattle.canon_type.proofs.Marks.{as_many, rows_within}
use Rattle.canon_type.specs.CanonAliasesKept.{uses_in}
use Rattle.canon_type.proofs.Ordering.{groups_within}
use Rattle.canon_type.proofs.Starting.{nothing_made, expanded_all}
use Rattle.canon_type.proofs.expanding.Expansion.add_named.Goals as goal

pub ordered_groups-requires-clause-count : goal.ordered_groups-requires-clause-count
ordered_groups-requires-clause-count c =
    let tokens = tokens_view c.args.tokens.now in
    let names = c.requires.names in
    omega (
      arith,
      c.requires.count,
      as_many names.unions (aliases_view tokens c.args.aliases.now) c.deref.result.now
          (ap plain c.deref.ensures.value ∙ c.in_ok-uses.ensures names.unions names.keeps),
      length-map c.args.aliases.now (alias_view tokens),
    )

pub ordered_groups-requires-clause-places : goal.ordered_groups-requires-clause-places
ordered_groups-requires-clause-places c =
    let names = c.requires.names in
    rows_within names.unions (aliases_view (tokens_view c.args.tokens.now) c.args.aliases.now) c.deref.result.now
    (ap plain c.deref.ensures.value ∙ c.in_ok-uses.ensures names.unions names.keeps)

pub add_groups-requires-clause-within : goal.add_groups-requires-clause-within
add_groups-requires-clause-within c =
    let tokens = tokens_view c.args.tokens.now in
    let names = c.requires.names in
    let uses = plain c.deref.result.now in
    let aliases = aliases_view tokens c.args.aliases.now in
    let is : uses ≡ alias_uses names.unions aliases =
    ap plain c.deref.ensures.value ∙ c.in_ok-uses.ensures names.unions names.keeps in
    let P : ℕ → Type 0 = λ n. All (λ (g : Group). All (λ i. i < n) g.members.items) c.deref-4.result.now in
    let Q : List Group → Type 0 = λ gs. All (λ (g : Group). All (λ i. i < length uses) g.members.items) gs in
    let many : length uses ≡ length c.args.aliases.now =
    ap length is ∙ length-map aliases _ ∙ length-map c.args.aliases.now (alias_view tokens) in
    subst P many
    (subst Q (sym c.deref-4.ensures.value)
    (groups_within uses [] c.in_ok-groups.groups.items c.in_ok-groups.ensures.order))

pub returns : goal.returns
returns c = λ s is home keeps same world.
    let tokens = tokens_view c.args.tokens.now in
    let view = aliases_view tokens in
    let uses : plain c.deref.result.now ≡ uses_in s =
    ap plain c.deref.ensures.value
    ∙ c.in_ok-uses.ensures s.names
    (subst (λ (l : List AliasTree). Keeps c.args.names.now s.names (alias_names l)) same keeps)
    ∙ ap (alias_uses s.names) (sym same) in
    let order : IsOrder (uses_in s) [] (members_of c.deref-4.result.now) =
    subst (λ (gs : List Group). IsOrder (uses_in s) [] (members_of gs)) (sym c.deref-4.ensures.value)
    (subst (λ us. IsOrder us [] (members_of c.in_ok-groups.groups.items)) uses c.in_ok-groups.ensures.order) in
    let marks : marks_of c.deref-4.result.now ≡ map (is_recursive (uses_in s)) (members_of c.deref-4.result.now) =
    ap marks_of c.deref-4.ensures.value ∙ c.in_ok-groups.ensures.marks
    ∙ ap (map (is_recursive (plain c.deref.result.now))) (sym c.in_ok-groups.ensures.members)
    ∙ ap (λ us. map (is_recursive us) (members_of c.in_ok-groups.groups.items)) uses
    ∙ ap (λ gs. map (is_recursive (uses_in s)) (members_of gs)) (sym c.deref-4.ensures.value) in
    let count : length c.args.aliases.now ≡ length s.aliases =
    sym (ap length same ∙ length-map c.args.aliases.now (alias_view tokens)) in
    expanded_all s _ _ (members_of c.deref-4.result.now) order
    (c.in_ok-add_groups.ensures s is home keeps same
    (nothing_made s c.args.self.now.world c.in_ok-made.made.items (length c.args.aliases.now) c.in_ok-made.ensures count world) order marks)
