-- By whether the aliases of the group reach themselves: `loops`, `used_before`.
use Rattle.std.proofs.Common.{◌≡◌, ◌<◌, ◌++◌, [], ◌∷◌, List, length, get_or, arith, sym, ap, ◌∙◌, subst}
use Rattle.std.specs.List.{Contains, slice_index_or}
use Rattle.std.proofs.lemmas.Result.{on_ok_weaker}
use Rattle.elm_tree.specs.Turns.{tokens_view}
use Rattle.decl_groups.specs.Groups.{Ascends}
use Rattle.decl_groups.proofs.Basics.{first_member}
use Rattle.canon_type.specs.Written.{AliasTree}
use Rattle.canon_type.specs.Kept.{alias_view}
use Rattle.canon_type.specs.CanonAliasesKept.{IsExpanding, no_alias}
use Rattle.canon_type.proofs.Steps.{at_map}
use Rattle.canon_type.proofs.Grouping.{single, loops, no_loop, used_before}
use Rattle.canon_type.proofs.expanding.Expansion.add_group.Goals as goal

pub returns-then-group-clause-expanding : goal.returns-then-group-clause-expanding
returns-then-group-clause-expanding c =
    let g = c.args.group.now.members.items in
    let v = c.deref.ensures.value in
    on_ok_weaker c.add_blanks.result
    (λ e s placed is home keeps same h ready mark.
    subst (λ ps. IsExpanding s c.add_blanks.new.self.world c.add_blanks.new.self.made.items (placed ++ ps)) v
    (e s placed is home keeps same h (subst Ascends (sym v) ready.is_group.ascends)
    (λ i m. ready.not_placed i (subst (λ ps. Contains ps i) v m))
    (λ i m. loops s placed g ready (sym mark ∙ c.if-group.true) i (subst (λ ps. Contains ps i) v m))))
    c.add_blanks.ensures.expanding

pub returns-in-len1-clause-expanding : goal.returns-in-len1-clause-expanding
returns-in-len1-clause-expanding c =
    let view = alias_view (tokens_view c.args.tokens.now) in
    let g = c.args.group.now.members.items in
    let ms = c.as_slice.result.now in
    let i = get_or ms 0 0 in
    let only : g ≡ i ∷ [] = sym c.as_slice.ensures.value ∙ single ms 0 (omega arith) (omega arith) in
    on_ok_weaker c.expand.result
    (λ e s placed is home keeps same h ready mark.
    let m : Contains g i = subst (λ ps. Contains ps i) (sym only) (first_member i []) in
    subst (λ ps. IsExpanding s c.expand.new.self.world c.expand.new.self.made.items (placed ++ ps)) (sym only)
    (e s placed is home keeps h
    (ap (λ (l : List AliasTree). slice_index_or l i no_alias) same
    ∙ at_map view c.args.aliases.now i c.index-aliases-only.result no_alias
    (subst (λ z. z < length c.args.aliases.now) (sym (ap (λ l. get_or l 0 0) c.as_slice.ensures.value))
    (c.requires.within 0 0 (omega (arith, ap length c.as_slice.ensures.value))))
    ∙ ap view (sym c.index-aliases-only.is))
    (λ n. ready.not_placed i m n) (no_loop s placed g ready (sym mark ∙ c.if-group.false) i m)
    (used_before s placed g ready i only (sym mark ∙ c.if-group.false))))
    c.expand.ensures.expanding
