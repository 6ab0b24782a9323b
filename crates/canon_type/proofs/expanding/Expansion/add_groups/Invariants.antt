use Rattle.std.proofs.Common.{◌≡◌, [], length, map, take}
use Rattle.elm_tree.specs.Turns.{tokens_view}
use Rattle.decl_groups.specs.Groups.{IsOrder}
use Rattle.decl_groups.specs.InOrder.{is_recursive}
use Rattle.decl_groups.specs.View.{members_of, marks_of, joined}
use Rattle.canon_type.specs.Written.{alias_names}
use Rattle.canon_type.specs.Kept.{Keeps, aliases_view}
use Rattle.canon_type.specs.CanonAliasesKept.{Setting, IsSetting, IsExpanding, uses_in}
use Rattle.canon_type.proofs.expanding.Expansion.add_groups.Given as goal

abbrev pub invariant-loop-group : goal.invariant-loop-group
invariant-loop-group l = record {
  count : length l.self.made.items ≡ length l.aliases;
  expanding : (s : Setting) → IsSetting s → s.home ≡ l.home → Keeps l.names s.names (alias_names s.aliases) →
      s.aliases ≡ aliases_view (tokens_view l.tokens) l.aliases →
      IsExpanding s l.initial.self.world l.initial.self.made.items [] →
      IsOrder (uses_in s) [] (members_of l.groups) →
      marks_of l.groups ≡ map (is_recursive (uses_in s)) (members_of l.groups) →
      IsExpanding s l.self.world l.self.made.items (joined (members_of (take l.group-index l.groups)));
}
