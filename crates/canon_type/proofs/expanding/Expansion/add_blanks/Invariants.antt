use Rattle.std.proofs.Common.{◌≡◌, ℕ, ◌++◌, List, true, length, take}
use Rattle.std.specs.List.{Contains}
use Rattle.elm_tree.specs.Turns.{tokens_view}
use Rattle.decl_groups.specs.Groups.{Ascends}
use Rattle.decl_groups.specs.InOrder.{uses_itself}
use Rattle.canon_type.specs.Written.{alias_names}
use Rattle.canon_type.specs.Kept.{Keeps, aliases_view}
use Rattle.canon_type.specs.CanonAliasesKept.{Setting, IsSetting, IsExpanding, uses_in}
use Rattle.canon_type.proofs.expanding.Expansion.add_blanks.Given as goal

abbrev pub invariant-loop-place : goal.invariant-loop-place
invariant-loop-place l = record {
  count : length l.self.made.items ≡ length l.aliases;
  expanding : (s : Setting) (placed : List ℕ) → IsSetting s → s.home ≡ l.home →
      Keeps l.names s.names (alias_names s.aliases) → s.aliases ≡ aliases_view (tokens_view l.tokens) l.aliases →
      IsExpanding s l.initial.self.world l.initial.self.made.items placed → Ascends l.places →
      ((i : ℕ) → Contains l.places i → Contains placed i → ⊥) →
      ((i : ℕ) → Contains l.places i → uses_itself (uses_in s) i ≡ true) →
      IsExpanding s l.self.world l.self.made.items (placed ++ take l.place-index l.places);
}
