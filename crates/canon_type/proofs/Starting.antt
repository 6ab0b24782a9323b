-- Before the first alias is declared, and after the last.
use Rattle.std.proofs.Common.{◌≡◌, ℕ, ◌<◌, zero, suc, List, [], ◌∷◌, Option, Some, None, length, map, get_or, refl, sym, ap, ◌∙◌, subst}
use Rattle.std.specs.Prelude.{replicate, option_map}
use Rattle.canon_env.specs.Shown.{alias_meaning}
use Rattle.std.proofs.lemmas.List.{length-map}
use Rattle.elm_canon.specs.Names.{Name}
use Rattle.decl_groups.specs.Groups.{IsOrder}
use Rattle.decl_groups.proofs.Basics.{no_member}
use Rattle.decl_groups.specs.View.{joined}
use Rattle.canon_env.specs.declared.env.World as env
use Rattle.canon_env.specs.Naming.{IsWorld}
use Rattle.canon_type.specs.Written.{alias_names}
use Rattle.canon_type.specs.Recursion.{place_among, uses_of}
use Rattle.canon_type.specs.CanonAliasesKept.{Setting, IsExpanding, AreExpanded, Made, made_view, got_in, meaning_at, uses_in, world_with}
use Rattle.canon_type.proofs.Ordering.{all_joined}

abbrev nothing : Made
nothing = None

none_at : (n i : ℕ) → get_or (replicate n nothing) i None ≡ None
none_at zero i = refl
none_at (suc n) zero = refl
none_at (suc n) (suc i) = none_at n i

length_of : (n : ℕ) → length (replicate n nothing) ≡ n
length_of zero = refl
length_of (suc n) = ap suc (length_of n)

pub nothing_made : (s : Setting) (world : env.World) (made : List Made) (n : ℕ) → made ≡ replicate n None →
    n ≡ length s.aliases → IsWorld world (world_with s []) → IsExpanding s world made []
nothing_made s world made n is many w = record {
  added = [];
  world_is = w;
  count = ap length is ∙ length_of n ∙ many;
  tells = λ x apart. by (place_among x (alias_names s.aliases));
  declared = λ i m. absurd (no_member i m);
  absent = λ i m. got_none i;
  within = λ i m. absurd (no_member i m);
  closed = λ i j m. absurd (no_member i m);
}
  where
    got_none : (i : ℕ) → got_in made i ≡ None
    got_none i = ap (λ l. made_view (get_or l i None)) is ∙ ap made_view (none_at n i)

    by : (o : Option ℕ) → None ≡ meaning_at o (got_in made)
    by None = refl
    by (Some p) = sym (ap (λ d. option_map alias_meaning d) (ap (λ l. made_view (get_or l p None)) is ∙ ap made_view (none_at n p)))

pub expanded_all : (s : Setting) (world : env.World) (made : List Made) (groups : List (List ℕ)) →
    IsOrder (uses_in s) [] groups → IsExpanding s world made (joined groups) → AreExpanded s world made
expanded_all s world made groups order h = record {
  groups = groups;
  order = order;
  added = h.added;
  world_is = h.world_is;
  count = h.count;
  tells = h.tells;
  declared = λ i l.
      h.declared i
      (all_joined (uses_in s) [] groups order i
      (subst (λ n. i < n) (sym (length-map s.aliases (uses_of s.names (alias_names s.aliases)))) l));
}
