-- Aliases that are declared one after the other, in the order of their groups.
use Rattle.std.specs.Prelude.{◌≡◌, ℕ, ◌<◌, List, [], ◌∷◌, ◌++◌, Bool, false, ◌==◌, if◌then◌else◌, Option, Some, None, option_map}
use Rattle.std.specs.Prelude.{length, map}
use Rattle.std.specs.List.{Contains, slice_index_or}
use Rattle.std.specs.declared.alloc.Global.{Global}
use Rattle.std.specs.declared.sync.Arc.{Arc}
use Rattle.elm_tree.specs.Tree.{RecordType, NoFieldType}
use Rattle.elm_canon.specs.Names.{Name, same_name}
use Rattle.elm_canon.specs.Tree.{AliasDeclaration}
use Rattle.elm_canon.specs.View.{alias_declaration_view}
use Rattle.elm_canon.specs.declared.tree.AliasDeclaration as program
use Rattle.decl_groups.specs.Groups.{Uses, IsOrder}
use Rattle.decl_groups.specs.InOrder.{uses_itself}
use Rattle.canon_env.specs.Exposing.{is_among}
use Rattle.canon_env.specs.Found.{rows_of}
use Rattle.canon_env.specs.Shown.{TypeMeaning, alias_meaning}
use Rattle.canon_env.specs.Env.{Rows, with_type}
use Rattle.canon_env.specs.declared.found.Named.{Named}
use Rattle.canon_env.specs.declared.env.World as env
use Rattle.canon_env.specs.Naming.{World, IsWorld}
use Rattle.canon_type.specs.Written.{AliasTree, alias_names}
use Rattle.canon_type.specs.Recursion.{place_among, alias_uses}
use Rattle.canon_type.specs.Types.{alias_of}

-- what the first of that name means
abbrev pub first : {M : Type 0} → Name → List (Named M) → Option M
first x [] = None
first x (n ∷ ns) = if same_name x n.name then Some n.meaning else first x ns

-- the aliases that are declared so far, by their places
abbrev pub Got : Type 0
Got = ℕ → Option AliasDeclaration

abbrev pub meaning_at : Option ℕ → Got → Option TypeMeaning
meaning_at None got = None
meaning_at (Some p) got = option_map alias_meaning (got p)

abbrev pub named : Name → AliasDeclaration → Named TypeMeaning
named y d = record { name = y; meaning = alias_meaning d }

-- these names mean the aliases that are declared so far, where no union has the name
abbrev pub Tells : List Name → List Name → Got → List (Named TypeMeaning) → Type 0
Tells unions names got added =
    (x : Name) → is_among x unions ≡ false → first x added ≡ meaning_at (place_among x names) got

-- a module: its name, its unions' rows, names and meanings, what it imports, and its aliases
pub record Setting : Type 0 where
  pub home : Name
  pub base : Rows
  pub unions : List (Named TypeMeaning)
  pub imported : Rows
  pub names : List Name
  pub aliases : List AliasTree

pub record IsSetting (s : Setting) : Type 0 where
  pub rows : s.base.types ≡ rows_of [] s.home s.unions
  pub named_so : map (λ (n : Named TypeMeaning). n.name) s.unions ≡ s.names

abbrev pub uses_in : Setting → List (List ℕ)
uses_in s = alias_uses s.names s.aliases

abbrev pub no_alias : AliasTree
no_alias = record {
  name = record { place = record { row = 1; column = 1 }; text = [] };
  parameters = [];
  body = RecordType NoFieldType;
}

abbrev pub alias_at : Setting → ℕ → AliasTree
alias_at s i = slice_index_or s.aliases i no_alias

abbrev pub own_with : Setting → List (Named TypeMeaning) → Rows
own_with s added = record {
  values = s.base.values;
  types = s.base.types ++ rows_of [] s.home added;
  makers = s.base.makers;
}

abbrev pub world_with : Setting → List (Named TypeMeaning) → World
world_with s added = record { name = s.home; own = own_with s added; imported = s.imported }

abbrev pub Made : Type 0
Made = Option (Arc program.AliasDeclaration Global)

abbrev pub made_view : Made → Option AliasDeclaration
made_view o = option_map (λ a. alias_declaration_view a.value) o

abbrev pub got_in : List Made → Got
got_in made i = made_view (slice_index_or made i None)

-- the aliases at these places are declared, and no others
pub record IsExpanding (s : Setting) (world : env.World) (made : List Made) (placed : List ℕ) : Type 0 where
  pub added : List (Named TypeMeaning)
  pub world_is : IsWorld world (world_with s added)
  pub count : length made ≡ length s.aliases
  pub tells : Tells s.names (alias_names s.aliases) (got_in made) added
  pub declared : (i : ℕ) → Contains placed i →
      got_in made i ≡ Some (alias_of (world_with s added) (uses_in s) (i, alias_at s i))
  pub absent : (i : ℕ) → (Contains placed i → ⊥) → got_in made i ≡ None
  pub within : (i : ℕ) → Contains placed i → i < length s.aliases
  pub closed : (i j : ℕ) → Contains placed i → uses_itself (uses_in s) i ≡ false → Uses (uses_in s) i j →
      Contains placed j

-- the place is this one
abbrev pub is_place : ℕ → Option ℕ → Bool
is_place i None = false
is_place i (Some p) = p == i

-- a type more, if it is the first of its name
abbrev pub with_first : Bool → Rows → Name → Name → TypeMeaning → Rows
with_first is_first rows home x m = if is_first then with_type rows home x m else rows

-- all aliases are declared, in an order of use: each stands for what its body means in the world that they make
pub record AreExpanded (s : Setting) (world : env.World) (made : List Made) : Type 0 where
  pub groups : List (List ℕ)
  pub order : IsOrder (uses_in s) [] groups
  pub added : List (Named TypeMeaning)
  pub world_is : IsWorld world (world_with s added)
  pub count : length made ≡ length s.aliases
  pub tells : Tells s.names (alias_names s.aliases) (got_in made) added
  pub declared : (i : ℕ) → i < length s.aliases →
      got_in made i ≡ Some (alias_of (world_with s added) (uses_in s) (i, alias_at s i))
