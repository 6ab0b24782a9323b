-- What an alias stands for. (Elm guide: type aliases.)
use Rattle.std.specs.Prelude.{ℕ, List, Bool, true, false, if◌then◌else◌, map}
use Rattle.elm_tree.specs.Tree as tree
use Rattle.elm_tree.specs.Tree.{TypeTree}
use Rattle.elm_canon.specs.Tree.{Annotation, AliasDeclaration}
use Rattle.decl_groups.specs.InOrder.{uses_itself}
use Rattle.canon_env.specs.Imports.{name_of}
use Rattle.canon_env.specs.Naming.{World}
use Rattle.canon_env.specs.Expanding.{blank}
use Rattle.canon_env.specs.Types.{type_of}
use Rattle.canon_type.specs.Written.{AliasTree}

-- a closed record is written
abbrev pub is_record : TypeTree → Bool
is_record (tree.RecordType fs) = true
is_record _ = false

-- what the alias at a place stands for, by the aliases that each uses: one that reaches itself stands for nothing
abbrev pub body_of : World → List (List ℕ) → ℕ → TypeTree → Annotation
body_of w uses i t = if uses_itself uses i then blank else type_of w t

-- an alias that stands for this type
abbrev pub standing_for : AliasTree → Annotation → AliasDeclaration
standing_for a t = record {
  name = name_of a.name;
  parameters = map name_of a.parameters;
  body = t;
  is_maker = is_record a.body;
}

abbrev pub alias_of : World → List (List ℕ) → ℕ × AliasTree → AliasDeclaration
alias_of w uses a = standing_for a.1 (body_of w uses a.0 a.1.body)
