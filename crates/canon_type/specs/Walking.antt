-- The walk over a written type, part by part.
use Rattle.std.specs.Prelude.{List, flat_map}
use Rattle.elm_tree.specs.Tree.{TypeTree}
use Rattle.elm_tree.specs.View as tree
use Rattle.elm_tree.specs.declared.tree.Word.{Word}
use Rattle.elm_tree.specs.declared.tree.FieldType.{FieldType}
use Rattle.elm_canon.specs.View.{NamedType}
use Rattle.canon_env.specs.Imports.{name_of}
use Rattle.canon_env.specs.declared.finding.Finding.{Finding}
use Rattle.canon_env.specs.Naming.{World}
use Rattle.canon_env.specs.Sites.{faults_at}
use Rattle.canon_env.specs.Types.{type_of, type_sites}

-- the faults in a type
abbrev pub faults_in : World → TypeTree → List Finding
faults_in w t = flat_map (faults_at w) (type_sites w t)

-- a field
abbrev pub named_of : World → tree.NamedType → NamedType
named_of w f = (name_of f.0, type_of w f.1)

abbrev pub field_faults : World → tree.NamedType → List Finding
field_faults w f = faults_in w f.1

abbrev pub field_name : FieldType → Word
field_name f = f.name
