-- What the names of a module mean, by its imports and by its own declarations: the rows of three spaces of names.
-- (Elm guide: modules.) A name is a constructor beside being the name of a type.
use Rattle.std.specs.Prelude.{List, [], ◌∷◌, ◌++◌, Bool, ◌&&◌, if◌then◌else◌, map, flat_map}
use Rattle.elm_canon.specs.Names.{Name}
use Rattle.elm_canon.specs.Unions.{Union, TupleUnion, ListUnion, Declared}
use Rattle.elm_canon.specs.Tree.{UnionDeclaration, AliasDeclaration}
use Rattle.elm_canon.specs.declared.unions.Alternative.{Alternative}
use Rattle.canon_env.specs.Found.{Row, rows_of, named_by}
use Rattle.canon_env.specs.Shown.{Shown, shown_view, TypeMeaning, MakerMeaning, OfUnion, union_meaning, alias_meaning}
use Rattle.canon_env.specs.Shown.{record_meaning, type_meaning_view, maker_meaning_view}
use Rattle.canon_env.specs.Imports.{Exposing, Everything, exposes_value, exposes_type, exposes_makers, Import}
use Rattle.canon_env.specs.Imports.{import_view}
use Rattle.canon_env.specs.Space.{Tells}
use Rattle.canon_env.specs.declared.found.Named.{Named}
use Rattle.canon_env.specs.declared.shown.TypeMeaning as type_meaning
use Rattle.canon_env.specs.declared.shown.MakerMeaning as maker_meaning
use Rattle.canon_env.specs.declared.env.Env.{Env}
use Rattle.canon_env.specs.declared.env.Known as known

-- ---- the names that a module shows, as far as they pass

abbrev pub when : {A : Type 0} → Bool → A → List A
when b x = if b then x ∷ [] else []

-- of a value there is nothing more to tell
abbrev pub value_named : (Name → Bool) → Name → List (Named (Unit {0}))
value_named p x = when (p x) (record { name = x; meaning = tt })

abbrev pub values_by : (Name → Bool) → Shown → List (Named (Unit {0}))
values_by p s = flat_map (value_named p) s.values

abbrev pub union_type : (Name → Bool) → UnionDeclaration → List (Named TypeMeaning)
union_type p u = when (p u.name) (record { name = u.name; meaning = union_meaning u })

abbrev pub alias_type : (Name → Bool) → AliasDeclaration → List (Named TypeMeaning)
alias_type p a = when (p a.name) (record { name = a.name; meaning = alias_meaning a })

abbrev pub types_by : (Name → Bool) → Shown → List (Named TypeMeaning)
types_by p s = flat_map (union_type p) s.unions ++ flat_map (alias_type p) s.aliases

-- the constructors of a union that a module declares
abbrev pub declared_alternatives : Union → List Alternative
declared_alternatives (TupleUnion n) = []
declared_alternatives ListUnion = []
declared_alternatives (Declared home name cs) = cs

abbrev pub maker : Union → Alternative → Named MakerMeaning
maker u c = record { name = c.name; meaning = OfUnion u c }

abbrev pub union_makers : (Name → Bool) → UnionDeclaration → List (Named MakerMeaning)
union_makers p u = if p u.name then map (maker u.union) (declared_alternatives u.union) else []

abbrev pub record_maker : (Name → Bool) → AliasDeclaration → List (Named MakerMeaning)
record_maker p a = when (a.is_maker && p a.name) (record { name = a.name; meaning = record_meaning a })

-- constructors of unions that pass the first test, and of aliases that pass the second
abbrev pub makers_by : (Name → Bool) → (Name → Bool) → Shown → List (Named MakerMeaning)
makers_by p r s = flat_map (union_makers p) s.unions ++ flat_map (record_maker r) s.aliases

-- ---- rows

pub record Rows : Type 0 where
  pub values : List (Row (Unit {0}))
  pub types : List (Row TypeMeaning)
  pub makers : List (Row MakerMeaning)

abbrev pub no_rows : Rows
no_rows = record { values = []; types = []; makers = [] }

abbrev pub join : Rows → Rows → Rows
join a b = record { values = a.values ++ b.values; types = a.types ++ b.types; makers = a.makers ++ b.makers }

-- what is exposed of the names of a module, with a qualifier
abbrev pub shown_rows : Name → Name → Exposing → Shown → Rows
shown_rows q home e s = record {
  values = rows_of q home (values_by (exposes_value e) s);
  types = rows_of q home (types_by (exposes_type e) s);
  makers = rows_of q home (makers_by (exposes_makers e) (exposes_type e) s);
}

-- an import beside what its module shows
pub record Known : Type 0 where
  pub import : Import
  pub shown : Shown

-- all that the module shows with the qualifier, and what is exposed without one
abbrev pub import_rows : Known → Rows
import_rows k =
    join (shown_rows k.import.qualifier k.import.home Everything k.shown)
    (shown_rows [] k.import.home k.import.exposes k.shown)

abbrev pub imported_rows : List Known → Rows
imported_rows [] = no_rows
imported_rows (k ∷ ks) = join (import_rows k) (imported_rows ks)

-- a module's own names have no qualifier
abbrev pub own_rows : Name → Shown → Rows
own_rows home s = shown_rows [] home Everything s

-- and one more type of a module, without a qualifier
abbrev pub with_type : Rows → Name → Name → TypeMeaning → Rows
with_type rows home x m = record {
  values = rows.values;
  types = rows.types ++ rows_of [] home (record { name = x; meaning = m } ∷ []);
  makers = rows.makers;
}

-- ---- what the program keeps

abbrev pub known_view : known.Known → Known
known_view k = record { import = import_view k.import.now; shown = shown_view k.shown.now }

abbrev pub value_view : Unit {0} → Unit {0}
value_view m = tt

-- names with what they mean
abbrev pub named_values : List (Named (Unit {0})) → List (Named (Unit {0}))
named_values ns = map (named_by value_view) ns

abbrev pub named_types : List (Named type_meaning.TypeMeaning) → List (Named TypeMeaning)
named_types ns = map (named_by type_meaning_view) ns

abbrev pub named_makers : List (Named maker_meaning.MakerMeaning) → List (Named MakerMeaning)
named_makers ns = map (named_by maker_meaning_view) ns

-- an environment says what the rows say
pub record IsEnvOf (env : Env) (rows : Rows) : Type 0 where
  pub values : Tells value_view env.values rows.values
  pub types : Tells type_meaning_view env.types rows.types
  pub makers : Tells maker_meaning_view env.makers rows.makers
