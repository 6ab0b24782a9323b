-- Where what a module shows is in scope, the rows of its names name what is in scope.
use Rattle.std.proofs.Common.{◌≡◌, List, [], ◌∷◌, ◌++◌, map, Bool, true, false, subst}
use Rattle.std.specs.Prelude.{◌&&◌, if◌then◌else◌}
use Rattle.std.specs.List.{flat_map}
use Rattle.std.proofs.lemmas.List.{map-append}
use Rattle.elm_canon.specs.Names.{Name}
use Rattle.elm_canon.specs.Unions.{Union}
use Rattle.elm_canon.specs.Tree.{UnionDeclaration, AliasDeclaration}
use Rattle.elm_canon.specs.declared.reference.Ref.{Ref}
use Rattle.elm_canon.specs.declared.reference.Ref.TheVariants.{Top}
use Rattle.elm_canon.specs.declared.unions.Alternative.{Alternative}
use Rattle.canon_env.specs.Imports.{Exposing, Everything, exposes_value, exposes_type, exposes_makers}
use Rattle.canon_env.specs.Found.{Row, rows_of}
use Rattle.canon_env.specs.Shown.{Shown, MakerMeaning, record_meaning}
use Rattle.canon_env.specs.Env.{Known, when, value_named, record_maker, maker, declared_alternatives, shown_rows}
use Rattle.canon_env.specs.Env.{import_rows, imported_rows}
use Rattle.canon_env.specs.Env as env
use Rattle.canon_env.specs.declared.found.Named.{Named}
use Rattle.elm_canon.specs.Proper.{Scope, IsIn}
use Rattle.canon_proper.specs.Rows.{AreInScope, HaveUnions}
use Rattle.canon_proper.proofs.Scopes.{in_first, in_later}
use Rattle.canon_proper.proofs.Apart.{in_left, in_right}
use Rattle.module_proper.specs.Modules.{tops, HasAll, union_makers, alias_makers, shown_makers, AreOffered}

-- ---- names

pub has_left : (scope : Scope) (xs ys : List Ref) → HasAll scope (xs ++ ys) → HasAll scope xs
has_left scope xs ys h = λ r i. h r (in_left r xs ys i)

pub has_right : (scope : Scope) (xs ys : List Ref) → HasAll scope (xs ++ ys) → HasAll scope ys
has_right scope xs ys h = λ r i. h r (in_right r xs ys i)

pub tops_join : (home : Name) (xs ys : List Name) → tops home (xs ++ ys) ≡ tops home xs ++ tops home ys
tops_join home xs ys = map-append (λ x. Top home x) xs ys

pub tops_left : (home : Name) (scope : Scope) (xs ys : List Name) → HasAll scope (tops home (xs ++ ys)) →
    HasAll scope (tops home xs)
tops_left home scope xs ys h =
    has_left scope (tops home xs) (tops home ys) (subst (HasAll scope) (tops_join home xs ys) h)

pub tops_right : (home : Name) (scope : Scope) (xs ys : List Name) → HasAll scope (tops home (xs ++ ys)) →
    HasAll scope (tops home ys)
tops_right home scope xs ys h =
    has_right scope (tops home xs) (tops home ys) (subst (HasAll scope) (tops_join home xs ys) h)

-- ---- rows

pub in_wider : {M : Type 0} (rows : List (Row M)) (a b : Scope) → HasAll b a → AreInScope rows a → AreInScope rows b
in_wider [] a b h p = tt
in_wider (r ∷ rows) a b h p = (h (Top r.home r.name) p.0, in_wider rows a b h p.1)

rows_more : {M : Type 0} (xs ys : List (Row M)) (scope : Scope) → AreInScope xs scope → AreInScope ys scope →
    AreInScope (xs ++ ys) scope
rows_more [] ys scope p q = q
rows_more (x ∷ xs) ys scope p q = (p.0, rows_more xs ys scope p.1 q)

abbrev AreNamed : {M : Type 0} → Name → Scope → List (Named M) → Type 0
AreNamed home scope [] = Unit {0}
AreNamed home scope (n ∷ ns) = IsIn (Top home n.name) scope × AreNamed home scope ns

named_more : {M : Type 0} (home : Name) (scope : Scope) (xs ys : List (Named M)) → AreNamed home scope xs →
    AreNamed home scope ys → AreNamed home scope (xs ++ ys)
named_more home scope [] ys p q = q
named_more home scope (x ∷ xs) ys p q = (p.0, named_more home scope xs ys p.1 q)

rows_named : {M : Type 0} (q home : Name) (scope : Scope) (ns : List (Named M)) → AreNamed home scope ns →
    AreInScope (rows_of q home ns) scope
rows_named q home scope [] p = tt
rows_named q home scope (n ∷ ns) p = (p.0, rows_named q home scope ns p.1)

-- ---- values

values_named : (p : Name → Bool) (home : Name) (scope : Scope) (xs : List Name) → HasAll scope (tops home xs) →
    AreNamed home scope (flat_map (value_named p) xs)
values_named p home scope [] h = tt
values_named p home scope (x ∷ xs) h =
    named_more home scope (value_named p x) (flat_map (value_named p) xs) (by (p x))
    (values_named p home scope xs (λ r i. h r (in_later r (Top home x) (tops home xs) i)))
  where
    by : (b : Bool) → AreNamed {M = Unit {0}} home scope (when b (record { name = x; meaning = tt }))
    by true = (h (Top home x) (in_first (Top home x) (tops home xs)), tt)
    by false = tt

-- ---- constructors

makers_named : (u : Union) (home : Name) (scope : Scope) (cs : List Alternative) →
    HasAll scope (tops home (map (λ (c : Alternative). c.name) cs)) → AreNamed home scope (map (maker u) cs)
makers_named u home scope [] h = tt
makers_named u home scope (c ∷ cs) h =
    let rest = tops home (map (λ (d : Alternative). d.name) cs) in
    let first = Top home c.name in
    (h first (in_first first rest), makers_named u home scope cs (λ r i. h r (in_later r first rest i)))

one_union : (p : Name → Bool) (home : Name) (scope : Scope) (u : UnionDeclaration) →
    HasAll scope (tops home (union_makers u)) → AreNamed home scope (env.union_makers p u)
one_union p home scope u h = by (p u.name)
  where
    by : (b : Bool) → AreNamed home scope (if b then map (maker u.union) (declared_alternatives u.union) else [])
    by true = makers_named u.union home scope (declared_alternatives u.union) h
    by false = tt

unions_named : (p : Name → Bool) (home : Name) (scope : Scope) (us : List UnionDeclaration) →
    HasAll scope (tops home (flat_map union_makers us)) → AreNamed home scope (flat_map (env.union_makers p) us)
unions_named p home scope [] h = tt
unions_named p home scope (u ∷ us) h =
    named_more home scope (env.union_makers p u) (flat_map (env.union_makers p) us)
    (one_union p home scope u (tops_left home scope (union_makers u) (flat_map union_makers us) h))
    (unions_named p home scope us (tops_right home scope (union_makers u) (flat_map union_makers us) h))

one_alias : (p : Name → Bool) (home : Name) (scope : Scope) (a : AliasDeclaration) →
    HasAll scope (tops home (alias_makers a)) → AreNamed home scope (record_maker p a)
one_alias p home scope a h = by a.is_maker (p a.name) h
  where
    by : (b c : Bool) → HasAll scope (tops home (when b a.name)) →
        AreNamed {M = MakerMeaning} home scope (when (b && c) (record { name = a.name; meaning = record_meaning a }))
    by true true h = (h (Top home a.name) (in_first (Top home a.name) []), tt)
    by true false h = tt
    by false c h = tt

aliases_named : (p : Name → Bool) (home : Name) (scope : Scope) (ds : List AliasDeclaration) →
    HasAll scope (tops home (flat_map alias_makers ds)) → AreNamed home scope (flat_map (record_maker p) ds)
aliases_named p home scope [] h = tt
aliases_named p home scope (a ∷ ds) h =
    named_more home scope (record_maker p a) (flat_map (record_maker p) ds)
    (one_alias p home scope a (tops_left home scope (alias_makers a) (flat_map alias_makers ds) h))
    (aliases_named p home scope ds (tops_right home scope (alias_makers a) (flat_map alias_makers ds) h))

-- ---- the rows of a module

pub shown_values : (q home : Name) (e : Exposing) (s : Shown) (scope : Scope) → HasAll scope (tops home s.values) →
    AreInScope (shown_rows q home e s).values scope
shown_values q home e s scope h =
    rows_named q home scope (flat_map (value_named (exposes_value e)) s.values)
    (values_named (exposes_value e) home scope s.values h)

pub makers_there : (q home : Name) (e : Exposing) (s : Shown) (scope : Scope) →
    HasAll scope (tops home (shown_makers s)) → AreInScope (shown_rows q home e s).makers scope
makers_there q home e s scope h =
    let us = flat_map union_makers s.unions in
    let ds = flat_map alias_makers s.aliases in
    rows_named q home scope _
    (named_more home scope (flat_map (env.union_makers (exposes_makers e)) s.unions)
    (flat_map (record_maker (exposes_type e)) s.aliases)
    (unions_named (exposes_makers e) home scope s.unions (tops_left home scope us ds h))
    (aliases_named (exposes_type e) home scope s.aliases (tops_right home scope us ds h)))

-- ---- the rows of imports

pub imported_values : (ks : List Known) (scope : Scope) → AreOffered ks scope →
    AreInScope (imported_rows ks).values scope
imported_values [] scope o = tt
imported_values (k ∷ ks) scope o =
    let home = k.import.home in
    rows_more (import_rows k).values (imported_rows ks).values scope
    (rows_more (shown_rows k.import.qualifier home Everything k.shown).values
    (shown_rows [] home k.import.exposes k.shown).values scope
    (shown_values k.import.qualifier home Everything k.shown scope o.0.values)
    (shown_values [] home k.import.exposes k.shown scope o.0.values)) (imported_values ks scope o.1)

pub imported_makers : (ks : List Known) (scope : Scope) → AreOffered ks scope →
    AreInScope (imported_rows ks).makers scope
imported_makers [] scope o = tt
imported_makers (k ∷ ks) scope o =
    let home = k.import.home in
    rows_more (import_rows k).makers (imported_rows ks).makers scope
    (rows_more (shown_rows k.import.qualifier home Everything k.shown).makers
    (shown_rows [] home k.import.exposes k.shown).makers scope
    (makers_there k.import.qualifier home Everything k.shown scope o.0.makers)
    (makers_there [] home k.import.exposes k.shown scope o.0.makers)) (imported_makers ks scope o.1)

pub imported_unions : (ks : List Known) (scope : Scope) → AreOffered ks scope → HaveUnions ks
imported_unions [] scope o = tt
imported_unions (k ∷ ks) scope o = (o.0.unions, imported_unions ks scope o.1)
