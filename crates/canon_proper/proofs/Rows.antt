-- What the rows of names say: what they name is in scope, and their constructors are constructors of their unions.
use Rattle.std.proofs.Common.{◌≡◌, List, [], ◌∷◌, ◌++◌, Bool, true, false, cond, refl, sym, subst}
use Rattle.std.specs.Prelude.{◌&&◌, if◌then◌else◌, filter, map}
use Rattle.std.specs.List.{list_all, flat_map}
use Rattle.std.proofs.lemmas.Bool.{and_parts}
use Rattle.elm_canon.specs.Names.{Name, same_name}
use Rattle.elm_canon.specs.Unions.{Union}
use Rattle.elm_canon.specs.declared.unions.Alternative.{Alternative}
use Rattle.elm_canon.specs.declared.reference.Ref.TheVariants.{Top}
use Rattle.elm_canon.specs.Tree.{UnionDeclaration, AliasDeclaration}
use Rattle.canon_env.specs.Found.{Found, Nothing, One, Several, Row, found_in, find, own_or, look, is_written, meant}
use Rattle.canon_env.specs.Found.{rows_of}
use Rattle.canon_env.specs.Shown.{Shown, MakerMeaning, record_meaning}
use Rattle.canon_env.specs.Imports.{Exposing, Everything, exposes_type, exposes_makers}
use Rattle.canon_env.specs.Env.{Known, own_rows, import_rows, imported_rows, shown_rows, makers_by, union_makers}
use Rattle.canon_env.specs.Env.{record_maker}
use Rattle.canon_env.specs.Env.{declared_alternatives, maker, when}
use Rattle.canon_env.specs.declared.found.Named.{Named}
use Rattle.canon_env.proofs.Adding.{one_name}
use Rattle.canon_env.specs.Naming.{World, qualifier_of, own_name}
use Rattle.elm_canon.specs.Proper.{Scope, IsIn}
use Rattle.canon_proper.specs.Worlds.{IsMaker, AreMakers, HasNames}
use Rattle.canon_proper.specs.Rows.{AreInScope, HasRows, AreConstructors, AreUnions, HaveUnions}

-- ---- names

module _ {M : Type 0} (scope : Scope) where
  abbrev IfNamed : Name → Found M → Type 0
  IfNamed x Nothing = Unit {0}
  IfNamed x Several = Unit {0}
  IfNamed x (One m) = IsIn (Top m.home x) scope

  -- each row is in scope by this name
  abbrev AreNamed : Name → List (Row M) → Type 0
  AreNamed x [] = Unit {0}
  AreNamed x (r ∷ rows) = IsIn (Top r.home x) scope × AreNamed x rows

  named_kept : (q x : Name) (rows : List (Row M)) → AreInScope rows scope → AreNamed x (filter (is_written q x) rows)
  named_kept q x [] a = tt
  named_kept q x (r ∷ rows) a = by (is_written q x r) refl (named_kept q x rows a.1)
    where
      by : (b : Bool) → is_written q x r ≡ b → AreNamed x (filter (is_written q x) rows) →
          AreNamed x (cond b (r ∷ filter (is_written q x) rows) (filter (is_written q x) rows))
      by true e rest =
          let same = one_name x r.name (and_parts (same_name q r.qualifier) (same_name x r.name) e).1 in
          (subst (λ y. IsIn (Top r.home y) scope) (sym same) a.0, rest)
      by false e rest = rest

  first_named : (x : Name) (rows : List (Row M)) → AreNamed x rows → IfNamed x (found_in rows)
  first_named x [] a = tt
  first_named x (r ∷ rows) a = by (list_all (λ s. same_name r.home s.home) rows)
    where
      by : (b : Bool) → IfNamed x (if b then One (meant r) else Several)
      by true = a.0
      by false = tt

  own_named : (x : Name) (a b : Found M) → IfNamed x a → IfNamed x b → IfNamed x (own_or a b)
  own_named x Nothing b p q = q
  own_named x (One m) b p q = p
  own_named x Several b p q = p

  look_named : (own imported : List (Row M)) (q x : Name) → AreInScope own scope → AreInScope imported scope →
      IfNamed x (look own imported q x)
  look_named own imported q x a b =
      own_named x (find own q x) (find imported q x)
      (first_named x (filter (is_written q x) own) (named_kept q x own a))
      (first_named x (filter (is_written q x) imported) (named_kept q x imported b))

pub names_are : (w : World) (scope : Scope) → HasRows w scope → HasNames w scope
names_are w scope h = record {
  values = λ x m e. subst (IfNamed scope (own_name x)) e
      (look_named scope w.own.values w.imported.values (qualifier_of x) (own_name x) h.own_values h.imported_values);
  makers = λ x m e. subst (IfNamed scope (own_name x)) e
      (look_named scope w.own.makers w.imported.makers (qualifier_of x) (own_name x) h.own_makers h.imported_makers);
  operators = h.operators;
}

-- ---- constructors

abbrev AreMeanings : List (Named MakerMeaning) → Type 0
AreMeanings [] = Unit {0}
AreMeanings (n ∷ ns) = IsMaker n.meaning × AreMeanings ns

meanings_more : (xs ys : List (Named MakerMeaning)) → AreMeanings xs → AreMeanings ys → AreMeanings (xs ++ ys)
meanings_more [] ys p q = q
meanings_more (x ∷ xs) ys p q = (p.0, meanings_more xs ys p.1 q)

makers_more : (xs ys : List (Row MakerMeaning)) → AreMakers xs → AreMakers ys → AreMakers (xs ++ ys)
makers_more [] ys p q = q
makers_more (x ∷ xs) ys p q = (p.0, makers_more xs ys p.1 q)

rows_are : (q home : Name) (ns : List (Named MakerMeaning)) → AreMeanings ns → AreMakers (rows_of q home ns)
rows_are q home [] p = tt
rows_are q home (n ∷ ns) p = (p.0, rows_are q home ns p.1)

each_maker : (u : Union) (cs : List Alternative) → AreConstructors u cs → AreMeanings (map (maker u) cs)
each_maker u [] p = tt
each_maker u (c ∷ cs) p = (p.0, each_maker u cs p.1)

of_union : (p : Name → Bool) (u : UnionDeclaration) → AreConstructors u.union (declared_alternatives u.union) →
    AreMeanings (union_makers p u)
of_union p u c = by (p u.name)
  where
    by : (b : Bool) → AreMeanings (if b then map (maker u.union) (declared_alternatives u.union) else [])
    by true = each_maker u.union (declared_alternatives u.union) c
    by false = tt

of_unions : (p : Name → Bool) (us : List UnionDeclaration) → AreUnions us → AreMeanings (flat_map (union_makers p) us)
of_unions p [] c = tt
of_unions p (u ∷ us) c =
    meanings_more (union_makers p u) (flat_map (union_makers p) us) (of_union p u c.0) (of_unions p us c.1)

of_alias : (r : Name → Bool) (a : AliasDeclaration) → AreMeanings (record_maker r a)
of_alias r a = by (a.is_maker && r a.name)
  where
    by : (b : Bool) → AreMeanings (when b (record { name = a.name; meaning = record_meaning a }))
    by true = (tt, tt)
    by false = tt

of_aliases : (r : Name → Bool) (ds : List AliasDeclaration) → AreMeanings (flat_map (record_maker r) ds)
of_aliases r [] = tt
of_aliases r (a ∷ ds) = meanings_more (record_maker r a) (flat_map (record_maker r) ds) (of_alias r a) (of_aliases r ds)

shown_are : (q home : Name) (e : Exposing) (s : Shown) → AreUnions s.unions → AreMakers (shown_rows q home e s).makers
shown_are q home e s c =
    rows_are q home (makers_by (exposes_makers e) (exposes_type e) s)
    (meanings_more (flat_map (union_makers (exposes_makers e)) s.unions)
    (flat_map (record_maker (exposes_type e)) s.aliases) (of_unions (exposes_makers e) s.unions c)
    (of_aliases (exposes_type e) s.aliases))

pub own_are : (home : Name) (s : Shown) → AreUnions s.unions → AreMakers (own_rows home s).makers
own_are home s c = shown_are [] home Everything s c

pub imported_are : (ks : List Known) → HaveUnions ks → AreMakers (imported_rows ks).makers
imported_are [] c = tt
imported_are (k ∷ ks) c =
    makers_more (import_rows k).makers (imported_rows ks).makers
    (makers_more (shown_rows k.import.qualifier k.import.home Everything k.shown).makers
    (shown_rows [] k.import.home k.import.exposes k.shown).makers
    (shown_are k.import.qualifier k.import.home Everything k.shown c.0)
    (shown_are [] k.import.home k.import.exposes k.shown c.0)) (imported_are ks c.1)
