-- Where the constructors of unions meet a condition, those that names mean meet it: `rows_meet`.
use Rattle.std.proofs.Common.{List, [], ◌∷◌, ◌++◌, Bool, true, false, cond, subst}
use Rattle.std.specs.Prelude.{◌&&◌, if◌then◌else◌, filter, map}
use Rattle.std.specs.List.{AllByRecursion, list_all, flat_map}
use Rattle.elm_tree.specs.Tree.{Long}
use Rattle.elm_canon.specs.Names.{Name, same_name}
use Rattle.elm_canon.specs.Unions.{Union}
use Rattle.elm_canon.specs.declared.unions.Alternative.{Alternative}
use Rattle.elm_canon.specs.Tree.{UnionDeclaration, AliasDeclaration}
use Rattle.canon_env.specs.Found.{Found, Nothing, One, Several, Row, found_in, find, own_or, is_written, meant, rows_of}
use Rattle.canon_env.specs.Shown.{Shown, MakerMeaning, OfUnion, OfRecord, record_meaning}
use Rattle.canon_env.specs.Imports.{Exposing, Everything, exposes_type, exposes_makers}
use Rattle.canon_env.specs.Env.{Known, own_rows, import_rows, imported_rows, shown_rows, makers_by, union_makers}
use Rattle.canon_env.specs.Env.{record_maker, declared_alternatives, maker, when}
use Rattle.canon_env.specs.declared.found.Named.{Named}
use Rattle.canon_env.specs.Naming.{World, qualifier_of, own_name, maker_found}
use Rattle.elm_canon.specs.Mentions.{Condition}
use Rattle.module_proper.specs.Laws.{AllMeet}

-- the constructors of a union, and of unions
abbrev pub UnionMeets : Condition → UnionDeclaration → Type 0
UnionMeets P u = AllByRecursion (P u.union) (declared_alternatives u.union)

abbrev pub UnionsMeet : Condition → List UnionDeclaration → Type 0
UnionsMeet P us = AllByRecursion (UnionMeets P) us

-- those that imported modules show
abbrev pub ImportsMeet : Condition → List Known → Type 0
ImportsMeet P ks = AllByRecursion (λ (k : Known). UnionsMeet P k.shown.unions) ks

module _ (P : Condition) where
  abbrev Meets : MakerMeaning → Type 0
  Meets (OfUnion u c) = P u c
  Meets (OfRecord fields) = Unit {0}

  abbrev RowsMeet : List (Row MakerMeaning) → Type 0
  RowsMeet [] = Unit {0}
  RowsMeet (r ∷ rows) = Meets r.meaning × RowsMeet rows

  abbrev FoundMeets : Found MakerMeaning → Type 0
  FoundMeets Nothing = Unit {0}
  FoundMeets (One m) = Meets m.meaning
  FoundMeets Several = Unit {0}

  -- ---- what is found in rows

  kept_meet : (q x : Name) (rows : List (Row MakerMeaning)) → RowsMeet rows → RowsMeet (filter (is_written q x) rows)
  kept_meet q x [] h = tt
  kept_meet q x (r ∷ rows) h = by (is_written q x r) (kept_meet q x rows h.1)
    where
      by : (b : Bool) → RowsMeet (filter (is_written q x) rows) →
          RowsMeet (cond b (r ∷ filter (is_written q x) rows) (filter (is_written q x) rows))
      by true rest = (h.0, rest)
      by false rest = rest

  first_meets : (rows : List (Row MakerMeaning)) → RowsMeet rows → FoundMeets (found_in rows)
  first_meets [] h = tt
  first_meets (r ∷ rows) h = by (list_all (λ s. same_name r.home s.home) rows)
    where
      by : (b : Bool) → FoundMeets (if b then One (meant r) else Several)
      by true = h.0
      by false = tt

  own_meets : (a b : Found MakerMeaning) → FoundMeets a → FoundMeets b → FoundMeets (own_or a b)
  own_meets Nothing b p q = q
  own_meets (One m) b p q = p
  own_meets Several b p q = p

  found_meets : (w : World) → RowsMeet w.own.makers → RowsMeet w.imported.makers → (x : Long) →
      FoundMeets (maker_found w x)
  found_meets w own imported x =
      own_meets (find w.own.makers (qualifier_of x) (own_name x)) (find w.imported.makers (qualifier_of x) (own_name x))
      (first_meets (filter (is_written (qualifier_of x) (own_name x)) w.own.makers)
      (kept_meet (qualifier_of x) (own_name x) w.own.makers own))
      (first_meets (filter (is_written (qualifier_of x) (own_name x)) w.imported.makers)
      (kept_meet (qualifier_of x) (own_name x) w.imported.makers imported))

  -- ---- the rows of unions

  abbrev NamesMeet : List (Named MakerMeaning) → Type 0
  NamesMeet [] = Unit {0}
  NamesMeet (n ∷ ns) = Meets n.meaning × NamesMeet ns

  names_more : (xs ys : List (Named MakerMeaning)) → NamesMeet xs → NamesMeet ys → NamesMeet (xs ++ ys)
  names_more [] ys p q = q
  names_more (x ∷ xs) ys p q = (p.0, names_more xs ys p.1 q)

  rows_more : (xs ys : List (Row MakerMeaning)) → RowsMeet xs → RowsMeet ys → RowsMeet (xs ++ ys)
  rows_more [] ys p q = q
  rows_more (x ∷ xs) ys p q = (p.0, rows_more xs ys p.1 q)

  named_rows : (q home : Name) (ns : List (Named MakerMeaning)) → NamesMeet ns → RowsMeet (rows_of q home ns)
  named_rows q home [] p = tt
  named_rows q home (n ∷ ns) p = (p.0, named_rows q home ns p.1)

  each_maker : (u : Union) (cs : List Alternative) → AllByRecursion (P u) cs → NamesMeet (map (maker u) cs)
  each_maker u [] p = tt
  each_maker u (c ∷ cs) p = (p.0, each_maker u cs p.1)

  of_union : (test : Name → Bool) (u : UnionDeclaration) → UnionMeets P u → NamesMeet (union_makers test u)
  of_union test u h = by (test u.name)
    where
      by : (b : Bool) → NamesMeet (if b then map (maker u.union) (declared_alternatives u.union) else [])
      by true = each_maker u.union (declared_alternatives u.union) h
      by false = tt

  of_unions : (test : Name → Bool) (us : List UnionDeclaration) → UnionsMeet P us →
      NamesMeet (flat_map (union_makers test) us)
  of_unions test [] h = tt
  of_unions test (u ∷ us) h =
      names_more (union_makers test u) (flat_map (union_makers test) us) (of_union test u h.0) (of_unions test us h.1)

  of_alias : (test : Name → Bool) (a : AliasDeclaration) → NamesMeet (record_maker test a)
  of_alias test a = by (a.is_maker && test a.name)
    where
      by : (b : Bool) → NamesMeet (when b (record { name = a.name; meaning = record_meaning a }))
      by true = (tt, tt)
      by false = tt

  of_aliases : (test : Name → Bool) (ds : List AliasDeclaration) → NamesMeet (flat_map (record_maker test) ds)
  of_aliases test [] = tt
  of_aliases test (a ∷ ds) =
      names_more (record_maker test a) (flat_map (record_maker test) ds) (of_alias test a) (of_aliases test ds)

  shown_meet : (q home : Name) (e : Exposing) (s : Shown) → UnionsMeet P s.unions →
      RowsMeet (shown_rows q home e s).makers
  shown_meet q home e s h =
      named_rows q home (makers_by (exposes_makers e) (exposes_type e) s)
      (names_more (flat_map (union_makers (exposes_makers e)) s.unions)
      (flat_map (record_maker (exposes_type e)) s.aliases) (of_unions (exposes_makers e) s.unions h)
      (of_aliases (exposes_type e) s.aliases))

  imports_meet : (ks : List Known) → ImportsMeet P ks → RowsMeet (imported_rows ks).makers
  imports_meet [] h = tt
  imports_meet (k ∷ ks) h =
      rows_more (import_rows k).makers (imported_rows ks).makers
      (rows_more (shown_rows k.import.qualifier k.import.home Everything k.shown).makers
      (shown_rows [] k.import.home k.import.exposes k.shown).makers
      (shown_meet k.import.qualifier k.import.home Everything k.shown h.0)
      (shown_meet [] k.import.home k.import.exposes k.shown h.0)) (imports_meet ks h.1)

  -- ---- names

  pub rows_meet : (home x : Name) (s : Shown) (ks : List Known) → UnionsMeet P s.unions → ImportsMeet P ks →
      AllMeet P (record { name = x; own = own_rows home s; imported = imported_rows ks })
  rows_meet home x s ks own imports y m u c e =
      subst FoundMeets e
      (found_meets (record { name = x; own = own_rows home s; imported = imported_rows ks })
      (shown_meet [] home Everything s own) (imports_meet ks imports) y)
