-- The aliases that a module can name have no other variables than their parameters: those that its imports show by
-- what is said of these, and its own ones each after those that it uses.
use Rattle.std.proofs.Common.{◌≡◌, ℕ, ◌+◌, ◌<◌, suc, List, [], ◌∷◌, ◌++◌, map, length, Bool, true, false}
use Rattle.std.proofs.Common.{if◌then◌else◌, Option, Some, None, ◌⊎◌, inl, inr, ⊎_elim, refl, sym, ap, ◌∙◌, subst}
use Rattle.std.proofs.Common.{arith}
use Rattle.std.specs.Prelude.{filter, flat_map, filter_map, option_map}
use Rattle.std.specs.List.{AllByRecursion, Contains, enumerate_from, slice_index_or, list_all}
use Rattle.std.proofs.lemmas.Bool.{false≢true}
use Rattle.std.proofs.lemmas.Cmp.{nat_list_eq_equiv}
use Rattle.std.proofs.lemmas.List.{length-map}
use Rattle.decl_groups.specs.Groups.{Uses, list_at, IsOrder, all_placed, next, IsReady}
use Rattle.decl_groups.proofs.Basics.{no_member, member_cases}
use Rattle.decl_groups.specs.InOrder.{is_recursive, uses_itself, ordered_groups}
use Rattle.decl_groups.proofs.Standing.{member_append}
use Rattle.decl_groups.proofs.Ordering.{order_is}
use Rattle.elm_tree.specs.Tree.{Declaration, Long}
use Rattle.elm_canon.specs.Names.{Name, same_name}
use Rattle.elm_canon.specs.Tree.{UnionDeclaration, AliasDeclaration}
use Rattle.canon_env.specs.Imports.{name_of, exposes_type, Everything}
use Rattle.canon_env.specs.Exposing.{is_among}
use Rattle.canon_env.specs.Env.{Known, union_type, alias_type, types_by, when, import_rows, imported_rows}
use Rattle.canon_env.specs.Found.{Row, Found, Nothing, One, Several, is_written, found_in, find, own_or, rows_of, meant}
use Rattle.canon_env.specs.Shown.{Shown, TypeMeaning, alias_meaning, union_meaning}
use Rattle.canon_env.specs.declared.found.Meant.{Meant}
use Rattle.canon_env.specs.declared.found.Named.{Named}
use Rattle.canon_env.proofs.Adding.{one_name}
use Rattle.canon_env.specs.Naming.{World, own_name, qualifier_of}
use Rattle.canon_env.specs.Types.{type_of, type_sites}
use Rattle.canon_env.specs.Expanding.{blank}
use Rattle.canon_type.specs.Written.{AliasTree, aliases_in, alias_names, names_in, union_names_in, variables_in}
use Rattle.canon_type.specs.Recursion.{place_among, alias_place, uses_of}
use Rattle.canon_type.proofs.Naming.{within}
use Rattle.canon_type.specs.Unions.{UnionTree, unions_in}
use Rattle.canon_type.specs.Types.{body_of, alias_of}
use Rattle.canon_type.specs.CanonAliasesKept.{first, no_alias}
use Rattle.canon_type.proofs.Agreeing.{each_weaker, each_used}
use Rattle.canon_type.proofs.Firsts.{of_module, found_first, none_found, first-append}
use Rattle.canon_type.proofs.Grouping.{aliases_within, loops, used_before}
use Rattle.canon_type.proofs.Steps.{at_map}
use Rattle.canon_type.specs.DeclaredTypes.{module_world, uses_in, AreDeclared}
use Rattle.canon_type.specs.DeclaredTypesKept.{union_named, setting_of}
use Rattle.canon_type.proofs.Meaning.{alias_named, is_setting, types_are}
use Rattle.canon_proper.proofs.Quiet.{AreSound}
use Rattle.elm_grammar.specs.Written.{HasResults}
use Rattle.told_modules.specs.Closed.{IsNamed, IsClosed, AliasesAreClosed, ImportsAreClosed, BodyIsClosed}
use Rattle.told_modules.specs.Closed.{NameIsClosed}
use Rattle.told_modules.proofs.Types.{WordHas, type_has}

-- ---- what imports show

abbrev RowsWell : List (Row TypeMeaning) → Type 0
RowsWell [] = Unit {0}
RowsWell (r ∷ rows) = BodyIsClosed r.meaning.parameters r.meaning.body × RowsWell rows

abbrev NamedWell : List (Named TypeMeaning) → Type 0
NamedWell [] = Unit {0}
NamedWell (n ∷ ns) = BodyIsClosed n.meaning.parameters n.meaning.body × NamedWell ns

rows_more : (xs ys : List (Row TypeMeaning)) → RowsWell xs → RowsWell ys → RowsWell (xs ++ ys)
rows_more [] ys p q = q
rows_more (x ∷ xs) ys p q = (p.0, rows_more xs ys p.1 q)

named_more : (xs ys : List (Named TypeMeaning)) → NamedWell xs → NamedWell ys → NamedWell (xs ++ ys)
named_more [] ys p q = q
named_more (x ∷ xs) ys p q = (p.0, named_more xs ys p.1 q)

rows_named : (q home : Name) (ns : List (Named TypeMeaning)) → NamedWell ns → RowsWell (rows_of q home ns)
rows_named q home [] p = tt
rows_named q home (n ∷ ns) p = (p.0, rows_named q home ns p.1)

unions_well : (p : Name → Bool) (us : List UnionDeclaration) → NamedWell (flat_map (union_type p) us)
unions_well p [] = tt
unions_well p (u ∷ us) =
    named_more (union_type p u) (flat_map (union_type p) us) (by (p u.name)) (unions_well p us)
  where
    by : (b : Bool) → NamedWell (when b (record { name = u.name; meaning = union_meaning u }))
    by true = (tt, tt)
    by false = tt

aliases_well : (p : Name → Bool) (ds : List AliasDeclaration) → AliasesAreClosed ds →
    NamedWell (flat_map (alias_type p) ds)
aliases_well p [] h = tt
aliases_well p (a ∷ ds) h =
    named_more (alias_type p a) (flat_map (alias_type p) ds) (by (p a.name)) (aliases_well p ds h.1)
  where
    by : (b : Bool) → NamedWell (when b (record { name = a.name; meaning = alias_meaning a }))
    by true = (h.0, tt)
    by false = tt

types_well : (p : Name → Bool) (s : Shown) → AliasesAreClosed s.aliases → NamedWell (types_by p s)
types_well p s h =
    named_more (flat_map (union_type p) s.unions) (flat_map (alias_type p) s.aliases) (unions_well p s.unions)
    (aliases_well p s.aliases h)

imported_well : (ks : List Known) → ImportsAreClosed ks → RowsWell (imported_rows ks).types
imported_well [] h = tt
imported_well (k ∷ ks) h =
    rows_more (import_rows k).types (imported_rows ks).types
    (rows_more (rows_of k.import.qualifier k.import.home (types_by (exposes_type Everything) k.shown))
    (rows_of [] k.import.home (types_by (exposes_type k.import.exposes) k.shown))
    (rows_named k.import.qualifier k.import.home (types_by (exposes_type Everything) k.shown)
    (types_well (exposes_type Everything) k.shown h.0))
    (rows_named [] k.import.home (types_by (exposes_type k.import.exposes) k.shown)
    (types_well (exposes_type k.import.exposes) k.shown h.0)))
    (imported_well ks h.1)

-- what is found among rows is one of them
first_found : (rows : List (Row TypeMeaning)) (m : Meant TypeMeaning) → RowsWell rows → found_in rows ≡ One m →
    BodyIsClosed m.meaning.parameters m.meaning.body
first_found [] m h e = absurd (cc)
first_found (r ∷ rows) m h e = by (list_all (λ (s : Row TypeMeaning). same_name r.home s.home) rows) e
  where
    by : (b : Bool) → (if b then One (meant r) else Several) ≡ One m → BodyIsClosed m.meaning.parameters m.meaning.body
    by true is =
        let same : meant r ≡ m = cc in
        subst (λ (n : Meant TypeMeaning). BodyIsClosed n.meaning.parameters n.meaning.body) same h.0
    by false is = absurd (cc)

kept_well : (p : Row TypeMeaning → Bool) (rows : List (Row TypeMeaning)) → RowsWell rows → RowsWell (filter p rows)
kept_well p [] h = tt
kept_well p (r ∷ rows) h = by (p r) (kept_well p rows h.1)
  where
    by : (b : Bool) → RowsWell (filter p rows) → RowsWell (if b then r ∷ filter p rows else filter p rows)
    by true rest = (h.0, rest)
    by false rest = rest

found_well : (rows : List (Row TypeMeaning)) (q x : Name) (m : Meant TypeMeaning) → RowsWell rows →
    find rows q x ≡ One m → BodyIsClosed m.meaning.parameters m.meaning.body
found_well rows q x m h e = first_found (filter (is_written q x) rows) m (kept_well (is_written q x) rows h) e

-- ---- the module's own types

one_of_two : (f g : Found TypeMeaning) (m : Meant TypeMeaning) → own_or f g ≡ One m → (f ≡ One m) ⊎ (g ≡ One m)
one_of_two Nothing g m e = inr e
one_of_two (One n) g m e = inl e
one_of_two Several g m e = absurd (cc)

union_first : (x : Name) (us : List UnionTree) (m : TypeMeaning) → first x (map union_named us) ≡ Some m →
    BodyIsClosed m.parameters m.body
union_first x [] m e = absurd (cc)
union_first x (u ∷ us) m e = by (same_name x (name_of u.name)) (union_first x us m) e
  where
    by : (b : Bool) → (first x (map union_named us) ≡ Some m → BodyIsClosed m.parameters m.body) →
        (if b then Some (union_named u).meaning else first x (map union_named us)) ≡ Some m →
        BodyIsClosed m.parameters m.body
    by true rest h =
        let same : (union_named u).meaning ≡ m = cc in
        subst (λ (n : TypeMeaning). BodyIsClosed n.parameters n.body) same tt
    by false rest h = rest h

-- an alias is written without faults
pub record IsWritten (w : World) (a : AliasTree) : Type 0 where
  pub results : HasResults a.body
  pub sound : AreSound w (type_sites w a.body)
  pub bound : AllByRecursion (WordHas (IsNamed (map name_of a.parameters))) (variables_in a.body)

-- what the alias at a place stands for
abbrev IsWell : World → List (List ℕ) → ℕ → AliasTree → Type 0
IsWell w uses i a = IsClosed (map name_of a.parameters) (body_of w uses i a.body)

alias_first : (w : World) (uses : List (List ℕ)) (x : Name) (n : ℕ) (trees : List AliasTree) (m : TypeMeaning) →
    first x (map alias_named (map (alias_of w uses) (enumerate_from n trees))) ≡ Some m →
    ((p : ℕ) → place_among x (alias_names trees) ≡ Some p → IsWell w uses (n + p) (slice_index_or trees p no_alias)) →
    BodyIsClosed m.parameters m.body
alias_first w uses x n [] m e h = absurd (cc)
alias_first w uses x n (t ∷ trees) m e h =
    by (same_name (name_of t.name) x) (same_name x (name_of t.name)) (nat_list_eq_equiv.symm (name_of t.name) x)
    (λ k. alias_first w uses x (n + 1) trees m k) e h
  where
    later : ((p : ℕ) → option_map suc (place_among x (alias_names trees)) ≡ Some p →
        IsWell w uses (n + p) (slice_index_or (t ∷ trees) p no_alias)) →
        (p : ℕ) → place_among x (alias_names trees) ≡ Some p →
        IsWell w uses (n + 1 + p) (slice_index_or trees p no_alias)
    later g p at =
        let k : n + suc p ≡ n + 1 + p = omega arith in
        subst (λ j. IsWell w uses j (slice_index_or trees p no_alias)) k (g (suc p) (ap (option_map suc) at))

    by : (b c : Bool) → b ≡ c →
        (first x (map alias_named (map (alias_of w uses) (enumerate_from (n + 1) trees))) ≡ Some m →
        ((p : ℕ) → place_among x (alias_names trees) ≡ Some p →
        IsWell w uses (n + 1 + p) (slice_index_or trees p no_alias)) → BodyIsClosed m.parameters m.body) →
        (if c then Some (alias_meaning (alias_of w uses (n, t)))
        else first x (map alias_named (map (alias_of w uses) (enumerate_from (n + 1) trees)))) ≡ Some m →
        ((p : ℕ) → (if b then Some 0 else option_map suc (place_among x (alias_names trees))) ≡ Some p →
        IsWell w uses (n + p) (slice_index_or (t ∷ trees) p no_alias)) → BodyIsClosed m.parameters m.body
    by true true is rest k g =
        let same : alias_meaning (alias_of w uses (n, t)) ≡ m = cc in
        let z : n + 0 ≡ n = omega arith in
        subst (λ (y : TypeMeaning). BodyIsClosed y.parameters y.body) same (subst (λ j. IsWell w uses j t) z (g 0 refl))
    by true false is rest k g = absurd (false≢true (sym is))
    by false true is rest k g = absurd (false≢true is)
    by false false is rest k g = rest k (later g)

-- ---- the aliases of a module, in an order of use

module _ (home : Name) (ks : List Known) (ds : List Declaration) (s : Shown)
    (d : AreDeclared home (imported_rows ks) ds s) (imports : ImportsAreClosed ks) where
  abbrev w : World
  w = module_world home (imported_rows ks) s

  abbrev trees : List AliasTree
  trees = aliases_in ds

  abbrev uses : List (List ℕ)
  uses = uses_in ds

  abbrev WellAt : ℕ → Type 0
  WellAt p = IsWell w uses p (slice_index_or trees p no_alias)

  -- the alias that a name without a qualifier means
  abbrev place_of : Long → Option ℕ
  place_of = alias_place (union_names_in ds) (alias_names trees)

  -- what the names of its own types mean
  abbrev own_names : List (Named TypeMeaning)
  own_names = map union_named (unions_in ds) ++ map alias_named s.aliases

  own_types : w.own.types ≡ rows_of [] home (map union_named (unions_in ds) ++ map alias_named s.aliases)
  own_types =
      ap (rows_of [] home)
      (types_are (setting_of home (imported_rows ks) ds) (is_setting home (imported_rows ks) ds) s w (unions_in ds) refl
      d.unions)

  alias_well : (x : Name) (m : TypeMeaning) → first x (map alias_named s.aliases) ≡ Some m →
      ((p : ℕ) → place_among x (alias_names trees) ≡ Some p → WellAt p) → BodyIsClosed m.parameters m.body
  alias_well x m e h =
      alias_first w uses x 0 trees m (ap (λ as_now. first x (map alias_named as_now)) (sym d.aliases) ∙ e)
      (λ p at. let k : p ≡ 0 + p = omega arith in
      subst (λ j. IsWell w uses j (slice_index_or trees p no_alias)) k (h p at))

  first_well : (x : Name) (m : TypeMeaning) →
      first x (map union_named (unions_in ds) ++ map alias_named s.aliases) ≡ Some m →
      ((p : ℕ) → is_among x (union_names_in ds) ≡ false → place_among x (alias_names trees) ≡ Some p → WellAt p) →
      BodyIsClosed m.parameters m.body
  first_well x m e h =
      by (is_among x (union_names_in ds)) refl
      (sym (first-append x (map union_named (unions_in ds)) (map alias_named s.aliases)
      ∙ ap
      (λ ns. if is_among x ns then first x (map union_named (unions_in ds)) else first x (map alias_named s.aliases))
      (is_setting home (imported_rows ks) ds).named_so) ∙ e)
    where
      by : (b : Bool) → is_among x (union_names_in ds) ≡ b →
          (if b then first x (map union_named (unions_in ds)) else first x (map alias_named s.aliases)) ≡ Some m →
          BodyIsClosed m.parameters m.body
      by true is k = union_first x (unions_in ds) m k
      by false is k = alias_well x m k (λ p at. h p is at)

  from_module : (o : Option TypeMeaning) (m : Meant TypeMeaning) → of_module home o ≡ One m → o ≡ Some m.meaning
  from_module None m e = absurd (cc)
  from_module (Some n) m e =
      let same : record { home = home; meaning = n } ≡ m = cc in ap (λ (z : Meant TypeMeaning). Some z.meaning) same

  own_well : (x : Long) (m : Meant TypeMeaning) → find w.own.types (qualifier_of x) (own_name x) ≡ One m →
      ((p : ℕ) → place_of x ≡ Some p → WellAt p) → BodyIsClosed m.meaning.parameters m.meaning.body
  own_well x m e h = by (same_name (qualifier_of x) []) refl
    where
      found : find (rows_of [] home own_names) (qualifier_of x) (own_name x) ≡ One m
      found = ap (λ rows. find rows (qualifier_of x) (own_name x)) (sym own_types) ∙ e

      by : (b : Bool) → same_name (qualifier_of x) [] ≡ b → BodyIsClosed m.meaning.parameters m.meaning.body
      by true is =
          first_well (own_name x) m.meaning
          (from_module (first (own_name x) own_names) m
          (sym (found_first home (own_name x) own_names)
          ∙ ap (λ q. find (rows_of [] home own_names) q (own_name x)) (sym (one_name (qualifier_of x) [] is)) ∙ found))
          (λ p apart at. h p
          (ap (λ b. if b then (if is_among (own_name x) (union_names_in ds) then None
          else place_among (own_name x) (alias_names trees)) else None) is
          ∙ ap (λ b. if b then None else place_among (own_name x) (alias_names trees)) apart ∙ at))
      by false is =
          let none = none_found home (qualifier_of x) (own_name x) own_names is in
          absurd (let e : Nothing ≡ One m = sym none ∙ found in cc)

  -- a name is well where the alias that it means is
  name_well : (x : Long) → ((p : ℕ) → place_of x ≡ Some p → WellAt p) → NameIsClosed w x
  name_well x h m e =
      ⊎_elim (λ own. own_well x m own h)
      (λ other. found_well (imported_rows ks).types (qualifier_of x) (own_name x) m (imported_well ks imports) other)
      (one_of_two (find w.own.types (qualifier_of x) (own_name x))
      (find (imported_rows ks).types (qualifier_of x) (own_name x)) m e)

  -- each alias is written without faults, and does not reach itself
  module _ (written : (p : ℕ) → p < length trees → IsWritten w (slice_index_or trees p no_alias))
      (apart : (p : ℕ) → p < length trees → uses_itself uses p ≡ false) where
    many : length uses ≡ length trees
    many = length-map trees (uses_of (union_names_in ds) (alias_names trees))

    used_at : (p : ℕ) → p < length trees →
        list_at uses p ≡ filter_map place_of (names_in (slice_index_or trees p no_alias).body)
    used_at p l = at_map (uses_of (union_names_in ds) (alias_names trees)) trees p no_alias [] l

    -- an alias whose uses are well
    one_well : (p : ℕ) → p < length trees →
        (uses_itself uses p ≡ false → (j : ℕ) → Uses uses p j → WellAt j) → WellAt p
    one_well p l h =
        let a = slice_index_or trees p no_alias in
        subst (λ b. IsClosed (map name_of a.parameters) (if b then blank else type_of w a.body)) (sym (apart p l))
        (type_has (IsNamed (map name_of a.parameters)) w a.body
        (each_weaker (λ x. (j : ℕ) → place_of x ≡ Some j → WellAt j) (NameIsClosed w) (λ x f. name_well x f)
        (names_in a.body)
        (each_used place_of WellAt (names_in a.body)
        (λ j m. h (apart p l) j (subst (λ js. Contains js j) (sym (used_at p l)) m))))
        (written p l).results (written p l).sound (written p l).bound)

    one_member : (group : List ℕ) (p : ℕ) → Contains group p → is_recursive uses group ≡ false → group ≡ p ∷ []
    one_member [] p m e = absurd (no_member p m)
    one_member (j ∷ []) p m e =
        let same : j ≡ p = ⊎_elim (λ q. q) (λ k. absurd (no_member p k)) (member_cases j p [] m) in
        ap (λ z. z ∷ []) same
    one_member (j ∷ k ∷ group) p m e = absurd (false≢true (sym e))

    -- what an alias of a group uses that does not reach itself stands in groups before
    before : (placed group : List ℕ) → IsReady uses placed group → (p : ℕ) → Contains group p →
        uses_itself uses p ≡ false → (j : ℕ) → Uses uses p j → Contains placed j
    before placed group ready p m apart j u = by (is_recursive uses group) refl
      where
        by : (b : Bool) → is_recursive uses group ≡ b → Contains placed j
        by true e =
            absurd (false≢true (sym apart ∙ loops (setting_of home (imported_rows ks) ds) placed group ready e p m))
        by false e =
            used_before (setting_of home (imported_rows ks) ds) placed group ready p (one_member group p m e) e j u

    in_turn : (placed : List ℕ) (groups : List (List ℕ)) → IsOrder uses placed groups →
        ((p : ℕ) → Contains placed p → WellAt p) → (p : ℕ) → p < length trees → WellAt p
    in_turn placed [] (all_placed f) h p l = h p (f p (omega (arith, l, many)))
    in_turn placed (g ∷ groups) (next n o) h p l =
        in_turn (placed ++ g) groups o
        (λ i m. ⊎_elim (h i)
        (λ k. one_well i (omega (arith, many, ((n.ready.is_group.members i).0 k).0))
        (λ apart j u. h j (before placed g n.ready i k apart j u)))
        (member_append placed g i m))
        p l

    pub all_well : (p : ℕ) → p < length trees → WellAt p
    all_well p l =
        in_turn [] (ordered_groups uses) (order_is uses (aliases_within (setting_of home (imported_rows ks) ds)))
        (λ i m. absurd (no_member i m)) p l

    place_inside : (x : Long) (p : ℕ) → place_of x ≡ Some p → p < length trees
    place_inside x p e =
        subst (λ n. p < n) (length-map trees (λ (a : AliasTree). name_of a.name))
        (by (same_name (qualifier_of x) []) (is_among (own_name x) (union_names_in ds))
        (place_among (own_name x) (alias_names trees)) (λ q h. within (own_name x) (alias_names trees) q h) e)
      where
        by : (b c : Bool) (o : Option ℕ) → ((q : ℕ) → o ≡ Some q → q < length (alias_names trees)) →
            (if b then (if c then None else o) else None) ≡ Some p → p < length (alias_names trees)
        by true true o f h = absurd (cc)
        by true false o f h = f p h
        by false c o f h = absurd (cc)

    pub names_well : (x : Long) → NameIsClosed w x
    names_well x m e = name_well x (λ p at. all_well p (place_inside x p at)) m e

    pub bodies_well : AliasesAreClosed s.aliases
    bodies_well =
        subst AliasesAreClosed (sym d.aliases)
        (listed 0 trees (λ i l. let k : i ≡ 0 + i = omega arith in
        subst (λ j. IsWell w uses j (slice_index_or trees i no_alias)) k (all_well i l)))
      where
        listed : (n : ℕ) (more : List AliasTree) →
            ((i : ℕ) → i < length more → IsWell w uses (n + i) (slice_index_or more i no_alias)) →
            AliasesAreClosed (map (alias_of w uses) (enumerate_from n more))
        listed n [] h = tt
        listed n (t ∷ more) h =
            let z : n + 0 ≡ n = omega arith in (
              subst (λ j. IsWell w uses j t) z (h 0 (omega arith)),
              listed (n + 1) more
                  (λ i l. let k : n + suc i ≡ n + 1 + i = omega arith in
                  subst (λ j. IsWell w uses j (slice_index_or more i no_alias)) k (h (suc i) (omega (arith, l)))),
            )
