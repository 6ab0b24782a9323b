-- What a link takes of modules that leave ports as they are: `links_leave_ports`. A place that is reached has a name
-- that a definition uses, or it is that of `main`: so its name is that of a value.
use Rattle.std.proofs.Common.{◌≡◌, ℕ, zero, suc, ◌+◌, List, [], ◌∷◌, ◌++◌, Bool, true, false, if◌then◌else◌}
use Rattle.std.proofs.Common.{⊎_elim, Option, Some, None, option_map, map, length, refl, sym, ap, ◌∙◌, subst, codes}
use Rattle.std.proofs.Common.{arith}
use Rattle.std.proofs.lemmas.Bool.{false≢true}
use Rattle.std.specs.Prelude.{slice_get, flat_map, pos, ◌&&◌, ◌||◌}
use Rattle.std.specs.List.{AllByRecursion, Contains, filter_map, cons_option}
use Rattle.elm_canon.specs.Names.{Name, same_name}
use Rattle.elm_canon.specs.declared.reference.Ref.{Ref}
use Rattle.elm_canon.specs.declared.reference.Ref.TheVariants.{Local, Top}
use Rattle.elm_canon.specs.Tree.{Known, Maker, RecordMaker, OutPort, InPort, PortDeclaration}
use Rattle.elm_canon.specs.Tree.{Declaration, Given, Define}
use Rattle.elm_canon.specs.declared.unions.Alternative.{Alternative}
use Rattle.elm_canon.specs.declared.unions.Tag.TheVariants.{Number}
use Rattle.elm_meaning.specs.Functions.{Primitive}
use Rattle.elm_meaning.specs.Seen.{same_tag}
use Rattle.canon_env.proofs.Adding.{one_name}
use Rattle.canon_env.specs.Uses.{group_uses}
use Rattle.link.specs.Cores.{core_of, kept_by, others}
use Rattle.decl_groups.specs.Groups.{list_at, Uses, Reaches, here, through}
use Rattle.decl_groups.proofs.Basics.{no_member, member_cases}
use Rattle.decl_groups.proofs.Reaching.{sound, both}
use Rattle.link.specs.Names.{TopName, same_top, is_among, top_names, noted, each_once}
use Rattle.link.specs.Link.{main_name}
use Rattle.link.specs.Reached.{declares, place_of, places_used, reaches_from, is_reached, kept}
use Rattle.link.specs.Programs.{Item, Core, Declared, items_of, item_names, item_uses, declarations_in, reached_items}
use Rattle.link.specs.Programs.{Source, program_of}
use Rattle.project_proper.specs.Resolved.{source_of}
use Rattle.program_safety.specs.Leaving.{is_small, IsSmallUse, Leaves}
use Rattle.program_safety.specs.Ports.{is_port_home, KeepsPorts}
use Rattle.build_safety.specs.Compiled.{Compiled, resolved_of}
use Rattle.build_safety.specs.LinkedPieces.{linked_program}
use Rattle.build_safety.specs.KeptLinks.{ModuleLeaves, LinksLeavePorts}

-- ---- names that are used

abbrev IsSmall : TopName → Type 0
IsSmall z = is_port_home z.0 ≡ true → is_small z.1 ≡ true

both_all : {X : Type 0} (P : X → Type 0) (xs ys : List X) → AllByRecursion P xs → AllByRecursion P ys →
    AllByRecursion P (xs ++ ys)
both_all P [] ys a b = b
both_all P (x ∷ xs) ys a b = (a.0, both_all P xs ys a.1 b)

small_names : (rs : List Ref) → AllByRecursion IsSmallUse rs → AllByRecursion IsSmall (top_names rs)
small_names [] a = tt
small_names (Local x ∷ rs) a = small_names rs a.1
small_names (Top m x ∷ rs) a = (a.0, small_names rs a.1)

small_noted : (before xs : List TopName) → AllByRecursion IsSmall before → AllByRecursion IsSmall xs →
    AllByRecursion IsSmall (noted before xs)
small_noted before [] a b = a
small_noted before (x ∷ xs) a b = small_noted (next (is_among x before)) xs (by (is_among x before)) b.1
  where
    next : Bool → List TopName
    next c = if c then before else before ++ x ∷ []

    by : (c : Bool) → AllByRecursion IsSmall (if c then before else before ++ x ∷ [])
    by true = a
    by false = both_all IsSmall before (x ∷ []) a (b.0, tt)

-- ---- items

abbrev ItemLeaves : Item → Type 0
ItemLeaves (Core p) = Unit {0}
ItemLeaves (Declared ports d) = Leaves d

small_uses : (i : Item) → ItemLeaves i → AllByRecursion IsSmall (item_uses i)
small_uses (Core p) l = tt
small_uses (Declared ports (Given r k)) l = tt
small_uses (Declared ports (Define g)) l = small_noted [] (top_names (group_uses g)) tt (small_names (group_uses g) l.1)

small_each : (is : List Item) → AllByRecursion ItemLeaves is →
    AllByRecursion (λ us. AllByRecursion IsSmall us) (map item_uses is)
small_each [] a = tt
small_each (i ∷ is) a = (small_uses i a.0, small_each is a.1)

cores_leave : (ps : List (Ref × Primitive)) → AllByRecursion ItemLeaves (map Core ps)
cores_leave [] = tt
cores_leave (p ∷ ps) = (tt, cores_leave ps)

declared_leave : (ports : List PortDeclaration) (ds : List Declaration) → AllByRecursion Leaves ds →
    AllByRecursion ItemLeaves (map (Declared ports) ds)
declared_leave ports [] a = tt
declared_leave ports (d ∷ ds) a = (a.0, declared_leave ports ds a.1)

others_leave : (ds : List Declaration) → AllByRecursion Leaves ds → AllByRecursion Leaves (others ds)
others_leave [] a = tt
others_leave (d ∷ ds) a = by (core_of d) (others_leave ds a.1)
  where
    by : (o : Option (Ref × Primitive)) → AllByRecursion Leaves (others ds) →
        AllByRecursion Leaves (kept_by o d (others ds))
    by None rest = (a.0, rest)
    by (Some p) rest = rest

items_leave : (cs : List Compiled) → AllByRecursion ModuleLeaves cs →
    AllByRecursion ItemLeaves (flat_map items_of (map source_of (resolved_of cs)))
items_leave [] a = tt
items_leave (c ∷ cs) a =
    both_all ItemLeaves (items_of s) (flat_map items_of (map source_of (resolved_of cs)))
    (both_all ItemLeaves (map Core s.cores) (map (Declared s.tree.ports) s.tree.declarations) (cores_leave s.cores)
    (declared_leave s.tree.ports s.tree.declarations (others_leave c.resolved.whole.declarations a.0)))
    (items_leave cs a.1)
  where
    s : Source
    s = source_of c.resolved

-- ---- places

same_small : (m x : Name) (z : TopName) → same_top (m, x) z ≡ true → IsSmall z → is_port_home m ≡ true →
    is_small x ≡ true
same_small m x z e small home =
    let h = both (same_name m z.0) (same_name x z.1) e in
    subst (λ y. is_small y ≡ true) (sym (one_name x z.1 h.1))
    (small (subst (λ n. is_port_home n ≡ true) (one_name m z.0 h.0) home))

or_false : (b : Bool) → (b || false) ≡ true → b ≡ true
or_false true e = refl
or_false false e = e

place_at : (is : List Item) (z : TopName) (i : ℕ) (it : Item) → place_of (map item_names is) z ≡ Some i →
    slice_get is i ≡ Some it → declares (item_names it) z ≡ true
place_at [] z i it e f = absurd cc
place_at (k ∷ is) z i it e f =
    by (declares (item_names k) z) refl (place_of (map item_names is) z) (λ j g h. place_at is z j it g h) i e f
  where
    by : (b : Bool) → declares (item_names k) z ≡ b → (o : Option ℕ) →
        ((j : ℕ) → o ≡ Some j → slice_get is j ≡ Some it → declares (item_names it) z ≡ true) → (i : ℕ) →
        (if b then Some 0 else option_map suc o) ≡ Some i → slice_get (k ∷ is) i ≡ Some it →
        declares (item_names it) z ≡ true
    by true h o rest zero e f = let s : k ≡ it = cc in subst (λ y. declares (item_names y) z ≡ true) s h
    by true h o rest (suc i) e f = absurd cc
    by false h None rest i e f = absurd cc
    by false h (Some n) rest zero e f = absurd cc
    by false h (Some n) rest (suc i) e f = let s : n ≡ i = cc in rest i (ap Some s) f

-- ---- what is reached

module _ (names : List (List TopName)) where
  -- the place has a name of a value
  abbrev Named : ℕ → Type 0
  Named i = (z : TopName) × IsSmall z × (place_of names z ≡ Some i)

  named_row : (us : List TopName) (i : ℕ) → AllByRecursion IsSmall us → Contains (filter_map (place_of names) us) i →
      Named i
  named_row [] i a c = absurd (no_member i c)
  named_row (u ∷ us) i a c = by (place_of names u) refl c (named_row us i a.1)
    where
      by : (o : Option ℕ) → place_of names u ≡ o → Contains (cons_option o (filter_map (place_of names) us)) i →
          (Contains (filter_map (place_of names) us) i → Named i) → Named i
      by None e c rest = rest c
      by (Some k) e c rest =
          ⊎_elim (λ s. (u, a.0, e ∙ ap Some s)) rest (member_cases k i (filter_map (place_of names) us) c)

  named_use : (uses : List (List TopName)) (j i : ℕ) → AllByRecursion (λ us. AllByRecursion IsSmall us) uses →
      Contains (list_at (places_used names uses) j) i → Named i
  named_use [] j i a c = absurd (no_member i c)
  named_use (us ∷ uses) zero i a c = named_row us i a.0 c
  named_use (us ∷ uses) (suc j) i a c = named_use uses j i a.1 c

  module _ (uses : List (List TopName)) (small : AllByRecursion (λ us. AllByRecursion IsSmall us) uses) where
    named_from : {s i : ℕ} → Reaches (places_used names uses) s i → Named s → Named i
    named_from here n = n
    named_from (through {i = s} {j = j} u r) n = named_from r (named_use uses s j small u)

    named : (start : TopName) → IsSmall start → (i : ℕ) → is_reached names uses start i ≡ true → Named i
    unfolding is_reached
    named start h i e = by (place_of names start) refl e
      where
        by : (o : Option ℕ) → place_of names start ≡ o → reaches_from (places_used names uses) o i ≡ true → Named i
        by None f e = absurd (false≢true e)
        by (Some s) f e =
            named_from (sound (places_used names uses) (length (places_used names uses)) s i e) (start, h, f)

-- ---- what is kept

module _ (all : List Item) (start : TopName) (leaves : AllByRecursion ItemLeaves all) (small : IsSmall start) where
  abbrev test : ℕ → Bool
  test = is_reached (map item_names all) (map item_uses all) start

  maker_keeps : (n : ℕ) (ports : List PortDeclaration) (m x : Name) (c : Alternative) → test n ≡ true →
      slice_get all n ≡ Some (Declared ports (Given (Top m x) (Maker c))) → Leaves (Given (Top m x) (Maker c)) →
      KeepsPorts (Given (Top m x) (Maker c))
  maker_keeps n ports m x c t at large = by (is_port_home m) refl
    where
      h : Named (map item_names all) n
      h = named (map item_names all) (map item_uses all) (small_each all leaves) start small n t

      same : same_top (m, x) h.0 ≡ true
      same = or_false (same_top (m, x) h.0)
          (place_at all h.0 n (Declared ports (Given (Top m x) (Maker c))) h.2 at)

      by : (b : Bool) → is_port_home m ≡ b → KeepsPorts (Given (Top m x) (Maker c))
      by true home = absurd (false≢true (sym (large home) ∙ same_small m x h.0 same h.1 home))
      by false home = ap (λ b. b && same_tag c.tag (Number (pos 0))) home

  keeps : (n : ℕ) (ports : List PortDeclaration) (d : Declaration) → test n ≡ true →
      slice_get all n ≡ Some (Declared ports d) → Leaves d → KeepsPorts d
  keeps n ports (Given (Local x) k) t at l = tt
  keeps n ports (Given (Top m x) (Maker c)) t at l = maker_keeps n ports m x c t at l
  keeps n ports (Given (Top m x) (RecordMaker ks)) t at l = tt
  keeps n ports (Given (Top m x) (OutPort port p)) t at l = tt
  keeps n ports (Given (Top m x) (InPort port p)) t at l = tt
  keeps n ports (Define g) t at l = l.0

  kept_from : (n : ℕ) (is : List Item) → ((j : ℕ) (it : Item) → slice_get is j ≡ Some it →
      slice_get all (n + j) ≡ Some it) → AllByRecursion ItemLeaves is →
      AllByRecursion KeepsPorts (declarations_in (kept test n is))
  kept_from n [] at a = tt
  kept_from n (i ∷ is) at a =
      by (test n) refl (kept_from (suc n) is (λ j it e. ap (slice_get all) (omega arith) ∙ at (suc j) it e) a.1)
    where
      here_is : slice_get all n ≡ Some i
      here_is = ap (slice_get all) (omega arith) ∙ at 0 i refl

      own : test n ≡ true → (it : Item) → i ≡ it →
          AllByRecursion KeepsPorts (declarations_in (kept test (suc n) is)) →
          AllByRecursion KeepsPorts (declarations_in (it ∷ kept test (suc n) is))
      own t (Core p) e rest = rest
      own t (Declared ports d) e rest = (keeps n ports d t (here_is ∙ ap Some e) (subst ItemLeaves e a.0), rest)

      by : (b : Bool) → test n ≡ b → AllByRecursion KeepsPorts (declarations_in (kept test (suc n) is)) →
          AllByRecursion KeepsPorts (declarations_in (if b then i ∷ kept test (suc n) is else kept test (suc n) is))
      by true t rest = own t i refl rest
      by false t rest = rest

pub links_leave_ports : LinksLeavePorts
unfolding program_of reached_items
links_leave_ports cs entry a =
    kept_from all (main_name entry.resolved.whole.name) (items_leave cs a) (λ home. refl) 0 all
    (λ j it e. ap (slice_get all) (omega arith) ∙ e) (items_leave cs a)
  where
    all : List Item
    all = flat_map items_of (map source_of (resolved_of cs))
