-- What the `main` of a module reaches is a program with proper names: `links_proper`.
use Rattle.std.proofs.Common.{◌≡◌, ℕ, zero, suc, List, [], ◌∷◌, ◌++◌, Bool, true, false, Option, Some, None, map, refl}
use Rattle.std.proofs.Common.{sym, ap, ◌∙◌}
use Rattle.std.proofs.Common.{subst, ◌⊎◌, inl, inr, ⊎_elim, if◌then◌else◌, option_map, codes}
use Rattle.std.specs.Prelude.{flat_map, slice_get, is_some}
use Rattle.std.proofs.lemmas.Bool.{false≢true}
use Rattle.std.proofs.lemmas.List.{append_assoc}
use Rattle.elm_base.specs.declared.fault.Fault.{Fault}
use Rattle.elm_canon.specs.Names.{Name}
use Rattle.elm_canon.specs.declared.reference.Ref.{Ref}
use Rattle.elm_canon.specs.declared.reference.Ref.TheVariants.{Local, Top}
use Rattle.elm_canon.specs.Tree.{Declaration}
use Rattle.elm_canon.specs.Spelled.{are_fields}
use Rattle.elm_canon.specs.Proper.{Scope, among, IsIn}
use Rattle.elm_canon.specs.Declarations.{ProperDeclarations, declared_names, after_declarations}
use Rattle.elm_meaning.specs.Functions.{Primitive}
use Rattle.elm_type.specs.Types.{Scheme}
use Rattle.emit_laws.specs.Programs.{primitive_scope, in_ports}
use Rattle.canon_proper.specs.Narrower.{IsNarrower}
use Rattle.canon_proper.proofs.Apart.{in_either, in_left, in_right}
use Rattle.link.specs.Names.{TopName}
use Rattle.link.specs.Made.{fragment_of, main_of}
use Rattle.link.specs.Reached.{kept, is_reached, reached}
use Rattle.link.specs.Link.{Part, Placed, Output, Links, link, linked_or, linked_by, linked_from, link_faults}
use Rattle.link.specs.Link.{main_faults}
use Rattle.link.specs.Link.{clashes, reached_pieces, main_name, flags_in}
use Rattle.link.specs.Programs.{Source, Item, Core, Declared, part_of, items_of, item_names, item_uses, cores_in}
use Rattle.link.specs.Programs.{declarations_in, reached_items, program_of}
use Rattle.project_proper.specs.Modules.{AreProper, LinksProper, whole_scope, cores_of, refs_of, declarations_of}
use Rattle.project_proper.proofs.Sublists.{Sub, none, take, skip, kept_sub, sub_map, fresh_sub, spelled_sub, names_all}
use Rattle.project_proper.proofs.Sublists.{payloads_sub, names_sub, among_sub}
use Rattle.project_proper.proofs.Left.{in_with, in_front, after_in, after_names, after_only, all_new, left_proper}
use Rattle.project_proper.proofs.Left.{UsesKept}
use Rattle.project_proper.proofs.Closed.{refs_in, uses_kept, main_kept}
use Rattle.project_proper.proofs.Ports.{Pair, pairs_of, item_of, placed_of, placed_pairs}
use Rattle.project_proper.proofs.Ports.{items_of_pairs, ports_once, sub_declarations, source_declares}

-- ---- what is reached, seen otherwise

module _ {X Y : Type 0} (f : X → Y) where
  kept_map : (test : ℕ → Bool) (n : ℕ) (xs : List X) → map f (kept test n xs) ≡ kept test n (map f xs)
  kept_map test n [] = refl
  kept_map test n (x ∷ xs) = by (test n) (kept_map test (suc n) xs)
    where
      by : (b : Bool) → map f (kept test (suc n) xs) ≡ kept test (suc n) (map f xs) →
          map f (if b then x ∷ kept test (suc n) xs else kept test (suc n) xs)
          ≡ (if b then f x ∷ kept test (suc n) (map f xs) else kept test (suc n) (map f xs))
      by true e = ap (λ ys. f x ∷ ys) e
      by false e = e

  map_seen : {Z : Type 0} (g : Y → Z) (h : X → Z) → ((x : X) → h x ≡ g (f x)) → (xs : List X) →
      map h xs ≡ map g (map f xs)
  map_seen g h same [] = refl
  map_seen g h same (x ∷ xs) = ap (λ z. z ∷ map h xs) (same x) ∙ ap (λ zs. g (f x) ∷ zs) (map_seen g h same xs)

  reached_map : (names uses : Y → List TopName) (given_names given_uses : X → List TopName) →
      ((x : X) → given_names x ≡ names (f x)) → ((x : X) → given_uses x ≡ uses (f x)) →
      (start : TopName) (xs : List X) →
      map f (reached given_names given_uses start xs) ≡ reached names uses start (map f xs)
  reached_map names uses given_names given_uses a b start xs =
      kept_map (is_reached (map given_names xs) (map given_uses xs) start) 0 xs
      ∙ ap (λ ns. kept (is_reached ns (map given_uses xs) start) 0 (map f xs)) (map_seen names given_names a xs)
      ∙ ap (λ us. kept (is_reached (map names (map f xs)) us start) 0 (map f xs)) (map_seen uses given_uses b xs)

-- ---- what modules have, as items

abbrev all_items : List Source → List Item
all_items sources = flat_map items_of sources

declared_all : (sources : List Source) → declarations_in (all_items sources) ≡ declarations_of sources
declared_all [] = refl
declared_all (s ∷ ss) =
    source_declares s (all_items ss) ∙ ap (λ ds. s.tree.declarations ++ ds) (declared_all ss)

cores_first : (cs : List (Ref × Primitive)) (is : List Item) → cores_in (map Core cs ++ is) ≡ cs ++ cores_in is
cores_first [] is = refl
cores_first (c ∷ cs) is = ap (λ ds. c ∷ ds) (cores_first cs is)

cores_after : (ports : _) (ds : List Declaration) (is : List Item) →
    cores_in (map (Declared ports) ds ++ is) ≡ cores_in is
cores_after ports [] is = refl
cores_after ports (d ∷ ds) is = cores_after ports ds is

cores_all : (sources : List Source) → cores_in (all_items sources) ≡ cores_of sources
cores_all [] = refl
cores_all (s ∷ ss) =
    let ds = map (Declared s.tree.ports) s.tree.declarations in
    ap cores_in (append_assoc (map Core s.cores) ds (all_items ss))
    ∙ cores_first s.cores (ds ++ all_items ss)
    ∙ ap (λ cs. s.cores ++ cs) (cores_after s.tree.ports s.tree.declarations (all_items ss) ∙ cores_all ss)

sub_cores : {is js : List Item} → Sub is js → Sub (cores_in is) (cores_in js)
sub_cores none = none
sub_cores (take {x = Core p} s) = take (sub_cores s)
sub_cores (take {x = Declared ports d} s) = sub_cores s
sub_cores (skip {x = Core p} s) = skip (sub_cores s)
sub_cores (skip {x = Declared ports d} s) = sub_cores s

-- ---- names of items

names_apart : (is : List Item) (r : Ref) → IsIn r (refs_in is) →
    IsIn r (refs_of (cores_in is)) ⊎ IsIn r (names_all (declarations_in is))
names_apart [] r e = absurd (false≢true e)
names_apart (Core p ∷ is) r e =
    ⊎_elim (λ h. inl (in_left r (p.0 ∷ []) (refs_of (cores_in is)) h))
    (λ h. ⊎_elim (λ k. inl (in_right r (p.0 ∷ []) (refs_of (cores_in is)) k)) inr (names_apart is r h))
    (in_either r (p.0 ∷ []) (refs_in is) e)
names_apart (Declared ports d ∷ is) r e =
    ⊎_elim (λ h. inr (in_left r (declared_names d) (names_all (declarations_in is)) h))
    (λ h. ⊎_elim inl (λ k. inr (in_right r (declared_names d) (names_all (declarations_in is)) k))
    (names_apart is r h))
    (in_either r (declared_names d) (refs_in is) e)

core_named : (is : List Item) (r : Ref) → IsIn r (refs_of (cores_in is)) → IsIn r (refs_in is)
core_named [] r e = e
core_named (Core p ∷ is) r e =
    ⊎_elim (in_left r (p.0 ∷ []) (refs_in is)) (λ h. in_right r (p.0 ∷ []) (refs_in is) (core_named is r h))
    (in_either r (p.0 ∷ []) (refs_of (cores_in is)) e)
core_named (Declared ports d ∷ is) r e = in_right r (declared_names d) (refs_in is) (core_named is r e)

name_declared : (is : List Item) (r : Ref) → IsIn r (names_all (declarations_in is)) → IsIn r (refs_in is)
name_declared [] r e = e
name_declared (Core p ∷ is) r e = in_right r (p.0 ∷ []) (refs_in is) (name_declared is r e)
name_declared (Declared ports d ∷ is) r e =
    ⊎_elim (in_left r (declared_names d) (refs_in is))
    (λ h. in_right r (declared_names d) (refs_in is) (name_declared is r h))
    (in_either r (declared_names d) (names_all (declarations_in is)) e)

nothing_in : (r : Ref) → IsIn r [] → ⊥
nothing_in r e = false≢true e

in_cores : (cs : List (Ref × Primitive)) (r : Ref) → IsIn r (primitive_scope cs) → IsIn r (refs_of cs)
in_cores cs r e = ⊎_elim (λ h. h) (λ h. absurd (nothing_in r h)) (in_with r (refs_of cs) [] e)

cores_in_scope : (cs : List (Ref × Primitive)) (r : Ref) → IsIn r (refs_of cs) → IsIn r (primitive_scope cs)
cores_in_scope cs r e = in_front r (refs_of cs) [] e

-- ---- what is left

module _ (all : List Item) (left : List Item) (sub : Sub left all) where
  abbrev a : Scope
  a = primitive_scope (cores_in all)

  abbrev b : Scope
  b = primitive_scope (cores_in left)

  abbrev ds : List Declaration
  ds = declarations_in all

  abbrev es : List Declaration
  es = declarations_in left

  module _ (whole : Scope) (same : whole ≡ after_declarations ds a)
      (no_locals : (x : Name) → among (Local x) whole ≡ false)
      (proper : ProperDeclarations a ds) where
    in_whole : (r : Ref) → IsIn r (after_declarations ds a) → IsIn r whole
    in_whole r e = subst (IsIn r) (sym same) e

    core_sub : Sub (refs_of (cores_in left)) (refs_of (cores_in all))
    core_sub = sub_map (λ (c : Ref × Primitive). c.0) (sub_cores sub)

    within : (r : Ref) → IsIn r b → IsIn r a
    within r e = cores_in_scope (cores_in all) r (among_sub core_sub r (in_cores (cores_in left) r e))

    no_local_core : (x : Name) → IsIn (Local x) a → IsIn (Local x) b
    no_local_core x e = absurd (false≢true (sym (no_locals x) ∙ in_whole (Local x) (after_in ds a (Local x) e)))

    narrower : IsNarrower a b
    narrower = record { within = within; locals = no_local_core }

    -- a name of the core that is kept is one of those that are left
    known : (r : Ref) → IsIn r a → IsIn r (refs_in left) → IsIn r b
    known r e k =
        ⊎_elim (cores_in_scope (cores_in left) r)
        (λ h. absurd (false≢true (sym (all_new ds a proper r (sub_names r h)) ∙ e)))
        (names_apart left r k)
      where
        sub_names : (r : Ref) → IsIn r (names_all es) → IsIn r (names_all ds)
        sub_names r h = names_sub (sub_declarations sub) r h

    rest : (r : Ref) → IsIn r (refs_in left) → IsIn r a ⊎ IsIn r (names_all es)
    rest r k =
        ⊎_elim (λ h. inl (within r (cores_in_scope (cores_in left) r h))) inr (names_apart left r k)

    pub proper_left : UsesKept whole (refs_in left) es → ProperDeclarations b es
    proper_left uses =
        left_proper whole (refs_in left) no_locals (sub_declarations sub) a b proper narrower known rest in_whole uses

  -- a name that is kept is in scope after what is left
  pub kept_after : (r : Ref) → IsIn r (refs_in left) → IsIn r (after_declarations es b)
  kept_after r k =
      ⊎_elim (λ h. after_in es b r (cores_in_scope (cores_in left) r h)) (after_names es b r) (names_apart left r k)

-- ---- the whole scope

whole_items : (sources : List Source) →
    whole_scope sources ≡ after_declarations (declarations_in (all_items sources))
    (primitive_scope (cores_in (all_items sources)))
whole_items sources =
    ap (λ ds. after_declarations ds (primitive_scope (cores_of sources))) (sym (declared_all sources))
    ∙ ap (λ cs. after_declarations (declarations_in (all_items sources)) (primitive_scope cs)) (sym (cores_all sources))

known_items : (sources : List Source) (r : Ref) → IsIn r (whole_scope sources) → IsIn r (refs_in (all_items sources))
known_items sources r e =
    let is = all_items sources in
    ⊎_elim (name_declared is r) (λ h. core_named is r (in_cores (cores_in is) r h))
    (after_only (declarations_in is) (primitive_scope (cores_in is)) r (subst (IsIn r) (whole_items sources) e))

-- ---- what a link without faults says

no_faults : (fs : List Fault) (o : Option Output) (p : Output) → linked_or fs o ≡ Links p → fs ≡ []
no_faults [] o p e = refl
no_faults (f ∷ fs) o p e = absurd cc

has_output : (fs : List Fault) (o : Option Output) (p : Output) → linked_or fs o ≡ Links p → is_some o ≡ true
has_output [] None p e = absurd cc
has_output [] (Some q) p e = refl
has_output (f ∷ fs) o p e = absurd cc

nothing_after : {X : Type 0} (xs ys : List X) → xs ++ ys ≡ [] → ys ≡ []
nothing_after [] ys e = e
nothing_after (x ∷ xs) ys e = absurd cc

mapped_at : {X Y : Type 0} (f : X → Y) (xs : List X) (i : ℕ) (x : X) → slice_get xs i ≡ Some x →
    slice_get (map f xs) i ≡ Some (f x)
mapped_at f [] i x e = absurd cc
mapped_at f (y ∷ xs) zero x e = let h : y ≡ x = cc in ap (λ z. Some (f z)) h
mapped_at f (y ∷ xs) (suc i) x e = mapped_at f xs i x e

was_some : {X Y : Type 0} (f : X → Y) (o : Option X) → is_some (option_map f o) ≡ true → is_some o ≡ true
was_some f None e = e
was_some f (Some x) e = refl

-- the output of a link is one of its entry
pub linked_entry : (sources : List Source) (entry : ℕ) (s : Source) (o : Output) → slice_get sources entry ≡ Some s →
    link (map part_of sources) entry ≡ Links o →
    linked_by (part_of s) (reached_pieces (map part_of sources) s.tree.name) ≡ Links o
unfolding link
linked_entry sources entry s o at linked =
    ap (linked_from (map part_of sources)) (sym (mapped_at part_of sources entry s at)) ∙ linked

pub no_clash : (p : Part) (ds : List Placed) (o : Output) → linked_by p ds ≡ Links o → clashes [] ds ≡ []
no_clash p ds o e =
    nothing_after (main_faults p.path p.fragment.main) (clashes [] ds) (no_faults (link_faults p ds) _ o e)

has_main : (s : Source) (ds : List Placed) (o : Output) → linked_by (part_of s) ds ≡ Links o → is_some s.main ≡ true
unfolding fragment_of
has_main s ds o e =
    by s.main (was_some _ (flags_in (part_of s).fragment.main) (has_output (link_faults (part_of s) ds) _ o e))
  where
    by : (m : Option Scheme) → is_some (flags_in (main_of s.tree m)) ≡ true → is_some m ≡ true
    by None h = h
    by (Some t) h = refl

-- ---- pairs that are reached

abbrev pub reached_pairs : List Source → Name → List Pair
reached_pairs sources home =
    reached (λ (p : Pair). item_names p.1) (λ (p : Pair). item_uses p.1) (main_name home) (pairs_of sources)

piece_names : (p : Pair) → item_names p.1 ≡ (placed_of p).piece.names
piece_names (s, Core p) = refl
piece_names (s, Declared ports d) = refl

piece_uses : (p : Pair) → item_uses p.1 ≡ (placed_of p).piece.uses
piece_uses (s, Core p) = refl
piece_uses (s, Declared ports d) = refl

pub pieces_reached : (sources : List Source) (home : Name) →
    map placed_of (reached_pairs sources home) ≡ reached_pieces (map part_of sources) home
unfolding reached_pieces
pieces_reached sources home =
    reached_map placed_of (λ (d : Placed). d.piece.names) (λ (d : Placed). d.piece.uses) (λ (p : Pair). item_names p.1)
    (λ (p : Pair). item_uses p.1) piece_names piece_uses (main_name home) (pairs_of sources)
    ∙ ap (reached (λ (d : Placed). d.piece.names) (λ (d : Placed). d.piece.uses) (main_name home))
    (placed_pairs sources)

pub items_reached : (sources : List Source) (home : Name) →
    map item_of (reached_pairs sources home) ≡ reached_items sources home
unfolding reached_items
items_reached sources home =
    reached_map item_of item_names item_uses (λ (p : Pair). item_names p.1) (λ (p : Pair). item_uses p.1) (λ p. refl)
    (λ p. refl) (main_name home) (pairs_of sources)
    ∙ ap (reached item_names item_uses (main_name home)) (items_of_pairs sources)

-- ---- the program

module _ (sources : List Source) (s : Source) (p : AreProper sources) where
  abbrev all : List Item
  all = all_items sources

  abbrev start : TopName
  start = main_name s.tree.name

  abbrev left : List Item
  left = kept (is_reached (map item_names all) (map item_uses all) start) 0 all

  left_sub : Sub left all
  left_sub = kept_sub (is_reached (map item_names all) (map item_uses all) start) 0 all

  cores_left : Sub (refs_of (cores_in left)) (refs_of (cores_of sources))
  cores_left =
      subst (λ cs. Sub (refs_of (cores_in left)) (refs_of cs)) (cores_all sources)
      (sub_map (λ (c : Ref × Primitive). c.0) (sub_cores left_sub))

  declared_left : Sub (declarations_in left) (declarations_of sources)
  declared_left = subst (Sub (declarations_in left)) (declared_all sources) (sub_declarations left_sub)

  proper_all : ProperDeclarations (primitive_scope (cores_in all)) (declarations_in all)
  proper_all =
      subst (λ cs. ProperDeclarations (primitive_scope cs) (declarations_in all)) (sym (cores_all sources))
      (subst (ProperDeclarations (primitive_scope (cores_of sources))) (sym (declared_all sources)) p.declarations)

  all_proper : ProperDeclarations (primitive_scope (cores_in left)) (declarations_in left)
  all_proper =
      proper_left all left left_sub (whole_scope sources) (whole_items sources) p.no_locals proper_all
      (uses_kept all start (whole_scope sources) p.no_locals (known_items sources))

  main_left : IsIn (Top s.tree.name (codes "main")) (whole_scope sources) →
      IsIn (Top s.tree.name (codes "main")) (after_declarations (declarations_in left)
      (primitive_scope (cores_in left)))
  main_left e =
      kept_after all left left_sub (Top s.tree.name (codes "main"))
      (main_kept all start (known_items sources (Top s.tree.name (codes "main")) e))

  ports_left : (o : Output) → linked_by (part_of s) (reached_pieces (map part_of sources) s.tree.name) ≡ Links o →
      are_fields (in_ports (declarations_in left)) ≡ true
  unfolding reached_items
  ports_left o e =
      ap (λ is. are_fields (in_ports (declarations_in is))) (sym (items_reached sources s.tree.name))
      ∙ ports_once sources (reached_pairs sources s.tree.name) [] (kept_sub _ 0 (pairs_of sources)) p.apart p.ports
      (ap (clashes []) (pieces_reached sources s.tree.name)
      ∙ no_clash (part_of s) (reached_pieces (map part_of sources) s.tree.name) o e)

pub links_proper : LinksProper
unfolding program_of reached_items
links_proper sources entry s o p e at linked =
    let by = linked_entry sources entry s o at linked in
    record {
      primitives = fresh_sub (cores_left sources s p) [] [] (λ r h. h) p.fresh;
      spelled = spelled_sub (cores_left sources s p) p.spelled;
      declarations = all_proper sources s p;
      payloads = payloads_sub (declared_left sources s p) p.payloads;
      ports = ports_left sources s p o by;
      main = main_left sources s p (e.main (has_main s (reached_pieces (map part_of sources) s.tree.name) o by));
      flags = e.flags;
    }
