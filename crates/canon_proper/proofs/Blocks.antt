-- The groups of a block are proper: each definition uses names from outside, of the groups before its own, and, if it
-- is a function, of its own group.
use Rattle.std.proofs.Common.{◌≡◌, ℕ, zero, suc, ◌<◌, List, [], ◌∷◌, ◌++◌, map, length, Bool, true, false, Some, None}
use Rattle.std.proofs.Common.{refl, sym, ap, ◌∙◌, subst}
use Rattle.std.proofs.Common.{◌⊎◌, inl, inr, ⊎_elim, arith}
use Rattle.std.specs.Prelude.{◌&&◌, ◌||◌, if◌then◌else◌, Option, option_map, option_and_then, slice_index_or, nat_eq}
use Rattle.std.specs.List.{Contains, list_any, flat_map, filter_map, cons_option}
use Rattle.std.proofs.lemmas.Bool.{false≢true}
use Rattle.std.proofs.Common.{eq-eqb}
use Rattle.std.proofs.lemmas.List.{length-map}
use Rattle.std.proofs.lemmas.List.Elements.{All-contains}
use Rattle.decl_groups.specs.Groups.{list_at, Uses, IsOrder, all_placed, next}
use Rattle.decl_groups.proofs.Basics.{no_member, first_member, later_member, member_cases}
use Rattle.decl_groups.specs.InOrder.{is_in, uses_itself, AreWithin}
use Rattle.decl_groups.proofs.Reaching.{both, and_both, is_use, use_is}
use Rattle.decl_groups.proofs.Ordering.{order_is, not_true}
use Rattle.elm_tree.specs.Tree.{Pos, Word}
use Rattle.elm_canon.specs.declared.reference.Ref.{Ref}
use Rattle.elm_canon.specs.declared.reference.Ref.TheVariants.{Local, Top}
use Rattle.elm_canon.specs.Tree.{Group, groups_of}
use Rattle.canon_env.specs.Imports.{name_of}
use Rattle.canon_env.specs.Naming.{World, own_name}
use Rattle.canon_env.specs.Locals.{Locals, with_names}
use Rattle.canon_env.specs.Sites.{Site}
use Rattle.canon_expr.specs.Logs.{used_place}
use Rattle.canon_expr.specs.Binding.{same_place, binder_of, used_definition, uses_among}
use Rattle.canon_expr.specs.Blocks.{Made, NoMade, group_of, made_at, groups_in}
use Rattle.canon_expr.proofs.CanonBlocksBinding.{binder_within, all_within, used_by_places}
use Rattle.elm_canon.specs.Proper.{Scope, among, AreFresh, ProperGroups, after}
use Rattle.canon_proper.specs.Written.{StandApart}
use Rattle.canon_proper.specs.Worlds.{HasNames, operator_ref}
use Rattle.canon_proper.proofs.Scopes.{refs, refs-append, or_right}
use Rattle.canon_proper.proofs.Apart.{Apart}
use Rattle.canon_proper.proofs.Stands.{Stands, AreQuiet, named, unnamed, word_in}
use Rattle.canon_proper.proofs.Made.{ProperMade, is_functional, IsWell, groups_more, after_more}
use Rattle.canon_proper.proofs.Steps.{flat, in_parts, last_part, names_of, name_of_one, names_sub, Holds, none_placed}
use Rattle.canon_proper.proofs.Steps.{outer_kept, AreOrdered, IsProperAt, step, one_new}

-- ---- lists of words

abbrev words_at : List (List Word) → ℕ → List Word
words_at bs i = slice_index_or bs i []

any_of : {X : Type 0} (t : X → Bool) (xs : List X) (x : X) → Contains xs x → t x ≡ true → list_any t xs ≡ true
any_of t [] x m e = absurd (no_member x m)
any_of t (z ∷ xs) x m e =
    ⊎_elim (λ s. ap (λ b. b || list_any t xs) (subst (λ y. t y ≡ true) (sym s) e))
    (λ k. or_right (t z) (list_any t xs) (any_of t xs x k e)) (member_cases z x xs m)

any_none : {X : Type 0} (t : X → Bool) (xs : List X) (x : X) → list_any t xs ≡ false → Contains xs x → t x ≡ false
any_none t xs x e m = not_true (t x) (λ h. false≢true (sym e ∙ any_of t xs x m h))

place_itself : (p : Pos) → same_place p p ≡ true
place_itself p = and_both (nat_eq p.row p.row) (nat_eq p.column p.column) (eq-eqb p.row p.row refl) (eq-eqb p.column p.column refl)

none_there : (xs ys : List Word) (v : Word) → StandApart (xs ++ ys) → Contains ys v →
    list_any (λ (y : Word). same_place y.place v.place) xs ≡ false
none_there [] ys v s m = refl
none_there (x ∷ xs) ys v s m =
    ap (λ b. b || list_any (λ (y : Word). same_place y.place v.place) xs)
    (any_none (λ (y : Word). same_place x.place y.place) (xs ++ ys) v s.0 (last_part xs ys v m))
    ∙ none_there xs ys v s.1 m

apart_after : (xs ys : List Word) → StandApart (xs ++ ys) → StandApart ys
apart_after [] ys s = s
apart_after (x ∷ xs) ys s = apart_after xs ys s.1

-- the definition that binds a word
binder_at : (bs : List (List Word)) → StandApart (flat bs) → (v : Word) → Contains (flat bs) v →
    (j : ℕ) × (binder_of bs v.place ≡ Some j) × Contains (words_at bs j) v
binder_at [] s v m = absurd (no_member v m)
binder_at (xs ∷ bs) s v m =
    ⊎_elim
    (λ k. (
      0,
      ap (λ b. if b then Some 0 else option_map suc (binder_of bs v.place))
          (any_of (λ (y : Word). same_place y.place v.place) xs v k (place_itself v.place)),
      k,
    ))
    (λ k. let r = binder_at bs (apart_after xs (flat bs) s) v k in (
      suc r.0,
      ap (λ b. if b then Some 0 else option_map suc (binder_of bs v.place)) (none_there xs (flat bs) v s k)
          ∙ ap (option_map suc) r.1,
      r.2,
    )) (in_parts xs (flat bs) v m)

-- the names that definitions give which bind these words
abbrev pub names_by : List (List Word) → List (List Ref)
names_by bs = map refs bs

flat_names : (bs : List (List Word)) → flat (names_by bs) ≡ refs (flat bs)
flat_names [] = refl
flat_names (xs ∷ bs) = ap (λ rs. refs xs ++ rs) (flat_names bs) ∙ sym (refs-append xs (flat bs))

map_at : {X Y : Type 0} (f : List X → List Y) → f [] ≡ [] → (xs : List (List X)) (i : ℕ) →
    slice_index_or (map f xs) i [] ≡ f (slice_index_or xs i [])
map_at f e [] i = sym e
map_at f e (x ∷ xs) zero = refl
map_at f e (x ∷ xs) (suc i) = map_at f e xs i

names_at : (bs : List (List Word)) (i : ℕ) → list_at (names_by bs) i ≡ refs (words_at bs i)
names_at bs i = map_at refs refl bs i

-- ---- a block

pub record Block (w : World) (shown : Pos → Bool) (outer : Scope) (locals : Locals) (binders : List (List Word))
    (sites : List (List Site)) (made : List Made) : Type 0 where
  pub stands : Stands w shown locals outer
  pub apart : Apart (refs (flat binders)) outer
  pub fresh : AreFresh (refs (flat binders)) []
  pub places : StandApart (flat binders)
  pub quiet : (i : ℕ) → AreQuiet w shown (slice_index_or sites i [])
  pub well : (i : ℕ) → IsWell w (with_names (flat binders) locals) (slice_index_or binders i []) (slice_index_or sites i [])
      (slice_index_or made i NoMade)
  pub recursive : (i : ℕ) → uses_itself (uses_among w binders sites) i ≡ true →
      is_functional (slice_index_or made i NoMade) ≡ true
  pub many : length sites ≡ length binders

module _ (w : World) (shown : Pos → Bool) (outer : Scope) (locals : Locals) (binders : List (List Word))
    (sites : List (List Site)) (made : List Made) (b : Block w shown outer locals binders sites made) where
  abbrev uses : List (List ℕ)
  uses = uses_among w binders sites

  use_at : (i : ℕ) → list_at uses i ≡ filter_map (used_definition w binders) (slice_index_or sites i [])
  use_at i = map_at (filter_map (used_definition w binders)) refl sites i

  within : AreWithin uses
  within i j u =
      let m = subst (λ js. Contains js j)
      (use_at i ∙ used_by_places w binders (slice_index_or sites i [])) u in
      let l : j < length binders = All-contains (λ k. k < length binders) _ j
      (all_within binders (filter_map (used_place w) (slice_index_or sites i []))) m in
      omega (arith, l, b.many, length-map sites (filter_map (used_definition w binders)))

  abbrev names : List (List Ref)
  names = names_by binders

  ordered : AreOrdered outer names uses made
  ordered = record {
    apart = subst (λ rs. Apart rs outer) (sym (flat_names binders)) b.apart;
    fresh = subst (λ rs. AreFresh rs []) (sym (flat_names binders)) b.fresh;
    within = within;
    recursive = b.recursive;
  }

  -- ---- scopes

  abbrev binds_among : List ℕ → Option ℕ → Bool
  binds_among seen None = true
  binds_among seen (Some j) = is_in j seen

  -- places of names from outside and of these definitions
  abbrev shown_in : List ℕ → Pos → Bool
  shown_in seen p = shown p && binds_among seen (binder_of binders p)

  kept : (placed : List ℕ) (s : Scope) → Holds outer names placed s → (r : Ref) → among r outer ≡ true →
      among r s ≡ true
  kept placed s h r e = outer_kept outer names placed s h r e

  names_kept : (placed : List ℕ) (s : Scope) → Holds outer names placed s → HasNames w s
  names_kept placed s h = record {
    values = λ x m e. kept placed s h (Top m.home (own_name x)) (b.stands.names.values x m e);
    makers = λ x m e. kept placed s h (Top m.home (own_name x)) (b.stands.names.makers x m e);
    operators = λ op e. kept placed s h (operator_ref op) (b.stands.names.operators op e);
  }

  stands_in : (seen : List ℕ) (s : Scope) → Holds outer names seen s →
      Stands w (shown_in seen) (with_names (flat binders) locals) s
  stands_in seen s h = record {
    names = names_kept seen s h;
    bound = λ x p e t.
        let d = both (shown p) (binds_among seen (binder_of binders p)) t in
        ⊎_elim
        (λ n.
        let r = binder_at binders b.places n.0 n.1 in
        let at : binder_of binders p ≡ Some r.0 = ap (binder_of binders) (sym n.3) ∙ r.1 in
        let m : is_in r.0 seen ≡ true = sym (ap (binds_among seen) at) ∙ d.1 in
        let k = name_of_one names seen r.0 (Local (name_of n.0)) (is_use uses r.0 seen m)
        (subst (λ rs. among (Local (name_of n.0)) rs ≡ true) (sym (names_at binders r.0))
        (word_in (words_at binders r.0) n.0 r.2)) in
        h.same (Local x)
        ∙ or_right (among (Local x) outer) (among (Local x) (names_of names seen))
        (subst (λ z. among (Local z) (names_of names seen) ≡ true) n.2 k))
        (λ k. kept seen s h (Local x) (b.stands.bound x p k d.0)) (named (flat binders) locals x p e);
    free = λ x e.
        let r = unnamed (flat binders) locals x e in
        h.same (Local x)
        ∙ ap (λ c. c || among (Local x) (names_of names seen)) (b.stands.free x r.1)
        ∙ not_true (among (Local x) (names_of names seen))
        (λ f. false≢true (sym r.0
        ∙ subst (λ rs. among (Local x) rs ≡ true) (flat_names binders) (names_sub names seen (Local x) f)));
  }

  -- ---- sites

  binds_by : (seen : List ℕ) (o : Option ℕ) → ((j : ℕ) → o ≡ Some j → Contains seen j) → binds_among seen o ≡ true
  binds_by seen None f = refl
  binds_by seen (Some j) f = use_is uses j seen (f j refl)

  in_option : (o : Option ℕ) (j : ℕ) (js : List ℕ) → o ≡ Some j → Contains (cons_option o js) j
  in_option None j js e = absurd (cc)
  in_option (Some k) j js e = let s : k ≡ j = cc in subst (Contains (k ∷ js)) s (first_member k js)

  after_option : (o : Option ℕ) (j : ℕ) (js : List ℕ) → Contains js j → Contains (cons_option o js) j
  after_option None j js m = m
  after_option (Some k) j js m = later_member k j js m

  quiet_in : (seen : List ℕ) (ss : List Site) → AreQuiet w shown ss →
      ((j : ℕ) → Contains (filter_map (used_definition w binders) ss) j → Contains seen j) →
      AreQuiet w (shown_in seen) ss
  quiet_in seen [] q f = tt
  quiet_in seen (s ∷ ss) q f =
      let rest = filter_map (used_definition w binders) ss in (
        (
          q.0.0,
          λ p e. and_both (shown p) (binds_among seen (binder_of binders p)) (q.0.1 p e)
              (binds_by seen (binder_of binders p)
              (λ j k. f j (in_option (used_definition w binders s) j rest
              (ap (option_and_then (binder_of binders)) e ∙ k)))),
        ),
        quiet_in seen ss q.1 (λ j m. f j (after_option (used_definition w binders s) j rest m)),
      )

  definition_proper : (i : ℕ) → IsProperAt outer names uses made i
  definition_proper i seen s h f =
      subst (λ rs. ProperMade s rs (slice_index_or made i NoMade)) (sym (names_at binders i))
      (b.well i (shown_in seen) s (stands_in seen s h)
      (subst (λ rs. AreFresh rs []) (names_at binders i) (one_new outer names uses made ordered i))
      (quiet_in seen (slice_index_or sites i []) (b.quiet i)
      (λ j m. f j (subst (λ js. Contains js j) (sym (use_at i)) m))))

  -- ---- groups

  abbrev groups_at : List (List ℕ) → List Group
  groups_at gs = flat_map (λ g. group_of (made_at made g)) gs

  abbrev AllIn : List (List ℕ) → Scope → Type 0
  AllIn gs s =
      ProperGroups s (groups_of (groups_at gs))
      × ((seen : List ℕ) × Holds outer names seen (after (groups_of (groups_at gs)) s)
      × ((i : ℕ) → i < length uses → Contains seen i))

  all_steps : {placed : List ℕ} {gs : List (List ℕ)} → IsOrder uses placed gs → (s : Scope) →
      Holds outer names placed s → AllIn gs s
  all_steps (all_placed {placed = placed} f) s h = (tt, (placed, h, f))
  all_steps (next {placed = placed} {group = g} {rest = rest} n o) s h =
      let first = step outer names uses made ordered g placed s h n.ready (λ i m. definition_proper i) in
      let later = all_steps o (after (groups_of (group_of (made_at made g))) s) first.1 in (
        groups_more (group_of (made_at made g)) (groups_at rest) s first.0 later.0,
        (
          later.1.0,
          subst (Holds outer names later.1.0) (sym (after_more (group_of (made_at made g)) (groups_at rest) s)) later.1.1,
          later.1.2,
        ),
      )

  all_shown : (seen : List ℕ) → ((i : ℕ) → i < length uses → Contains seen i) → (p : Pos) → shown p ≡ true →
      shown_in seen p ≡ true
  all_shown seen f p e =
      and_both (shown p) (binds_among seen (binder_of binders p)) e
      (binds_by seen (binder_of binders p)
      (λ j k. let l = binder_within binders p j k in
      f j (omega (arith, l, b.many, length-map sites (filter_map (used_definition w binders))))))

  -- the groups are proper, and their names are in scope after them
  pub block_proper : ProperGroups outer (groups_in uses made)
      × Stands w shown (with_names (flat binders) locals) (after (groups_in uses made) outer)
  block_proper =
      let r = all_steps (order_is uses within) outer (none_placed outer names) in
      let st = stands_in r.1.0 (after (groups_in uses made) outer) r.1.1 in (
        r.0,
        record {
          names = st.names;
          bound = λ x p e t. st.bound x p e (all_shown r.1.0 r.1.2 p t);
          free = st.free;
        },
      )
