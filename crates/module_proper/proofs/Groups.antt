-- Groups of values and ports: where each is proper among all names of the module, each group is proper after those
-- before it.
use Rattle.std.proofs.Common.{◌≡◌, ℕ, ◌<◌, List, [], ◌∷◌, ◌++◌, map, length, Bool, true, false}
use Rattle.std.proofs.Common.{refl, sym, ap, ◌∙◌, subst, ⊎_elim, arith}
use Rattle.std.specs.Prelude.{◌&&◌, ◌||◌, slice_index_or}
use Rattle.std.specs.List.{Contains, flat_map, list_any}
use Rattle.std.proofs.lemmas.Bool.{false≢true}
use Rattle.std.proofs.lemmas.List.{length-map}
use Rattle.std.proofs.lemmas.List.Elements.{All-contains}
use Rattle.decl_groups.specs.Groups.{list_at, Uses, Reaches, here, through, IsReady, IsOrder, all_placed, next}
use Rattle.decl_groups.proofs.Basics.{no_member}
use Rattle.decl_groups.specs.InOrder.{is_in, reaches, uses_itself, places_of, AreWithin, ordered_groups}
use Rattle.decl_groups.proofs.Reaching.{both, or_cases, is_use, sound}
use Rattle.decl_groups.proofs.Ordering.{order_is}
use Rattle.decl_groups.proofs.Itself.{itself_in}
use Rattle.elm_canon.specs.Names.{Name}
use Rattle.elm_canon.specs.declared.reference.Ref.{Ref}
use Rattle.elm_canon.specs.declared.reference.Ref.TheVariants.{Local, Top}
use Rattle.elm_canon.specs.Tree.{Declaration, Given, Define, Known, Group, groups_of}
use Rattle.canon_expr.specs.Blocks.{Made, NoMade, MadeFunction, MadeConstant, MadeParts, group_of}
use Rattle.canon_expr.specs.Blocks.{made_at}
use Rattle.canon_env.specs.Uses.{expr_uses}
use Rattle.canon_module.specs.Items.{Item, PortItem, ValueItem, made_uses, item_uses, used_in, used_among, made_by}
use Rattle.canon_module.specs.Items.{grouped, items_at, groups_of_items}
use Rattle.canon_module.specs.TopUses.{used_numbers}
use Rattle.canon_module.proofs.Numbering.{all_within}
use Rattle.elm_canon.specs.Spelled.{is_spelled}
use Rattle.elm_canon.specs.Proper.{Scope, among, IsIn, AreFresh, with_all, ProperGroups, after, group_names}
use Rattle.elm_canon.specs.Proper.{all_bound_by}
use Rattle.elm_canon.specs.Declarations.{is_proper_known, is_destructuring, ProperDeclarations, after_declarations}
use Rattle.elm_canon.specs.Declarations.{declared_names}
use Rattle.canon_proper.specs.Narrower.{IsNarrower, KeepsAll}
use Rattle.canon_proper.proofs.Scopes.{among-with_all, or_right}
use Rattle.canon_proper.proofs.Apart.{Apart, fresh_less}
use Rattle.canon_proper.proofs.Narrowing.{narrow, narrower_with, keeps_with}
use Rattle.canon_proper.proofs.Made.{ProperMade, is_functional, two_together}
use Rattle.canon_proper.proofs.Steps.{flat, names_of, name_of_one, names_sub, Holds, none_placed, holds_more}
use Rattle.canon_proper.proofs.Steps.{outer_kept, AreOrdered, IsProperAt, StepOf, new_names, single_step, several_step}
use Rattle.module_proper.proofs.Numbers.{tops_each, no_local_each, one_home_each, number_found, used_is, in_numbers}
use Rattle.module_proper.proofs.Numbers.{map_or, flat_at}
use Rattle.module_proper.specs.Modules.{tops}

-- ---- definitions in narrower scopes

narrow_made : (m : Made) (names : List Ref) (a b : Scope) → IsNarrower a b → KeepsAll a b (made_uses m) →
    ProperMade a names m → ProperMade b names m
narrow_made NoMade names a b n k p = p
narrow_made (MadeFunction title ps e) names a b n k p = (
  p.0,
  p.1,
  p.2,
  (p.3.0, fresh_less (all_bound_by ps) a b n.within p.3.1),
  narrow e (with_all (all_bound_by ps) a) (with_all (all_bound_by ps) b) (narrower_with (all_bound_by ps) a b n)
      (keeps_with (all_bound_by ps) a b (expr_uses e) k) p.4,
)
narrow_made (MadeConstant title e) names a b n k p = (p.0, p.1, narrow e a b n k p.2)
narrow_made (MadeParts q e) names a b n k p = (p.0, p.1, narrow e a b n k p.2)

-- ---- lists of declarations

pub declarations_more : (xs ys : List Declaration) (scope : Scope) → ProperDeclarations scope xs →
    ProperDeclarations (after_declarations xs scope) ys → ProperDeclarations scope (xs ++ ys)
declarations_more [] ys scope p q = q
declarations_more (d ∷ xs) ys scope p q = (p.0, declarations_more xs ys (with_all (declared_names d) scope) p.1 q)

pub after_more : (xs ys : List Declaration) (scope : Scope) →
    after_declarations (xs ++ ys) scope ≡ after_declarations ys (after_declarations xs scope)
after_more [] ys scope = refl
after_more (d ∷ xs) ys scope = after_more xs ys (with_all (declared_names d) scope)

abbrev HaveNames : List Group → Type 0
HaveNames [] = Unit {0}
HaveNames (g ∷ gs) = (is_destructuring g ≡ false) × HaveNames gs

defined : (gs : List Group) (scope : Scope) → HaveNames gs → ProperGroups scope (groups_of gs) →
    ProperDeclarations scope (map Define gs)
defined [] scope d p = tt
defined (g ∷ gs) scope d p = ((d.0, p.0), defined gs (with_all (group_names g) scope) d.1 p.1)

defined_after : (gs : List Group) (scope : Scope) →
    after_declarations (map Define gs) scope ≡ after (groups_of gs) scope
defined_after [] scope = refl
defined_after (g ∷ gs) scope = defined_after gs (with_all (group_names g) scope)

-- ---- values and ports

abbrev pub is_parts : Made → Bool
is_parts NoMade = false
is_parts (MadeFunction title ps e) = false
is_parts (MadeConstant title e) = false
is_parts (MadeParts p e) = true

one_named : (m : Made) → is_parts m ≡ false → HaveNames (group_of (m ∷ []))
one_named NoMade e = tt
one_named (MadeFunction title ps b) e = (refl, tt)
one_named (MadeConstant title b) e = (refl, tt)
one_named (MadeParts p b) e = absurd (false≢true (sym e))

abbrev item_at : List Item → ℕ → Item
item_at items i = slice_index_or items i (ValueItem NoMade)

-- proper among all names of the module
abbrev pub IsGood : Scope → List Ref → Item → Type 0
IsGood full names (PortItem r k) = (names ≡ r ∷ []) × (is_spelled r ≡ true) × (is_proper_known k ≡ true)
IsGood full names (ValueItem m) = ProperMade full names m × (is_parts m ≡ false)

pub record AreGood (home : Name) (outer : Scope) (each : List (List Name)) (items : List Item) : Type 0 where
  pub apart : Apart (flat (tops_each home each)) outer
  pub fresh : AreFresh (flat (tops_each home each)) []
  pub no_locals : (x : Name) → among (Local x) outer ≡ false
  pub many : length items ≡ length each
  pub good : (i : ℕ) → IsGood (with_all (flat (tops_each home each)) outer) (list_at (tops_each home each) i)
      (slice_index_or items i (ValueItem NoMade))
  pub recursive : (i : ℕ) → uses_itself (used_among home each items) i ≡ true →
      is_functional (made_by (slice_index_or items i (ValueItem NoMade))) ≡ true

-- two or more are functions together
pub items_together : (x y : Item) (zs : List Item) →
    grouped (x ∷ y ∷ zs) ≡ map Define (group_of (map made_by (x ∷ y ∷ zs)))
items_together (PortItem r k) y zs = refl
items_together (ValueItem m) y zs = refl

any_true : {X : Type 0} (t : X → Bool) (xs : List X) → list_any t xs ≡ true → (x : X) × (t x ≡ true)
any_true t [] e = absurd (false≢true e)
any_true t (x ∷ xs) e =
    ⊎_elim (λ h. (x, h)) (λ h. any_true t xs h) (or_cases (t x) (list_any t xs) e)

-- what uses nothing does not reach itself
never_itself : (uses : List (List ℕ)) (i : ℕ) → list_at uses i ≡ [] → uses_itself uses i ≡ true → ⊥
never_itself uses i none e = by found.0 (both (is_in i (list_at uses found.0)) (reaches uses i found.0) found.1)
  where
    found : (j : ℕ) × ((is_in i (list_at uses j) && reaches uses i j) ≡ true)
    found = any_true (λ j. is_in i (list_at uses j) && reaches uses i j) (places_of uses) e

    at : (j : ℕ) → Uses uses j i → (k : ℕ) → k ≡ i → Reaches uses k j → ⊥
    at j u k s here = no_member i (subst (λ xs. Contains xs i) none (subst (λ z. Uses uses z i) s u))
    at j u k s (through {j = x} v r) =
        no_member x (subst (λ xs. Contains xs x) (ap (list_at uses) s ∙ none) v)

    by : (j : ℕ) → (is_in i (list_at uses j) ≡ true) × (reaches uses i j ≡ true) → ⊥
    by j b = at j (is_use uses i (list_at uses j) b.0) i refl (sound uses (length uses) i j b.1)

module _ (home : Name) (outer : Scope) (each : List (List Name)) (items : List Item)
    (b : AreGood home outer each items) where
  abbrev uses : List (List ℕ)
  uses = used_among home each items

  abbrev names : List (List Ref)
  names = tops_each home each

  abbrev made : List Made
  made = map made_by items

  abbrev full : Scope
  full = with_all (flat names) outer

  use_at : (i : ℕ) → list_at uses i ≡ used_in home each (item_at items i)
  use_at i = map_or (used_in home each) (ValueItem NoMade) items i

  made_is : (i : ℕ) → slice_index_or made i NoMade ≡ made_by (item_at items i)
  made_is i = map_or made_by (ValueItem NoMade) items i

  within : AreWithin uses
  within i j u =
      let l : j < length each = All-contains (λ k. k < length each) _ j
      (all_within home each (item_uses (item_at items i))) (subst (λ js. Contains js j) (use_at i) u) in
      omega (arith, l, b.many, length-map items (used_in home each))

  ordered : AreOrdered outer names uses made
  ordered = record {
    apart = b.apart;
    fresh = b.fresh;
    within = within;
    recursive = λ i e. ap is_functional (made_is i) ∙ b.recursive i e;
  }

  -- ---- scopes

  in_full : (r : Ref) → among r full ≡ (among r (flat names) || among r outer)
  in_full r = among-with_all r (flat names) outer

  no_locals : (x : Name) → among (Local x) full ≡ false
  no_locals x =
      in_full (Local x) ∙ ap (λ c. c || among (Local x) outer) (no_local_each home x each) ∙ b.no_locals x

  seen_full : (seen : List ℕ) (s : Scope) → Holds outer names seen s → (r : Ref) → IsIn r s → IsIn r full
  seen_full seen s h r e =
      in_full r
      ∙ ⊎_elim (λ o. or_right (among r (flat names)) (among r outer) o)
      (λ n. ap (λ c. c || among r outer) (names_sub names seen r n))
      (or_cases (among r outer) (among r (names_of names seen)) (sym (h.same r) ∙ e))

  narrower : (seen : List ℕ) (s : Scope) → Holds outer names seen s → IsNarrower full s
  narrower seen s h = record {
    within = λ r e. seen_full seen s h r e;
    locals = λ x e. absurd (false≢true (sym (no_locals x) ∙ e));
  }

  -- a value of the module that is used is there once all that is used is placed
  used_there : (m x : Name) (seen : List ℕ) (s : Scope) (refs : List Ref) → Holds outer names seen s →
      ((j : ℕ) → Contains (used_numbers home each refs) j → Contains seen j) → IsIn (Top m x) refs →
      among (Top m x) (flat names) ≡ true → IsIn (Top m x) s
  used_there m x seen s refs h placed i e =
      let same = one_home_each m home x each e in
      let t = number_found home x each (subst (λ k. among (Top k x) (flat names) ≡ true) same e) in
      let there = in_numbers home each refs (Top home x) t.0 (subst (λ k. IsIn (Top k x) refs) same i)
      (used_is home x each t.0 t.1) in
      let n = name_of_one names seen t.0 (Top home x) (placed t.0 there) t.2 in
      subst (λ k. IsIn (Top k x) s) (sym same)
      (h.same (Top home x) ∙ or_right (among (Top home x) outer) (among (Top home x) (names_of names seen)) n)

  kept : (seen : List ℕ) (s : Scope) (refs : List Ref) → Holds outer names seen s →
      ((j : ℕ) → Contains (used_numbers home each refs) j → Contains seen j) → KeepsAll full s refs
  kept seen s refs h placed (Local x) i e = absurd (false≢true (sym (no_locals x) ∙ e))
  kept seen s refs h placed (Top m x) i e =
      ⊎_elim (λ n. used_there m x seen s refs h placed i n) (λ o. outer_kept outer names seen s h (Top m x) o)
      (or_cases (among (Top m x) (flat names)) (among (Top m x) outer) (sym (in_full (Top m x)) ∙ e))

  value_proper : (i : ℕ) (m : Made) → item_at items i ≡ ValueItem m → IsProperAt outer names uses made i
  value_proper i m e seen s h f =
      let good = subst (IsGood full (list_at names i)) e (b.good i) in
      subst (ProperMade s (list_at names i)) (sym (made_is i ∙ ap made_by e))
      (narrow_made m (list_at names i) full s (narrower seen s h)
      (kept seen s (made_uses m) h
      (λ j n. f j (subst (λ js. Contains js j) (sym (use_at i ∙ ap (used_in home each) e)) n))) good.0)

  -- a port uses nothing
  value_at : (i : ℕ) → uses_itself uses i ≡ true → (m : Made) × (item_at items i ≡ ValueItem m)
  value_at i e = by (item_at items i) refl
    where
      by : (x : Item) → item_at items i ≡ x → (m : Made) × (x ≡ ValueItem m)
      by (PortItem r k) s = absurd (never_itself uses i (use_at i ∙ ap (used_in home each) s) e)
      by (ValueItem m) s = (m, refl)

  -- ---- groups

  abbrev DeclarationStep : List Declaration → List ℕ → Scope → Type 0
  DeclarationStep ds more s = ProperDeclarations s ds × Holds outer names more (after_declarations ds s)

  define_step : (gs : List Group) (more : List ℕ) (s : Scope) → HaveNames gs → StepOf outer names gs more s →
      DeclarationStep (map Define gs) more s
  define_step gs more s d p = (defined gs s d p.0, subst (Holds outer names more) (sym (defined_after gs s)) p.1)

  port_step : (i : ℕ) (r : Ref) (k : Known) (placed : List ℕ) (s : Scope) → item_at items i ≡ PortItem r k →
      Holds outer names placed s → IsReady uses placed (i ∷ []) → DeclarationStep (Given r k ∷ []) (placed ++ i ∷ []) s
  port_step i r k placed s e h ready =
      let good = subst (IsGood full (list_at names i)) e (b.good i) in
      let is : list_at names i ++ [] ≡ r ∷ [] = ap (λ rs. rs ++ []) good.0 in
      let new = subst (λ rs. AreFresh rs s) is
      (new_names outer names uses made ordered (i ∷ []) placed s h ready.is_group.ascends ready.not_placed) in
      let more = subst (λ rs. Holds outer names (placed ++ i ∷ []) (with_all rs s)) is
      (holds_more outer names (i ∷ []) placed s h) in
      (((good.1, (new.0, good.2)), tt), more)

  value_step : (i : ℕ) (m : Made) (placed : List ℕ) (s : Scope) → item_at items i ≡ ValueItem m →
      Holds outer names placed s → IsReady uses placed (i ∷ []) →
      DeclarationStep (map Define (group_of (m ∷ []))) (placed ++ i ∷ []) s
  value_step i m placed s e h ready =
      let good = subst (IsGood full (list_at names i)) e (b.good i) in
      let first = subst (λ n. StepOf outer names (group_of (n ∷ [])) (placed ++ i ∷ []) s) (made_is i ∙ ap made_by e)
      (single_step outer names uses made ordered i placed s h ready (value_proper i m e)) in
      define_step (group_of (m ∷ [])) (placed ++ i ∷ []) s (one_named m good.1) first

  made_of_items : (is : List ℕ) → map made_by (items_at items is) ≡ made_at made is
  made_of_items [] = refl
  made_of_items (i ∷ is) = ap (λ m. m ∷ map made_by (items_at items is)) (sym (made_is i))
      ∙ ap (λ ms. slice_index_or made i NoMade ∷ ms) (made_of_items is)

  several : (k l : ℕ) (rest placed : List ℕ) (s : Scope) → Holds outer names placed s →
      IsReady uses placed (k ∷ l ∷ rest) →
      DeclarationStep (grouped (items_at items (k ∷ l ∷ rest))) (placed ++ k ∷ l ∷ rest) s
  several k l rest placed s h ready =
      let g = k ∷ l ∷ rest in
      let first = several_step outer names uses made ordered k l rest placed s h ready
      (λ i n. let v = value_at i (itself_in uses within k l rest ready.is_group i n) in value_proper i v.0 v.1) in
      let e = two_together (slice_index_or made k NoMade) (slice_index_or made l NoMade) (made_at made rest) in
      let step = define_step (group_of (made_at made g)) (placed ++ g) s (subst HaveNames (sym e) (refl, tt)) first in
      subst (λ ds. DeclarationStep ds (placed ++ g) s)
      (sym (items_together (item_at items k) (item_at items l) (items_at items rest)
      ∙ ap (λ ms. map Define (group_of ms)) (made_of_items g))) step

  step : (g placed : List ℕ) (s : Scope) → Holds outer names placed s → IsReady uses placed g →
      DeclarationStep (grouped (items_at items g)) (placed ++ g) s
  step [] placed s h ready = absurd (omega (arith, ready.is_group.not_empty))
  step (k ∷ l ∷ rest) placed s h ready = several k l rest placed s h ready
  step (i ∷ []) placed s h ready = by (item_at items i) refl
    where
      by : (x : Item) → item_at items i ≡ x → DeclarationStep (grouped (x ∷ [])) (placed ++ i ∷ []) s
      by (PortItem r k) e = port_step i r k placed s e h ready
      by (ValueItem m) e = value_step i m placed s e h ready

  abbrev items_in : List (List ℕ) → List Declaration
  items_in gs = flat_map (λ places. grouped (items_at items places)) gs

  abbrev AllIn : List (List ℕ) → Scope → Type 0
  AllIn gs s =
      ProperDeclarations s (items_in gs)
      × ((seen : List ℕ) × Holds outer names seen (after_declarations (items_in gs) s)
      × ((i : ℕ) → i < length uses → Contains seen i))

  all_steps : {placed : List ℕ} {gs : List (List ℕ)} → IsOrder uses placed gs → (s : Scope) →
      Holds outer names placed s → AllIn gs s
  all_steps (all_placed {placed = placed} f) s h = (tt, (placed, h, f))
  all_steps (next {placed = placed} {group = g} {rest = rest} n o) s h =
      let first = step g placed s h n.ready in
      let later = all_steps o (after_declarations (grouped (items_at items g)) s) first.1 in (
        declarations_more (grouped (items_at items g)) (items_in rest) s first.0 later.0,
        (
          later.1.0,
          subst (Holds outer names later.1.0) (sym (after_more (grouped (items_at items g)) (items_in rest) s))
              later.1.1,
          later.1.2,
        ),
      )

  in_order : AllIn (ordered_groups uses) outer
  in_order = all_steps (order_is uses within) outer (none_placed outer names)

  pub groups_proper : ProperDeclarations outer (groups_of_items uses items)
  groups_proper = in_order.0

  -- each is there after the groups
  pub all_there : (r : Ref) → among r (after_declarations (groups_of_items uses items) outer) ≡ among r full
  all_there r = seen.1.same r ∙ ap (λ c. among r outer || c) all_names
      ∙ swapped (among r outer) (among r (flat names)) ∙ sym (in_full r)
    where
      seen : (placed : List ℕ) × Holds outer names placed (after_declarations (groups_of_items uses items) outer)
          × ((i : ℕ) → i < length uses → Contains placed i)
      seen = in_order.1

      swapped : (c d : Bool) → (c || d) ≡ (d || c)
      swapped true true = refl
      swapped true false = refl
      swapped false true = refl
      swapped false false = refl

      same_bools : (c d : Bool) → (c ≡ true → d ≡ true) → (d ≡ true → c ≡ true) → c ≡ d
      same_bools true d f g = sym (f refl)
      same_bools false true f g = g refl
      same_bools false false f g = refl

      all_names : among r (names_of names seen.0) ≡ among r (flat names)
      all_names = same_bools (among r (names_of names seen.0)) (among r (flat names))
          (λ e. names_sub names seen.0 r e)
          (λ e. let t = flat_at names r e in
          name_of_one names seen.0 t.0 r
          (seen.2 t.0 (omega (arith, t.1, b.many, length-map items (used_in home each), length-map each (tops home))))
          t.2)
