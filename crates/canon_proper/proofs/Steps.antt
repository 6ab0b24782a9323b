-- Groups of definitions that use each other, in order: where each definition is proper once the names are in scope that
-- it uses, each group is proper after those before it.
use Rattle.std.proofs.Common.{◌≡◌, ℕ, zero, suc, ◌<◌, List, [], ◌∷◌, ◌++◌, Bool, true, false, refl, sym, ap, ◌∙◌, subst}
use Rattle.std.proofs.Common.{◌⊎◌, inl, inr, ⊎_elim, arith}
use Rattle.std.specs.Prelude.{◌||◌, slice_index_or}
use Rattle.std.specs.List.{Contains, flat_map}
use Rattle.std.proofs.lemmas.Bool.{false≢true, or_parts}
use Rattle.std.proofs.lemmas.List.{append_assoc, append-nil}
use Rattle.decl_groups.specs.Groups.{list_at, Uses, Ascends, IsReady}
use Rattle.decl_groups.proofs.Basics.{no_member, first_member, later_member, member_cases, ascends_head, ascends_tail}
use Rattle.decl_groups.specs.InOrder.{uses_itself, AreWithin}
use Rattle.decl_groups.proofs.Itself.{itself_at_once, itself_in}
use Rattle.elm_canon.specs.declared.reference.Ref.{Ref}
use Rattle.elm_canon.specs.Tree.{Group, Functions, Together, groups_of}
use Rattle.canon_expr.specs.Blocks.{Made, NoMade, MadeFunction, MadeConstant, MadeParts, functions_in, group_of}
use Rattle.canon_expr.specs.Blocks.{made_at}
use Rattle.elm_canon.specs.Proper.{Scope, among, IsIn, AreFresh, with_all, ProperGroups, ProperFunctions}
use Rattle.elm_canon.specs.Proper.{function_names, after, bound_by}
use Rattle.canon_proper.proofs.Scopes.{among-append, among-with_all, fresh_split}
use Rattle.canon_proper.proofs.Apart.{Apart, turned, fresh_none, fresh_less, fresh_both, fresh_in, in_either, in_left}
use Rattle.canon_proper.proofs.Apart.{in_right, in_neither}
use Rattle.canon_proper.proofs.Made.{ProperMade, is_functional, GoodFunctions, one_function, two_together}

-- ---- lists

abbrev pub flat : {X : Type 0} → List (List X) → List X
flat xss = flat_map (λ xs. xs) xss

pub in_parts : {X : Type 0} (xs ys : List X) (x : X) → Contains (xs ++ ys) x → Contains xs x ⊎ Contains ys x
in_parts [] ys x m = inr m
in_parts (z ∷ xs) ys x m =
    ⊎_elim (λ e. inl (subst (Contains (z ∷ xs)) e (first_member z xs)))
    (λ k. ⊎_elim (λ h. inl (later_member z x xs h)) (λ h. inr h) (in_parts xs ys x k)) (member_cases z x (xs ++ ys) m)

pub first_part : {X : Type 0} (xs ys : List X) (x : X) → Contains xs x → Contains (xs ++ ys) x
first_part [] ys x m = absurd (no_member x m)
first_part (z ∷ xs) ys x m =
    ⊎_elim (λ e. subst (Contains (z ∷ xs ++ ys)) e (first_member z (xs ++ ys)))
    (λ k. later_member z x (xs ++ ys) (first_part xs ys x k)) (member_cases z x xs m)

pub last_part : {X : Type 0} (xs ys : List X) (x : X) → Contains ys x → Contains (xs ++ ys) x
last_part [] ys x m = m
last_part (z ∷ xs) ys x m = later_member z x (xs ++ ys) (last_part xs ys x m)

-- ---- the names that each definition gives

pub at_sub : (ns : List (List Ref)) (i : ℕ) (r : Ref) → among r (list_at ns i) ≡ true → among r (flat ns) ≡ true
at_sub [] i r e = absurd (false≢true e)
at_sub (xs ∷ ns) zero r e = in_left r xs (flat ns) e
at_sub (xs ∷ ns) (suc i) r e = in_right r xs (flat ns) (at_sub ns i r e)

once_at : (ns : List (List Ref)) (s : Scope) → AreFresh (flat ns) s → (i : ℕ) → AreFresh (list_at ns i) []
once_at [] s f i = tt
once_at (xs ∷ ns) s f zero = fresh_less xs s [] (λ r e. absurd (false≢true e)) (fresh_split xs (flat ns) s f).0
once_at (xs ∷ ns) s f (suc i) = once_at ns (with_all xs s) (fresh_split xs (flat ns) s f).1 i

-- those of one have none in common with those after it
first_apart : (xs : List Ref) (ns : List (List Ref)) (s : Scope) → AreFresh (xs ++ flat ns) s → (j : ℕ) →
    Apart (list_at ns j) xs
first_apart xs ns s f j = λ r e.
    (or_parts (among r xs) (among r s)
    (sym (among-with_all r xs s)
    ∙ fresh_none (flat ns) (with_all xs s) (fresh_split xs (flat ns) s f).1 r (at_sub ns j r e))).0

cross : (ns : List (List Ref)) (s : Scope) → AreFresh (flat ns) s → (i j : ℕ) → (i ≡ j → ⊥) →
    Apart (list_at ns i) (list_at ns j)
cross [] s f i j h = λ r e. absurd (false≢true e)
cross (xs ∷ ns) s f zero zero h = absurd (h refl)
cross (xs ∷ ns) s f zero (suc j) h = turned (list_at ns j) xs (first_apart xs ns s f j)
cross (xs ∷ ns) s f (suc i) zero h = first_apart xs ns s f i
cross (xs ∷ ns) s f (suc i) (suc j) h =
    cross ns (with_all xs s) (fresh_split xs (flat ns) s f).1 i j (λ e. h (ap suc e))

-- those of these definitions
abbrev pub names_of : List (List Ref) → List ℕ → List Ref
names_of ns [] = []
names_of ns (i ∷ is) = list_at ns i ++ names_of ns is

names_of-append : (ns : List (List Ref)) (is js : List ℕ) → names_of ns (is ++ js) ≡ names_of ns is ++ names_of ns js
names_of-append ns [] js = refl
names_of-append ns (i ∷ is) js =
    ap (λ rs. list_at ns i ++ rs) (names_of-append ns is js)
    ∙ sym (append_assoc (list_at ns i) (names_of ns is) (names_of ns js))

pub name_of_one : (ns : List (List Ref)) (is : List ℕ) (i : ℕ) (r : Ref) → Contains is i →
    among r (list_at ns i) ≡ true → among r (names_of ns is) ≡ true
name_of_one ns [] i r m e = absurd (no_member i m)
name_of_one ns (k ∷ is) i r m e =
    ⊎_elim
    (λ s. in_left r (list_at ns k) (names_of ns is) (subst (λ z. among r (list_at ns z) ≡ true) (sym s) e))
    (λ n. in_right r (list_at ns k) (names_of ns is) (name_of_one ns is i r n e)) (member_cases k i is m)

pub names_sub : (ns : List (List Ref)) (is : List ℕ) (r : Ref) → among r (names_of ns is) ≡ true →
    among r (flat ns) ≡ true
names_sub ns [] r e = absurd (false≢true e)
names_sub ns (i ∷ is) r e =
    ⊎_elim (λ f. at_sub ns i r f) (λ f. names_sub ns is r f) (in_either r (list_at ns i) (names_of ns is) e)

-- the outer names and those of these definitions
pub record Holds (outer : Scope) (ns : List (List Ref)) (placed : List ℕ) (s : Scope) : Type 0 where
  pub same : (r : Ref) → among r s ≡ (among r outer || among r (names_of ns placed))

pub none_placed : (outer : Scope) (ns : List (List Ref)) → Holds outer ns [] outer
none_placed outer ns = record { same = λ r. by (among r outer) }
  where
    by : (c : Bool) → c ≡ (c || false)
    by true = refl
    by false = refl

pub outer_kept : (outer : Scope) (ns : List (List Ref)) (placed : List ℕ) (s : Scope) → Holds outer ns placed s →
    (r : Ref) → IsIn r outer → IsIn r s
outer_kept outer ns placed s h r e = h.same r ∙ ap (λ c. c || among r (names_of ns placed)) e

shuffled : (o p c : Bool) → (c || (o || p)) ≡ (o || (p || c))
shuffled true p true = refl
shuffled true p false = refl
shuffled false true true = refl
shuffled false true false = refl
shuffled false false true = refl
shuffled false false false = refl

pub holds_more : (outer : Scope) (ns : List (List Ref)) (g placed : List ℕ) (s : Scope) → Holds outer ns placed s →
    Holds outer ns (placed ++ g) (with_all (names_of ns g) s)
holds_more outer ns g placed s h = record {
  same = λ r.
      among-with_all r (names_of ns g) s ∙ ap (λ c. among r (names_of ns g) || c) (h.same r)
      ∙ shuffled (among r outer) (among r (names_of ns placed)) (among r (names_of ns g))
      ∙ ap (λ c. among r outer || c)
      (sym (ap (among r) (names_of-append ns placed g) ∙ among-append r (names_of ns placed) (names_of ns g)));
}

-- ---- definitions that use each other

-- their names are new, each once; one that reaches itself is a function
pub record AreOrdered (outer : Scope) (ns : List (List Ref)) (uses : List (List ℕ)) (made : List Made) : Type 0 where
  pub apart : Apart (flat ns) outer
  pub fresh : AreFresh (flat ns) []
  pub within : AreWithin uses
  pub recursive : (i : ℕ) → uses_itself uses i ≡ true → is_functional (slice_index_or made i NoMade) ≡ true

-- proper once all that it uses is placed
abbrev pub IsProperAt : Scope → List (List Ref) → List (List ℕ) → List Made → ℕ → Type 0
IsProperAt outer ns uses made i =
    (seen : List ℕ) (s : Scope) → Holds outer ns seen s → ((j : ℕ) → Uses uses i j → Contains seen j) →
    ProperMade s (list_at ns i) (slice_index_or made i NoMade)

abbrev pub StepOf : Scope → List (List Ref) → List Group → List ℕ → Scope → Type 0
StepOf outer ns gs more s = ProperGroups s (groups_of gs) × Holds outer ns more (after (groups_of gs) s)

module _ (outer : Scope) (ns : List (List Ref)) (uses : List (List ℕ)) (made : List Made)
    (b : AreOrdered outer ns uses made) where
  one_apart : (i : ℕ) (js : List ℕ) → (Contains js i → ⊥) → Apart (list_at ns i) (names_of ns js)
  one_apart i [] h = λ r e. refl
  one_apart i (j ∷ js) h = λ r e.
      in_neither r (list_at ns j) (names_of ns js)
      (cross ns [] b.fresh i j (λ s. h (subst (Contains (j ∷ js)) (sym s) (first_member j js))) r e)
      (one_apart i js (λ m. h (later_member j i js m)) r e)

  names_apart : (is js : List ℕ) → ((i : ℕ) → Contains is i → Contains js i → ⊥) →
      Apart (names_of ns is) (names_of ns js)
  names_apart [] js h = λ r e. absurd (false≢true e)
  names_apart (i ∷ is) js h = λ r e.
      ⊎_elim (λ f. one_apart i js (h i (first_member i is)) r f)
      (λ f. names_apart is js (λ k m. h k (later_member i k is m)) r f)
      (in_either r (list_at ns i) (names_of ns is) e)

  names_once : (is : List ℕ) → Ascends is → AreFresh (names_of ns is) []
  names_once [] a = tt
  names_once (i ∷ is) a =
      fresh_both (list_at ns i) (names_of ns is) (once_at ns [] b.fresh i) (names_once is (ascends_tail i is a))
      (turned (list_at ns i) (names_of ns is)
      (one_apart i is (λ m. let l : i < i = ascends_head i i is a m in omega (arith, l))))

  pub one_new : (i : ℕ) → AreFresh (list_at ns i) []
  one_new i = once_at ns [] b.fresh i

  pub new_names : (g placed : List ℕ) (s : Scope) → Holds outer ns placed s → Ascends g →
      ((i : ℕ) → Contains g i → Contains placed i → ⊥) → AreFresh (names_of ns g) s
  new_names g placed s h a apart =
      fresh_in (names_of ns g) s (names_once g a)
      (λ r e. h.same r ∙ ap (λ c. c || among r (names_of ns placed)) (b.apart r (names_sub ns g r e))
      ∙ names_apart g placed apart r e)

  -- ---- groups

  functions_at : (s : Scope) (is : List ℕ) →
      ((k : ℕ) → Contains is k → ProperMade s (list_at ns k) (slice_index_or made k NoMade)
      × (is_functional (slice_index_or made k NoMade) ≡ true)) →
      GoodFunctions s (made_at made is) (names_of ns is)
  functions_at s [] f = (tt, refl)
  functions_at s (k ∷ is) f =
      let p = f k (first_member k is) in
      one_function s (list_at ns k) (slice_index_or made k NoMade) (made_at made is) (names_of ns is) p.0 p.1
      (functions_at s is (λ j m. f j (later_member k j is m)))

  together_by : (fs : Functions) (rs : List Ref) (more : List ℕ) (s : Scope) → function_names fs ≡ rs → AreFresh rs s →
      ProperFunctions (with_all rs s) fs → Holds outer ns more (with_all rs s) → StepOf outer ns (Together fs ∷ []) more s
  together_by fs rs more s e fresh p h = (
    ((subst (λ xs. AreFresh xs s) (sym e) fresh, subst (λ xs. ProperFunctions (with_all xs s) fs) (sym e) p), tt),
    subst (λ xs. Holds outer ns more (with_all xs s)) (sym e) h,
  )

  -- what a ready group uses
  used_by : (placed g : List ℕ) → IsReady uses placed g → (i j : ℕ) → Contains g i → Uses uses i j →
      Contains (placed ++ g) j
  used_by placed g ready i j m u =
      ⊎_elim (λ k. first_part placed g j k) (λ k. last_part placed g j k) (ready.used i j m u)

  together_step : (g placed : List ℕ) (s : Scope) → Holds outer ns placed s → IsReady uses placed g →
      ((i : ℕ) → Contains g i → IsProperAt outer ns uses made i) →
      ((k : ℕ) → Contains g k → is_functional (slice_index_or made k NoMade) ≡ true) →
      StepOf outer ns (Together (functions_in (made_at made g)) ∷ []) (placed ++ g) s
  together_step g placed s h ready well f =
      let more = holds_more outer ns g placed s h in
      let fs = functions_at (with_all (names_of ns g) s) g
      (λ k m. (
        well k m (placed ++ g) (with_all (names_of ns g) s) more (λ j u. used_by placed g ready k j m u),
        f k m,
      )) in
      together_by (functions_in (made_at made g)) (names_of ns g) (placed ++ g) s fs.1
      (new_names g placed s h ready.is_group.ascends ready.not_placed) fs.0 more

  single_by : (rs : List Ref) (m : Made) (more : List ℕ) (s : Scope) → AreFresh (rs ++ []) s →
      Holds outer ns more (with_all (rs ++ []) s) → ProperMade (with_all (rs ++ []) s) rs m →
      (is_functional m ≡ false → ProperMade s rs m) → StepOf outer ns (group_of (m ∷ [])) more s
  single_by rs NoMade more s fresh h p q = (tt, subst (λ xs. Holds outer ns more (with_all (xs ++ []) s)) p h)
  single_by rs (MadeFunction title ps e) more s fresh h p q =
      let f = one_function (with_all (rs ++ []) s) rs (MadeFunction title ps e) [] [] p refl (tt, refl) in
      together_by (functions_in (MadeFunction title ps e ∷ [])) (rs ++ []) more s f.1 fresh f.0 h
  single_by rs (MadeConstant title e) more s fresh h p q =
      let r = q refl in
      let names : rs ++ [] ≡ title.name ∷ [] = ap (λ xs. xs ++ []) r.0 in
      let new = subst (λ xs. AreFresh xs s) names fresh in
      (((r.1, (new.0, r.2)), tt), subst (λ xs. Holds outer ns more (with_all xs s)) names h)
  single_by rs (MadeParts p e) more s fresh h p2 q =
      let r = q refl in
      let names : rs ++ [] ≡ bound_by p = append-nil rs ∙ r.0 in
      let new = subst (λ xs. AreFresh xs s) names fresh in
      ((((r.1, new), r.2), tt), subst (λ xs. Holds outer ns more (with_all xs s)) names h)

  pub single_step : (i : ℕ) (placed : List ℕ) (s : Scope) → Holds outer ns placed s → IsReady uses placed (i ∷ []) →
      IsProperAt outer ns uses made i →
      StepOf outer ns (group_of (slice_index_or made i NoMade ∷ [])) (placed ++ i ∷ []) s
  single_step i placed s h ready well =
      let g = i ∷ [] in
      let more = holds_more outer ns g placed s h in
      single_by (list_at ns i) (slice_index_or made i NoMade) (placed ++ g) s
      (new_names g placed s h ready.is_group.ascends ready.not_placed) more
      (well (placed ++ g) (with_all (names_of ns g) s) more
      (λ j u. used_by placed g ready i j (first_member i []) u))
      (λ e. well placed s h
      (λ j u. ⊎_elim (λ k. k)
      (λ k. absurd (⊎_elim
      (λ same. false≢true (sym e ∙ b.recursive i
      (itself_at_once uses b.within i (subst (Uses uses i) (sym same) u)))) (λ n. no_member j n)
      (member_cases i j [] k))) (ready.used i j (first_member i []) u)))

  pub several_step : (k l : ℕ) (rest placed : List ℕ) (s : Scope) → Holds outer ns placed s →
      IsReady uses placed (k ∷ l ∷ rest) →
      ((i : ℕ) → Contains (k ∷ l ∷ rest) i → IsProperAt outer ns uses made i) →
      StepOf outer ns (group_of (made_at made (k ∷ l ∷ rest))) (placed ++ k ∷ l ∷ rest) s
  several_step k l rest placed s h ready well =
      subst (λ gs. StepOf outer ns gs (placed ++ k ∷ l ∷ rest) s)
      (sym (two_together (slice_index_or made k NoMade) (slice_index_or made l NoMade) (made_at made rest)))
      (together_step (k ∷ l ∷ rest) placed s h ready well
      (λ i m. b.recursive i (itself_in uses b.within k l rest ready.is_group i m)))

  pub step : (g placed : List ℕ) (s : Scope) → Holds outer ns placed s → IsReady uses placed g →
      ((i : ℕ) → Contains g i → IsProperAt outer ns uses made i) →
      StepOf outer ns (group_of (made_at made g)) (placed ++ g) s
  step [] placed s h ready well = absurd (omega (arith, ready.is_group.not_empty))
  step (i ∷ []) placed s h ready well = single_step i placed s h ready (well i (first_member i []))
  step (k ∷ l ∷ rest) placed s h ready well = several_step k l rest placed s h ready well
