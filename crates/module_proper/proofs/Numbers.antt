-- Names of the declarations of a module, and the numbers of the declarations that names are of.
use Rattle.std.proofs.Common.{◌≡◌, ℕ, zero, suc, ◌<◌, List, [], ◌∷◌, map, length, Bool, true, false, Some, None}
use Rattle.std.proofs.Common.{refl, sym, ap, ◌∙◌, subst, ⊎_elim, arith}
use Rattle.std.specs.Prelude.{◌&&◌, ◌||◌, if◌then◌else◌, Option, option_map, option_and_then, slice_index_or}
use Rattle.std.specs.List.{Contains, cons_option}
use Rattle.std.proofs.lemmas.Bool.{false≢true}
use Rattle.decl_groups.specs.Groups.{list_at}
use Rattle.decl_groups.proofs.Basics.{first_member, later_member}
use Rattle.elm_canon.specs.Names.{Name, same_name, same_ref}
use Rattle.elm_canon.specs.declared.reference.Ref.{Ref}
use Rattle.elm_canon.specs.declared.reference.Ref.TheVariants.{Local, Top}
use Rattle.canon_env.proofs.Adding.{one_name, same_name-sym}
use Rattle.canon_module.specs.TopUses.{is_named, number_of, own_name, used_number, used_numbers}
use Rattle.elm_canon.specs.Proper.{among, IsIn}
use Rattle.canon_proper.proofs.Scopes.{name_itself, one_ref, among-append}
use Rattle.canon_proper.proofs.Apart.{in_either}
use Rattle.canon_proper.proofs.Steps.{flat}
use Rattle.module_proper.specs.Modules.{tops}

-- ---- names of the module

abbrev pub tops_each : Name → List (List Name) → List (List Ref)
tops_each home each = map (tops home) each

pub no_local : (home x : Name) (ys : List Name) → among (Local x) (tops home ys) ≡ false
no_local home x [] = refl
no_local home x (y ∷ ys) = no_local home x ys

pub no_local_each : (home x : Name) (each : List (List Name)) → among (Local x) (flat (tops_each home each)) ≡ false
no_local_each home x [] = refl
no_local_each home x (ys ∷ each) =
    among-append (Local x) (tops home ys) (flat (tops_each home each))
    ∙ ap (λ b. b || among (Local x) (flat (tops_each home each))) (no_local home x ys) ∙ no_local_each home x each

pub one_home : (m home x : Name) (ys : List Name) → among (Top m x) (tops home ys) ≡ true → m ≡ home
one_home m home x [] e = absurd (false≢true e)
one_home m home x (y ∷ ys) e = by (same_name m home) refl (same_name x y) (λ h. one_home m home x ys h) e
  where
    by : (b : Bool) → same_name m home ≡ b → (c : Bool) → (among (Top m x) (tops home ys) ≡ true → m ≡ home) →
        (if b && c then true else among (Top m x) (tops home ys)) ≡ true → m ≡ home
    by true s c later h = one_name m home s
    by false s c later h = later h

pub one_home_each : (m home x : Name) (each : List (List Name)) → among (Top m x) (flat (tops_each home each)) ≡ true →
    m ≡ home
one_home_each m home x [] e = absurd (false≢true e)
one_home_each m home x (ys ∷ each) e =
    ⊎_elim (λ h. one_home m home x ys h) (λ h. one_home_each m home x each h)
    (in_either (Top m x) (tops home ys) (flat (tops_each home each)) e)

pub same_top : (home x y : Name) → same_ref (Top home x) (Top home y) ≡ same_name x y
same_top home x y = ap (λ b. b && same_name x y) (name_itself home)

pub among_tops : (home x : Name) (ys : List Name) → among (Top home x) (tops home ys) ≡ is_named x ys
among_tops home x [] = refl
among_tops home x (y ∷ ys) =
    ap (λ b. if b then true else among (Top home x) (tops home ys)) (same_top home x y ∙ same_name-sym x y)
    ∙ by (same_name y x) (among_tops home x ys)
  where
    by : (b : Bool) → among (Top home x) (tops home ys) ≡ is_named x ys →
        (if b then true else among (Top home x) (tops home ys)) ≡ (b || is_named x ys)
    by true e = refl
    by false e = e

-- ---- numbers

-- the declaration that a name is of
pub number_found : (home x : Name) (each : List (List Name)) → among (Top home x) (flat (tops_each home each)) ≡ true →
    (j : ℕ) × (number_of each x ≡ Some j) × (among (Top home x) (list_at (tops_each home each) j) ≡ true)
number_found home x [] e = absurd (false≢true e)
number_found home x (ys ∷ each) e =
    by (is_named x ys) (among_tops home x ys) (number_found home x each)
  where
    by : (b : Bool) → among (Top home x) (tops home ys) ≡ b →
        (among (Top home x) (flat (tops_each home each)) ≡ true →
        (j : ℕ) × (number_of each x ≡ Some j) × (among (Top home x) (list_at (tops_each home each) j) ≡ true)) →
        (j : ℕ) × ((if b then Some 0 else option_map suc (number_of each x)) ≡ Some j)
        × (among (Top home x) (list_at (tops_each home (ys ∷ each)) j) ≡ true)
    by true h later = (0, refl, h)
    by false h later =
        let r = later (⊎_elim (λ k. absurd (false≢true (sym h ∙ k))) (λ k. k)
        (in_either (Top home x) (tops home ys) (flat (tops_each home each)) e)) in
        (suc r.0, ap (option_map suc) r.1, r.2)

own_is : (home x : Name) → own_name home (Top home x) ≡ Some x
own_is home x = ap (λ b. if b then Some x else None) (name_itself home)

pub used_is : (home x : Name) (each : List (List Name)) (j : ℕ) → number_of each x ≡ Some j →
    used_number home each (Top home x) ≡ Some j
used_is home x each j e = ap (option_and_then (number_of each)) (own_is home x) ∙ e

in_option : (o : Option ℕ) (j : ℕ) (js : List ℕ) → o ≡ Some j → Contains (cons_option o js) j
in_option None j js e = absurd cc
in_option (Some k) j js e = let s : k ≡ j = cc in subst (Contains (k ∷ js)) s (first_member k js)

after_option : (o : Option ℕ) (j : ℕ) (js : List ℕ) → Contains js j → Contains (cons_option o js) j
after_option None j js m = m
after_option (Some k) j js m = later_member k j js m

-- the number of a name that is used is among those that are used
pub in_numbers : (home : Name) (each : List (List Name)) (refs : List Ref) (r : Ref) (j : ℕ) → IsIn r refs →
    used_number home each r ≡ Some j → Contains (used_numbers home each refs) j
in_numbers home each [] r j i e = absurd (false≢true i)
in_numbers home each (q ∷ refs) r j i e = by (same_ref r q) refl i (λ k. in_numbers home each refs r j k e)
  where
    by : (b : Bool) → same_ref r q ≡ b → (if b then true else among r refs) ≡ true →
        (IsIn r refs → Contains (used_numbers home each refs) j) →
        Contains (used_numbers home each (q ∷ refs)) j
    by true s h later =
        in_option (used_number home each q) j (used_numbers home each refs)
        (ap (used_number home each) (sym (one_ref r q s)) ∙ e)
    by false s h later = after_option (used_number home each q) j (used_numbers home each refs) (later h)

-- ---- places

-- what a map gives at a place
pub map_or : {X Y : Type 0} (f : X → Y) (d : X) (xs : List X) (i : ℕ) →
    slice_index_or (map f xs) i (f d) ≡ f (slice_index_or xs i d)
map_or f d [] i = refl
map_or f d (x ∷ xs) zero = refl
map_or f d (x ∷ xs) (suc i) = map_or f d xs i

-- a name of some list
pub flat_at : (ns : List (List Ref)) (r : Ref) → among r (flat ns) ≡ true →
    (i : ℕ) × (i < length ns) × (among r (list_at ns i) ≡ true)
flat_at [] r e = absurd (false≢true e)
flat_at (xs ∷ ns) r e =
    ⊎_elim (λ h. (0, omega arith, h)) (λ h. let t = flat_at ns r h in (suc t.0, omega (arith, t.1), t.2))
    (in_either r xs (flat ns) e)
