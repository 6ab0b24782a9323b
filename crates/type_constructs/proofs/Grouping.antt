-- Groups of definitions are walked.
use Rattle.std.proofs.Common.{◌≡◌, ℕ, ◌+◌, ◌≤◌, List, [], ◌∷◌, ◌++◌, length, Bool, true, false, inl, refl, sym, ap, ◌∙◌, subst, arith, append_assoc}
use Rattle.std.specs.Prelude.{flat_map, ◌&&◌, nat_eq}
use Rattle.std.specs.List.{enumerate_from}
use Rattle.std.proofs.lemmas.List.{append-nil, length_push}
use Rattle.elm_base.specs.declared.position.Pos.{Pos}
use Rattle.elm_type.specs.Types.{int_type}
use Rattle.type_items.specs.Items.{Place, child, Wanted, at, Item, Small}
use Rattle.type_items.specs.Scopes.{Scope}
use Rattle.type_items.specs.Principal.{unscoped}
use Rattle.type_items.specs.Solutions.{Solves}
use Rattle.type_items.specs.Expressions.{nowhere}
use Rattle.type_items.specs.Definitions.{Definition, member_items, group_items, type_in_group, list_group, list_groups}
use Rattle.type_store.specs.Store.{Store}
use Rattle.type_store.specs.Laws.{EachChoiceFits}
use Rattle.type_walks.specs.Regions.{Region, none, only, below, span, either, Inside, Apart}
use Rattle.type_walks.specs.Links.{Links}
use Rattle.type_walks.specs.Walks.{Around, Walk}
use Rattle.type_walks.proofs.Regions.{only_itself, none_inside, child_in_span, below_in_span, span_in_span, spans_apart, either_inside}
use Rattle.type_walks.proofs.Linking.{left_inside, right_inside, solves_both, solves_first, unscoped_both}
use Rattle.type_walks.proofs.Walking.{rests, goes_on, widens}
use Rattle.type_walks.proofs.Cleaning.{constant_there}
use Rattle.type_walks.proofs.Generalising.{generalises}
use Rattle.type_walks.proofs.Saying.{says_of_copies}
use Rattle.type_schemes.specs.Constants.{Kept}
use Rattle.type_schemes.proofs.Closing.{closes}
use Rattle.type_constructs.proofs.Passing.{passes_on}
use Rattle.type_constructs.specs.Regions.{deep}
use Rattle.type_constructs.specs.Stepping.{Step}
use Rattle.type_constructs.proofs.Spots.{Here, Child, Below, Tops, Deep, Nowhere, In}
use Rattle.type_constructs.proofs.Sizes.{pattern_sizes}
use Rattle.type_constructs.proofs.Running.{plain, last, on, under, next}
use Rattle.type_constructs.specs.Groups.{WalksSmall, WalksDestructure, WalksNoMember, WalksOneMember, WalksGroup, ClosesGroup, SaysGroup, WalksNoGroup, WalksOneGroup, ScopeAfterOneGroup}

pub walks_small : WalksSmall
walks_small a pos t s links =
    let r = rests a s links in
    record {
      later = r.later;
      live = r.live;
      determined = r.determined;
      back = r.back;
      sound = λ σ f away. (
          let x = r.sound σ f away in
          record { types = x.types; ground = x.ground; linked = x.linked; solves = λ all c h. (tt, tt); kept = λ all c h k. (tt, tt) });
      complete = λ σ types f g away linked sol. r.complete σ types f g away linked tt;
    }

-- without an item on a size at the end
drops_small : (a : Around) (R : Region) (is : List Item) (pos : Pos) (t : Wanted) (s s' : Store) (before after : Links)
    → Walk a R (is ++ Small pos t ∷ []) s before s' after → Walk a R is s before s' after
drops_small a R is pos t s s' before after w = record {
  later = w.later;
  live = w.live;
  determined = w.determined;
  back = w.back;
  sound = λ σ f away. (
      let x = w.sound σ f away in
      record {
        types = x.types;
        ground = x.ground;
        linked = x.linked;
        solves = λ all c h. solves_first all (unscoped is) (unscoped (Small pos t ∷ [])) (subst (Solves all) (unscoped_both is (Small pos t ∷ [])) (x.solves all c h));
        kept = λ all c h k. solves_first all is (Small pos t ∷ []) (x.kept all c h k);
      });
  complete = λ σ types f g away linked sol.
      w.complete σ types f g away linked
      (subst (Solves types) (sym (unscoped_both is (Small pos t ∷ [])))
      (solves_both types (unscoped is) (unscoped (Small pos t ∷ [])) sol (tt, tt)));
}

pub walks_destructure : WalksDestructure
walks_destructure real a p e scope start q v s u s' links bound live matched second =
    under refl live
    (on (In (Child Here 0) Below) refl (plain (pattern_sizes p scope.known start (child q 0) v) matched.walk)
    (last (In (Child Here 1) Below) second))

-- ---- members

pub walks_no_member : WalksNoMember
walks_no_member real a scope p s links = plain tt (widens a none (deep p 0 0) [] s s links links (none_inside (deep p 0 0)) (rests a s links))

members_after : (ds : List Definition) (d : Definition) (scope : Scope) (p : Place) (i j : ℕ) → i + length ds ≡ j
    → flat_map (member_items scope p) (enumerate_from i (ds ++ d ∷ []))
    ≡ flat_map (member_items scope p) (enumerate_from i ds)
    ++ (d.list scope (child p j) (at (child p j)) ++ Small d.place (at (child p j)) ∷ [])
members_after [] d scope p i j e =
    let f : i ≡ j = omega arith in
    append-nil (member_items scope p (i, d)) ∙ ap (λ n. d.list scope (child p n) (at (child p n)) ++ Small d.place (at (child p n)) ∷ []) f
members_after (o ∷ ds) d scope p i j e =
    ap (λ l. member_items scope p (i, o) ++ l) (members_after ds d scope p (i + 1) j (omega arith))
    ∙ sym (append_assoc (member_items scope p (i, o)) (flat_map (member_items scope p) (enumerate_from (i + 1) ds)) _)

pub walks_one_member : WalksOneMember
walks_one_member real a ds d scope p s u v s' before between after end live first second small =
    subst (λ l. Step real a (deep p 0 (length (ds ++ d ∷ []))) l s before s' end)
    (sym (members_after ds d scope p 0 (length ds) (omega arith)))
    (next p 0 (length ds) (length ds) (length (ds ++ d ∷ [])) (omega arith) (let l = length_push ds d in omega arith) live first
    (under refl (first.walk.live live) (on (In Here Below) refl second (last Nowhere small))))

pub walks_group : WalksGroup
walks_group real a ds scope p s u s' links after vs live opened members =
    under refl live
    (on (In Here (Tops 0 (length vs))) refl (plain tt opened.walk) (last (In Here (Deep 0 (length ds))) members))

-- ---- a group is done

below_root : (q : Place) → below q [] ≡ false
below_root [] = refl
below_root (k ∷ q) = refl

and_no : (a b : Bool) → b ≡ false → (a && b) ≡ false
and_no true b h = h
and_no false b h = refl

not_below_itself : (q : Place) → below q q ≡ false
not_below_itself [] = refl
not_below_itself (k ∷ q) = and_no (nat_eq k k) (below q q) (not_below_itself q)

module _ (choice_fits : EachChoiceFits) where
  pub closes_group : ClosesGroup
  closes_group a p q ds scope s s' links after whole within within' live new walk =
      drops_small a (either (only q) (below q)) (group_items ds scope q) nowhere int_type s s' links links
      (closes choice_fits a p q (below q) (either (only q) (below q)) (group_items ds scope q) [] [] int_type nowhere s s s' s' links after whole
      within live (record { here = tt; new = new })
      (record {
        root = below_root q;
        off = not_below_itself q;
        inside = right_inside (only q) (below q);
        here = (left_inside (only q) (below q)).each q (only_itself q);
        under = right_inside (only q) (below q);
      })
      tt
      (record {
        grows = omega arith;
        depth = λ v l. omega arith;
        constants = λ r h. inl h;
        known = λ r h. inl h;
        live = tt;
        old = λ e v le l. l;
        back = λ σ f. (f, tt);
        on = λ σ f renames. (σ, f, record { types = λ v l. refl; constants = λ r. refl });
      })
      walk
      (record { count = refl; each = λ v. Kept refl (λ r e. new r (within'.each r (constant_there s' v r e))) }))

  pub says_group : SaysGroup
  says_group a ds scope x s s' links after frozen v place number whole within live walks has freezes root =
      says_of_copies a s' links frozen (λ q. group_items ds scope q) (λ q. type_in_group ds scope.known x q)
      (generalises choice_fits a s s' links frozen (λ q. group_items ds scope q) (λ q. type_in_group ds scope.known x q) after v place number
      whole within live walks has freezes root)

-- ---- groups in turn

pub walks_no_group : WalksNoGroup
walks_no_group real a scope p s links = plain tt (widens a none (span p 0 0) [] s s links links (none_inside (span p 0 0)) (rests a s links))

scope_last : (gs : List (List Definition)) (g : List Definition) (scope : Scope) (p : Place) (i j : ℕ) → i + length gs ≡ j
    → (list_groups (gs ++ g ∷ []) scope p i).scope ≡ (list_group g (list_groups gs scope p i).scope (child p j)).scope
scope_last [] g scope p i j e = let f : i ≡ j = omega arith in ap (λ n. (list_group g scope (child p n)).scope) f
scope_last (h ∷ gs) g scope p i j e = scope_last gs g (list_group h scope (child p i)).scope p (i + 1) j (omega arith)

items_last : (gs : List (List Definition)) (g : List Definition) (scope : Scope) (p : Place) (i j : ℕ) → i + length gs ≡ j
    → (list_groups (gs ++ g ∷ []) scope p i).items
    ≡ (list_groups gs scope p i).items ++ (list_group g (list_groups gs scope p i).scope (child p j)).items
items_last [] g scope p i j e =
    let f : i ≡ j = omega arith in
    append-nil (list_group g scope (child p i)).items ∙ ap (λ n. (list_group g scope (child p n)).items) f
items_last (h ∷ gs) g scope p i j e =
    let first = list_group h scope (child p i) in
    ap (λ l. first.items ++ l) (items_last gs g first.scope p (i + 1) j (omega arith))
    ∙ sym (append_assoc first.items (list_groups gs first.scope p (i + 1)).items _)

pub scope_after : ScopeAfterOneGroup
scope_after gs g scope p = scope_last gs g scope p 0 (length gs) (omega arith)

abbrev group_region : Place → ℕ → Region
group_region p n = either (only (child p n)) (below (child p n))

pub walks_one_group : WalksOneGroup
walks_one_group real a gs g scope p s u s' links live first second =
    subst (λ l. Step real a (span p 0 (length (gs ++ g ∷ []))) l s links s' links)
    (sym (items_last gs g scope p 0 (length gs) (omega arith)))
    (record {
      walk =
          widens a (either (span p 0 (length gs)) (group_region p (length gs))) (span p 0 (length (gs ++ g ∷ []))) _ s s' links links
          (either_inside (span p 0 (length gs)) (group_region p (length gs)) (span p 0 (length (gs ++ g ∷ []))) left right)
          (goes_on a (span p 0 (length gs)) (group_region p (length gs)) _ _ s u s' links links links apart live first.walk second.walk);
      passes = λ r.
          passes_on a (span p 0 (length gs)) (group_region p (length gs)) (span p 0 (length (gs ++ g ∷ []))) _ _ s u links links apart left right first.walk
          (first.passes r) (second.passes r);
    })
  where
    more : length (gs ++ g ∷ []) ≡ length gs + 1
    more = length_push gs g

    left : Inside (span p 0 (length gs)) (span p 0 (length (gs ++ g ∷ [])))
    left = span_in_span p 0 (length (gs ++ g ∷ [])) 0 (length gs) (omega arith) (omega (arith, more))

    inside : (i n : ℕ) → i ≤ length gs → length gs + 1 ≤ i + n → Inside (group_region p (length gs)) (span p i n)
    inside i n x y =
        either_inside (only (child p (length gs))) (below (child p (length gs))) (span p i n)
        (child_in_span p i n (length gs) x (omega (arith, y))) (below_in_span p i n (length gs) x (omega (arith, y)))

    right : Inside (group_region p (length gs)) (span p 0 (length (gs ++ g ∷ [])))
    right = inside 0 (length (gs ++ g ∷ [])) (omega arith) (omega (arith, more))

    apart : Apart (span p 0 (length gs)) (group_region p (length gs))
    apart = record { each = λ r e. off r ((spans_apart p 0 (length gs) (length gs) 1 (omega arith)).each r e) }
      where
        off : (r : Place) → span p (length gs) 1 r ≡ false → group_region p (length gs) r ≡ false
        off r n = go (group_region p (length gs) r) refl
          where
            go : (b : Bool) → group_region p (length gs) r ≡ b → b ≡ false
            go true e = absurd (let x = (inside (length gs) 1 (omega arith) (omega arith)).each r e in cc)
            go false e = refl
