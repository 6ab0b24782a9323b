-- The names that patterns bind are those of its words.
use Rattle.std.proofs.Common.{◌≡◌, List, [], ◌∷◌, ◌++◌, Bool, true, false, Some, refl, sym, ap, subst}
use Rattle.std.proofs.Common.{inl, inr}
use Rattle.std.specs.Prelude.{is_some, if◌then◌else◌}
use Rattle.elm_canon.specs.Names.{Name, same_name}
use Rattle.elm_canon.specs.declared.reference.Ref.{Ref}
use Rattle.elm_canon.specs.declared.reference.Ref.TheVariants.{Local}
use Rattle.elm_canon.specs.Tree as canon
use Rattle.elm_tree.specs.Tree as tree
use Rattle.elm_tree.specs.Tree.{Word}
use Rattle.canon_env.specs.Imports.{name_of}
use Rattle.canon_env.specs.Found.{Found, Nothing, One, Several}
use Rattle.canon_env.specs.Shown.{MakerMeaning, OfUnion, OfRecord}
use Rattle.canon_env.specs.Naming.{World, maker_found}
use Rattle.canon_env.specs.Locals.{Locals, with_names}
use Rattle.canon_env.specs.Patterns.{words_of, words_of_all, pattern_of, patterns_of, list_of, items_of, construct_of}
use Rattle.canon_env.specs.Patterns.{binding_sites}
use Rattle.elm_canon.specs.Proper.{among, IsIn, bound_by, all_bound_by}
use Rattle.canon_proper.proofs.Scopes.{refs, refs-append, refs_locals}
use Rattle.canon_proper.proofs.Quiet.{AreSound}
use Rattle.canon_proper.proofs.Patterns.{words_fresh}
use Rattle.elm_canon.proofs.Among.{first, first_or_later, in_left, in_right, in_both, is_false, two_ways}
use Rattle.elm_canon.proofs.Among.{fresh_new, ref_itself}

-- ---- patterns

module _ (x : Ref) where
  list_bound : (ps : canon.Patterns) → IsIn x (bound_by (list_of ps)) → IsIn x (all_bound_by ps)
  list_bound canon.NoPattern h = absurd cc
  list_bound (canon.MorePattern p ps) h = elim (in_both x (bound_by p) (bound_by (list_of ps) ++ []) h) [
    | inl l ↦ in_left x (bound_by p) (all_bound_by ps) l
    | inr r ↦ in_right x (bound_by p) (all_bound_by ps) (elim (in_both x (bound_by (list_of ps)) [] r) [
      | inl k ↦ list_bound ps k
      | inr k ↦ absurd cc
    ])
  ]

  items_bound : (ps : canon.Patterns) → IsIn x (bound_by (items_of ps)) → IsIn x (all_bound_by ps)
  items_bound canon.NoPattern h = absurd cc
  items_bound (canon.MorePattern p canon.NoPattern) h = in_left x (bound_by p) [] h
  items_bound (canon.MorePattern p (canon.MorePattern q ps)) h =
      elim (in_both x (bound_by p) (bound_by (items_of (canon.MorePattern q ps)) ++ []) h) [
        | inl l ↦ in_left x (bound_by p) (all_bound_by (canon.MorePattern q ps)) l
        | inr r ↦ in_right x (bound_by p) (all_bound_by (canon.MorePattern q ps))
            (elim (in_both x (bound_by (items_of (canon.MorePattern q ps))) [] r) [
              | inl k ↦ items_bound (canon.MorePattern q ps) k
              | inr k ↦ absurd cc
            ])
      ]

  construct_bound : (ps : canon.Patterns) (f : Found MakerMeaning) → IsIn x (bound_by (construct_of ps f))
      → IsIn x (all_bound_by ps)
  construct_bound ps Nothing h = absurd cc
  construct_bound ps Several h = absurd cc
  construct_bound ps (One r) h = by r.meaning r.home h
    where
      by : (n : MakerMeaning) (home : Name)
          → IsIn x (bound_by (construct_of ps (One (record { home = home; meaning = n })))) → IsIn x (all_bound_by ps)
      by (OfUnion u c) home k = k
      by (OfRecord fields) home k = absurd cc

  parts : (vs ws : List Word) → IsIn x (refs vs) → IsIn x (refs (vs ++ ws))
  parts vs ws h = subst (IsIn x) (sym (refs-append vs ws)) (in_left x (refs vs) (refs ws) h)

  later_parts : (vs ws : List Word) → IsIn x (refs ws) → IsIn x (refs (vs ++ ws))
  later_parts vs ws h = subst (IsIn x) (sym (refs-append vs ws)) (in_right x (refs vs) (refs ws) h)

  module _ (w : World) where
    mutual
      pub pattern_bound : (p : tree.Pattern) → IsIn x (bound_by (pattern_of w p)) → IsIn x (refs (words_of p))
      pattern_bound (tree.Anything p) h = absurd cc
      pattern_bound (tree.Named y) h = h
      pattern_bound (tree.As p a y) h = elim (in_both x (bound_by (pattern_of w a)) (Local (name_of y) ∷ []) h) [
        | inl l ↦ parts (words_of a) (y ∷ []) (pattern_bound a l)
        | inr r ↦ later_parts (words_of a) (y ∷ []) r
      ]
      pattern_bound (tree.Exactly p l) h = absurd cc
      pattern_bound (tree.Construct y ps) h =
          patterns_bound ps (construct_bound (patterns_of w ps) (maker_found w y) h)
      pattern_bound (tree.ConsPattern p ps) h = patterns_bound ps (items_bound (patterns_of w ps) h)
      pattern_bound (tree.ListPattern p ps) h = patterns_bound ps (list_bound (patterns_of w ps) h)
      pattern_bound (tree.TuplePattern p ps) h = patterns_bound ps h
      pattern_bound (tree.FieldsPattern p []) h = absurd cc
      pattern_bound (tree.FieldsPattern p (y ∷ ys)) h = subst (IsIn x) (refs_locals (y ∷ ys)) h

      pub patterns_bound : (ps : tree.Patterns) → IsIn x (all_bound_by (patterns_of w ps))
          → IsIn x (refs (words_of_all ps))
      patterns_bound tree.NoPattern h = absurd cc
      patterns_bound (tree.MorePattern a ps) h =
          elim (in_both x (bound_by (pattern_of w a)) (all_bound_by (patterns_of w ps)) h) [
            | inl l ↦ parts (words_of a) (words_of_all ps) (pattern_bound a l)
            | inr r ↦ later_parts (words_of a) (words_of_all ps) (patterns_bound ps r)
          ]

-- ---- local names in scope

-- none of these names is a local name in scope
pub record NoneOf (locals : Locals) (xs : List Ref) : Type 0 where
  pub each : (x : Name) → is_some (locals x) ≡ true → among (Local x) xs ≡ false

pub nothing_of : (locals : Locals) → NoneOf locals []
nothing_of locals = record { each = λ x h. refl }

pub both_none : (locals : Locals) (xs ys : List Ref) → NoneOf locals xs → NoneOf locals ys → NoneOf locals (xs ++ ys)
both_none locals xs ys a b = record {
  each = λ x h. is_false (among (Local x) (xs ++ ys)) (λ k. elim (in_both (Local x) xs ys k) [
    | inl l ↦ two_ways (among (Local x) xs) l (a.each x h)
    | inr r ↦ two_ways (among (Local x) ys) r (b.each x h)
  ]);
}

pub fewer_none : (locals : Locals) (xs ys : List Ref) → ((x : Ref) → IsIn x xs → IsIn x ys) → NoneOf locals ys
    → NoneOf locals xs
fewer_none locals xs ys f b = record {
  each = λ x h. is_false (among (Local x) xs) (λ k. two_ways (among (Local x) ys) (f (Local x) k) (b.each x h));
}

still_held : (ws : List Word) (locals : Locals) (x : Name) → is_some (locals x) ≡ true
    → is_some (with_names ws locals x) ≡ true
still_held [] locals x h = h
still_held (v ∷ ws) locals x h = go (same_name (name_of v) x) (still_held ws locals x h)
  where
    go : (b : Bool) → is_some (with_names ws locals x) ≡ true
        → is_some (if b then Some v.place else with_names ws locals x) ≡ true
    go true k = refl
    go false k = k

-- with more names in scope
pub outer_none : (ws : List Word) (locals : Locals) (xs : List Ref) → NoneOf (with_names ws locals) xs
    → NoneOf locals xs
outer_none ws locals xs b = record { each = λ x h. b.each x (still_held ws locals x h) }

-- a name of a word is in scope
pub record IsHeld (locals : Locals) (x : Ref) : Type 0 where
  pub name : Name
  pub is : x ≡ Local name
  pub held : is_some (locals name) ≡ true

pub word_held : (ws : List Word) (locals : Locals) (x : Ref) → IsIn x (refs ws) → IsHeld (with_names ws locals) x
word_held [] locals x h = absurd cc
word_held (v ∷ ws) locals x h = elim (first_or_later x (Local (name_of v)) (refs ws) h) [
  | inl e ↦ record {
    name = name_of v;
    is = e;
    held = ap (λ b. is_some (if b then Some v.place else with_names ws locals (name_of v)))
        (ref_itself (Local (name_of v)));
  }
  | inr k ↦ more (word_held ws locals x k)
]
  where
    more : IsHeld (with_names ws locals) x → IsHeld (with_names (v ∷ ws) locals) x
    more r = record { name = r.name; is = r.is; held = go (same_name (name_of v) r.name) r.held }
      where
        go : (b : Bool) → is_some (with_names ws locals r.name) ≡ true
            → is_some (if b then Some v.place else with_names ws locals r.name) ≡ true
        go true k = refl
        go false k = k

-- ---- names that are bound without faults

pub words_none : (w : World) (locals : Locals) (ws : List Word) → AreSound w (binding_sites locals ws)
    → NoneOf locals (refs ws)
words_none w locals ws sound = record {
  each = λ x h. is_false (among (Local x) (refs ws)) (λ k. two_ways (among (Local x) (Local x ∷ []))
      (first (Local x) []) (fresh_new (Local x) (refs ws) (Local x ∷ [])
      (words_fresh w locals (Local x ∷ []) ws (free x h) sound).0 k));
}
  where
    free : (x : Name) → is_some (locals x) ≡ true → (y : Name) → is_some (locals y) ≡ false
        → among (Local y) (Local x ∷ []) ≡ false
    free x h y none_ = is_false (among (Local y) (Local x ∷ [])) (λ k. elim (first_or_later (Local y) (Local x) [] k) [
      | inl e ↦ two_ways (is_some (locals x)) h (subst (λ z. is_some (locals z) ≡ false) (same e) none_)
      | inr m ↦ absurd cc
    ])
      where
        same : Local y ≡ Local x → y ≡ x
        same e = cc
