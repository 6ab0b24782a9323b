-- Items that ask for sizes.
use Rattle.std.proofs.Common.{◌≡◌, List, [], ◌∷◌, ◌++◌, Bool, true, false, cond, refl, sym, ap, subst, ◌∙◌}
use Rattle.std.specs.Prelude.{◌||◌, not}
use Rattle.std.specs.List.{list_any}
use Rattle.elm_base.specs.declared.position.Pos.{Pos}
use Rattle.elm_type.specs.Types.{Scheme}
use Rattle.elm_type.specs.Classes.{Ground}
use Rattle.std.proofs.lemmas.List.{append_assoc, append-nil}
use Rattle.type_items.specs.Items.{Place, Wanted, Item, Same, InClass, Lacks, Keeps, Small, asks_size}
use Rattle.type_items.specs.Solutions.{Values, Solves, Solution}
use Rattle.type_items.specs.Principal.{HasType, asks_scope, unscoped, IsPrincipal}
use Rattle.type_items.specs.Faults.{IsSmall, Typable}

-- ---- a size that is asked for says nothing of types

module _ (pos : Pos) (u : Wanted) where
  abbrev with_last : List Item → List Item
  with_last items = items ++ Small pos u ∷ []

  solves_more : (values : Values) (items : List Item) → Solves values items → Solves values (with_last items)
  solves_more values [] h = (tt, tt)
  solves_more values (i ∷ is) h = (h.0, solves_more values is h.1)

  solves_less : (values : Values) (items : List Item) → Solves values (with_last items) → Solves values items
  solves_less values [] h = tt
  solves_less values (i ∷ is) h = (h.0, solves_less values is h.1)

  pub more : (items : List Item) → Solution items → Solution (with_last items)
  more items s = record { values = s.values; ground = s.ground; solves = solves_more s.values items s.solves }

  has_more : (items : List Item) (t : Wanted) (g : Ground) → HasType items t g → HasType (with_last items) t g
  has_more items t g h = record {
    solution = record { values = h.solution.values; ground = h.solution.ground; solves = solves_more h.solution.values items h.solution.solves };
    has = h.has;
  }

  has_less : (items : List Item) (t : Wanted) (g : Ground) → HasType (with_last items) t g → HasType items t g
  has_less items t g h = record {
    solution = record { values = h.solution.values; ground = h.solution.ground; solves = solves_less h.solution.values items h.solution.solves };
    has = h.has;
  }

  pushed : (b : Bool) (i : Item) (is : List Item) → cond b (i ∷ with_last is) (with_last is) ≡ with_last (cond b (i ∷ is) is)
  pushed true i is = refl
  pushed false i is = refl

  unscoped_more : (items : List Item) → unscoped (with_last items) ≡ with_last (unscoped items)
  unscoped_more [] = refl
  unscoped_more (i ∷ is) =
      ap (λ rest. cond (not (asks_scope i)) (i ∷ rest) rest) (unscoped_more is)
      ∙ pushed (not (asks_scope i)) i (unscoped is)

pub with_size : (p : Place) (items : List Item) (pos : Pos) (u t : Wanted) (s : Scheme) → IsPrincipal p items t s
    → IsPrincipal p (items ++ Small pos u ∷ []) t s
with_size p items pos u t s h = record {
  formed = h.formed;
  each = λ g. (
    λ has. (h.each g).0 (has_less pos u (unscoped items) t g (subst (λ is. HasType is t g) (unscoped_more pos u items) has)),
    λ inst. subst (λ is. HasType is t g) (sym (unscoped_more pos u items)) (has_more pos u (unscoped items) t g ((h.each g).1 inst)),
  );
  kept = λ g outside inst. has_more pos u items t g (h.kept g outside inst);
}

-- ---- types that are small where their sizes are asked for

abbrev pub SizeHolds : Place → List Item → Item → Type 0
SizeHolds p before (Same pos t u) = Unit {0}
SizeHolds p before (InClass pos t c) = Unit {0}
SizeHolds p before (Lacks pos t x) = Unit {0}
SizeHolds p before (Keeps pos r ts) = Unit {0}
SizeHolds p before (Small pos t) = IsSmall p before t

-- each is small, after the items before it
abbrev pub SizesHold : Place → List Item → List Item → Type 0
SizesHold p before [] = Unit {0}
SizesHold p before (i ∷ is) = SizeHolds p before i × SizesHold p (before ++ i ∷ []) is

nothing_after : (front back : List Item) (i : Item) → [] ≡ front ++ i ∷ back → ⊥
nothing_after [] back i e = absurd cc
nothing_after (j ∷ front) back i e = absurd cc

small_from : (p : Place) (before items front back : List Item) (pos : Pos) (t : Wanted) → SizesHold p before items
    → items ≡ front ++ Small pos t ∷ back → IsSmall p (before ++ front) t
small_from p before [] front back pos t h e = absurd (nothing_after front back (Small pos t) e)
small_from p before (i ∷ is) [] back pos t h e =
    let same : i ≡ Small pos t = cc in
    subst (λ xs. IsSmall p xs t) (sym (append-nil before)) (subst (SizeHolds p before) same h.0)
small_from p before (i ∷ is) (j ∷ front) back pos t h e =
    let same : i ≡ j = cc in
    let rest : is ≡ front ++ Small pos t ∷ back = cc in
    subst (λ xs. IsSmall p xs t)
    (append_assoc before (i ∷ []) front ∙ ap (λ k. before ++ k ∷ front) same)
    (small_from p (before ++ i ∷ []) is front back pos t h.1 rest)

pub typable : (p : Place) (items : List Item) → Solution items → SizesHold p [] items → Typable p items
typable p items s h = record {
  solution = s;
  small = λ front back pos t e. small_from p [] items front back pos t h e;
}

-- ---- items of which the last alone asks for a size

or_false : (a b : Bool) → (a || b) ≡ false → (a ≡ false) × (b ≡ false)
or_false true b e = absurd cc
or_false false b e = (refl, e)

none_asked : (p : Place) (before : List Item) (i : Item) → asks_size i ≡ false → SizeHolds p before i
none_asked p before (Same pos t u) e = tt
none_asked p before (InClass pos t c) e = tt
none_asked p before (Lacks pos t x) e = tt
none_asked p before (Keeps pos r ts) e = tt
none_asked p before (Small pos t) e = absurd cc

last_holds : (p : Place) (before items : List Item) (pos : Pos) (t : Wanted) → list_any asks_size items ≡ false
    → IsSmall p (before ++ items) t → SizesHold p before (items ++ Small pos t ∷ [])
last_holds p before [] pos t none h = (subst (λ xs. IsSmall p xs t) (append-nil before) h, tt)
last_holds p before (i ∷ is) pos t none h =
    let split = or_false (asks_size i) (list_any asks_size is) none in (
      none_asked p before i split.0,
      last_holds p (before ++ i ∷ []) is pos t split.1
          (subst (λ xs. IsSmall p xs t) (sym (append_assoc before (i ∷ []) is)) h),
    )

pub one_size : (p : Place) (items : List Item) (pos : Pos) (t : Wanted) → list_any asks_size items ≡ false → Solution items
    → IsSmall p items t → Typable p (items ++ Small pos t ∷ [])
one_size p items pos t none s small =
    typable p (items ++ Small pos t ∷ []) (more pos t items s) (last_holds p [] items pos t none small)
