-- The order of groups depends on which uses there are alone.
use Rattle.std.proofs.Common.{◌≡◌, ℕ, ◌<◌, List, [], length, subst, sym}
use Rattle.decl_groups.specs.Groups.{Uses, Reaches, here, through, Together, position_of, IsGroup, IsReady, IsNext}
use Rattle.decl_groups.specs.Groups.{IsOrder, all_placed, next}

record SameUses (us vs : List (List ℕ)) : Type 0 where
  count : length us ≡ length vs
  on : (i j : ℕ) → Uses us i j → Uses vs i j
  back : (i j : ℕ) → Uses vs i j → Uses us i j

turned : (us vs : List (List ℕ)) → SameUses us vs → SameUses vs us
turned us vs s = record { count = sym s.count; on = s.back; back = s.on }

reaches_on : (us vs : List (List ℕ)) → SameUses us vs → {i j : ℕ} → Reaches us i j → Reaches vs i j
reaches_on us vs s here = here
reaches_on us vs s (through u r) = through (s.on _ _ u) (reaches_on us vs s r)

together_on : (us vs : List (List ℕ)) → SameUses us vs → (i j : ℕ) → Together us i j → Together vs i j
together_on us vs s i j t = (reaches_on us vs s t.0, reaches_on us vs s t.1)

group_on : (us vs : List (List ℕ)) → SameUses us vs → (g : List ℕ) → IsGroup us g → IsGroup vs g
group_on us vs s g h = record {
  ascends = h.ascends;
  not_empty = h.not_empty;
  members = λ i. (
    (λ c. (
      subst (λ n. i < n) s.count ((h.members i).0 c).0,
      together_on us vs s (position_of g) i
          ((h.members i).0 c).1,
    )),
    (λ m. (h.members i).1 (
      subst (λ n. i < n) (sym s.count) m.0,
      together_on vs us (turned us vs s) (position_of g) i
          m.1,
    )),
  );
}

ready_on : (us vs : List (List ℕ)) → SameUses us vs → (placed g : List ℕ) → IsReady us placed g → IsReady vs placed g
ready_on us vs s placed g h = record {
  is_group = group_on us vs s g h.is_group;
  not_placed = h.not_placed;
  used = λ i j c u. h.used i j c (s.back i j u);
}

next_on : (us vs : List (List ℕ)) → SameUses us vs → (placed g : List ℕ) → IsNext us placed g → IsNext vs placed g
next_on us vs s placed g h = record {
  ready = ready_on us vs s placed g h.ready;
  least = λ other r. h.least other (ready_on vs us (turned us vs s) placed other r);
}

all_on : (us vs : List (List ℕ)) → SameUses us vs → {placed : List ℕ} {gs : List (List ℕ)} → IsOrder us placed gs
    → IsOrder vs placed gs
all_on us vs s (all_placed h) = all_placed (λ i l. h i (subst (λ n. i < n) (sym s.count) l))
all_on us vs s (next h rest) = next (next_on us vs s _ _ h) (all_on us vs s rest)

pub order_on : (us vs : List (List ℕ)) (gs : List (List ℕ)) → length us ≡ length vs
    → ((i j : ℕ) → Uses us i j → Uses vs i j)
    → ((i j : ℕ) → Uses vs i j → Uses us i j) → IsOrder us [] gs → IsOrder vs [] gs
order_on us vs gs count on back h = all_on us vs (record { count = count; on = on; back = back }) h
