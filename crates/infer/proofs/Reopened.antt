-- With a variable more of which nothing is known, a store tells of a bad item what it told before.
use Rattle.std.proofs.Common.{◌≡◌, ℕ, ◌≤◌, List, [], ◌∷◌, ◌++◌, length, refl, sym, ap, subst, arith}
use Rattle.std.proofs.Common.{⊎_elim}
use Rattle.std.specs.List.{Contains}
use Rattle.std.proofs.lemmas.Bool.{cases_lt}
use Rattle.std.proofs.lemmas.List.{length_push}
use Rattle.type_items.specs.Items as asked
use Rattle.type_items.specs.Items.{Place, Item}
use Rattle.type_store.specs.Store.{Open, Slot, Store, slot_at}
use Rattle.type_store.specs.Solutions.{Values, Meets, Renames, Fit, constant_of, constants_of}
use Rattle.type_store.specs.Steps.{put}
use Rattle.type_store.proofs.Turns.{slot_before, slot_pushed, open_meets}
use Rattle.type_store.proofs.Parts.{slot_past}
use Rattle.type_store.proofs.Extending.{made_back}
use Rattle.type_walks.specs.Regions.{Region}
use Rattle.type_walks.specs.Links.{Links, Live, AreLive}
use Rattle.type_walks.specs.Walks.{Around}
use Rattle.type_walks.specs.Progress.{Stands}
use Rattle.type_constructs.specs.Failing.{Bad, Same, InClass, Lacks, Keeps, Large, Shows, IsBad, FailsAt}

-- ---- the store with one variable more

constants_same : (s : Store) (d : ℕ) → constants_of (s ++ put Open d ∷ []) ≡ constants_of s
constants_same [] d = refl
constants_same (x ∷ s) d = ap (λ rs. constant_of x.cell ++ rs) (constants_same s d)

module _ (s : Store) (d : ℕ) where
  abbrev pub more : Store
  more = s ++ put Open d ∷ []

  meets_new : (σ : Values) (w : ℕ) → Fit σ s → length s ≤ w → Meets σ (slot_at more w) (σ.types w)
  meets_new σ w f l =
      ⊎_elim
      (λ past. subst (λ (x : Slot). Meets σ x (σ.types w))
      (sym (slot_past more w (omega (arith, past, length_push s (put Open d)))))
      (open_meets σ (σ.types w) (f.each w).ground))
      (λ last. (
      let e : length s ≡ w = omega (arith, l, last) in
      subst (λ v. Meets σ (slot_at more v) (σ.types v)) e
      (subst (λ (x : Slot). Meets σ x (σ.types (length s))) (sym (slot_pushed s (put Open d)))
      (record {
        cell = tt;
        kind = (open_meets σ (σ.types (length s)) (f.each (length s)).ground).kind;
        ground = (f.each (length s)).ground;
      })))) (cases_lt (length s) w)

  fit_on : (σ : Values) → Fit σ s → Fit σ more
  fit_on σ f = record {
    renames = subst (λ rs. Renames rs σ.constants) (sym (constants_same s d)) f.renames;
    each = λ w. ⊎_elim
        (λ l. subst (λ (x : Slot). Meets σ x (σ.types w)) (sym (slot_before s (put Open d) w l)) (f.each w))
        (λ l. meets_new σ w f l) (cases_lt w (length s));
  }

  live_on : (e v : ℕ) → Live e s v → Live e more v
  live_on e v l = record {
    inside = omega (arith, l.inside, length_push s (put Open d));
    depth = subst (λ (x : Slot). x.depth ≤ e) (sym (slot_before s (put Open d) v l.inside)) l.depth;
  }

  all_live : (e : ℕ) (links : Links) → AreLive e s links → AreLive e more links
  all_live e [] h = tt
  all_live e (l ∷ links) h = (live_on e l.0 h.0, all_live e links h.1)

  stands_on : (a : Around) (R : Region) (items : List Item) (links : Links) → Stands a R items s links
      → Stands a R items more links
  stands_on a R items links h = record {
    live = all_live a.depth links h.live;
    away = h.away;
    sound = λ σ fit own. (
        let f = h.sound σ (made_back s Open d σ fit).0 own in
        record {
          types = f.types;
          ground = f.ground;
          linked = f.linked;
          solves = f.solves;
          kept = λ all c l clean.
              f.kept all c l (record { each = λ v live. clean.each v (live_on a.depth v live) });
        });
    complete = λ types ground solves. (
        let r = h.complete types ground solves in
        record { values = r.values; fit = fit_on r.values r.fit; constants = r.constants; linked = r.linked });
  }

  shows_on : (p : Place) (items : List Item) (types : Links) → Shows p items s types → Shows p items more types
  shows_on p items types h = record {
    around = h.around;
    region = h.region;
    links = h.links;
    stands = stands_on h.around h.region items h.links h.stands;
    under = h.under;
    within = record {
      each = λ r c. h.within.each r (subst (λ rs. Contains rs r) (constants_same s d) c);
    };
    has = h.has;
  }

  bad_on : (p : Place) (items : List Item) (item : Item) (bad : Bad) → IsBad p items s item bad
      → IsBad p items more item bad
  bad_on p items (asked.Same pos t u) (Same here v w) h = (h.0, h.1, shows_on p items ((v, t) ∷ (w, u) ∷ []) h.2)
  bad_on p items (asked.Same pos t u) (InClass here v c) h = absurd h
  bad_on p items (asked.Same pos t u) (Lacks here v y) h = absurd h
  bad_on p items (asked.Same pos t u) (Keeps here y) h = absurd h
  bad_on p items (asked.Same pos t u) (Large here v) h = absurd h
  bad_on p items (asked.InClass pos t c) (Same here v w) h = absurd h
  bad_on p items (asked.InClass pos t c) (InClass here v e) h = (h.0, h.1, h.2, shows_on p items ((v, t) ∷ []) h.3)
  bad_on p items (asked.InClass pos t c) (Lacks here v y) h = absurd h
  bad_on p items (asked.InClass pos t c) (Keeps here y) h = absurd h
  bad_on p items (asked.InClass pos t c) (Large here v) h = absurd h
  bad_on p items (asked.Lacks pos t x) (Same here v w) h = absurd h
  bad_on p items (asked.Lacks pos t x) (InClass here v c) h = absurd h
  bad_on p items (asked.Lacks pos t x) (Lacks here v y) h = h
  bad_on p items (asked.Lacks pos t x) (Keeps here y) h = absurd h
  bad_on p items (asked.Lacks pos t x) (Large here v) h = absurd h
  bad_on p items (asked.Keeps pos r ts) (Same here v w) h = absurd h
  bad_on p items (asked.Keeps pos r ts) (InClass here v c) h = absurd h
  bad_on p items (asked.Keeps pos r ts) (Lacks here v y) h = absurd h
  bad_on p items (asked.Keeps pos r ts) (Keeps here y) h = h
  bad_on p items (asked.Keeps pos r ts) (Large here v) h = absurd h
  bad_on p items (asked.Small pos t) (Same here v w) h = absurd h
  bad_on p items (asked.Small pos t) (InClass here v c) h = absurd h
  bad_on p items (asked.Small pos t) (Lacks here v y) h = absurd h
  bad_on p items (asked.Small pos t) (Keeps here y) h = absurd h
  bad_on p items (asked.Small pos t) (Large here v) h = h

  pub fails_on : (p : Place) (items : List Item) (bad : Bad) → FailsAt p items bad s → FailsAt p items bad more
  fails_on p items bad h = record {
    before = h.before;
    item = h.item;
    after = h.after;
    split = h.split;
    fine = h.fine;
    is = bad_on p h.before h.item bad h.is;
  }
