-- One definition more around.
use Rattle.std.proofs.Common.{◌≡◌, ℕ, ◌+◌, List, [], ◌∷◌, Option, Some, None, refl, ap, arith}
use Rattle.std.specs.List.{AllByRecursion}
use Rattle.std.specs.Map.{lookup}
use Rattle.elm_canon.specs.Names.{same_ref}
use Rattle.type_items.specs.Items.{Place, Wanted, Item}
use Rattle.type_items.specs.Scopes.{Entry, Mono, Instance, General, Scope}
use Rattle.type_items.specs.Definitions.{outer_types}
use Rattle.type_store.specs.Store.{Store}
use Rattle.type_walks.specs.Links.{Links, Live, AreLive}
use Rattle.type_walks.specs.Walks.{Around}
use Rattle.type_walks.proofs.Linking.{later_itself}
use Rattle.type_walks.specs.Frozen.{Frozen}
use Rattle.type_walks.specs.TypeCopiesLaws.{deeper}
use Rattle.type_walks.specs.Says.{Says}
use Rattle.type_schemes.specs.Constants.{Outer}
use Rattle.infer_steps.specs.Codes.{Meaning, One, Many, Each, Code, State}
use Rattle.infer_steps.specs.Ready.{MeaningReady, IsReady, Follows}
use Rattle.infer_steps.specs.Means.{MeansEntry, Means, Setting}
use Rattle.infer_steps.proofs.Copying.{outer_live}
use Rattle.infer_steps.proofs.Staying.{around_child}
use Rattle.infer_groups.specs.Defined.{inside}

pub live_deeper : (d : ℕ) (s : Store) (v : ℕ) → Live d s v → Live (d + 1) s v
live_deeper d s v l = record { inside = l.inside; depth = omega (arith, l.depth) }

pub links_deeper : (d : ℕ) (s : Store) (links : Links) → AreLive d s links → AreLive (d + 1) s links
links_deeper d s [] h = tt
links_deeper d s (l ∷ ls) h = (live_deeper d s l.0 h.0, links_deeper d s ls h.1)

all_deeper : (d : ℕ) (s : Store) (vs : List ℕ) → AllByRecursion (Live d s) vs → AllByRecursion (Live (d + 1) s) vs
all_deeper d s [] h = tt
all_deeper d s (v ∷ vs) h = (live_deeper d s v h.0, all_deeper d s vs h.1)

-- ---- what the code's scope stands for

module _ (a : Around) (s : Store) (links : Links) where
  says_deeper : (frozen : Frozen) (list : Place → List Item) (type : Place → Wanted) → Says a s links frozen list type
      → Says (deeper a) s links frozen list type
  says_deeper frozen list type h = record {
    most = h.most;
    each = λ q σ inner fit away fits. (
        let x = h.each q σ inner fit away fits in
        record {
          types = x.types;
          ground = x.ground;
          root = x.root;
          solves = x.solves;
          kept = λ all c l clean ins.
              x.kept all c l (record { each = λ v live. clean.each v (live_deeper a.depth s v live) }) ins;
        });
  }

  entry_deeper : (o : Option Meaning) (e : Option Entry) → MeansEntry a links s o e → MeansEntry (deeper a) links s o e
  entry_deeper None None h = tt
  entry_deeper None (Some e) h = absurd h
  entry_deeper (Some (One v)) None h = absurd h
  entry_deeper (Some (One v)) (Some (Mono t)) h = h
  entry_deeper (Some (One v)) (Some (Instance scheme)) h = absurd h
  entry_deeper (Some (One v)) (Some (General list type)) h = absurd h
  entry_deeper (Some (Many frozen)) None h = absurd h
  entry_deeper (Some (Many frozen)) (Some (Mono t)) h = absurd h
  entry_deeper (Some (Many frozen)) (Some (Instance scheme)) h = absurd h
  entry_deeper (Some (Many frozen)) (Some (General list type)) h = (says_deeper frozen list type h.0, h.1)
  entry_deeper (Some (Each t)) None h = absurd h
  entry_deeper (Some (Each t)) (Some (Mono u)) h = absurd h
  entry_deeper (Some (Each t)) (Some (Instance scheme)) h = h
  entry_deeper (Some (Each t)) (Some (General list type)) h = absurd h

  outer_deeper : (ts : List Wanted) → AllByRecursion (Outer a.depth s links) ts
      → AllByRecursion (Outer (a.depth + 1) s links) ts
  outer_deeper [] h = tt
  outer_deeper (t ∷ ts) h = (
    record { slot = h.0.slot; has = h.0.has; live = live_deeper a.depth s h.0.slot h.0.live },
    outer_deeper ts h.1,
  )

  pub means_deeper : (code : Code) (scope : Scope) → Means a links code scope s → Means (deeper a) links code scope s
  means_deeper code scope m = record {
    live = links_deeper a.depth s links m.live;
    known = m.known;
    names = λ x. entry_deeper (code.names x) (lookup (same_ref x) scope.names) (m.names x);
    constants = m.constants;
    types = outer_deeper (outer_types scope) m.types;
    only = m.only;
  }

pub setting_deeper : (a : Around) (links : Links) (code : Code) (scope : Scope) (old : State) (i : ℕ)
    → Setting a links code scope old → Setting (deeper a) links code scope (inside old i)
setting_deeper a links code scope old i set = record {
  around = record {
    depth = ap (λ n. n + 1) set.around.depth;
    within = set.around.within;
    outside = (around_child a old i set.around).outside;
  };
  live = links_deeper a.depth old.store links set.live;
  named = set.named;
  tells = set.tells;
  means = means_deeper a old.store set.named code scope set.means;
}

-- the names in scope alone
pub setting_named : (a : Around) (links : Links) (code : Code) (scope : Scope) (old : State)
    → (set : Setting a links code scope old)
    → Setting a set.named code scope old
setting_named a links code scope old set = record {
  around = set.around;
  live = set.means.live;
  named = set.named;
  tells = record { each = λ σ types l. l };
  means = set.means;
}

-- ---- what can be used

meaning_deeper : (d : ℕ) (s : Store) (m : Meaning) → MeaningReady d s m → MeaningReady (d + 1) s m
meaning_deeper d s (One v) h = live_deeper d s v h
meaning_deeper d s (Many frozen) h = record {
  formed = h.formed;
  live = outer_live (d + 1) d s s (later_itself s) (omega arith) frozen h.live;
  copies = h.copies;
}
meaning_deeper d s (Each t) h = record {
  kinds = h.kinds;
  written = h.written;
  live = all_deeper d s t.outer h.live;
  lacks = h.lacks;
}

pub ready_deeper : (code : Code) (d : ℕ) (s : Store) → IsReady code d s → IsReady code (d + 1) s
ready_deeper code d s ready = record {
  whole = ready.whole;
  around = record { each = λ v r e. omega (arith, ready.around.each v r e) };
  known = ready.known;
  names = λ x m is. meaning_deeper d s m (ready.names x m is);
  constants = λ x v is. live_deeper d s v (ready.constants x v is);
}

-- ---- later states, seen from one definition less

abbrev pub shallower : State → State → State
shallower old s = record { store = s.store; depth = old.depth; place = old.place }

pub follows_out : (old : State) (i : ℕ) (now : State) → Follows (inside old i) now → Follows old (shallower old now)
follows_out old i now f = record {
  place = refl;
  depth = refl;
  whole = f.whole;
  later = f.later;
  back = λ σ g. (
      let x = f.back σ g in
      record {
        values = x.values;
        fit = x.fit;
        agree = record {
          types = λ v l. x.agree.types v (live_deeper old.depth old.store v l);
          constants = x.agree.constants;
        };
      });
}

pub follows_both : (old : State) (now u : State) → now.depth ≡ old.depth + 1 → Follows now u
    → Follows (shallower old now) (shallower old u)
follows_both old now u e f = record {
  place = refl;
  depth = refl;
  whole = f.whole;
  later = f.later;
  back = λ σ g. (
      let x = f.back σ g in
      record {
        values = x.values;
        fit = x.fit;
        agree = record {
          types = λ v l. x.agree.types v (record { inside = l.inside; depth = omega (arith, l.depth, e) });
          constants = x.agree.constants;
        };
      });
}
