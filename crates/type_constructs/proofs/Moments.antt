-- From one moment to a later one.
use Rattle.std.proofs.Common.{◌≡◌, List, [], ◌∷◌, ◌++◌, Bool, true, false, refl, sym, ap, ◌∙◌, subst, append_assoc}
use Rattle.std.specs.Prelude.{◌||◌}
use Rattle.std.specs.List.{Contains}
use Rattle.elm_base.specs.declared.position.Pos.{Pos}
use Rattle.elm_type.specs.Types.{Rigid}
use Rattle.type_items.specs.Items.{Place, Wanted, Item, Small, asks_size}
use Rattle.type_items.specs.Faults.{IsSmall}
use Rattle.type_store.specs.Store.{Store}
use Rattle.type_walks.specs.Regions.{Region, either, Inside, Apart}
use Rattle.type_walks.specs.Links.{Links, AreLive, Tells}
use Rattle.type_walks.specs.Walks.{Around, Walk}
use Rattle.type_walks.specs.Progress.{Stands}
use Rattle.type_walks.specs.Laws.{Outside}
use Rattle.type_walks.proofs.Linking.{clean_inside}
use Rattle.type_walks.proofs.Going.{walk_goes}
use Rattle.type_walks.specs.Told.{IsUnder}
use Rattle.type_constructs.specs.Passing.{Sized, Ready, NoSizes}

-- ---- an item of two lists stands in the first or in the second

pub data Found (first second before : List Item) (i : Item) (after : List Item) : Type 0 where
  InFirst : (r : List Item) → first ≡ before ++ i ∷ r → Found first second before i after
  InSecond : (b : List Item) → before ≡ first ++ b → second ≡ b ++ i ∷ after → Found first second before i after

one_more : (x y : Item) (xs ys second : List Item) (i : Item) (after : List Item) → x ≡ y → Found xs second ys i after
    → Found (x ∷ xs) second (y ∷ ys) i after
one_more x y xs ys second i after e (InFirst r f) = InFirst r (ap (λ h. h ∷ xs) e ∙ ap (λ l. y ∷ l) f)
one_more x y xs ys second i after e (InSecond b f g) = InSecond b (ap (λ h. h ∷ ys) (sym e) ∙ ap (λ l. x ∷ l) f) g

pub found : (first second before : List Item) (i : Item) (after : List Item) → first ++ second ≡ before ++ i ∷ after
    → Found first second before i after
found [] second before i after e = InSecond before refl e
found (x ∷ xs) second [] i after e = (let f : x ≡ i = cc in InFirst xs (ap (λ h. h ∷ xs) f))
found (x ∷ xs) second (y ∷ ys) i after e =
    let f : x ≡ y = cc in
    let rest : xs ++ second ≡ ys ++ i ∷ after = cc in
    one_more x y xs ys second i after f (found xs second ys i after rest)

-- ---- sizes

pub sized_both : (p : Place) (first second : List Item) → Sized p first
    → ((b after : List Item) (pos : Pos) (t : Wanted) → second ≡ b ++ Small pos t ∷ after → IsSmall p (first ++ b) t)
    → Sized p (first ++ second)
sized_both p first second h k = record {
  small = λ before after pos t e. go before after pos t (found first second before (Small pos t) after e);
}
  where
    go : (before after : List Item) (pos : Pos) (t : Wanted) → Found first second before (Small pos t) after → IsSmall p before t
    go before after pos t (InFirst r f) = h.small before r pos t f
    go before after pos t (InSecond b f g) = subst (λ l. IsSmall p l t) (sym f) (k b after pos t g)

pub sized_front : (p : Place) (first second : List Item) → Sized p (first ++ second) → Sized p first
sized_front p first second h = record {
  small = λ before after pos t e.
      h.small before (after ++ second) pos t (ap (λ l. l ++ second) e ∙ append_assoc before (Small pos t ∷ after) second);
}

pub no_size : (items b after : List Item) (pos : Pos) (t : Wanted) → NoSizes items → items ≡ b ++ Small pos t ∷ after → ⊥
no_size [] [] after pos t h e = cc
no_size [] (y ∷ ys) after pos t h e = cc
no_size (x ∷ xs) [] after pos t h e =
    let f : x ≡ Small pos t = cc in
    let g : asks_size x ≡ true = ap asks_size f in
    let k : asks_size x ≡ false = h.0 in
    cc
no_size (x ∷ xs) (y ∷ ys) after pos t h e =
    let rest : xs ≡ ys ++ Small pos t ∷ after = cc in
    no_size xs ys after pos t h.1 rest

pub sized_plain : (p : Place) (first items : List Item) → NoSizes items → Sized p first → Sized p (first ++ items)
sized_plain p first items none h = sized_both p first items h (λ b after pos t e. absurd (no_size items b after pos t none e))

pub all_sized : (p : Place) → Sized p []
all_sized p = record {
  small = λ before after pos t e. absurd (no_size [] before after pos t tt e);
}

-- ---- regions

no_either : (a b : Bool) → a ≡ false → b ≡ false → (a || b) ≡ false
no_either true b h k = h
no_either false b h k = k

pub off_inside : (X Y : Region) → Inside X Y → (r : Place) → Y r ≡ false → X r ≡ false
off_inside X Y i r h = go (X r) refl
  where
    go : (b : Bool) → X r ≡ b → b ≡ false
    go true e = absurd (let y = i.each r e in cc)
    go false e = refl

pub inside_on : (X Q Y : Region) → Inside X Q → Inside Q Y → Inside X Y
inside_on X Q Y i j = record { each = λ r e. j.each r (i.each r e) }

pub apart_less : (R Q Y : Region) → Inside Q Y → Apart R Y → Apart R Q
apart_less R Q Y i h = record { each = λ r e. off_inside Q Y i r (h.each r e) }

pub under_inside : (p : Place) (X Y : Region) → Inside X Y → IsUnder p Y → IsUnder p X
under_inside p X Y i h = record { root = off_inside X Y i [] h.root; each = λ r e. h.each r (i.each r e) }

pub under_either : (p : Place) (R Q : Region) → IsUnder p R → IsUnder p Q → IsUnder p (either R Q)
under_either p R Q h k = record {
  root = no_either (R []) (Q []) h.root k.root;
  each = λ r e. go r (R r) (Q r) refl refl e;
}
  where
    go : (r : Place) (b c : Bool) → R r ≡ b → Q r ≡ c → (b || c) ≡ true → (q : Place) × (r ≡ p ++ q)
    go r true c x y e = h.each r x
    go r false c x y e = k.each r (y ∙ e)

apart_either : (R Q X : Region) → Apart R X → Apart Q X → Apart (either R Q) X
apart_either R Q X h k = record { each = λ r e. go r (R r) (Q r) refl refl e }
  where
    go : (r : Place) (b c : Bool) → R r ≡ b → Q r ≡ c → (b || c) ≡ true → X r ≡ false
    go r true c x y e = h.each r x
    go r false c x y e = k.each r (y ∙ e)

pub outside_inside : (a : Around) (X Y : Region) → Inside X Y → Outside a Y → Outside a X
outside_inside a X Y i h = λ r c. off_inside X Y i r.place (h r c)

-- ---- moments

-- in a part of the region
pub ready_part : (p : Place) (a : Around) (R Q Y : Region) (items : List Item) (s : Store) (links : Links) → Inside Q Y
    → Ready p a R Y items s links → Ready p a R Q items s links
ready_part p a R Q Y items s links i h = record {
  stands = h.stands;
  sized = h.sized;
  under = h.under;
  inside = under_inside p Q Y i h.inside;
  apart = apart_less R Q Y i h.apart;
  outside = outside_inside a Q Y i h.outside;
  within = h.within;
}

-- in a larger region
stands_wider : (a : Around) (R Q : Region) (items : List Item) (s : Store) (links : Links) → Inside R Q
    → ((r : Rigid) → Contains a.constants r → Q r.place ≡ false) → Stands a R items s links → Stands a Q items s links
stands_wider a R Q items s links i away h = record {
  live = h.live;
  away = away;
  sound = λ σ f own. (
      let x = h.sound σ f own in
      record {
        types = x.types;
        ground = x.ground;
        linked = λ all c l. x.linked all (λ r e. c r (i.each r e)) l;
        solves = λ all c l. x.solves all (λ r e. c r (i.each r e)) l;
        kept = λ all c l k. x.kept all (λ r e. c r (i.each r e)) l (clean_inside a.depth R Q s σ i k);
      });
  complete = h.complete;
}

either_inside : (R Q X : Region) → Inside Q X → Inside (either R Q) (either R X)
either_inside R Q X i = record { each = λ r e. go r (R r) (Q r) refl refl e }
  where
    go : (r : Place) (b c : Bool) → R r ≡ b → Q r ≡ c → (b || c) ≡ true → (R r || X r) ≡ true
    go r true c x y e = ap (λ z. z || X r) x
    go r false c x y e = or_right (R r) (X r) (i.each r (y ∙ e))
      where
        or_right : (a b : Bool) → b ≡ true → (a || b) ≡ true
        or_right true b h = refl
        or_right false b h = h

-- after items that were walked
pub ready_walk : (p : Place) (a : Around) (R Q X Y : Region) (first items : List Item) (s u : Store) (before between : Links)
    → Apart Q X → Inside Q Y → Inside X Y → Ready p a R Y first s before → Walk a Q items s before u between
    → Sized p (first ++ items) → Ready p a (either R Q) X (first ++ items) u between
ready_walk p a R Q X Y first items s u before between apart left right ready walk sized =
    let off = outside_inside a Q Y left ready.outside in
    let goes = walk_goes a Q items s u before between off walk in
    let stands = goes.stands R first (apart_less R Q Y left ready.apart) ready.stands in
    record {
      stands =
          stands_wider a (either R goes.region) (either R Q) (first ++ items) u between (either_inside R goes.region Q goes.inside)
          (λ r c. no_either (R r.place) (Q r.place) (ready.stands.away r c) (off r c)) stands;
      sized = sized;
      under = under_either p R Q ready.under (under_inside p Q Y left ready.inside);
      inside = under_inside p X Y right ready.inside;
      apart = apart_either R Q X (apart_less R X Y right ready.apart) apart;
      outside = outside_inside a X Y right ready.outside;
      within = record { each = λ r h. ready.within.each r (walk.later.constants r h) };
    }

-- with other links
pub ready_linked : (p : Place) (a : Around) (R Q : Region) (items : List Item) (s : Store) (links others : Links) → Tells links others
    → (AreLive a.depth s links → AreLive a.depth s others) → Ready p a R Q items s links → Ready p a R Q items s others
ready_linked p a R Q items s links others tells live h = record {
  stands = record {
    live = live h.stands.live;
    away = h.stands.away;
    sound = λ σ f own. (
        let x = h.stands.sound σ f own in
        record {
          types = x.types;
          ground = x.ground;
          linked = λ all c l. tells.each σ all (x.linked all c l);
          solves = x.solves;
          kept = x.kept;
        });
    complete = λ types g sol. (
        let x = h.stands.complete types g sol in
        record { values = x.values; fit = x.fit; constants = x.constants; linked = tells.each x.values types x.linked });
  };
  sized = h.sized;
  under = h.under;
  inside = h.inside;
  apart = h.apart;
  outside = h.outside;
  within = h.within;
}
