-- Progress, and where it stops.
use Rattle.std.proofs.Common.{◌≡◌, List, [], ◌∷◌, ◌++◌, Bool, true, false, cond, refl, sym, ap, ◌∙◌, subst, append_assoc}
use Rattle.std.specs.Prelude.{◌||◌}
use Rattle.std.proofs.lemmas.List.{append-nil}
use Rattle.elm_type.specs.Types.{Rigid}
use Rattle.elm_type.specs.Classes.{Ground}
use Rattle.elm_type.specs.Ground.{is_ground}
use Rattle.type_items.specs.Items.{Place, Item}
use Rattle.type_items.specs.Solutions.{Solves}
use Rattle.type_items.specs.Principal.{unscoped}
use Rattle.type_store.specs.Store.{Store}
use Rattle.type_store.specs.Solutions.{Values, Fit}
use Rattle.type_walks.specs.Regions.{Region, none, either, Inside, Apart}
use Rattle.type_walks.specs.Links.{Types, AreGround, Links, Linked, Carries, Away}
use Rattle.type_walks.specs.Walks.{Around, Filled, Walk}
use Rattle.type_walks.specs.Progress.{Themselves, Reached, Stands, Goes}
use Rattle.type_walks.specs.Laws.{Outside, WalkGoes, GoesFurther, StopsAtOnce, StopsAfter, StopsEarlier}
use Rattle.type_walks.proofs.Linking.{agree_back, linked_agree, clean_inside, clean_earlier, left_inside, right_inside, apart_back, apart_inside, solves_both, solves_first, solves_second, unscoped_both}
use Rattle.type_walks.proofs.Regions.{none_inside, either_inside}

no_either : (a b : Bool) → a ≡ false → b ≡ false → (a || b) ≡ false
no_either true b h k = h
no_either false b h k = k

module _ (a : Around) (R Q : Region) (first items : List Item) (s s' : Store) (before after : Links) (apart : Apart R Q) (outside : Outside a Q)
    (stands : Stands a R first s before) (walk : Walk a Q items s before s' after) where
  away_now : (σ : Values) → Themselves σ → Away Q a.constants σ
  away_now σ h = record { each = λ r c. ap (λ (x : Rigid). Q x.place) (h.each r) ∙ outside r c }

  went_sound : (σ : Values) → Fit σ s' → Themselves σ → Filled a (either R Q) (first ++ items) [] s' after σ
  went_sound σ f own =
      let x = walk.back σ f in
      let own_x : Themselves x.values = record { each = λ r. sym (x.agree.constants r) ∙ own.each r } in
      let q = walk.sound σ f (away_now σ own) in
      let p = stands.sound x.values x.fit own_x in
      let one = λ (all : Types) (c : Carries (either R Q) all (λ r. cond (R r) (p.types r) (q.types r))).
      λ (r : Place) (e : R r ≡ true). c r ((left_inside R Q).each r e) ∙ ap (λ b. cond b (p.types r) (q.types r)) e in
      let two = λ (all : Types) (c : Carries (either R Q) all (λ r. cond (R r) (p.types r) (q.types r))).
      λ (r : Place) (e : Q r ≡ true). c r ((right_inside R Q).each r e) ∙ ap (λ b. cond b (p.types r) (q.types r)) ((apart_back R Q apart).each r e) in
      let mid = λ (all : Types) (c : Carries (either R Q) all (λ r. cond (R r) (p.types r) (q.types r))) (h : Linked [] σ all).
      linked_agree a.depth s before x.values σ all stands.live (agree_back a.depth s σ x.values x.agree) (p.linked all (one all c) tt) in
      record {
        types = λ r. cond (R r) (p.types r) (q.types r);
        ground = λ r. ground_of (R r) (p.types r) (q.types r) (p.ground r) (q.ground r);
        linked = λ all c h. q.linked all (two all c) (mid all c h);
        solves = λ all c h.
            subst (Solves all) (sym (unscoped_both first items))
            (solves_both all (unscoped first) (unscoped items) (p.solves all (one all c) tt) (q.solves all (two all c) (mid all c h)));
        kept = λ all c h clean.
            solves_both all first items
            (p.kept all (one all c) tt
            (clean_earlier a.depth R s s' σ x.values walk.later x.agree (clean_inside a.depth R (either R Q) s' σ (left_inside R Q) clean)))
            (q.kept all (two all c) (mid all c h) (clean_inside a.depth Q (either R Q) s' σ (right_inside R Q) clean));
      }
    where
      ground_of : (b : Bool) (t u : Ground) → is_ground t ≡ true → is_ground u ≡ true
          → is_ground (cond b t u) ≡ true
      ground_of true t u h k = h
      ground_of false t u h k = k

  went_complete : (types : Types) → AreGround types → Solves types (unscoped (first ++ items)) → Reached s' after types
  went_complete types g sol =
      let all = subst (Solves types) (unscoped_both first items) sol in
      let x = stands.complete types g (solves_first types (unscoped first) (unscoped items) all) in
      let y = walk.complete x.values types x.fit g (away_now x.values x.constants) x.linked (solves_second types (unscoped first) (unscoped items) all) in
      record {
        values = y.values;
        fit = y.fit;
        constants = record { each = λ r. sym (y.agree.constants r) ∙ x.constants.each r };
        linked = y.linked;
      }

  went : Stands a (either R Q) (first ++ items) s' after
  went = record {
    live = walk.live stands.live;
    away = λ r c. no_either (R r.place) (Q r.place) (stands.away r c) (outside r c);
    sound = went_sound;
    complete = went_complete;
  }

pub walk_goes : WalkGoes
walk_goes a Q items s s' before after outside walk = record {
  region = Q;
  inside = record { each = λ r h. h };
  stands = λ R first apart stands. went a R Q first items s s' before after apart outside stands walk;
}

-- the region may be written otherwise
stands_same : (a : Around) (R Q : Region) (items : List Item) (s : Store) (links : Links) → ((r : Place) → R r ≡ Q r) → Stands a R items s links
    → Stands a Q items s links
stands_same a R Q items s links same st = record {
  live = st.live;
  away = λ r c. sym (same r.place) ∙ st.away r c;
  sound = λ σ f own. (
      let x = st.sound σ f own in
      record {
        types = x.types;
        ground = x.ground;
        linked = λ all c h. x.linked all (λ r e. c r (sym (same r) ∙ e)) h;
        solves = λ all c h. x.solves all (λ r e. c r (sym (same r) ∙ e)) h;
        kept = λ all c h clean. x.kept all (λ r e. c r (sym (same r) ∙ e)) h
            (clean_inside a.depth R Q s σ (record { each = λ r e. sym (same r) ∙ e }) clean);
      });
  complete = st.complete;
}

or_assoc : (a b c : Bool) → ((a || b) || c) ≡ (a || (b || c))
or_assoc true b c = refl
or_assoc false b c = refl

apart_both : (R Q X : Region) → Apart R X → Apart Q X → Apart (either R Q) X
apart_both R Q X h k = record { each = λ r e. go r (R r) (Q r) refl refl e }
  where
    go : (r : Place) (b c : Bool) → R r ≡ b → Q r ≡ c → (b || c) ≡ true → X r ≡ false
    go r true c x y e = h.each r x
    go r false c x y e = k.each r (y ∙ e)

apart_left : (R Q X : Region) → Apart R (either Q X) → Apart R Q
apart_left R Q X h = record { each = λ r e. go (Q r) (X r) (h.each r e) }
  where
    go : (b c : Bool) → (b || c) ≡ false → b ≡ false
    go true c h = h
    go false c h = refl

apart_right : (R Q X : Region) → Apart R (either Q X) → Apart R X
apart_right R Q X h = record { each = λ r e. go (Q r) (X r) (h.each r e) }
  where
    go : (b c : Bool) → (b || c) ≡ false → c ≡ false
    go true c h = absurd cc
    go false c h = h

inside_both : (R Q X Y : Region) → Inside R X → Inside Q Y → Inside (either R Q) (either X Y)
inside_both R Q X Y h k =
    either_inside R Q (either X Y) (record { each = λ r e. (left_inside X Y).each r (h.each r e) })
    (record { each = λ r e. (right_inside X Y).each r (k.each r e) })

pub goes_further : GoesFurther
goes_further a b c Q X first second s u s' before between after apart one two = record {
  region = either one.region two.region;
  inside = inside_both one.region two.region Q X one.inside two.inside;
  stands = λ R list off st. (
      let mid = one.stands R list (apart_left R Q X off) st in
      let out = two.stands (either R one.region) (list ++ first)
      (apart_both R one.region X (apart_right R Q X off) (apart_inside one.region Q X one.inside apart)) mid in
      let whole : Stands c (either (either R one.region) two.region) (list ++ (first ++ second)) s' after =
      subst (λ l. Stands c (either (either R one.region) two.region) l s' after) (append_assoc list first second) out in
      stands_same c (either (either R one.region) two.region) (either R (either one.region two.region)) (list ++ (first ++ second)) s' after
      (λ r. or_assoc (R r) (one.region r) (two.region r)) whole);
}

goes_nowhere : (a : Around) (Q : Region) (s : Store) (links : Links) → Goes a s links Q [] a s links
goes_nowhere a Q s links = record {
  region = none;
  inside = none_inside Q;
  stands = λ R first apart st.
      subst (λ l. Stands a (either R none) l s links) (sym (append-nil first))
      (stands_same a R (either R none) first s links (λ r. or_none (R r)) st);
}
  where
    or_none : (b : Bool) → b ≡ (b || false)
    or_none true = refl
    or_none false = refl

pub stops_at_once : StopsAtOnce
stops_at_once a Q items s links bad refuses = record {
  done = [];
  rest = items;
  split = refl;
  around = a;
  store = s;
  links = links;
  goes = goes_nowhere a Q s links;
  refuses = refuses;
}

pub stops_after : StopsAfter
stops_after a b Q X first second s u before between bad apart goes stops = record {
  done = first ++ stops.done;
  rest = stops.rest;
  split = ap (λ l. first ++ l) stops.split ∙ sym (append_assoc first stops.done (bad ∷ stops.rest));
  around = stops.around;
  store = stops.store;
  links = stops.links;
  goes = goes_further a b stops.around Q X first stops.done s u stops.store before between stops.links apart goes stops.goes;
  refuses = stops.refuses;
}

pub stops_earlier : StopsEarlier
stops_earlier a Q X items more s links bad inside stops = record {
  done = stops.done;
  rest = stops.rest ++ more;
  split = ap (λ l. l ++ more) stops.split ∙ append_assoc stops.done (bad ∷ stops.rest) more;
  around = stops.around;
  store = stops.store;
  links = stops.links;
  goes = record {
    region = stops.goes.region;
    inside = record { each = λ r e. inside.each r (stops.goes.inside.each r e) };
    stands = λ R first apart st. stops.goes.stands R first (apart_less R apart) st;
  };
  refuses = stops.refuses;
}
  where
    apart_less : (R : Region) → Apart R X → Apart R Q
    apart_less R h = record { each = λ r e. go r (h.each r e) (Q r) refl }
      where
        go : (r : Place) → X r ≡ false → (b : Bool) → Q r ≡ b → b ≡ false
        go r n true e = absurd (let q = inside.each r e in cc)
        go r n false e = refl
