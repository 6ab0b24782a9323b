-- Single steps are walks.
use Rattle.std.proofs.Common.{◌≡◌, ℕ, List, [], ◌∷◌, ◌++◌, length, map, Bool, true, false, ◌↔◌, refl, sym, ap, ◌∙◌, subst}
use Rattle.std.specs.Prelude.{◌&&◌}
use Rattle.std.specs.List.{AllZip}
use Rattle.std.proofs.lemmas.List.Elements.{All-nil, All-cons, All-head}
use Rattle.elm_type.specs.Types.{Made, MoreType, int_type, types_of}
use Rattle.elm_type.specs.Classes.{Ground, meets}
use Rattle.elm_type.specs.Rows.{substitute_all}
use Rattle.elm_type.specs.Ground.{is_ground, are_ground, lacks, value, leaf_value}
use Rattle.elm_base.specs.declared.position.Pos.{Pos}
use Rattle.elm_type.specs.declared.class.Class.{Class}
use Rattle.elm_type.specs.declared.head.Head.{Head}
use Rattle.elm_type.specs.Types.{Name}
use Rattle.type_items.specs.Items.{Place, Wanted, at, Item, Same, InClass, Lacks}
use Rattle.type_store.specs.Solutions as asks
use Rattle.type_items.specs.Solutions.{Solves}
use Rattle.type_items.specs.Solutions as solutions
use Rattle.type_items.specs.Principal.{unscoped}
use Rattle.type_store.specs.Store.{Store}
use Rattle.type_store.specs.Solutions.{Values, Fit, Ask, MeetsAsk}
use Rattle.type_store.proofs.Rows.{extend_none}
use Rattle.type_walks.specs.Regions.{none, only}
use Rattle.type_walks.specs.Links.{Types, Links, Linked, Has, AreLive, Away}
use Rattle.type_store.specs.Solutions.{Clash}
use Rattle.type_store.specs.Steps.{put}
use Rattle.type_store.specs.Store.{Open, Built}
use Rattle.type_walks.specs.Progress.{Refuses}
use Rattle.type_walks.proofs.Steps.{Took, Makes}
use Rattle.type_walks.proofs.Reaching.{took}
use Rattle.type_walks.proofs.Making.{makes_cell, makes_open}
use Rattle.type_walks.specs.Walks.{Around, Earlier, Filled, Walk}
use Rattle.type_walks.specs.TypeStepsLaws.{AsksSame, AsksClass, AsksLack, RefusesSame, RefusesClass, RefusesLack, Opens, Builds}
use Rattle.type_walks.proofs.Linking.{all_live_later, agree_itself, agree_below, linked_agree}
use Rattle.type_walks.proofs.Regions.{only_itself}

earlier_itself : (d : ℕ) (s : Store) (σ : Values) → Fit σ s → Earlier d s σ
earlier_itself d s σ f = record { values = σ; fit = f; agree = agree_itself d s σ }

-- ---- what is asked

module _ (a : Around) (s s' : Store) (links : Links) (asked : Ask) (item : Item) (live : AreLive a.depth s links) (took : Took s asked s')
    (one : unscoped (item ∷ []) ≡ item ∷ [])
    (means : (σ : Values) (types : Types) → Linked links σ types → MeetsAsk σ asked ↔ solutions.Meets types item) where
  asked_sound : (σ : Values) → Fit σ s' → Away none a.constants σ → Filled a none (item ∷ []) links s' links σ
  asked_sound σ f away =
      let met = All-head (MeetsAsk σ) asked [] (took.added.back σ f (All-nil (MeetsAsk σ))).1 in
      record {
        types = λ r. int_type;
        ground = λ r. refl;
        linked = λ all c h. h;
        solves = λ all c h. subst (Solves all) (sym one) ((means σ all h).0 met, tt);
        kept = λ all c h k. ((means σ all h).0 met, tt);
      }

  asked_walk : Walk a none (item ∷ []) s links s' links
  asked_walk = record {
    later = took.later;
    live = all_live_later a.depth s s' links took.later;
    determined = λ e v l h. took.determined e v h;
    back = λ σ f. earlier_itself a.depth s σ (took.added.back σ f (All-nil (MeetsAsk σ))).0;
    sound = asked_sound;
    complete = λ σ types f g away linked sol. (
        let met = (means σ types linked).1 (subst (Solves types) one sol).0 in
        let r = took.added.on σ f (All-cons (MeetsAsk σ) asked [] met (All-nil (MeetsAsk σ))) in
        let same = agree_below a.depth s σ r.values r.agree in
        record { values = r.values; fit = r.fit; agree = same; linked = linked_agree a.depth s links σ r.values types live same linked });
  }

module _ (links : Links) (v : ℕ) (t : Wanted) (hv : Has links v t) where
  same_means : (w : ℕ) (pos : Pos) (u : Wanted) → Has links w u → (σ : Values) (types : Types) → Linked links σ types
      → MeetsAsk σ (asks.Same v w) ↔ solutions.Meets types (Same pos t u)
  same_means w pos u hw σ types linked = (
    (λ e. sym (hv.same σ types linked) ∙ e ∙ hw.same σ types linked),
    (λ e. hv.same σ types linked ∙ e ∙ sym (hw.same σ types linked)),
  )

  class_means : (pos : Pos) (c : Class) (σ : Values) (types : Types) → Linked links σ types
      → MeetsAsk σ (asks.InClass v c) ↔ solutions.Meets types (InClass pos t c)
  class_means pos c σ types linked = (
    (λ e. ap (meets c) (sym (hv.same σ types linked)) ∙ e),
    (λ e. ap (meets c) (hv.same σ types linked) ∙ e),
  )

  lack_means : (pos : Pos) (x : Name) (σ : Values) (types : Types) → Linked links σ types
      → MeetsAsk σ (asks.Lacks v x) ↔ solutions.Meets types (Lacks pos t x)
  lack_means pos x σ types linked = (
    (λ e. ap (lacks x) (sym (hv.same σ types linked)) ∙ e),
    (λ e. ap (lacks x) (hv.same σ types linked) ∙ e),
  )

pub asks_same : AsksSame
asks_same a s s' links v w pos t u live hv hw added goes =
    asked_walk a s s' links _ _ live (took s s' (asks.Same v w) added goes) refl (same_means links v t hv w pos u hw)

pub asks_class : AsksClass
asks_class a s s' links v pos t c live hv added goes =
    asked_walk a s s' links _ _ live (took s s' (asks.InClass v c) added goes) refl (class_means links v t hv pos c)

pub asks_lack : AsksLack
asks_lack a s s' links v pos t x live hv added goes =
    asked_walk a s s' links _ _ live (took s s' (asks.Lacks v x) added goes) refl (lack_means links v t hv pos x)

-- ---- what clashes

refuses : (s : Store) (links : Links) (asked : Ask) (item : Item) → Clash s (asked ∷ [])
    → ((σ : Values) (types : Types) → Linked links σ types → MeetsAsk σ asked ↔ solutions.Meets types item) → Refuses s links item
refuses s links asked item clash means = record {
  never = λ σ types f own ground linked met. clash.never σ f (All-cons (MeetsAsk σ) asked [] ((means σ types linked).1 met) (All-nil (MeetsAsk σ)));
}

pub refuses_same : RefusesSame
refuses_same s links v w pos t u hv hw clash = refuses s links _ _ clash (same_means links v t hv w pos u hw)

pub refuses_class : RefusesClass
refuses_class s links v pos t c hv clash = refuses s links _ _ clash (class_means links v t hv pos c)

pub refuses_lack : RefusesLack
refuses_lack s links v pos t x hv clash = refuses s links _ _ clash (lack_means links v t hv pos x)

-- ---- what is made

pub value_at : (all : Types) (p : Place) → value all (at p) ≡ all p
value_at all p = extend_none (all p)

opened : (a : Around) (s s' : Store) (links : Links) (v : ℕ) (p : Place) → AreLive a.depth s links → Makes a.depth s v s' Open
    → Walk a (only p) [] s links s' ((v, at p) ∷ links)
opened a s s' links v p live makes = record {
  later = makes.later;
  live = λ h. (makes.live, all_live_later a.depth s s' links makes.later h);
  determined = makes.determined;
  back = λ σ f. earlier_itself a.depth s σ (makes.back σ f).0;
  sound = λ σ f away. record {
    types = λ r. σ.types v;
    ground = λ r. (f.each v).ground;
    linked = λ all c h. (sym (value_at all p ∙ c p (only_itself p)), h);
    solves = λ all c h. tt;
    kept = λ all c h k. tt;
  };
  complete = λ σ types f g away linked sol. (
      let r = makes.on σ (types p) f tt (g p) in
      let same = agree_below a.depth s σ r.0 r.2 in
      record {
        values = r.0;
        fit = r.1;
        agree = same;
        linked = (r.3 ∙ sym (value_at types p), linked_agree a.depth s links σ r.0 types live same linked);
      });
}

pub parts_have : (links : Links) (σ : Values) (all : Types) (ws : List ℕ) (ts : List Wanted) → AllZip (Has links) ws ts → Linked links σ all
    → types_of (map σ.types ws) ≡ substitute_all (leaf_value all) (types_of ts)
parts_have links σ all [] [] h linked = refl
parts_have links σ all [] (t ∷ ts) h linked = absurd h
parts_have links σ all (w ∷ ws) [] h linked = absurd h
parts_have links σ all (w ∷ ws) (t ∷ ts) h linked =
    ap (λ (x : Ground). MoreType x (types_of (map σ.types ws))) (h.0.same σ all linked)
    ∙ ap (MoreType (value all t)) (parts_have links σ all ws ts h.1 linked)

and_both : (x y : Bool) → x ≡ true → y ≡ true → (x && y) ≡ true
and_both true y h k = k
and_both false y h k = h

pub parts_ground : (s : Store) (σ : Values) (ws : List ℕ) → Fit σ s → are_ground (types_of (map σ.types ws)) ≡ true
parts_ground s σ [] f = refl
parts_ground s σ (w ∷ ws) f =
    and_both (is_ground (σ.types w)) (are_ground (types_of (map σ.types ws))) (f.each w).ground (parts_ground s σ ws f)

built : (a : Around) (s s' : Store) (links : Links) (v : ℕ) (h : Head) (ws : List ℕ) (ts : List Wanted) → AreLive a.depth s links
    → AllZip (Has links) ws ts → Makes a.depth s v s' (Built h ws) → Walk a none [] s links s' ((v, Made h (types_of ts)) ∷ links)
built a s s' links v h ws ts live has makes = record {
  later = makes.later;
  live = λ l. (makes.live, all_live_later a.depth s s' links makes.later l);
  determined = makes.determined;
  back = λ σ f. earlier_itself a.depth s σ (makes.back σ f).0;
  sound = λ σ f away. record {
    types = λ r. int_type;
    ground = λ r. refl;
    linked = λ all c l. ((makes.back σ f).1 ∙ ap (Made h) (parts_have links σ all ws ts has l), l);
    solves = λ all c l. tt;
    kept = λ all c l k. tt;
  };
  complete = λ σ types f g away linked sol. (
      let r = makes.on σ (Made h (types_of (map σ.types ws))) f refl (parts_ground s σ ws f) in
      let same = agree_below a.depth s σ r.0 r.2 in
      record {
        values = r.0;
        fit = r.1;
        agree = same;
        linked = (r.3 ∙ ap (Made h) (parts_have links σ types ws ts has linked), linked_agree a.depth s links σ r.0 types live same linked);
      });
}

pub opens : Opens
opens a s s' links v p shape live number made =
    subst (λ n. Walk a (only p) [] s links s' ((n, at p) ∷ links)) (sym number)
    (subst (λ z. Walk a (only p) [] s links z ((length s, at p) ∷ links)) (sym made)
    (opened a s (s ++ put Open a.depth ∷ []) links (length s) p live (makes_open s a.depth shape)))

pub builds : Builds
builds a s s' links v h ws ts shape live inside has number low =
    subst (λ n. Walk a none [] s links s' ((n, Made h (types_of ts)) ∷ links)) (sym number)
    (built a s s' links (length s) h ws ts live has (makes_cell s s' a.depth (Built h ws) shape inside refl low))
