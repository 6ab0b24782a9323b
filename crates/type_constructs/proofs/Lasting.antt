-- Types that last.
use Rattle.std.proofs.Common.{◌≡◌, ℕ, List, [], ◌++◌, Bool, true, false, cond, Option, refl, sym, ap, ◌∙◌, subst, arith}
use Rattle.std.specs.List.{Contains}
use Rattle.elm_type.specs.Types.{Rigid, Scheme, variable}
use Rattle.elm_type.specs.Classes.{Ground}
use Rattle.elm_type.specs.Ground.{is_ground}
use Rattle.type_items.specs.Items.{Place, Wanted, Item}
use Rattle.type_items.specs.Solutions.{Solves}
use Rattle.type_items.specs.Principal.{unscoped, IsPrincipal}
use Rattle.type_items.proofs.Parts.{solves_unscoped}
use Rattle.type_store.specs.Store.{Open, Store, slot_at}
use Rattle.type_store.specs.Shape.{IsStore}
use Rattle.type_store.specs.Laws.{Refit, EachChoiceFits}
use Rattle.type_walks.specs.Regions.{Region, either, Apart}
use Rattle.type_walks.specs.Links.{Types, AreGround, Links, Carries, IsClean, Has, Within}
use Rattle.type_walks.specs.Walks.{Around, Filled, Walk}
use Rattle.type_walks.specs.Progress.{Stands}
use Rattle.type_walks.proofs.Cleaning.{constant_there}
use Rattle.type_walks.proofs.Linking.{left_inside, right_inside, apart_back, solves_both, solves_first, unscoped_both}
use Rattle.type_walks.proofs.Refitting.{plain, plain_chosen, clean_all}
use Rattle.type_walks.specs.Told.{IsUnder, Told, start}
use Rattle.type_walks.proofs.Telling.{instance_of, filled}
use Rattle.type_constructs.specs.Lasting.{Reaches, Lasts}

-- ---- a type that lasts is principal

pub lasts_principal : (p : Place) (R : Region) (items : List Item) (t : Wanted) (scheme : Scheme) → Lasts p R items t scheme → IsPrincipal p items t scheme
lasts_principal p R items t scheme h = record {
  formed = h.formed;
  each = λ g. (
    h.most g,
    (λ i. (
        let x = h.each g i in
        record {
          solution = record { values = x.types; ground = x.ground; solves = x.solves x.types (λ r e. refl) };
          has = x.has x.types (λ r e. refl);
        })),
  );
  kept = λ g outside i. (
      let x = h.each g i in
      record {
        solution = record { values = x.types; ground = x.ground; solves = x.kept outside x.types (λ r e. refl) };
        has = x.has x.types (λ r e. refl);
      });
}

-- ---- what later groups ask can be met, whatever stands elsewhere

pub record Alone (Q : Region) (items : List Item) : Type 0 where
  pub types : Types
  pub ground : AreGround types
  pub solves : (all : Types) → Carries Q all types → Solves all items

module _ (p : Place) (R Q : Region) (items more : List Item) (t : Wanted) (scheme : Scheme) (apart : Apart R Q) (alone : Alone Q more)
    (lasts : Lasts p R items t scheme) where
  module _ (g : Ground) (reaches : Reaches p R items t g) where
    abbrev both : Types
    both r = cond (R r) (reaches.types r) (alone.types r)

    first : (all : Types) → Carries (either R Q) all both → Carries R all reaches.types
    first all c r e = c r ((left_inside R Q).each r e) ∙ ap (λ b. cond b (reaches.types r) (alone.types r)) e

    second : (all : Types) → Carries (either R Q) all both → Carries Q all alone.types
    second all c r e =
        c r ((right_inside R Q).each r e) ∙ ap (λ b. cond b (reaches.types r) (alone.types r)) ((apart_back R Q apart).each r e)

    ground_of : (b : Bool) (x y : Ground) → is_ground x ≡ true → is_ground y ≡ true → is_ground (cond b x y) ≡ true
    ground_of true x y h k = h
    ground_of false x y h k = k

    reaches_on : Reaches p (either R Q) (items ++ more) t g
    reaches_on = record {
      types = both;
      ground = λ r. ground_of (R r) (reaches.types r) (alone.types r) (reaches.ground r) (alone.ground r);
      has = λ all c. reaches.has all (first all c);
      solves = λ all c.
          subst (Solves all) (sym (unscoped_both items more))
          (solves_both all (unscoped items) (unscoped more) (reaches.solves all (first all c)) (solves_unscoped all more (alone.solves all (second all c))));
      kept = λ outside all c. solves_both all items more (reaches.kept outside all (first all c)) (alone.solves all (second all c));
    }

  pub lasts_on : Lasts p (either R Q) (items ++ more) t scheme
  lasts_on = record {
    formed = lasts.formed;
    most = λ g h.
        lasts.most g
        (record {
          solution = record {
            values = h.solution.values;
            ground = h.solution.ground;
            solves =
                solves_first h.solution.values (unscoped items) (unscoped more)
                (subst (Solves h.solution.values) (unscoped_both items more) h.solution.solves);
          };
          has = h.has;
        });
    each = λ g i. reaches_on g (lasts.each g i);
  }

-- ---- a group that was walked can be met alone

module _ (choice_fits : EachChoiceFits) (Q : Region) (items : List Item) (s s' : Store) (root : Q [] ≡ false) (known : Within [] s) (shape : IsStore s')
    (walk : Walk start Q items s [] s' []) where
  plainly : ℕ → Ground
  plainly u = variable (plain (slot_at s' u).kind)

  fitted : Refit s' (λ r. r) plainly
  unfolding plainly
  fitted =
      choice_fits s' shape (λ r. r) (record { class = λ r. refl; lacks = λ r. refl; apart = λ r q a b e. e }) plainly
      (λ u e. plain_chosen (slot_at s' u).kind)

  fitted_open : (u : ℕ) → (slot_at s' u).cell ≡ Open → fitted.values.types u ≡ variable (plain (slot_at s' u).kind)
  unfolding plainly
  fitted_open u e = fitted.chosen u e

  no_constant : {A : Type 0} (r : Rigid) → Contains [] r → A
  no_constant r (k, l, e) = absurd (omega arith)

  filled_alone : Filled start Q items [] s' [] fitted.values
  filled_alone = walk.sound fitted.values fitted.fit (record { each = λ r c. no_constant r c })

  pub alone : Alone Q items
  alone = record {
    types = filled_alone.types;
    ground = filled_alone.ground;
    solves = λ all c.
        filled_alone.kept all c tt
        (record {
          each = λ u l.
              clean_all s' shape fitted.values fitted.fit Q
              (λ w r e. no_constant r (known.each r (walk.later.constants r (constant_there s' w r e))))
              (λ w n e. subst (IsClean Q) (sym (fitted_open w e)) (root, tt)) u l.inside;
        });
  }

-- ---- a type that a store tells lasts

pub lasts_told : EachChoiceFits → (a : Around) (R : Region) (p : Place) (items : List Item) (s : Store) (links : Links) (v : ℕ) (t : Wanted) (scheme : Scheme)
    (place : ℕ → ℕ) (number : ℕ → Option ℕ) → IsStore s → Within a.constants s → IsUnder p R → Stands a R items s links → Has links v t
    → Told s v scheme place number → Lasts p R items t scheme
lasts_told choice_fits a R p items s links v t scheme place number shape known under stands has told = record {
  formed = told.formed;
  most = λ g h. instance_of choice_fits a R p items s links v t scheme place number shape known under stands has told g h;
  each = λ g i. (
      let x = filled choice_fits a R p items s links v t scheme place number shape known under stands has told g i in
      record { types = x.0; ground = x.1; has = x.2; solves = x.3; kept = x.4 });
}
