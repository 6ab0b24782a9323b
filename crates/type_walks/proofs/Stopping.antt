-- Where the items of a module stop.
use Rattle.std.proofs.Common.{◌≡◌, ℕ, List, [], ◌∷◌, ◌++◌, Bool, true, false, refl, sym, ap, ◌∙◌, subst}
use Rattle.elm_type.specs.Types.{Rigid, int_type, variable, any_kind}
use Rattle.elm_type.specs.Classes.{Ground, meets}
use Rattle.elm_type.specs.declared.class.Class.TheVariants.{Any}
use Rattle.elm_type.specs.Ground.{fits}
use Rattle.type_items.specs.Items.{Place, Item}
use Rattle.type_items.specs.Solutions.{Solution}
use Rattle.type_items.proofs.Parts.{solves_unscoped}
use Rattle.type_store.specs.Store.{Store, slot_at}
use Rattle.type_store.specs.Solutions.{Values, Fit}
use Rattle.type_store.specs.Shape.{IsStore}
use Rattle.type_store.specs.Laws.{Refit, EachChoiceFits}
use Rattle.type_store.proofs.RowsMeet.{and_both}
use Rattle.type_store.proofs.Classes.{meets_any}
use Rattle.type_walks.specs.Regions.{Region, none, either}
use Rattle.type_walks.specs.Links.{IsClean, Clean, Within}
use Rattle.type_walks.specs.Progress.{Stands, Stops}
use Rattle.type_walks.proofs.Cleaning.{constant_there}
use Rattle.type_walks.proofs.Linking.{solves_first, solves_second}
use Rattle.type_walks.proofs.Refitting.{plain, plain_chosen, clean_all}
use Rattle.type_walks.specs.Told.{IsUnder, start, Stopped}
use Rattle.type_walks.specs.ToldTypesLaws.{Starts, StopsThere}

any_fits : (t : Ground) → fits any_kind t ≡ true
any_fits t = and_both (meets Any t) true (meets_any t) refl

first_values : Values
first_values = record { types = λ v. int_type; constants = λ r. r }

first_fit : Fit first_values []
unfolding first_values
first_fit = record {
  renames = record { class = λ r. refl; lacks = λ r. refl; apart = λ r q a b e. e };
  each = λ v. record { cell = tt; kind = any_fits int_type; ground = refl };
}

pub starts : Starts
unfolding first_values
starts = record {
  live = tt;
  away = λ r h. refl;
  sound = λ σ f own. record { types = λ r. int_type; ground = λ r. refl; linked = λ all c h. tt; solves = λ all c h. tt; kept = λ all c h k. tt };
  complete = λ types g sol. record { values = first_values; fit = first_fit; constants = record { each = λ r. refl }; linked = tt };
}

module _ (choice_fits : EachChoiceFits) (p : Place) (Q : Region) (items : List Item) (bad : Item) (stops : Stops start Q items [] [] bad)
    (shape : IsStore stops.store) (known : Within stops.around.constants stops.store) (under : IsUnder p Q) where
  abbrev s : Store
  s = stops.store

  abbrev R : Region
  R = either none stops.goes.region

  stands : Stands stops.around R stops.done s stops.links
  stands = stops.goes.stands none [] (record { each = λ r h. absurd (cc) }) starts

  root : R [] ≡ false
  root = go (stops.goes.region []) refl
    where
      go : (b : Bool) → stops.goes.region [] ≡ b → b ≡ false
      go true e = absurd (let x = stops.goes.inside.each [] e in let y = under.root in cc)
      go false e = refl

  choice : ℕ → Ground
  choice u = variable (plain (slot_at s u).kind)

  fitted : Refit s (λ r. r) choice
  unfolding choice
  fitted =
      choice_fits s shape (λ r. r) (record { class = λ r. refl; lacks = λ r. refl; apart = λ r q a b e. e }) choice
      (λ u e. plain_chosen (slot_at s u).kind)

  clean : Clean stops.around.depth R s fitted.values
  unfolding choice
  clean = record {
    each = λ u l.
        clean_all s shape fitted.values fitted.fit R
        (λ w r e. ap (λ (x : Rigid). R x.place) (fitted.same r) ∙ stands.away r (known.each r (constant_there s w r e)))
        (λ w n e. subst (IsClean R) (sym (fitted.chosen w e)) (root, tt)) u l.inside;
  }

  solved : Solution stops.done
  solved =
      let fill = stands.sound fitted.values fitted.fit (record { each = fitted.same }) in
      record { values = fill.types; ground = fill.ground; solves = fill.kept fill.types (λ r e. refl) tt clean }

  never_solved : Solution (stops.done ++ bad ∷ []) → ⊥
  never_solved sol =
      let one = solves_first sol.values stops.done (bad ∷ []) sol.solves in
      let two = solves_second sol.values stops.done (bad ∷ []) sol.solves in
      let r = stands.complete sol.values sol.ground (solves_unscoped sol.values stops.done one) in
      stops.refuses.never r.values sol.values r.fit r.constants sol.ground r.linked two.0

  stopped : Stopped items bad
  stopped = record { before = stops.done; after = stops.rest; split = stops.split; solvable = solved; never = record { never = never_solved } }

pub stops_there : EachChoiceFits → StopsThere
stops_there choice_fits p Q items bad stops shape known under = stopped choice_fits p Q items bad stops shape known under
