-- What fails.
use Rattle.std.proofs.Common.{List, [], ◌∷◌, ◌++◌, refl, sym, ap, ◌∙◌, subst, append_assoc}
use Rattle.std.specs.Prelude.{All}
use Rattle.std.proofs.lemmas.List.Elements.{All-nil, All-cons}
use Rattle.elm_type.specs.Classes.{meets}
use Rattle.elm_type.specs.Ground.{lacks}
use Rattle.type_items.specs.Items as asked
use Rattle.type_items.specs.Items.{Place, Wanted, Item}
use Rattle.type_items.specs.Solutions.{Meets, Unsolvable}
use Rattle.type_items.specs.Faults.{Typable}
use Rattle.type_items.proofs.Parts.{solves_unscoped}
use Rattle.type_store.specs.Store.{Store}
use Rattle.type_store.specs.Shape.{IsStore}
use Rattle.type_store.specs.Solutions as store
use Rattle.type_store.specs.Solutions.{Values, Fit, MeetsAsk, Clash}
use Rattle.type_store.specs.Laws.{EachChoiceFits}
use Rattle.type_walks.specs.Regions.{Region, either}
use Rattle.type_walks.specs.Links.{Types, Links, Linked}
use Rattle.type_walks.specs.Walks.{Around}
use Rattle.type_walks.specs.Progress.{Stands}
use Rattle.type_walks.proofs.Linking.{solves_first, solves_second}
use Rattle.type_walks.specs.ToldTypesLaws.{TellsPrincipal}
use Rattle.type_constructs.specs.Passing.{Ready}
use Rattle.type_constructs.specs.Failing.{Same, InClass, Lacks, Large, Bad, IsBad, FailsAt}
use Rattle.type_constructs.specs.TypeRefusalsLaws.{FailsSame, FailsClass, FailsLack, FailsLarge, FailsAfter, FailsEarlier, FailsLinked, FailsInside}
use Rattle.type_constructs.proofs.Refits.{plain_solves}
use Rattle.type_constructs.proofs.Moments.{ready_part, ready_walk, ready_linked}
use Rattle.type_constructs.proofs.Passing.{ready_deeper}

module _ (choice_fits : EachChoiceFits) (p : Place) (a : Around) (R Q : Region) (first : List Item) (s : Store) (links : Links) (shape : IsStore s)
    (ready : Ready p a R Q first s links) where
  -- what went before is fine
  pub fine_before : Typable p first
  fine_before = record {
    solution = plain_solves choice_fits a R first s links shape ready.within ready.under.root ready.stands;
    small = ready.sized.small;
  }

-- what no solution of the store meets has no solution after the items so far
pub refused : (a : Around) (R : Region) (first : List Item) (s : Store) (links : Links) (item : Item) → Stands a R first s links
    → ((σ : Values) (types : Types) → Fit σ s → Linked links σ types → Meets types item → ⊥) → Unsolvable (first ++ item ∷ [])
refused a R first s links item stands never = record {
  never = λ sol. (
      let one = solves_first sol.values first (item ∷ []) sol.solves in
      let two = solves_second sol.values first (item ∷ []) sol.solves in
      let r = stands.complete sol.values sol.ground (solves_unscoped sol.values first one) in
      never r.values sol.values r.fit r.linked two.0);
}

-- where an item is bad at once
at_once : (p : Place) (first : List Item) (item : Item) (rest : List Item) (s : Store) (bad : Bad) → Typable p first → IsBad p first s item bad
    → FailsAt p (first ++ item ∷ rest) bad s
at_once p first item rest s bad fine is = record {
  before = first;
  item = item;
  after = rest;
  split = refl;
  fine = fine;
  is = is;
}

one_ask : (σ : Values) (ask : store.Ask) → MeetsAsk σ ask → All (MeetsAsk σ) (ask ∷ [])
one_ask σ ask h = All-cons (MeetsAsk σ) ask [] h (All-nil (MeetsAsk σ))

pub fails_same : EachChoiceFits → FailsSame
fails_same choice_fits a s links Q v w pos t u rest shape tv uw clash = record {
  each = λ p R first ready.
      at_once p first (asked.Same pos t u) rest s (Same pos v w) (fine_before choice_fits p a R Q first s links shape ready) (
        refl,
        refused a R first s links (asked.Same pos t u) ready.stands
            (λ σ types f linked m. clash.never σ f (one_ask σ (store.Same v w) (tv.same σ types linked ∙ (m ∙ sym (uw.same σ types linked))))),
        record { around = a; region = R; links = links; stands = ready.stands; under = ready.under; within = ready.within; has = (tv, (uw, tt)) },
      );
}

pub fails_class : EachChoiceFits → FailsClass
fails_class choice_fits a s links Q v pos t c rest shape tv clash = record {
  each = λ p R first ready.
      at_once p first (asked.InClass pos t c) rest s (InClass pos v c) (fine_before choice_fits p a R Q first s links shape ready) (
        refl,
        refl,
        refused a R first s links (asked.InClass pos t c) ready.stands
            (λ σ types f linked m. clash.never σ f (one_ask σ (store.InClass v c) (ap (meets c) (tv.same σ types linked) ∙ m))),
        record { around = a; region = R; links = links; stands = ready.stands; under = ready.under; within = ready.within; has = (tv, tt) },
      );
}

pub fails_lack : EachChoiceFits → FailsLack
fails_lack choice_fits a s links Q v pos t x rest shape tv clash = record {
  each = λ p R first ready.
      at_once p first (asked.Lacks pos t x) rest s (Lacks pos v x) (fine_before choice_fits p a R Q first s links shape ready) (
        refl,
        refl,
        refused a R first s links (asked.Lacks pos t x) ready.stands
            (λ σ types f linked m. clash.never σ f (one_ask σ (store.Lacks v x) (ap (lacks x) (tv.same σ types linked) ∙ m))),
      );
}

pub fails_large : EachChoiceFits → TellsPrincipal → FailsLarge
fails_large choice_fits tells a s links Q v pos t scheme place number rest shape has told large = record {
  each = λ p R first ready.
      at_once p first (asked.Small pos t) rest s (Large pos v) (fine_before choice_fits p a R Q first s links shape ready) (
        refl,
        record {
          scheme = scheme;
          principal = tells a R p first s links v t scheme place number shape ready.within ready.under ready.stands has told;
          large = large;
        },
      );
}

-- ---- a longer list

pub more_after : (p : Place) (items more : List Item) (bad : Bad) (s : Store) → FailsAt p items bad s → FailsAt p (items ++ more) bad s
more_after p items more bad s h = record {
  before = h.before;
  item = h.item;
  after = h.after ++ more;
  split = ap (λ l. l ++ more) h.split ∙ append_assoc h.before (h.item ∷ h.after) more;
  fine = h.fine;
  is = h.is;
}

pub fails_after : FailsAfter
fails_after a Q X Y first second s u s' before between bad apart left right walk one two = record {
  each = λ p R list ready. (
      let mid = one.each p R list (ready_part p a R Q Y list s before left ready) in
      let next = ready_walk p a R Q X Y list first s u before between apart left right ready walk mid in
      subst (λ l. FailsAt p l bad s') (append_assoc list first second)
      (two.each p (either R Q) (list ++ first) next));
}

pub fails_earlier : FailsEarlier
fails_earlier a s links Q Y items more bad s' i h = record {
  each = λ p R first ready.
      subst (λ l. FailsAt p l bad s') (append_assoc first items more)
      (more_after p (first ++ items) more bad s' (h.each p R first (ready_part p a R Q Y first s links i ready)));
}

pub fails_linked : FailsLinked
fails_linked a s links others Q items bad s' tells live h = record {
  each = λ p R first ready. h.each p R first (ready_linked p a R Q first s links others tells live ready);
}

pub fails_inside : FailsInside
fails_inside a s links Q items bad s' h = record {
  each = λ p R first ready. h.each p R first (ready_deeper p a R Q first s links ready);
}
