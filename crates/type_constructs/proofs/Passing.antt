-- What passes.
use Rattle.std.proofs.Common.{◌≡◌, ℕ, ◌+◌, List, [], ◌∷◌, ◌++◌, refl, sym, ap, subst, append_assoc, arith}
use Rattle.std.proofs.lemmas.List.{append-nil}
use Rattle.elm_base.specs.declared.position.Pos.{Pos}
use Rattle.type_items.specs.Items.{Place, Wanted, Item, Small}
use Rattle.type_items.specs.Faults.{IsSmall}
use Rattle.type_store.specs.Store.{Store}
use Rattle.type_walks.specs.Regions.{Region, either}
use Rattle.type_walks.specs.Links.{Links, Live, AreLive}
use Rattle.type_walks.specs.Walks.{Around}
use Rattle.type_walks.specs.Progress.{Stands}
use Rattle.type_walks.specs.ToldTypesLaws.{TellsPrincipal}
use Rattle.type_walks.specs.TypeCopiesLaws.{deeper}
use Rattle.type_constructs.specs.Passing.{Sized, Ready}
use Rattle.type_constructs.specs.TypeRefusalsLaws.{PassesPlain, PassesSmall, PassesOn, PassesWidely, PassesLinked, PassesInside}
use Rattle.type_constructs.proofs.Moments.{sized_both, sized_plain, ready_part, ready_walk, ready_linked}

pub passes_plain : PassesPlain
passes_plain a s links Q items none = record { each = λ p R first ready. sized_plain p first items none ready.sized }

-- an item that stands alone
pub alone : (i j : Item) (b after : List Item) → i ∷ [] ≡ b ++ j ∷ after → (b ≡ []) × (i ≡ j)
alone i j [] after e = (let f : i ≡ j = cc in (refl, f))
alone i j (k ∷ []) after e = absurd (let f : [] ≡ j ∷ after = cc in cc)
alone i j (k ∷ l ∷ b) after e = absurd (let f : [] ≡ l ∷ (b ++ j ∷ after) = cc in cc)

small_of : Item → Wanted → Wanted
small_of (Small pos t) u = t
small_of _ u = u

pub sized_small : (p : Place) (first : List Item) (pos : Pos) (t : Wanted) → Sized p first → IsSmall p first t
    → Sized p (first ++ Small pos t ∷ [])
unfolding small_of
sized_small p first pos t h small =
    sized_both p first (Small pos t ∷ []) h
    (λ b after here u e. (
    let x = alone (Small pos t) (Small here u) b after e in
    let same : t ≡ u = ap (λ i. small_of i u) x.1 in
    subst (λ v. IsSmall p (first ++ b) v) same
    (subst (λ l. IsSmall p (first ++ l) t) (sym x.0) (subst (λ l. IsSmall p l t) (sym (append-nil first)) small))))

pub passes_small : TellsPrincipal → PassesSmall
passes_small tells a s links Q v pos t scheme place number shape has told small = record {
  each = λ p R first ready.
      sized_small p first pos t ready.sized
      (record {
        scheme = scheme;
        principal = tells a R p first s links v t scheme place number shape ready.within ready.under ready.stands has told;
        small = small;
      });
}

pub passes_on : PassesOn
passes_on a Q X Y first second s u before between apart left right walk one two = record {
  each = λ p R list ready. (
      let mid = one.each p R list (ready_part p a R Q Y list s before left ready) in
      let next = ready_walk p a R Q X Y list first s u before between apart left right ready walk mid in
      subst (Sized p) (append_assoc list first second)
      (two.each p (either R Q) (list ++ first) next));
}

pub passes_widely : PassesWidely
passes_widely a s links Q Y items i h = record {
  each = λ p R first ready. h.each p R first (ready_part p a R Q Y first s links i ready);
}

pub passes_linked : PassesLinked
passes_linked a s links others Q items tells live h = record {
  each = λ p R first ready. h.each p R first (ready_linked p a R Q first s links others tells live ready);
}

-- ---- one definition deeper

live_deeper : (d : ℕ) (s : Store) (links : Links) → AreLive d s links → AreLive (d + 1) s links
live_deeper d s [] h = tt
live_deeper d s (l ∷ ls) h = (
  record { inside = h.0.inside; depth = (let x = h.0.depth in omega arith) },
  live_deeper d s ls h.1,
)

pub stands_deeper : (a : Around) (R : Region) (items : List Item) (s : Store) (links : Links) → Stands a R items s links
    → Stands (deeper a) R items s links
stands_deeper a R items s links h = record {
  live = live_deeper a.depth s links h.live;
  away = h.away;
  sound = λ σ f own. (
      let x = h.sound σ f own in
      record {
        types = x.types;
        ground = x.ground;
        linked = x.linked;
        solves = x.solves;
        kept = λ all c l k.
            x.kept all c l
            (record { each = λ v (live : Live a.depth s v). k.each v (record { inside = live.inside; depth = (let y = live.depth in omega arith) }) });
      });
  complete = h.complete;
}

pub ready_deeper : (p : Place) (a : Around) (R Q : Region) (items : List Item) (s : Store) (links : Links) → Ready p a R Q items s links
    → Ready p (deeper a) R Q items s links
ready_deeper p a R Q items s links h = record {
  stands = stands_deeper a R items s links h.stands;
  sized = h.sized;
  under = h.under;
  inside = h.inside;
  apart = h.apart;
  outside = h.outside;
  within = h.within;
}

pub passes_inside : PassesInside
passes_inside a s links Q items h = record {
  each = λ p R first ready. h.each p R first (ready_deeper p a R Q first s links ready);
}
