-- What is said of a bad item.
use Rattle.std.proofs.Common.{◌≡◌, ℕ, List, [], ◌∷◌, ◌++◌, sym, ap, ◌∙◌, subst, arith}
use Rattle.std.specs.Prelude.{codes}
use Rattle.elm_base.specs.declared.position.Pos.{Pos}
use Rattle.elm_base.specs.declared.fault.Code.{Code}
use Rattle.elm_type.specs.Types.{Name, Made, tuple, types_of}
use Rattle.elm_type.specs.Classes.{Ground}
use Rattle.elm_type.specs.Schemes.{rename}
use Rattle.elm_type.specs.declared.head.Head.TheVariants as head
use Rattle.elm_type.specs.Used.{stem}
use Rattle.elm_type.specs.Ground.{value}
use Rattle.type_items.specs.Items as asked
use Rattle.type_items.specs.Items.{Place, Wanted, Item, place_of}
use Rattle.type_items.specs.Solutions.{Solves}
use Rattle.type_items.specs.Principal.{unscoped}
use Rattle.type_items.specs.Faults.{IsPairText, IsClassText, IsFault}
use Rattle.type_store.specs.Store.{Store}
use Rattle.type_store.specs.Solutions.{Values, Fit}
use Rattle.type_store.specs.Shape.{IsStore}
use Rattle.type_walks.specs.Links.{Types, AreGround, Linked, Within}
use Rattle.type_walks.specs.Walks.{Around, Filled}
use Rattle.type_walks.specs.Progress.{Themselves, Reached, Stands}
use Rattle.type_walks.proofs.Linking.{live_later, all_live_later, agree_below, linked_agree}
use Rattle.type_walks.specs.ToldTypesLaws.{TellsPrincipal}
use Rattle.type_items.specs.Uniqueness.{RenamedTwice, RenamedPrincipal}
use Rattle.type_constructs.specs.Failing.{Same, InClass, Lacks, Keeps, Large, Bad, Shows, IsBad}
use Rattle.type_constructs.specs.Texts.{Pairs, SaysPair, SaysClass, Explains}
use Rattle.type_constructs.specs.TypeAnswersLaws.{ExplainsFirst}

-- ---- a tuple of two variables

module _ (p : Place) (before : List Item) (s s' : Store) (v w pair : ℕ) (t u : Wanted) (shows : Shows p before s ((v, t) ∷ (w, u) ∷ [])) (pairs : Pairs s v w s' pair) where
  abbrev a : Around
  a = shows.around

  abbrev both : Wanted
  both = tuple (t ∷ u ∷ [])

  pair_has : (σ : Values) (all : Types) → Linked shows.links σ all → σ.types pair ≡ Made head.Tuple (types_of (σ.types v ∷ σ.types w ∷ []))
      → σ.types pair ≡ value all both
  pair_has σ all h e =
      e
      ∙ (ap (λ (z : Ground). Made head.Tuple (types_of (z ∷ σ.types w ∷ []))) (shows.has.0.same σ all h)
      ∙ ap (λ (z : Ground). Made head.Tuple (types_of (value all t ∷ z ∷ []))) (shows.has.1.0.same σ all h))

  pair_sound : (σ : Values) → Fit σ s' → Themselves σ → Filled a shows.region before [] s' ((pair, both) ∷ shows.links) σ
  pair_sound σ f own =
      let b = pairs.back σ f in
      let y = shows.stands.sound σ b.0 own in
      record {
        types = y.types;
        ground = y.ground;
        linked = λ all c h. (let l = y.linked all c h in (pair_has σ all l b.1, l));
        solves = y.solves;
        kept = λ all c h clean.
            y.kept all c h (record { each = λ x live. clean.each x (live_later a.depth a.depth s s' x pairs.later (omega arith) live) });
      }

  pair_complete : (types : Types) → AreGround types → Solves types (unscoped before) → Reached s' ((pair, both) ∷ shows.links) types
  pair_complete types g sol =
      let r = shows.stands.complete types g sol in
      let o = pairs.on r.values r.fit in
      let l = linked_agree a.depth s shows.links r.values o.0 types shows.stands.live (agree_below a.depth s r.values o.0 o.2) r.linked in
      record {
        values = o.0;
        fit = o.1;
        constants = record { each = λ x. sym (o.2.constants x) ∙ r.constants.each x };
        linked = (pair_has o.0 types l (pairs.back o.0 o.1).1, l);
      }

  pair_stands : Stands a shows.region before s' ((pair, both) ∷ shows.links)
  pair_stands = record {
    live = (
      record { inside = pairs.live.inside; depth = (let x = pairs.live.depth in omega arith) },
      all_live_later a.depth s s' shows.links pairs.later shows.stands.live,
    );
    away = shows.stands.away;
    sound = pair_sound;
    complete = pair_complete;
  }

  pair_within : Within a.constants s'
  pair_within = record { each = λ r h. shows.within.each r (pairs.later.constants r h) }

pair_text : TellsPrincipal → RenamedTwice → RenamedPrincipal → (p : Place) (before : List Item) (s : Store) (v w : ℕ) (t u : Wanted) (text : Name)
    → Shows p before s ((v, t) ∷ (w, u) ∷ []) → SaysPair s v w text → IsPairText p before t u text
pair_text tells twice renamed p before s v w t u text shows says = record {
  scheme = rename says.scheme;
  ordered = twice says.scheme;
  left = says.left;
  right = says.right;
  pair = says.parts;
  principal =
      renamed p before (tuple (t ∷ u ∷ [])) says.scheme
      (tells shows.around shows.region p before says.after ((says.pair, tuple (t ∷ u ∷ [])) ∷ shows.links) says.pair (tuple (t ∷ u ∷ [])) says.scheme
      says.told.place says.told.number says.whole (pair_within p before s says.after v w says.pair t u shows says.pairs) shows.under
      (pair_stands p before s says.after v w says.pair t u shows says.pairs) (record { same = λ σ types h. h.0 }) says.told.told);
  says = says.says;
}

class_text : TellsPrincipal → RenamedTwice → RenamedPrincipal → (p : Place) (before : List Item) (s : Store) (v : ℕ) (t : Wanted) (class text : Name)
    → IsStore s → Shows p before s ((v, t) ∷ []) → SaysClass s v class text → IsClassText p before t class text
class_text tells twice renamed p before s v t class text shape shows says = record {
  scheme = rename says.scheme;
  ordered = twice says.scheme;
  principal =
      renamed p before t says.scheme
      (tells shows.around shows.region p before s shows.links v t says.scheme says.told.place says.told.number shape shows.within shows.under shows.stands
      shows.has.0 says.told.told);
  says = says.says;
}

-- ---- each item

explain_item : TellsPrincipal → RenamedTwice → RenamedPrincipal → (p : Place) (before : List Item) (s : Store) (item : Item) (bad : Bad) (code : Code) (pos : Pos)
    (text : Name) → IsStore s → IsBad p before s item bad → Explains s bad code pos text → (place_of item ≡ pos) × IsFault p before item code text
explain_item tells twice renamed p before s (asked.Same pos t u) (Same here v w) code at text shape is ex =
    (is.0 ∙ sym ex.1, ((ex.0, is.1), pair_text tells twice renamed p before s v w t u text is.2 ex.2))
explain_item tells twice renamed p before s (asked.Same pos t u) (InClass here v d) code at text shape is ex = absurd is
explain_item tells twice renamed p before s (asked.Same pos t u) (Lacks here v y) code at text shape is ex = absurd is
explain_item tells twice renamed p before s (asked.Same pos t u) (Keeps here y) code at text shape is ex = absurd is
explain_item tells twice renamed p before s (asked.Same pos t u) (Large here v) code at text shape is ex = absurd is
explain_item tells twice renamed p before s (asked.InClass pos t c) (Same here v w) code at text shape is ex = absurd is
explain_item tells twice renamed p before s (asked.InClass pos t c) (InClass here v d) code at text shape is ex =
    (is.0 ∙ sym ex.1, ((ex.0, is.2), class_text tells twice renamed p before s v t (stem c) text shape is.3 (subst (λ k. SaysClass s v (stem k) text) (sym is.1) ex.2)))
explain_item tells twice renamed p before s (asked.InClass pos t c) (Lacks here v y) code at text shape is ex = absurd is
explain_item tells twice renamed p before s (asked.InClass pos t c) (Keeps here y) code at text shape is ex = absurd is
explain_item tells twice renamed p before s (asked.InClass pos t c) (Large here v) code at text shape is ex = absurd is
explain_item tells twice renamed p before s (asked.Lacks pos t x) (Same here v w) code at text shape is ex = absurd is
explain_item tells twice renamed p before s (asked.Lacks pos t x) (InClass here v d) code at text shape is ex = absurd is
explain_item tells twice renamed p before s (asked.Lacks pos t x) (Lacks here v y) code at text shape is ex =
    (is.0 ∙ sym ex.1, ((ex.0, is.2), ex.2 ∙ ap (λ (n : Name). codes "field " ++ n ++ codes " twice") (sym is.1)))
explain_item tells twice renamed p before s (asked.Lacks pos t x) (Keeps here y) code at text shape is ex = absurd is
explain_item tells twice renamed p before s (asked.Lacks pos t x) (Large here v) code at text shape is ex = absurd is
explain_item tells twice renamed p before s (asked.Keeps pos r ts) (Same here v w) code at text shape is ex = absurd is
explain_item tells twice renamed p before s (asked.Keeps pos r ts) (InClass here v d) code at text shape is ex = absurd is
explain_item tells twice renamed p before s (asked.Keeps pos r ts) (Lacks here v y) code at text shape is ex = absurd is
explain_item tells twice renamed p before s (asked.Keeps pos r ts) (Keeps here y) code at text shape is ex =
    (is.0 ∙ sym ex.1, ((ex.0, is.2), ex.2 ∙ ap (λ (n : Name). n ++ codes " escapes") (sym is.1)))
explain_item tells twice renamed p before s (asked.Keeps pos r ts) (Large here v) code at text shape is ex = absurd is
explain_item tells twice renamed p before s (asked.Small pos t) (Same here v w) code at text shape is ex = absurd is
explain_item tells twice renamed p before s (asked.Small pos t) (InClass here v d) code at text shape is ex = absurd is
explain_item tells twice renamed p before s (asked.Small pos t) (Lacks here v y) code at text shape is ex = absurd is
explain_item tells twice renamed p before s (asked.Small pos t) (Keeps here y) code at text shape is ex = absurd is
explain_item tells twice renamed p before s (asked.Small pos t) (Large here v) code at text shape is ex =
    (is.0 ∙ sym ex.1, (ex.0, is.1, ex.2))

pub explains_first : TellsPrincipal → RenamedTwice → RenamedPrincipal → ExplainsFirst
explains_first tells twice renamed p items s bad code pos text shape fails ex =
    let x = explain_item tells twice renamed p fails.before s fails.item bad code pos text shape fails.is ex in
    record {
      before = fails.before;
      bad = fails.item;
      after = fails.after;
      split = fails.split;
      here = x.0;
      fine = fails.fine;
      fault = x.1;
    }
