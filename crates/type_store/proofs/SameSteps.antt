-- Steps for what is asked, and all of them in turn.
use Rattle.std.proofs.Common.{◌≡◌, ℕ, ◌<◌, ◌≤◌, List, [], ◌∷◌, ◌++◌, length, get_or, refl, sym, ap, ◌∙◌, subst, arith, All}
use Rattle.std.proofs.lemmas.List.{append-nil, map_push}
use Rattle.std.proofs.lemmas.List.Elements.{All-head, All-nil, All-append}
use Rattle.type_store.specs.Store.{Slot, Store, slot_at}
use Rattle.type_store.specs.Solutions.{Ask, Same, Becomes, Clash}
use Rattle.type_store.specs.Steps.{AskInside, IsGraph, Stepped, Leads, KeepsDepths, Paired, Differ}
use Rattle.type_store.specs.declared.pair.Pair.{Pair}
use Rattle.type_store.specs.declared.pair.Pair.TheVariants.{Apart}
use Rattle.type_store.specs.declared.slot.Slot as kept
use Rattle.type_store.proofs.Undoing.{view_at, length_view}
use Rattle.type_store.specs.Spreading.{EachSpread}
use Rattle.type_store.specs.Ends.{Ran}
use Rattle.type_store.specs.declared.ask.Ask as stored
use Rattle.type_store.specs.View.{ask_view, cell_view, slot_view, store_view, work_view}
use Rattle.type_store.proofs.Turns.{stays, becomes, becomes_chained, framed_before, clash_framed, clash_before, all_left, all_right}
use Rattle.type_store.proofs.OneSlot.{same_roots, same_itself, clash_turned}
use Rattle.type_store.proofs.Joins.{same_stepped, turned_stepped, same_clashed, joined_clash}
use Rattle.type_store.proofs.RowJoins.{asks_more}
use Rattle.type_store.proofs.Keeping.{each_less, depths_itself, depths_chained}
use Rattle.type_store.specs.Reaching.{KeepsConstants, LowRestsBut}
use Rattle.type_store.proofs.Resting.{constants_itself, constants_chained, rests_kept, rests_chained}

-- ---- two variables

-- no type is of both forms
pub did_apart : (slots : List kept.Slot) (a b : ℕ) (x y : kept.Slot) (p : Pair) → a < b → b < length slots → IsGraph (store_view slots) → x ≡ get_or slots a x → y ≡ get_or slots b y
    → Paired p (cell_view x.cell) (cell_view y.cell) → p ≡ Apart → Clash (store_view slots) (Same a b ∷ [])
did_apart slots a b x y p low l g e f q is =
    let at_a : slot_at (store_view slots) a ≡ slot_view x = view_at slots a x (omega (arith, low, l)) e in
    let at_b : slot_at (store_view slots) b ≡ slot_view y = view_at slots b y l f in
    joined_clash (store_view slots) a b low (omega (arith, l, length_view slots)) g
    (subst (λ (c : Slot). Differ c.cell (slot_at (store_view slots) b).cell) (sym at_a)
    (subst (λ (c : Slot). Differ (cell_view x.cell) c.cell) (sym at_b) (subst (λ r. Paired r (cell_view x.cell) (cell_view y.cell)) is q)))

-- both lead to the same
pub same_already : (s : Store) (v w a b : ℕ) (before : List Ask) → IsGraph s → Leads s v a → Leads s w b → a ≡ b → Stepped s before (Same v w ∷ []) s before
same_already s v w a b before g l m e = record {
  left = [];
  work = sym (append-nil before);
  inside = All-nil (AskInside (length s));
  becomes = becomes_chained s s s (Same v w ∷ []) (Same a b ∷ []) [] (same_roots s v w a b l m) (subst (λ x. Becomes s (Same a x ∷ []) s []) e (same_itself s a));
  graph = g;
  spread = each_less s before v w;
  depths = depths_itself s;
  constants = constants_itself s;
  rests = rests_kept s s [] refl (depths_itself s);
}

pub same_swapped : (s t : Store) (v w a b : ℕ) (before after : List Ask) → Leads s v a → Leads s w b → Stepped s before (Same b a ∷ []) t after → Stepped s before (Same v w ∷ []) t after
same_swapped s t v w a b before after l m p = same_stepped s t v w a b before after l m (turned_stepped s t a b before after p)

pub swapped_clash : (s : Store) (v w a b : ℕ) → Leads s v a → Leads s w b → Clash s (Same b a ∷ []) → Clash s (Same v w ∷ [])
swapped_clash s v w a b l m p = same_clashed s v w a b l m (clash_turned s b a p)

-- ---- all that is asked

-- so far: what was asked became what is asked now
pub record RunsTo (old : Store) (asked : List Ask) (new : Store) (now : List Ask) : Type 0 where
  pub becomes : Becomes old asked new now
  pub graph : IsGraph new
  pub inside : All (AskInside (length new)) now
  pub spread : EachSpread old asked → EachSpread new now
  pub depths : KeepsDepths old new
  pub constants : KeepsConstants old new
  pub rests : (e : ℕ) → LowRestsBut e old new now

pub runs_none : (s : Store) (asked : List Ask) → IsGraph s → All (AskInside (length s)) asked → RunsTo s asked s asked
runs_none s asked g i = record {
  becomes = becomes s s asked asked (stays s (λ σ f q. q) (λ σ f p. p));
  graph = g;
  inside = i;
  spread = λ e. e;
  depths = depths_itself s;
  constants = constants_itself s;
  rests = rests_kept s s asked refl (depths_itself s);
}

pub runs_all : (s t : Store) (asked now : List Ask) → now ≡ [] → RunsTo s asked t now → Ran s asked t
runs_all s t asked now e r = record {
  becomes = subst (λ as_. Becomes s asked t as_) e r.becomes;
  graph = r.graph;
  spread = λ h. subst (EachSpread t) e (r.spread h);
  depths = r.depths;
  constants = r.constants;
  rests = λ i. subst (LowRestsBut i s t) e (r.rests i);
}

pub runs_on : (s t u : Store) (asked now rest after : List Ask) (a : Ask) → now ≡ rest ++ a ∷ [] → RunsTo s asked t now → Stepped t rest (a ∷ []) u after → RunsTo s asked u after
runs_on s t u asked now rest after a e r p =
    let i : All (AskInside (length t)) rest = all_left (AskInside (length t)) rest (a ∷ []) (subst (All (AskInside (length t))) e r.inside) in
    let b : Becomes s asked u (rest ++ p.left) = becomes_chained s t u asked (rest ++ a ∷ []) (rest ++ p.left)
    (subst (λ as_. Becomes s asked t as_) e r.becomes) (framed_before t u rest (a ∷ []) p.left i p.becomes) in
    record {
      becomes = subst (λ as_. Becomes s asked u as_) (sym p.work) b;
      graph = p.graph;
      inside = subst (All (AskInside (length u))) (sym p.work)
          (All-append (AskInside (length u)) rest p.left (asks_more (length t) (length u) rest p.becomes.grows i) p.inside);
      spread = λ h. p.spread (subst (EachSpread t) e (r.spread h));
      depths = depths_chained s t u r.becomes.grows r.depths p.depths;
      constants = constants_chained s t u r.constants p.constants;
      rests = λ j. subst (LowRestsBut j s u) (sym p.work)
          (rests_chained s t u (rest ++ a ∷ []) rest p.left j (subst (LowRestsBut j s t) e (r.rests j)) (framed_before t u rest (a ∷ []) p.left i p.becomes) (p.rests j));
    }

pub runs_clash : (s t : Store) (asked now rest : List Ask) (a : Ask) → now ≡ rest ++ a ∷ [] → RunsTo s asked t now → Clash t (a ∷ []) → Clash s asked
runs_clash s t asked now rest a e r c =
    clash_before s t asked (rest ++ a ∷ []) (subst (λ as_. Becomes s asked t as_) e r.becomes) (clash_framed t rest (a ∷ []) c)

pub next_inside : (n : ℕ) (now rest : List Ask) (a : Ask) → now ≡ rest ++ a ∷ [] → All (AskInside n) now → AskInside n a
next_inside n now rest a e i = All-head (AskInside n) a [] (all_right (AskInside n) rest (a ∷ []) (subst (All (AskInside n)) e i))

-- as the program takes an ask from the work
pub popped : (now rest : List stored.Ask) (a : stored.Ask) → now ≡ rest ++ a ∷ [] → work_view now ≡ work_view rest ++ ask_view a ∷ []
popped now rest a e = ap work_view e ∙ map_push ask_view rest a

-- the variables of asks are of the slots
pub there : (slots : List kept.Slot) (as_ : List Ask) → All (AskInside (length slots)) as_ → All (AskInside (length (store_view slots))) as_
there slots as_ = subst (λ n. All (AskInside n) as_) (sym (length_view slots))

pub ask_there : (slots : List kept.Slot) (a : Ask) → AskInside (length (store_view slots)) a → AskInside (length slots) a
ask_there slots a = subst (λ n. AskInside n a) (length_view slots)

pub more_there : (old new : List kept.Slot) → length (store_view old) ≤ length (store_view new) → length old ≤ length new
more_there old new h = omega (arith, h, length_view old, length_view new)
