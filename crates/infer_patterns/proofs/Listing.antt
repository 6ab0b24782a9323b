-- The items of a list, in turn.
use Rattle.std.proofs.Common.{◌≡◌, ℕ, suc, ◌+◌, ◌<◌, List, [], ◌∷◌, ◌++◌, length, take, drop, get_or, refl, sym, ap}
use Rattle.std.proofs.Common.{◌∙◌, subst, append_assoc, append-nil}
use Rattle.elm_base.specs.declared.position.Pos.{Pos}
use Rattle.elm_canon.specs.Unions.{ListUnion, nil_alternative, cons_alternative}
use Rattle.elm_canon.specs.Tree.{Pattern}
use Rattle.elm_canon.specs.View.{nil_pattern, cons_pattern, items_before}
use Rattle.type_items.specs.Scopes.{Known}
use Rattle.type_store.specs.Shape.{IsStore}
use Rattle.type_walks.specs.Links.{Live}
use Rattle.type_constructs.specs.Failing.{Bad}
use Rattle.infer_steps.specs.Codes.{State, Bound}
use Rattle.infer_steps.proofs.Stepping.{follows_itself, follows_on, still_live}
use Rattle.infer_patterns.specs.Matches.{MatchesPattern, RefusesPattern, MatchesEach, AddsNames, Begins}
use Rattle.infer_patterns.specs.Matches.{RefusesConstructor, Leads}
use Rattle.infer_patterns.proofs.Binding.{bound_live, all_both}
use Rattle.infer_patterns.proofs.Beginning.{constructor_matched, constructor_refused}
use Rattle.infer_patterns.proofs.Turns.{each_none, each_more, each_refused, cut_at, one_more_taken}

items_last : (rest : Pattern) (ps : List Pattern) (p : Pattern) (qs : List Pattern)
    → items_before rest (ps ++ p ∷ qs) ≡ items_before (cons_pattern p (items_before rest qs)) ps
items_last rest [] p qs = refl
items_last rest (q ∷ ps) p qs = ap (cons_pattern q) (items_last rest ps p qs)

module _ (known : Known) (pos : Pos) where
  pub nil_matched : (v : ℕ) (old new : State) → Begins known pos v ListUnion nil_alternative [] old new
      → MatchesPattern known pos v nil_pattern [] old new
  nil_matched v old new begun =
      constructor_matched known pos v ListUnion nil_alternative old new new [] [] begun []
      (each_none known pos new begun.follows.whole)

  pub leads_none : (v : ℕ) (s : State) → IsStore s.store → Live s.depth s.store v → Leads known pos v v [] [] s s
  leads_none v s whole here = record {
    follows = follows_itself s whole;
    live = tt;
    list_live = here;
    matches = λ rest more last m. subst (λ l. MatchesPattern known pos v rest l s last) (sym (append-nil more)) m;
    refuses = λ rest bad last r. r;
  }

  -- one item more

  module _ (v w item list : ℕ) (ps : List Pattern) (own : List Bound) (old mid one : State)
      (lead : Leads known pos v w ps own old mid)
      (begun : Begins known pos w ListUnion cons_alternative (item ∷ list ∷ []) mid one) (p : Pattern) where
    module _ (bound : List Bound) (new : State) (first : MatchesPattern known pos item p bound one new) where
      item_each : MatchesEach known pos (item ∷ []) (p ∷ []) (bound ++ []) one new
      item_each = each_more known pos [] [] [] one one refl (each_none known pos one begun.follows.whole) item p bound
          new first

      pub leads_more : Leads known pos v list (ps ++ p ∷ []) (bound ++ own) old new
      leads_more = record {
        follows = follows_on old mid new lead.follows (follows_on mid one new begun.follows first.follows);
        live =
            all_both (λ (b : Bound). Live new.depth new.store b.1) bound own first.live
            (bound_live mid new (follows_on mid one new begun.follows first.follows) own lead.live);
        list_live = still_live one new list first.follows begun.live.1.0;
        matches = λ rest more last m. (
            let each = each_more known pos (item ∷ []) (p ∷ []) (bound ++ []) one new refl item_each list rest more last
            m in
            let cons = constructor_matched known pos w ListUnion cons_alternative mid one last (item ∷ list ∷ [])
            (p ∷ rest ∷ []) begun (more ++ (bound ++ [])) each in
            let all = lead.matches (cons_pattern p rest) (more ++ (bound ++ [])) last cons in
            subst (λ l. MatchesPattern known pos v (items_before rest (ps ++ p ∷ [])) l old last)
            (ap (λ l. (more ++ l) ++ own) (append-nil bound) ∙ append_assoc more bound own)
            (subst (λ q. MatchesPattern known pos v q ((more ++ (bound ++ [])) ++ own) old last)
            (sym (items_last rest ps p [])) all));
        refuses = λ rest bad last r. (
            let each = each_refused known pos (item ∷ []) (p ∷ []) (bound ++ []) one new refl item_each list [] rest []
            bad last r in
            let cons = constructor_refused known pos w ListUnion cons_alternative mid one last (item ∷ list ∷ [])
            (p ∷ rest ∷ []) begun bad each in
            subst (λ q. RefusesPattern known pos v q bad old last) (sym (items_last rest ps p []))
            (lead.refuses (cons_pattern p rest) bad last cons));
      }

    pub item_refused : (qs : List Pattern) (bad : Bad) (new : State) → RefusesPattern known pos item p bad one new
        → (rest : Pattern) → RefusesPattern known pos v (items_before rest (ps ++ p ∷ qs)) bad old new
    item_refused qs bad new r rest =
        let tail = items_before rest qs in
        let each = each_refused known pos [] [] [] one one refl (each_none known pos one begun.follows.whole) item
        (list ∷ []) p (tail ∷ []) bad new r in
        let cons = constructor_refused known pos w ListUnion cons_alternative mid one new (item ∷ list ∷ [])
        (p ∷ tail ∷ []) begun bad each in
        subst (λ q. RefusesPattern known pos v q bad old new) (sym (items_last rest ps p qs))
        (lead.refuses (cons_pattern p tail) bad new cons)

  pub list_refused : (v w : ℕ) (ps : List Pattern) (own : List Bound) (old mid : State)
      → Leads known pos v w ps own old mid
      → (p : Pattern) (qs : List Pattern) (bad : Bad) (new : State) → RefusesConstructor known pos w ListUnion
      cons_alternative bad mid new
      → (rest : Pattern) → RefusesPattern known pos v (items_before rest (ps ++ p ∷ qs)) bad old new
  list_refused v w ps own old mid lead p qs bad new r rest =
      let tail = items_before rest qs in
      subst (λ q. RefusesPattern known pos v q bad old new) (sym (items_last rest ps p qs))
      (lead.refuses (cons_pattern p tail) bad new (r (p ∷ tail ∷ [])))

-- ---- in a loop

module _ (known : Known) (pos : Pos) (v w : ℕ) (ps : List Pattern) (i : ℕ) (before after : List Bound) (old mid : State)
    (far : AddsNames (λ own. Leads known pos v w (take i ps) own old mid) before after) (p : Pattern)
    (l : i < length ps) (is : p ≡ get_or ps i p) where
  pub next_leads : (item list : ℕ) (last : List Bound) (one new : State)
      → Begins known pos w ListUnion cons_alternative (item ∷ list ∷ []) mid one
      → AddsNames (λ own. MatchesPattern known pos item p own one new) after last
      → AddsNames (λ own. Leads known pos v list (take (i + 1) ps) own old new) before last
  next_leads item list last one new begun next = record {
    own = next.own ++ far.own;
    so =
        subst (λ qs. Leads known pos v list qs (next.own ++ far.own) old new) (sym (one_more_taken ps i p l is))
        (leads_more known pos v w item list (take i ps) far.own old mid one far.so begun p next.own new next.so);
    is = next.is ∙ (ap (λ l. next.own ++ l) far.is ∙ sym (append_assoc next.own far.own before));
  }

  pub next_item_refused : (item list : ℕ) (one : State) (bad : Bad) (new : State)
      → Begins known pos w ListUnion cons_alternative (item ∷ list ∷ []) mid one
      → RefusesPattern known pos item p bad one new → (rest : Pattern) → RefusesPattern known pos v
      (items_before rest ps) bad old new
  next_item_refused item list one bad new begun r rest =
      subst (λ qs. RefusesPattern known pos v (items_before rest qs) bad old new) (sym (cut_at ps i p l is))
      (item_refused known pos v w item list (take i ps) far.own old mid one far.so begun p (drop (suc i) ps) bad new r
      rest)

  pub next_list_refused : (bad : Bad) (new : State)
      → RefusesConstructor known pos w ListUnion cons_alternative bad mid new
      → (rest : Pattern) → RefusesPattern known pos v (items_before rest ps) bad old new
  next_list_refused bad new r rest =
      subst (λ qs. RefusesPattern known pos v (items_before rest qs) bad old new) (sym (cut_at ps i p l is))
      (list_refused known pos v w (take i ps) far.own old mid far.so p (drop (suc i) ps) bad new r rest)

-- what comes after the items
module _ (known : Known) (pos : Pos) (v w : ℕ) (ps : List Pattern) (before after : List Bound) (old mid : State)
    (far : AddsNames (λ own. Leads known pos v w ps own old mid) before after) (rest : Pattern) where
  pub list_matched : (last : List Bound) (new : State)
      → AddsNames (λ own. MatchesPattern known pos w rest own mid new) after last
      → AddsNames (λ own. MatchesPattern known pos v (items_before rest ps) own old new) before last
  list_matched last new next = record {
    own = next.own ++ far.own;
    so = far.so.matches rest next.own new next.so;
    is = next.is ∙ (ap (λ l. next.own ++ l) far.is ∙ sym (append_assoc next.own far.own before));
  }

  pub rest_refused : (bad : Bad) (new : State) → RefusesPattern known pos w rest bad mid new
      → RefusesPattern known pos v (items_before rest ps) bad old new
  rest_refused bad new r = far.so.refuses rest bad new r
