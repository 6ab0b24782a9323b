-- Copies of a frozen list, one after the other.
use Rattle.std.proofs.Common.{◌≡◌, ℕ, zero, suc, ◌<◌, List, [], ◌∷◌, ◌++◌, length, Option, Some, None, ⊎_elim, refl, sym, ap, ◌∙◌, subst, arith}
use Rattle.std.specs.List.{AllByRecursion}
use Rattle.std.proofs.lemmas.Bool.{cases_lt}
use Rattle.std.proofs.lemmas.List.{length_push}
use Rattle.std.proofs.lemmas.List.Elements.{All-nil, All-cons, All-get_or, All-weaker, All-append}
use Rattle.elm_type.specs.Classes.{Ground}
use Rattle.type_store.specs.Store.{Store}
use Rattle.type_store.specs.Solutions.{Values, AgreeBelow}
use Rattle.type_store.specs.Shape.{IsStore}
use Rattle.type_store.specs.Laws.{EachStoreCanFit}
use Rattle.type_walks.specs.Links.{Live, Later}
use Rattle.type_walks.specs.Frozen.{Part, Inner, Outer, FieldPart, FrozenCell, Open, Built, Row, EndBefore, EndLive, Frozen, cell_at, part_value, FrozenSays, IsBefore, CellBefore, PartLive, CellLive, OuterLive}
use Rattle.type_walks.specs.Says.{Instantiates}
use Rattle.type_schemes.specs.Formed.{IsFormed}
use Rattle.type_schemes.specs.Freezing.{CanCopy}
use Rattle.type_schemes.proofs.Keeping.{CellAll, EndAll, cell_still, before_all}
use Rattle.type_schemes.specs.Copies.{copy_at, copied, Grows, IsCopy, CanHave, Copying}
use Rattle.type_schemes.proofs.Growing.{later_on, live_on, determined_on, some_fit}

pub copy_before : (cs : List ℕ) (v i : ℕ) → i < length cs → copy_at (cs ++ v ∷ []) i ≡ copy_at cs i
copy_before [] v i l = absurd (omega arith)
copy_before (c ∷ cs) v zero l = refl
copy_before (c ∷ cs) v (suc i) l = copy_before cs v i (omega arith)

pub copy_last : (cs : List ℕ) (v : ℕ) → copy_at (cs ++ v ∷ []) (length cs) ≡ v
copy_last [] v = refl
copy_last (c ∷ cs) v = copy_last cs v

later_self : (s : Store) → Later s s
later_self s = record { grows = omega arith; depth = λ v l. omega arith; constants = λ r h. h }

-- what is in use stays in use
module _ (d : ℕ) (s t : Store) (later : Later s t) where
  part_on : (p : Part) → PartLive d s p → PartLive d t p
  part_on (Inner i) l = tt
  part_on (Outer v) l = live_on d s t v later l

  parts_on : (ps : List Part) → AllByRecursion (PartLive d s) ps → AllByRecursion (PartLive d t) ps
  parts_on [] l = tt
  parts_on (p ∷ ps) l = (part_on p l.0, parts_on ps l.1)

  fields_on : (fs : List FieldPart) → AllByRecursion (λ (f : FieldPart). PartLive d s f.1) fs → AllByRecursion (λ (f : FieldPart). PartLive d t f.1) fs
  fields_on [] l = tt
  fields_on (f ∷ fs) l = (part_on f.1 l.0, fields_on fs l.1)

  end_on : (e : Option Part) → EndLive d s e → EndLive d t e
  end_on None l = tt
  end_on (Some p) l = part_on p l

  pub cell_on : (c : FrozenCell) → CellLive d s c → CellLive d t c
  cell_on (Open k) l = tt
  cell_on (Built h ps) l = parts_on ps l
  cell_on (Row fs end) l = (fields_on fs l.0, end_on end l.1)

pub starts : (d : ℕ) (s : Store) (frozen : Frozen) → Copying d s frozen [] s
starts d s frozen = record {
  later = later_self s;
  live = All-nil (Live d s);
  determined = λ e w l h. record { same = λ σ τ f g agree. agree w h };
  back = λ σ f. (f, λ i l. absurd (omega arith));
  on = λ σ inner f g. (σ, f, record { types = λ v l. refl; constants = λ r. refl }, λ i l. absurd (omega arith));
}

module _ (d : ℕ) (s : Store) (frozen : Frozen) (formed : IsFormed frozen) (live : OuterLive d s frozen) (cs : List ℕ) (t : Store)
    (copying : Copying d s frozen cs t) where
  abbrev n : ℕ
  n = length cs

  live_at : (i : ℕ) → i < n → Live d t (copy_at cs i)
  live_at i l = All-get_or (Live d t) cs i 0 l copying.live

  -- values that go on from a fit of the first store say of each part what the list says
  module _ (σ τ : Values) (inner : ℕ → Ground) (agree : AgreeBelow (length s) σ τ) (same : (i : ℕ) → i < n → τ.types (copy_at cs i) ≡ inner i) where
    data Both (p : Part) : Type 0 where
      both : IsBefore n p → PartLive d s p → Both p

    part_both : (p : Part) → Both p → part_value σ inner p ≡ part_value τ (λ i. τ.types (copy_at cs i)) p
    part_both (Inner i) (both b l) = sym (same i b)
    part_both (Outer v) (both b l) = agree.types v l.inside

    both_all : (c : FrozenCell) → CellBefore n c → CellLive d s c → CellAll Both c
    both_all (Open k) b l = tt
    both_all (Built h ps) b l = go ps b l
      where
        go : (ps : List Part) → AllByRecursion (IsBefore n) ps → AllByRecursion (PartLive d s) ps → AllByRecursion Both ps
        go [] b l = tt
        go (p ∷ ps) b l = (both b.0 l.0, go ps b.1 l.1)
    both_all (Row fs end) b l = (go fs b.0 l.0, last end b.1 l.1)
      where
        go : (fs : List FieldPart) → AllByRecursion (λ (f : FieldPart). IsBefore n f.1) fs
            → AllByRecursion (λ (f : FieldPart). PartLive d s f.1) fs
            → AllByRecursion (λ (f : FieldPart). Both f.1) fs
        go [] b l = tt
        go (f ∷ fs) b l = (both b.0 l.0, go fs b.1 l.1)

        last : (e : Option Part) → EndBefore n e → EndLive d s e → EndAll Both e
        last None b l = tt
        last (Some p) b l = both b l

    pub is_copy : (c : FrozenCell) → CellBefore n c → CellLive d s c → (g : Ground) → FrozenSays σ inner g c → IsCopy cs c τ g
    is_copy c b l g says = cell_still σ τ inner (λ i. τ.types (copy_at cs i)) Both part_both c g (both_all c b l) says

  -- the next one can be made
  pub can_have : EachStoreCanFit → IsStore s → CanCopy s frozen → n < length frozen.cells → CanHave t (IsCopy cs (cell_at frozen.cells n))
  can_have each whole can l =
      let f = some_fit each s whole in
      let c = can.each f.0 f.1 in
      let r = copying.on f.0 c.0 f.1 c.1 in
      record {
        values = r.0;
        type = c.0 n;
        fit = r.1;
        has = is_copy f.0 r.0 c.0 r.2 r.3 (cell_at frozen.cells n) (formed.before n l) (live.cells n l) (c.0 n) (c.1.each n l);
      }

  -- it is made
  module _ (v : ℕ) (u : Store) (l : n < length frozen.cells) (g : Grows d t v u (IsCopy cs (cell_at frozen.cells n))) where
    abbrev new : List ℕ
    new = cs ++ v ∷ []

    part_kept : (σ : Values) (p : Part) → IsBefore n p → part_value σ (λ i. σ.types (copy_at cs i)) p ≡ part_value σ (λ i. σ.types (copy_at new i)) p
    part_kept σ (Inner i) b = ap σ.types (sym (copy_before cs v i b))
    part_kept σ (Outer w) b = refl

    kept : (σ : Values) (c : FrozenCell) (g : Ground) → CellBefore n c → IsCopy cs c σ g → IsCopy new c σ g
    kept σ c g b says =
        cell_still σ σ (λ i. σ.types (copy_at cs i)) (λ i. σ.types (copy_at new i)) (IsBefore n) (part_kept σ) c g (before_all n c b) says

    part_below : (σ : Values) (j : ℕ) → j < n → (p : Part) → IsBefore j p → part_value σ (λ i. σ.types (copy_at cs i)) p ≡ part_value σ (λ i. σ.types (copy_at new i)) p
    part_below σ j k (Inner i) b = ap σ.types (sym (copy_before cs v i (omega (arith, b, k))))
    part_below σ j k (Outer w) b = refl

    said : (σ : Values) → ((i : ℕ) → i < n → IsCopy cs (cell_at frozen.cells i) σ (σ.types (copy_at cs i))) → IsCopy cs (cell_at frozen.cells n) σ (σ.types v)
        → (i : ℕ) → i < length new → IsCopy new (cell_at frozen.cells i) σ (σ.types (copy_at new i))
    said σ old last i k =
        ⊎_elim
        (λ b. subst (λ w. IsCopy new (cell_at frozen.cells i) σ (σ.types w)) (sym (copy_before cs v i b))
        (cell_still σ σ (λ j. σ.types (copy_at cs j)) (λ j. σ.types (copy_at new j)) (IsBefore i) (part_below σ i b) (cell_at frozen.cells i) (σ.types (copy_at cs i))
        (before_all i (cell_at frozen.cells i) (formed.before i (omega (arith, b, l)))) (old i b)))
        (λ h.
        let e : i ≡ n = omega (arith, h, k, length_push cs v) in
        subst (λ j. IsCopy new (cell_at frozen.cells j) σ (σ.types (copy_at new j))) (sym e)
        (subst (λ w. IsCopy new (cell_at frozen.cells n) σ (σ.types w)) (sym (copy_last cs v)) (kept σ (cell_at frozen.cells n) (σ.types v) (formed.before n l) last)))
        (cases_lt i n)

    pub made : Copying d s frozen new u
    made = record {
      later = later_on s t u copying.later g.later;
      live =
          All-append (Live d u) cs (v ∷ []) (All-weaker (Live d t) (Live d u) (λ w k. live_on d t u w g.later k) cs copying.live)
          (All-cons (Live d u) v [] g.live (All-nil (Live d u)));
      determined = λ e w k h. determined_on e s t u (λ σ f. (g.back σ f).0) (λ x y. copying.determined e x k y) w (g.determined e w k h);
      back = λ σ f. (
          let b = g.back σ f in
          let c = copying.back σ b.0 in
          (c.0, said σ c.1 b.1));
      on = λ σ inner f h. (
          let r = copying.on σ inner f h in
          let q = g.on r.0 (inner n) r.1 (is_copy σ r.0 inner r.2 r.3 (cell_at frozen.cells n) (formed.before n l) (live.cells n l) (inner n) (h.each n l)) in (
            q.0,
            q.1,
            record {
              types = λ w k. r.2.types w k ∙ q.2.types w (omega (arith, k, copying.later.grows));
              constants = λ x. r.2.constants x ∙ q.2.constants x;
            },
            λ i k. ⊎_elim
                (λ b. ap q.0.types (copy_before cs v i b) ∙ (sym (q.2.types (copy_at cs i) (live_at i b).inside) ∙ r.3 i b))
                (λ z. let e : i ≡ n = omega (arith, z, k, length_push cs v) in
                ap (λ j. q.0.types (copy_at new j)) e ∙ (ap q.0.types (copy_last cs v) ∙ (q.3 ∙ ap inner (sym e))))
                (cases_lt i n),
          ));
    }

  -- ---- all are made

  module _ (all : n ≡ length frozen.cells) where
    root_live : (p : Part) → IsBefore n p → PartLive d s p → Live d t (copied cs p)
    root_live (Inner i) b l = live_at i b
    root_live (Outer v) b l = live_on d s t v copying.later l

    root_back : (σ : Values) (p : Part) → part_value σ (λ i. σ.types (copy_at cs i)) p ≡ σ.types (copied cs p)
    root_back σ (Inner i) = refl
    root_back σ (Outer v) = refl

    root_on : (σ τ : Values) (inner : ℕ → Ground) → AgreeBelow (length s) σ τ → ((i : ℕ) → i < n → τ.types (copy_at cs i) ≡ inner i)
        → (p : Part) → IsBefore n p → PartLive d s p → τ.types (copied cs p) ≡ part_value σ inner p
    root_on σ τ inner a h (Inner i) b l = h i b
    root_on σ τ inner a h (Outer v) b l = sym (a.types v l.inside)

    root_before : IsBefore n frozen.root
    root_before = subst (λ m. IsBefore m frozen.root) (sym all) formed.root

    pub instantiated : Instantiates d s frozen (copied cs frozen.root) t
    instantiated = record {
      copy = copy_at cs;
      later = copying.later;
      live = root_live frozen.root root_before live.root;
      copies = λ i l. live_at i (omega (arith, all, l));
      determined = copying.determined;
      back = λ σ f. (
          let b = copying.back σ f in
          (b.0, record { each = λ i l. b.1 i (omega (arith, all, l)) }, root_back σ frozen.root));
      on = λ σ inner f g. (
          let r = copying.on σ inner f g in
          (r.0, r.1, r.2, root_on σ r.0 inner r.2 r.3 frozen.root root_before live.root));
    }
