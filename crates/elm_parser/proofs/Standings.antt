-- Where faults stand: which text goes on does not matter, and the faults that stand in the longest front that begins a
-- text are those that its steps tell.
use Rattle.std.proofs.Common.{◌≡◌, ℕ, suc, ◌+◌, ◌<◌, ◌≤◌, List, [], ◌∷◌, ◌++◌, length, Bool, true, false, ◌||◌, Option}
use Rattle.std.proofs.Common.{Some, None, ◌⊎◌, inl, inr, refl, sym, ap, subst, ◌∙◌, append_assoc, append-nil, arith}
use Rattle.std.specs.Prelude.{Contains, is_some, slice_index_or}
use Rattle.std.proofs.lemmas.List.{append_cancel_left, length-append}
use Rattle.std.proofs.lemmas.List.Elements.{Contains-append_cases}
use Rattle.elm_lexer.specs.Tokens.{Token}
use Rattle.parse_machine.specs.declared.table.Symbol.{Symbol}
use Rattle.parse_machine.specs.declared.table.Symbol.TheVariants.{Word, Part}
use Rattle.parse_machine.specs.declared.table.Step.{Step}
use Rattle.parse_machine.specs.declared.table.Step.TheVariants.{Take, Read}
use Rattle.parse_machine.specs.declared.table.Row.{Row}
use Rattle.parse_machine.specs.declared.table.Token as machine
use Rattle.parse_machine.specs.Grammar.{Production, Holds, Place, inside, leading, Stands as StandsAt, Tree, leaf, word}
use Rattle.parse_machine.specs.Grammar.{node, Derives, nothing, a_word, a_node, Spells, steps_of, tokens_of, IsViable}
use Rattle.parse_machine.specs.Grammar.{IsLongest, IsFaultAt, IsFront, IsRefused}
use Rattle.parse_machine.specs.Planned.{planned}
use Rattle.parse_machine.specs.Rows.{plan_of}
use Rattle.parse_machine.proofs.Stack.{frame, Reads, finished, closed, start}
use Rattle.parse_machine.proofs.Opening.{Good}
use Rattle.parse_machine.proofs.Planning.{planned-is, start_ends}
use Rattle.elm_grammar.specs.Classes.{classed, classed_from, class_by, other as no_class}
use Rattle.elm_grammar.specs.Table.{elm}
use Rattle.elm_parser.specs.Faults.{Decided, faults_of}
use Rattle.elm_parser.specs.Standing.{Finding, finding, Numbered, Text, Within, Before, Stands, early, at_end, NotAfter}
use Rattle.elm_parser.specs.Standing.{Finds}
use Rattle.elm_parser.specs.Scan.{scan, bottom, first_among}
use Rattle.elm_parser.proofs.Agreeing.{together}
use Rattle.elm_parser.proofs.Prefix.{By, Late, extends, scan_late, none_in}
use Rattle.elm_parser.proofs.Scanning.{whole}
use Rattle.elm_parser.proofs.Firsts.{Counts, Result, first_found}

-- ---- the tokens of steps

tokens_append : (a b : List Step) → tokens_of (a ++ b) ≡ tokens_of a ++ tokens_of b
tokens_append [] b = refl
tokens_append (Read t ∷ a) b = ap (λ z. t ∷ z) (tokens_append a b)
tokens_append (Take p ∷ a) b = tokens_append a b

tokens_read : {g : List Production} {m : Place} {c : ℕ} {ss : List Symbol} {x : Tree} {ts rest : List machine.Token} →
    Derives g m c ss x ts rest → tokens_of (steps_of x) ++ rest ≡ ts
tokens_read nothing = refl
tokens_read (a_word {t = t} h s d) = ap (λ z. t ∷ z) (tokens_read d)
tokens_read (a_node {x = x} {y = y} {ts = ts} {us = us} {rest = rest} k i d f) =
    ap (λ z. z ++ rest) (tokens_append (steps_of x) (steps_of y))
    ∙ append_assoc (tokens_of (steps_of x)) (tokens_of (steps_of y)) rest
    ∙ ap (λ z. tokens_of (steps_of x) ++ z) (tokens_read f) ∙ tokens_read d

-- the tokens of the steps after those that read front
after_front : (n c : ℕ) (x : Tree) (front more : List machine.Token) (known rest : List Step) →
    Spells elm (Part n ∷ []) c x (front ++ more) → steps_of x ≡ known ++ rest → tokens_of known ≡ front →
    tokens_of rest ≡ more
after_front n c x front more known rest d e f =
    append_cancel_left front (tokens_of rest) more
    (ap (λ z. z ++ tokens_of rest) (sym f) ∙ sym (tokens_append known rest) ∙ ap tokens_of (sym e)
    ∙ sym (append-nil (tokens_of (steps_of x))) ∙ tokens_read d)

-- ---- numbered tokens

in_cases : (u t : machine.Token) (ts : List machine.Token) → Contains (u ∷ ts) t → (u ≡ t) ⊎ Contains ts t
in_cases u t ts h = elim (Contains-append_cases (u ∷ []) ts t h) [ inl i ↦ inl (one i) | inr i ↦ inr i ]
  where
    one : Contains (u ∷ []) t → u ≡ t
    one i =
        let l : i.0 < 1 = i.1 in
        let z : i.0 ≡ 0 = omega arith in
        subst (λ k. slice_index_or (u ∷ []) k t ≡ t) z i.2

within : (n : ℕ) (ts : List machine.Token) (t : machine.Token) → Numbered n ts → Contains ts t →
    (n ≤ t.index) × (t.index < n + length ts)
within n [] t h i = absurd (none_in i)
within n (u ∷ ts) t h i = by (in_cases u t ts i) (λ j. within (suc n) ts t h.1 j)
  where
    by : (u ≡ t) ⊎ Contains ts t →
        (Contains ts t → (suc n ≤ t.index) × (t.index < suc n + length ts)) →
        (n ≤ t.index) × (t.index < n + suc (length ts))
    by (inl e) more =
        let f : t.index ≡ n = ap (λ (z : machine.Token). z.index) (sym e) ∙ h.0 in
        (omega arith, omega arith)
    by (inr j) more =
        let low : suc n ≤ t.index = (more j).0 in
        let high : t.index < suc n + length ts = (more j).1 in
        (omega arith, omega arith)

classed_numbered : (n before : ℕ) (ts : List Token) → Numbered n (classed_from n before ts)
classed_numbered n before [] = tt
classed_numbered n before (t ∷ ts) = (refl, classed_numbered (suc n) (class_by t.kind before t) ts)

front_numbered : (n : ℕ) (front at : List machine.Token) → Numbered n (front ++ at) → Numbered n front
front_numbered n [] at h = tt
front_numbered n (t ∷ front) at h = (h.0, front_numbered (suc n) front at h.1)

-- ---- tokens that look alike

abbrev Alike : List machine.Token → List machine.Token → Type 0
Alike [] us = us ≡ []
Alike (t ∷ ts) us =
    (u : machine.Token) × (vs : List machine.Token) × (us ≡ u ∷ vs) × (t.class ≡ u.class) × (t.column ≡ u.column) × Alike ts vs

stands_alike : (m : Place) (c : ℕ) (t u : machine.Token) → t.column ≡ u.column → StandsAt m c t → StandsAt m c u
stands_alike inside c t u e h = subst (λ z. c < z) e h
stands_alike leading c t u e h = sym e ∙ h

-- the same derivation of tokens that look so
record Redone (g : List Production) (m : Place) (c : ℕ) (ss : List Symbol) (us rest : List machine.Token) : Type 0 where
  tree : Tree
  others : List machine.Token
  derives : Derives g m c ss tree us others
  alike : Alike rest others

redone : (g : List Production) {m : Place} {c : ℕ} {ss : List Symbol} {x : Tree} {ts rest : List machine.Token} →
    Derives g m c ss x ts rest → (us : List machine.Token) → Alike ts us → Redone g m c ss us rest
redone g nothing us h = record { tree = leaf; others = us; derives = nothing; alike = h }
redone g {m = m} {c = c} (a_word {k = k} {t = t} {ss = ss} e s d) us h =
    let v = redone g d h.1 h.5 in
    record {
      tree = word h.0 v.tree;
      others = v.others;
      derives =
          subst (λ z. Derives g m c (Word k ∷ ss) (word h.0 v.tree) z v.others) (sym h.2)
          (a_word (subst (Holds k) h.3 e) (stands_alike m c t h.0 h.4 s) v.derives);
      alike = v.alike;
    }
redone g (a_node {p = p} k i d f) us h =
    let v = redone g d us h in
    let w = redone g f v.others v.alike in
    record { tree = node p v.tree w.tree; others = w.others; derives = a_node k i v.derives w.derives; alike = w.alike }

renumbered : ℕ → List machine.Token → List machine.Token
renumbered n [] = []
renumbered n (t ∷ ts) = record { class = t.class; column = t.column; index = n } ∷ renumbered (suc n) ts

renumbered_so : (n : ℕ) (ts : List machine.Token) → Numbered n (renumbered n ts)
unfolding renumbered
renumbered_so n [] = tt
renumbered_so n (t ∷ ts) = (refl, renumbered_so (suc n) ts)

renumbered_alike : (n : ℕ) (ts : List machine.Token) → Alike ts (renumbered n ts)
unfolding renumbered
renumbered_alike n [] = refl
renumbered_alike n (t ∷ ts) = (
  record { class = t.class; column = t.column; index = n },
  renumbered (suc n) ts,
  refl,
  refl,
  refl,
  renumbered_alike (suc n) ts,
)

after_alike : (front ts us : List machine.Token) → Alike ts us → Alike (front ++ ts) (front ++ us)
after_alike [] ts us h = h
after_alike (t ∷ front) ts us h = (t, front ++ us, refl, refl, refl, after_alike front ts us h)

none_alike : (us : List machine.Token) → Alike [] us → us ≡ []
none_alike us h = h

-- some text begins with a front that is viable
text_of : (n c : ℕ) (front : List machine.Token) → IsViable elm (Part n ∷ []) c front → Text n c front
text_of n c front (x, more, d) =
    let k = length front in
    let v = redone elm d (front ++ renumbered k more) (after_alike front more (renumbered k more) (renumbered_alike k more)) in
    record {
      more = renumbered k more;
      numbered = renumbered_so k more;
      tree = v.tree;
      spells =
          subst (λ z. Derives elm inside c (Part n ∷ []) v.tree (front ++ renumbered k more) z) (none_alike v.others v.alike)
          v.derives;
    }

-- ---- which text goes on

pub ready : (rows : List Row) → planned elm rows ≡ true → (n c : ℕ) → n < length rows →
    Good elm (plan_of rows) (start (Part n ∷ []) c)
ready rows e n c h =
    (tt, (start_ends elm rows e n h, (λ xs t ts d. absurd (no_more c xs t ts (t ∷ ts) d refl)), tt), tt)
  where
    no_more : (c : ℕ) (xs : List Tree) (t : machine.Token) (ts us : List machine.Token) →
        Reads elm (frame [] c inside ∷ []) xs us → us ≡ t ∷ ts → ⊥
    no_more c _ t ts us (closed finished) e = cc

-- a fault that the first tokens decide is not decided by a token after them
not_late : (n c : ℕ) (front : List machine.Token) (x : Text n c front) (k : ℕ) (d : Decided) → Within k d →
    k ≤ length front → Late x.more d → ⊥
not_late n c front x k d w l h = by d.by w h
  where
    by : (o : Option machine.Token) → Before o k → By x.more o → ⊥
    by None w h = w
    by (Some t) w h = let z : length front ≤ t.index = (within (length front) x.more t x.numbered h).0 in omega arith

some_by : (k : ℕ) (d : Decided) → Within k d → d.by ≡ None → ⊥
some_by k d w e = subst (λ z. Before z k) e w

-- a fault of one text that the first tokens decide is told by the steps that read them
known_has : (tokens : List Token) (n c : ℕ) (front : List machine.Token) (x : Text n c front) (known rest : List Step)
    (k : ℕ) (d : Decided) → steps_of x.tree ≡ known ++ rest → tokens_of known ≡ front → Within k d → k ≤ length front →
    Contains (faults_of tokens x.tree) d → Contains (scan tokens bottom known) d
known_has tokens n c front x known rest k d e f w l h =
    let told : Contains (scan tokens bottom (known ++ rest)) d =
    subst (λ z. Contains (scan tokens bottom z) d) e (subst (λ z. Contains z d) (sym (whole tokens x.spells)) h) in
    by ((extends tokens bottom known rest).1 d told)
  where
    by : Contains (scan tokens bottom known) d ⊎ Late (tokens_of rest) d → Contains (scan tokens bottom known) d
    by (inl i) = i
    by (inr i) =
        absurd (not_late n c front x k d w l
        (subst (λ z. Late z d) (after_front n c x.tree front x.more known rest x.spells e f) i))

-- and what those steps tell is a fault of each text that they begin
text_has : (tokens : List Token) (n c : ℕ) (x : Tree) (ts : List machine.Token) (known rest : List Step) (d : Decided) →
    Spells elm (Part n ∷ []) c x ts → steps_of x ≡ known ++ rest → (d.by ≡ None → ⊥) →
    Contains (scan tokens bottom known) d → Contains (faults_of tokens x) d
text_has tokens n c x ts known rest d s e b h =
    subst (λ z. Contains z d) (whole tokens s)
    (subst (λ z. Contains (scan tokens bottom z) d) (sym e) ((extends tokens bottom known rest).0 d h b))

pub whichever : (rows : List Row) → planned elm rows ≡ true → (tokens : List Token) (n c : ℕ) → n < length rows →
    (front : List machine.Token) (x : Text n c front) (more : List machine.Token) (y : Tree) (d : Decided) →
    Spells elm (Part n ∷ []) c y (front ++ more) →
    Contains (faults_of tokens x.tree) d → Within (length front) d → Contains (faults_of tokens y) d
whichever rows e tokens n c l front x more y d s h w =
    let k = together elm (plan_of rows) (planned-is elm rows e) (Part n ∷ []) c (ready rows e n c l) front x.more more x.tree y x.spells s in
    text_has tokens n c y (front ++ more) k.known k.others d s k.second (some_by (length front) d w)
    (known_has tokens n c front x k.known k.more (length front) d k.first k.reads w (omega arith) h)

-- ---- fronts

-- of two fronts of a list, one begins the other
abbrev pub Compared : List machine.Token → List machine.Token → List machine.Token → Type 0
Compared front at other =
    ((z : List machine.Token) × (front ≡ other ++ z))
    ⊎ ((u : machine.Token) × (z : List machine.Token) × (more : List machine.Token) × (other ≡ front ++ u ∷ z) × (at ≡ u ∷ more))

pub compared : (front at other others : List machine.Token) → front ++ at ≡ other ++ others → Compared front at other
compared front at [] others e = inl (front, refl)
compared [] at (u ∷ other) others e = inr (u, other, other ++ others, refl, e)
compared (t ∷ front) at (u ∷ other) others e = by (compared front at other others (let f : front ++ at ≡ other ++ others = cc in f))
  where
    same : t ≡ u
    same = cc

    by : Compared front at other → Compared (t ∷ front) at (u ∷ other)
    by (inl (z, f)) = inl (z, subst (λ v. t ∷ front ≡ v ∷ (other ++ z)) same (ap (λ w. t ∷ w) f))
    by (inr (v, z, more, f, g)) = inr (v, z, more, subst (λ w. w ∷ other ≡ t ∷ (front ++ v ∷ z)) same (ap (λ w. t ∷ w) f), g)

-- the longest front begins with each front of a text
longest_begins : (n c : ℕ) (ts front at other others : List machine.Token) → IsLongest elm (Part n ∷ []) c ts front at →
    ts ≡ other ++ others → Text n c other → (z : List machine.Token) × (front ≡ other ++ z)
longest_begins n c ts front at other others h e x = by (compared front at other others (sym h.place ∙ e))
  where
    by : Compared front at other → (z : List machine.Token) × (front ≡ other ++ z)
    by (inl r) = r
    by (inr (u, z, more, f, g)) =
        absurd (h.no_further u more g (
          x.tree,
          z ++ x.more,
          subst (λ v. Spells elm (Part n ∷ []) c x.tree v)
              (ap (λ v. v ++ x.more) f ∙ append_assoc front (u ∷ z) x.more ∙ sym (append_assoc front (u ∷ []) (z ++ x.more)))
              x.spells,
        ))

-- ---- what was found

by_some : (ended : Bool) (d : Decided) → ended ≡ false → Counts ended d → d.by ≡ None → ⊥
by_some ended d e c f =
    let g : (is_some d.by || false) ≡ true = subst (λ z. (is_some d.by || z) ≡ true) e c in
    let h : false ≡ true = subst (λ z. (is_some z || false) ≡ true) f g in
    cc

within_counts : (ended : Bool) (k : ℕ) (d : Decided) → Within k d → Counts ended d
within_counts ended k d w = by d.by w
  where
    by : (o : Option machine.Token) → Before o k → (is_some o || ended) ≡ true
    by (Some t) w = refl
    by None w = absurd w

end_counts : (d : Decided) → Counts true d
end_counts d = by (is_some d.by)
  where
    by : (b : Bool) → (b || true) ≡ true
    by true = refl
    by false = refl

-- the faults that count are those that stand
record Exact (tokens : List Token) (n c : ℕ) (ts : List machine.Token) (ended : Bool) (ds : List Decided) : Type 0 where
  to : (d : Decided) → Contains ds d → Counts ended d → Stands tokens n c ts (finding d)
  from : (f : Finding) → Stands tokens n c ts f → (d : Decided) × Contains ds d × Counts ended d × (finding d ≡ f)

result_finds : (tokens : List Token) (n c : ℕ) (ts : List machine.Token) (ended : Bool) (ds : List Decided) →
    Exact tokens n c ts ended ds → (r : Option Finding) → Result ended None ds r → Finds tokens n c ts r
result_finds tokens n c ts ended ds x None h = λ f s. let k = x.from f s in h.none k.0 k.1 k.2
result_finds tokens n c ts ended ds x (Some f) h = record {
  stands = elim h.among [ inl e ↦ absurd cc | inr k ↦ subst (Stands tokens n c ts) k.3 (x.to k.0 k.1 k.2) ];
  least = λ g s. let k = x.from g s in subst (NotAfter f) k.3 (h.least k.0 k.1 k.2);
}

shorter : (front other z : List machine.Token) → front ≡ other ++ z → length other ≤ length front
shorter front other z e = let f : length front ≡ length other + length z = ap length e ∙ length-append other z in omega arith

within_front : (tokens : List Token) (front at : List machine.Token) (known : List Step) (d : Decided) →
    classed tokens ≡ front ++ at → tokens_of known ≡ front → Contains (scan tokens bottom known) d →
    (d.by ≡ None → ⊥) → Within (length front) d
within_front tokens front at known d e f h b = by d.by (scan_late tokens bottom known d h) b
  where
    by : (o : Option machine.Token) → By (tokens_of known) o → (o ≡ None → ⊥) → Before o (length front)
    by None l b = absurd (b refl)
    by (Some t) l b =
        let k = within 0 front t (front_numbered 0 front at (subst (Numbered 0) e (classed_numbered 0 no_class tokens)))
        (subst (λ z. Contains z t) f l) in
        let high : t.index < 0 + length front = k.1 in
        omega arith

front_exact : (rows : List Row) → planned elm rows ≡ true → (tokens : List Token) (n c : ℕ) → n < length rows →
    (ts front at : List machine.Token) (known : List Step) →
    IsFaultAt elm (Part n ∷ []) c (classed tokens) front at known → IsRefused elm (Part n ∷ []) c ts →
    Exact tokens n c ts false (scan tokens bottom known)
front_exact rows e tokens n c l ts front at known h r =
    let y = text_of n c front h.longest.viable in
    let s = h.common.begins y.tree y.more y.spells in
    record {
      to = λ d i k.
          let b = by_some false d refl k in
          early at h.longest.place y (text_has tokens n c y.tree (front ++ y.more) known s.0 d y.spells s.1 b i)
          (within_front tokens front at known d h.longest.place h.common.tokens i b);
      from = λ f t. back y s f t;
    }
  where
    back : (y : Text n c front) → (s : (rest : List Step) × (steps_of y.tree ≡ known ++ rest)) → (f : Finding) →
        Stands tokens n c ts f →
        (d : Decided) × Contains (scan tokens bottom known) d × Counts false d × (finding d ≡ f)
    back y s f (at_end {x = x} q i) = absurd (r x q)
    back y s f (early {front = other} {d = d} others g x i w) =
        let z = longest_begins n c (classed tokens) front at other others h.longest g x in
        let q : Spells elm (Part n ∷ []) c y.tree (other ++ (z.0 ++ y.more)) =
        subst (Spells elm (Part n ∷ []) c y.tree) (ap (λ v. v ++ y.more) z.1 ∙ append_assoc other z.0 y.more) y.spells in
        let j = whichever rows e tokens n c l other x (z.0 ++ y.more) y.tree d q i w in (
          d,
          known_has tokens n c front y known s.0 (length other) d s.1 h.common.tokens w (shorter front other z.0 z.1) j,
          within_counts false (length other) d w,
          refl,
        )

read_exact : (rows : List Row) → planned elm rows ≡ true → (tokens : List Token) (n c : ℕ) → n < length rows →
    (at : List machine.Token) (steps : List Step) → (h : IsFront elm (Part n ∷ []) c (classed tokens) at steps) →
    Exact tokens n c h.front true (scan tokens bottom steps)
read_exact rows e tokens n c l at steps h =
    let told : scan tokens bottom steps ≡ faults_of tokens h.reading.tree =
    ap (scan tokens bottom) (sym h.reading.listed) ∙ whole tokens h.reading.spells in
    record {
      to = λ d i k. at_end h.reading.spells (subst (λ z. Contains z d) told i);
      from = λ f t. back told f t;
    }
  where
    back : scan tokens bottom steps ≡ faults_of tokens h.reading.tree → (f : Finding) → Stands tokens n c h.front f →
        (d : Decided) × Contains (scan tokens bottom steps) d × Counts true d × (finding d ≡ f)
    back told f (at_end {x = x} {d = d} q i) = (
      d,
      subst (λ z. Contains z d) (sym told) (subst (λ z. Contains (faults_of tokens z) d) (h.reading.only x q) i),
      end_counts d,
      refl,
    )
    back told f (early {front = other} {d = d} others g x i w) =
        let z = longest_begins n c (classed tokens) h.front at other others h.longest g x in
        let q : Spells elm (Part n ∷ []) c h.reading.tree (other ++ z.0) =
        subst (Spells elm (Part n ∷ []) c h.reading.tree) z.1 h.reading.spells in
        let j = whichever rows e tokens n c l other x z.0 h.reading.tree d q i w in
        (d, subst (λ v. Contains v d) (sym told) j, end_counts d, refl)

pub front_finds : (rows : List Row) → planned elm rows ≡ true → (tokens : List Token) (n c : ℕ) → n < length rows →
    (ts front at : List machine.Token) (known : List Step) →
    IsFaultAt elm (Part n ∷ []) c (classed tokens) front at known → IsRefused elm (Part n ∷ []) c ts →
    Finds tokens n c ts (first_among false None (scan tokens bottom known))
front_finds rows e tokens n c l ts front at known h r =
    result_finds tokens n c ts false (scan tokens bottom known) (front_exact rows e tokens n c l ts front at known h r)
    (first_among false None (scan tokens bottom known)) (first_found false None (scan tokens bottom known))

pub read_finds : (rows : List Row) → planned elm rows ≡ true → (tokens : List Token) (n c : ℕ) → n < length rows →
    (at : List machine.Token) (steps : List Step) → (h : IsFront elm (Part n ∷ []) c (classed tokens) at steps) →
    Finds tokens n c h.front (first_among true None (scan tokens bottom steps))
read_finds rows e tokens n c l at steps h =
    result_finds tokens n c h.front true (scan tokens bottom steps) (read_exact rows e tokens n c l at steps h)
    (first_among true None (scan tokens bottom steps)) (first_found true None (scan tokens bottom steps))
