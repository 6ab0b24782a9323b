-- A text compiles to one value: its phases, one after another, are determined.
use Rattle.std.proofs.Common.{◌≡◌, ℕ, List, [], ◌∷◌, Option, Some, None, refl, sym, ap, ◌∙◌, subst}
use Rattle.elm_base.specs.declared.position.Pos.{Pos}
use Rattle.elm_base.specs.declared.fault.Code.{Code}
use Rattle.elm_canon.specs.Names.{Name}
use Rattle.elm_canon.specs.Tree.{Module}
use Rattle.elm_lexer.specs.Tokens as lexed
use Rattle.elm_parser.specs.Parsed.{HasTextFault}
use Rattle.elm_parser.specs.Laws.{OneOrOtherText}
use Rattle.elm_tree.specs.Tree as tree
use Rattle.canon_env.specs.declared.finding.Finding.{Finding}
use Rattle.canon_module.specs.Resolve.{IsModule, module_shows}
use Rattle.canon_env.specs.Order.{IsInOrder}
use Rattle.link.specs.Cores.{cores_of, without_cores}
use Rattle.link.specs.Made.{fragment_of}
use Rattle.pattern_check.specs.Faults as patterns
use Rattle.type_items.specs.Inferred.{Schemes, Inferred, Refused}
use Rattle.type_items.proofs.PrincipalTypesModules.{one_answer, one_refusal}
use Rattle.module_offers.specs.Offers.{known_by, main_type, module_interface}
use Rattle.module_made.specs.Around.{Around, setting_of, head_faults}
use Rattle.module_made.specs.Made.{Value, Good, bad, good, too_large, text_finding, type_finding, Spells, name_faults}
use Rattle.module_made.specs.Made.{lacking, root, Made, too_long, unread, misplaced, misnamed, incomplete, mistyped}
use Rattle.module_made.specs.Made.{uncovered, fine}
use Rattle.project_proper.specs.Once.{OneMade}
use Rattle.project_proper.proofs.Modules.{one_module}
use Rattle.project_proper.proofs.MadeOnceOffered.{main_alike, interface_alike}
use Rattle.project_proper.proofs.Faulty.{one_list, never_none}

module _ (a : Around) (path : List ℕ) where
  -- ---- patterns, the last phase

  data Covered (t : tree.Module) (m : Module) (told : Schemes) : Value → Type 0 where
    some_missing : {f : Finding} {fs : List Finding} → IsInOrder (patterns.module_faults m) (f ∷ fs) →
        Covered t m told (bad path (f ∷ fs))
    none_missing : patterns.module_faults m ≡ [] → Covered t m told (good a t m told)

  goods : (t : tree.Module) (m : Module) (first second : Schemes) → Inferred m (known_by a.interfaces) root first →
      Inferred m (known_by a.interfaces) root second → good a t m first ≡ good a t m second
  goods t m first second i j =
      ap (λ face. Good face (fragment_of (cores_of m) (without_cores m) (main_type m first)))
      (interface_alike m (known_by a.interfaces) root first second i j (module_shows (setting_of a t) t m))
      ∙ ap (λ s. Good (module_interface (module_shows (setting_of a t) t m) m second)
      (fragment_of (cores_of m) (without_cores m) s))
      (main_alike m (known_by a.interfaces) root first second i j)

  one_covered : (t : tree.Module) (m : Module) (first second : Schemes) (v w : Value) →
      Inferred m (known_by a.interfaces) root first → Inferred m (known_by a.interfaces) root second →
      Covered t m first v → Covered t m second w → v ≡ w
  one_covered t m first second v w i j (some_missing p) (some_missing q) =
      ap (bad path) (one_list (patterns.module_faults m) _ _ p q)
  one_covered t m first second v w i j (some_missing p) (none_missing q) =
      absurd (never_none (patterns.module_faults m) _ _ p q)
  one_covered t m first second v w i j (none_missing p) (some_missing q) =
      absurd (never_none (patterns.module_faults m) _ _ q p)
  one_covered t m first second v w i j (none_missing p) (none_missing q) = goods t m first second i j

  -- ---- types

  data Typed (t : tree.Module) (m : Module) : Value → Type 0 where
    some_refused : {code : Code} {place : Pos} {detail : Name} →
        Refused m (known_by a.interfaces) root code place detail →
        Typed t m (bad path (type_finding code place detail ∷ []))
    none_refused : {told : Schemes} {v : Value} → Inferred m (known_by a.interfaces) root told → Covered t m told v →
        Typed t m v

  one_typed : (t : tree.Module) (m : Module) (v w : Value) → Typed t m v → Typed t m w → v ≡ w
  one_typed t m v w (some_refused p) (some_refused q) =
      let same = one_refusal m (known_by a.interfaces) root _ _ _ _ _ _ p q in
      λ i. bad path (type_finding (same.0 i) (same.1 i) (same.2 i) ∷ [])
  one_typed t m v w (some_refused p) (none_refused i c) =
      absurd (one_answer m (known_by a.interfaces) root _ _ _ _ i p)
  one_typed t m v w (none_refused i c) (some_refused q) =
      absurd (one_answer m (known_by a.interfaces) root _ _ _ _ i q)
  one_typed t m v w (none_refused i c) (none_refused j d) = one_covered t m _ _ v w i j c d

  -- ---- names, and what is taken for granted

  data Faulty (found : List Finding) (Rest : Value → Type 0) : Value → Type 0 where
    some : {f : Finding} {fs : List Finding} → IsInOrder found (f ∷ fs) → Faulty found Rest (bad path (f ∷ fs))
    none : {v : Value} → found ≡ [] → Rest v → Faulty found Rest v

  one_faulty : (found : List Finding) (Rest : Value → Type 0) → ((v w : Value) → Rest v → Rest w → v ≡ w) →
      (v w : Value) → Faulty found Rest v → Faulty found Rest w → v ≡ w
  one_faulty found Rest one v w (some p) (some q) = ap (bad path) (one_list found _ _ p q)
  one_faulty found Rest one v w (some p) (none e r) = absurd (never_none found _ _ p e)
  one_faulty found Rest one v w (none e r) (some q) = absurd (never_none found _ _ q e)
  one_faulty found Rest one v w (none e r) (none d s) = one v w r s

  abbrev Complete : tree.Module → Module → Value → Type 0
  Complete t m = Faulty (lacking a m) (Typed t m)

  abbrev Named : tree.Module → Module → Value → Type 0
  Named t m = Faulty (name_faults a t m) (Complete t m)

  one_named : (t : tree.Module) (m : Module) (v w : Value) → Named t m v → Named t m w → v ≡ w
  one_named t m =
      one_faulty (name_faults a t m) (Complete t m) (one_faulty (lacking a m) (Typed t m) (one_typed t m))

  data Meant (t : tree.Module) : Value → Type 0 where
    meant : {m : Module} {v : Value} → IsModule (setting_of a t) t.declarations m → Named t m v → Meant t v

  one_meant : (t : tree.Module) (v w : Value) → Meant t v → Meant t w → v ≡ w
  one_meant t v w (meant {m = m} p c) (meant {m = n} q d) =
      let same = one_module (setting_of a t) t.declarations m n p q in
      one_named t n v w (subst (λ k. Named t k v) same c) d

  abbrev Placed : tree.Module → Value → Type 0
  Placed t = Faulty (head_faults a t.head) (Meant t)

  one_placed : (t : tree.Module) (v w : Value) → Placed t v → Placed t w → v ≡ w
  one_placed t = one_faulty (head_faults a t.head) (Meant t) (one_meant t)

  -- ---- text

  data Read (text : List ℕ) : Value → Type 0 where
    not_read : {f : lexed.Fault} → HasTextFault text f → Read text (bad path (text_finding f ∷ []))
    read : {t : tree.Module} {v : Value} → Spells text t → Placed t v → Read text v

  one_read : OneOrOtherText → (text : List ℕ) (v w : Value) → Read text v → Read text w → v ≡ w
  one_read law text v w (not_read p) (not_read q) =
      ap (λ f. bad path (text_finding f ∷ [])) (law.one_fault text _ _ p q)
  one_read law text v w (not_read p) (read s c) = absurd (law.not_both text s.0 _ _ s.1 p)
  one_read law text v w (read s c) (not_read q) = absurd (law.not_both text s.0 _ _ s.1 q)
  one_read law text v w (read {t = t} s c) (read {t = u} r d) =
      let same = (law.one_tree text s.0 r.0 t u s.1 r.1).1 in
      one_placed u v w (subst (λ k. Placed k v) same c) d

  phases : (text : List ℕ) (v : Value) → Made a path (Some text) v → Read text v
  phases text v (unread p) = not_read p
  phases text v (misplaced s p) = read s (some p)
  phases text v (misnamed h p) = read h.spelled (none h.found (meant h.module_is (some p)))
  phases text v (incomplete h e p) = read h.spelled (none h.found (meant h.module_is (none e (some p))))
  phases text v (mistyped h p) =
      read h.means.spelled
      (none h.means.found (meant h.means.module_is (none h.named (none h.whole (some_refused p)))))
  phases text v (uncovered h p) =
      read h.is_named.means.spelled
      (none h.is_named.means.found (meant h.is_named.means.module_is
      (none h.is_named.named (none h.is_named.whole (none_refused h.typed (some_missing p))))))
  phases text v (fine h e) =
      read h.is_named.means.spelled
      (none h.is_named.means.found (meant h.is_named.means.module_is
      (none h.is_named.named (none h.is_named.whole (none_refused h.typed (none_missing e))))))

  too_long_is : (v : Value) → Made a path None v → bad path (too_large ∷ []) ≡ v
  too_long_is v too_long = refl

  one_value : OneOrOtherText → (text : Option (List ℕ)) (v w : Value) → Made a path text v → Made a path text w → v ≡ w
  one_value law None v w p q = sym (too_long_is v p) ∙ too_long_is w q
  one_value law (Some text) v w p q = one_read law text v w (phases text v p) (phases text w q)

pub one_made : OneOrOtherText → OneMade
one_made law a path text v w p q = one_value a path law text v w p q
