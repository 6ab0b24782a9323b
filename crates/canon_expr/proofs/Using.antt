-- What uses of values, constructors and operators mean, and their faults.
use Rattle.std.proofs.Common.{◌≡◌, [], ◌∷◌, ◌++◌, true, false, if◌then◌else◌, Some, None, refl, sym, ap, ◌∙◌}
use Rattle.std.proofs.lemmas.List.{append-nil}
use Rattle.elm_base.specs.declared.fault.Code.TheVariants.{UnknownConstructor, UnknownOperator, Ambiguous}
use Rattle.elm_tree.specs.Tree.{Word, Long}
use Rattle.elm_canon.specs.declared.reference.Ref.{Ref}
use Rattle.elm_canon.specs.Tree.{Located, NameOf}
use Rattle.canon_env.specs.Found.{Nothing, One, Several}
use Rattle.canon_env.specs.Shown.{MakerMeaning}
use Rattle.canon_env.specs.Exposing.{is_operator}
use Rattle.canon_env.specs.declared.found.Meant.{Meant}
use Rattle.canon_env.specs.Naming.{World, maker_found}
use Rattle.canon_env.specs.Sites.{MakerUse, OperatorUse, faults_at, unless_one, at_long, at_word}
use Rattle.canon_env.specs.Sites.{ValueMeaning, LocalValue, Elsewhere}
use Rattle.canon_expr.specs.Logs.{Grows, used_place, value_ref}
use Rattle.canon_expr.specs.declared.log.Log.{Log}
use Rattle.canon_expr.proofs.Growing.{grows_one}
use Rattle.canon_expr.specs.Callees.{value_of}

-- ---- values

pub value_means : (x : Long) (m : ValueMeaning) (r : Ref) → value_ref x m ≡ Some r →
    Located x.place (NameOf r) ≡ value_of x m
value_means x (LocalValue place) r e = ap (λ n. Located x.place (NameOf n)) (cc)
value_means x (Elsewhere Nothing) r e = absurd (cc)
value_means x (Elsewhere Several) r e = absurd (cc)
value_means x (Elsewhere (One m)) r e = ap (λ n. Located x.place (NameOf n)) (cc)

-- ---- constructors

maker_faults : (w : World) (x : Long) → faults_at w (MakerUse x) ≡ unless_one UnknownConstructor x (maker_found w x) (λ _. [])
unfolding faults_at
maker_faults w x = refl

maker_unused : (w : World) (x : Long) → used_place w (MakerUse x) ≡ None
unfolding used_place
maker_unused w x = refl

pub maker_found_one : (w : World) (log : Log) (x : Long) (m : Meant MakerMeaning) → One m ≡ maker_found w x →
    Grows w log log (MakerUse x ∷ [])
maker_found_one w log x m is =
    grows_one (MakerUse x) [] (maker_faults w x ∙ ap (λ f. unless_one UnknownConstructor x f (λ _. [])) (sym is))
    (maker_unused w x) (sym (append-nil log.findings.items)) refl

pub maker_several : (w : World) (old new : Log) (x : Long) → Several ≡ maker_found w x →
    new.findings.items ≡ old.findings.items ++ at_long Ambiguous x ∷ [] → new.uses.items ≡ old.uses.items →
    Grows w old new (MakerUse x ∷ [])
maker_several w old new x is found used =
    grows_one (MakerUse x) (at_long Ambiguous x ∷ [])
    (maker_faults w x ∙ ap (λ f. unless_one UnknownConstructor x f (λ _. [])) (sym is)) (maker_unused w x) found used

pub maker_nothing : (w : World) (old new : Log) (x : Long) → Nothing ≡ maker_found w x →
    new.findings.items ≡ old.findings.items ++ at_long UnknownConstructor x ∷ [] → new.uses.items ≡ old.uses.items →
    Grows w old new (MakerUse x ∷ [])
maker_nothing w old new x is found used =
    grows_one (MakerUse x) (at_long UnknownConstructor x ∷ [])
    (maker_faults w x ∙ ap (λ f. unless_one UnknownConstructor x f (λ _. [])) (sym is)) (maker_unused w x) found used

-- ---- operators

operator_faults : (w : World) (op : Word) →
    faults_at w (OperatorUse op) ≡ (if is_operator op.text then [] else at_word UnknownOperator op ∷ [])
unfolding faults_at
operator_faults w op = refl

operator_unused : (w : World) (op : Word) → used_place w (OperatorUse op) ≡ None
unfolding used_place
operator_unused w op = refl

pub operator_known : (w : World) (log : Log) (op : Word) → is_operator op.text ≡ true → Grows w log log (OperatorUse op ∷ [])
operator_known w log op e =
    grows_one (OperatorUse op) [] (operator_faults w op ∙ ap (λ b. if b then [] else at_word UnknownOperator op ∷ []) e)
    (operator_unused w op) (sym (append-nil log.findings.items)) refl

pub operator_unknown : (w : World) (old new : Log) (op : Word) → is_operator op.text ≡ false →
    new.findings.items ≡ old.findings.items ++ at_word UnknownOperator op ∷ [] → new.uses.items ≡ old.uses.items →
    Grows w old new (OperatorUse op ∷ [])
operator_unknown w old new op e found used =
    grows_one (OperatorUse op) (at_word UnknownOperator op ∷ [])
    (operator_faults w op ∙ ap (λ b. if b then [] else at_word UnknownOperator op ∷ []) e)
    (operator_unused w op) found used
