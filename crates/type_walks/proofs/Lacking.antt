-- Fields that a variable is known to lack.
use Rattle.std.proofs.Common.{◌≡◌, ℕ, List, [], ◌∷◌, true, Option, Some, None, refl, ap, ◌∙◌}
use Rattle.std.specs.List.{All}
use Rattle.std.proofs.lemmas.List.Elements.{All-nil, All-cons, All-head}
use Rattle.elm_type.specs.Types.{Name}
use Rattle.elm_type.specs.Ground.{lacks, lacks_all}
use Rattle.type_store.specs.Store.{Store, field_names}
use Rattle.type_store.specs.Solutions.{Values, Lacks, MeetsAsk, Renames, constants_of, rest_value}
use Rattle.type_store.specs.Laws.{EachStoreCanFit}
use Rattle.type_store.specs.Steps.{rest_asks}
use Rattle.type_store.proofs.Lacking.{empty_lacks, lacks_part}
use Rattle.type_store.proofs.RowsMeet.{and_left, and_right, and_both}
use Rattle.type_walks.specs.TypeStepsLaws.{RowGoes, ClosedLacks, OpenLacks, LacksNone, LacksOneMore, StaysLacking}

pub closed_lacks : ClosedLacks
closed_lacks s fs = record { each = λ σ f. empty_lacks (field_names fs) }

pub open_lacks : OpenLacks
open_lacks s fs w xs known within = record { each = λ σ f. lacks_part (field_names fs) xs (σ.types w) within (known.each σ f) }

pub lacks_none : LacksNone
lacks_none s w = record { each = λ σ f. refl }

pub lacks_one_more : LacksOneMore
lacks_one_more s s' w xs x known added = record {
  each = λ σ f. (
      let r = added.back σ f (All-nil (MeetsAsk σ)) in
      and_both (lacks x (σ.types w)) (lacks_all xs (σ.types w)) (All-head (MeetsAsk σ) (Lacks w x) [] r.1) (known.each σ r.0));
}

pub stays_lacking : StaysLacking
stays_lacking a R list s s' w xs before after live walk known = record {
  each = λ σ f. (
      let r = walk.back σ f in
      ap (lacks_all xs) (r.agree.types w live) ∙ known.each r.values r.fit);
}

-- ---- no row clashes

lacks_met : (σ : Values) (w : ℕ) (xs : List Name) → lacks_all xs (σ.types w) ≡ true → All (MeetsAsk σ) (rest_asks (Some w) xs)
lacks_met σ w [] h = All-nil (MeetsAsk σ)
lacks_met σ w (x ∷ xs) h =
    All-cons (MeetsAsk σ) (Lacks w x) (rest_asks (Some w) xs) (and_left (lacks x (σ.types w)) (lacks_all xs (σ.types w)) h)
    (lacks_met σ w xs (and_right (lacks x (σ.types w)) (lacks_all xs (σ.types w)) h))

rest_met : (σ : Values) (end : Option ℕ) (xs : List Name) → lacks_all xs (rest_value σ.types end) ≡ true → All (MeetsAsk σ) (rest_asks end xs)
rest_met σ None xs h = All-nil (MeetsAsk σ)
rest_met σ (Some w) xs h = lacks_met σ w xs h

themselves : (s : Store) → Renames (constants_of s) (λ r. r)
themselves s = record { class = λ r. refl; lacks = λ r. refl; apart = λ r t a b e. e }

pub row_goes : EachStoreCanFit → RowGoes
row_goes can_fit s fs end shape known clash =
    let r = (can_fit s shape).some (λ x. x) (themselves s) in
    clash.never r.0 r.1 (rest_met r.0 end (field_names fs) (known.each r.0 r.1))
