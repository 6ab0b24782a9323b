-- Interfaces and their texts.
use Rattle.std.proofs.Common.{◌≡◌, ℕ, List, Some, None, refl, sym, ap, ◌∙◌}
use Rattle.elm_type.specs.Spelling.{spell}
use Rattle.interface.specs.Formats.{whole}
use Rattle.interface.specs.Steps.{steps_of, steps_of_all, built_one, built_all}
use Rattle.interface.specs.Shapes.{type_at}
use Rattle.interface.specs.Interface.{Interface}
use Rattle.interface.specs.Text.{flag_format, name_format, names_format, count_format, kinds_format, nodes_format, type_format}
use Rattle.interface.specs.Text.{scheme_format, value_format, values_format, steps_format, annotation_format, union_format}
use Rattle.interface.specs.Text.{annotations_format, fields_format, union_declaration_format, unions_format, text_of, Fits}
use Rattle.interface.specs.Text.{alias_declaration_format, aliases_format, interface_format, OneText}
use Rattle.interface.proofs.Laws.{Lawful, lawful_pair, lawful_made, lawful_checked, lawful_list, whole_takes, whole_again, some_is}
use Rattle.interface.proofs.Written.{lawful_flag, lawful_name, lawful_names, lawful_count, lawful_kinds, lawful_nodes}
use Rattle.interface.proofs.Written.{lawful_steps, lawful_union}
use Rattle.interface.proofs.Building.{one_back, one_forth, all_back, all_forth}
use Rattle.interface.proofs.Shaping.{type_back, type_forth}

lawful_type : Lawful type_format
unfolding type_format
lawful_type = lawful_checked nodes_format type_at spell lawful_nodes type_back type_forth

lawful_scheme : Lawful scheme_format
unfolding scheme_format
lawful_scheme = lawful_made _ _ _ (lawful_pair type_format kinds_format lawful_type lawful_kinds) (λ p. refl) (λ s. refl)

lawful_value : Lawful value_format
unfolding value_format
lawful_value = lawful_made _ _ _ (lawful_pair name_format _ lawful_name (lawful_pair count_format scheme_format lawful_count lawful_scheme)) (λ p. refl) (λ v. refl)

lawful_values : Lawful values_format
unfolding values_format
lawful_values = lawful_list count_format value_format lawful_count lawful_value

lawful_annotation : Lawful annotation_format
unfolding annotation_format
lawful_annotation = lawful_checked steps_format built_one steps_of lawful_steps one_back one_forth

lawful_annotations : Lawful annotations_format
unfolding annotations_format
lawful_annotations = lawful_checked steps_format built_all steps_of_all lawful_steps all_back all_forth

lawful_fields : Lawful fields_format
unfolding fields_format
lawful_fields = lawful_list count_format annotations_format lawful_count lawful_annotations

lawful_union_declaration : Lawful union_declaration_format
unfolding union_declaration_format
lawful_union_declaration =
    lawful_made _ _ _ (lawful_pair name_format _ lawful_name (lawful_pair union_format _ lawful_union (lawful_pair names_format fields_format lawful_names lawful_fields)))
    (λ p. refl) (λ u. refl)

lawful_unions : Lawful unions_format
unfolding unions_format
lawful_unions = lawful_list count_format union_declaration_format lawful_count lawful_union_declaration

lawful_alias_declaration : Lawful alias_declaration_format
unfolding alias_declaration_format
lawful_alias_declaration =
    lawful_made _ _ _ (lawful_pair name_format _ lawful_name (lawful_pair names_format _ lawful_names (lawful_pair annotation_format flag_format lawful_annotation lawful_flag)))
    (λ p. refl) (λ a. refl)

lawful_aliases : Lawful aliases_format
unfolding aliases_format
lawful_aliases = lawful_list count_format alias_declaration_format lawful_count lawful_alias_declaration

pub lawful_interface : Lawful interface_format
unfolding interface_format
lawful_interface = lawful_made _ _ _ (lawful_pair values_format _ lawful_values (lawful_pair unions_format aliases_format lawful_unions lawful_aliases)) (λ p. refl) (λ i. refl)

-- what was written is read
pub text_again : (i : Interface) → Fits i → whole interface_format (text_of i) ≡ Some i
unfolding text_of
text_again i fits = whole_again interface_format lawful_interface i fits

-- what is read was written
pub text_read : (bytes : List ℕ) (i : Interface) → whole interface_format bytes ≡ Some i → (text_of i ≡ bytes) × Fits i
unfolding text_of
text_read bytes i e = whole_takes interface_format lawful_interface bytes i e

pub one_text : OneText
one_text i j f g e = some_is i j (sym (text_again i f) ∙ ap (whole interface_format) e ∙ text_again j g)

-- where nothing is read, no interface has the bytes
pub none_has : (bytes : List ℕ) → whole interface_format bytes ≡ None → (i : Interface) → Fits i → text_of i ≡ bytes → ⊥
none_has bytes e i fits is = let h : whole interface_format bytes ≡ Some i = ap (whole interface_format) (sym is) ∙ text_again i fits in absurd (cc)
