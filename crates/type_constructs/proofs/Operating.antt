-- Where operations stop.
use Rattle.std.proofs.Common.{◌≡◌, List, [], ◌∷◌, ◌++◌, length, refl, sym, ap, ◌∙◌, subst, append_assoc}
use Rattle.std.specs.Prelude.{replicate}
use Rattle.elm_base.specs.declared.position.Pos.{Pos}
use Rattle.elm_canon.specs.Tree.{Expr, Strict, Op, TupleOf, ListOf, Build, RecordOf, Negate, Binary, exprs_of}
use Rattle.type_items.specs.Items.{Place, child, Wanted, at, children, Item, Same, lack_items, class_items}
use Rattle.type_items.specs.Scopes.{Scope}
use Rattle.type_items.specs.Patterns.{shape_items, open_record}
use Rattle.type_items.specs.Operations.{Plan, plan, in_turn, operator_class}
use Rattle.type_items.specs.Expressions.{items, each_items, part_items}
use Rattle.type_store.specs.Store.{Store}
use Rattle.type_walks.specs.Regions.{below}
use Rattle.type_walks.specs.Links.{Links}
use Rattle.type_walks.specs.Walks.{Around}
use Rattle.type_constructs.specs.Failing.{Bad, Fails}
use Rattle.type_constructs.proofs.Spots.{Here, Child, Itself, Below, Tops, Deep, Nowhere, In}
use Rattle.type_constructs.proofs.Sizes.{class_sizes, lack_sizes, shape_sizes}
use Rattle.type_constructs.proofs.Running.{plain}
use Rattle.type_constructs.proofs.Walking.{count_each, length_children, length_replicate, parts_in_turn}
use Rattle.type_constructs.proofs.Stops.{stuck, ends, past, stopped}
use Rattle.type_constructs.specs.Operations.{FailsTuple, FailsTupleParts, FailsList, FailsListParts, FailsBuildShape, FailsBuild, FailsBuildParts, FailsRecord, FailsRecordParts, FailsAccessLack, FailsAccessed, FailsAccess, FailsUpdated, FailsUpdateLack, FailsUpdate, FailsUpdateParts, FailsNegate, FailsNegated, FailsBinaryClass, FailsBinary, FailsBinaryLeft, FailsBinaryRight}

module _ (a : Around) (op : Op) (es : List Expr) (scope : Scope) (here : Pos) (q : Place) (w : Wanted) (s s' : Store) (links : Links) (bad : Bad)
    (before : List Item) (ts : List Wanted) (is : plan op (length es) scope here q w ≡ in_turn before ts) (count : length es ≡ length ts) where
  turned_fails : Fails a s links (below q) (before ++ each_items (exprs_of es) scope here (child q 0) 0 ts) bad s'
      → Fails a s links (below q) (items (Strict op (exprs_of es)) scope here q w) bad s'
  turned_fails h =
      subst (λ n. Fails a s links (below q) (part_items (exprs_of es) (plan op n scope here q w) scope here (child q 0)) bad s')
      (sym (count_each es))
      (subst (λ (x : Plan). Fails a s links (below q) (part_items (exprs_of es) x scope here (child q 0)) bad s') (sym is)
      (subst (λ l. Fails a s links (below q) l bad s') (sym (parts_in_turn es before ts scope here (child q 0) count)) h))

pub fails_tuple : FailsTuple
fails_tuple a es scope here q w s s1 s2 s' links vs v bad count0 p0 p1 fails =
    turned_fails a TupleOf es scope here q w s s' links bad _ (children (child q 0) (length es)) refl (sym (length_children (child q 0) 0 (length es)))
    (stopped refl
    (past (In (Child Here 0) (Tops 0 (length vs))) refl (plain tt p0.walk)
    (past Nowhere refl (plain tt p1.walk)
    (stuck Nowhere _ fails))))

pub fails_tuple_parts : FailsTupleParts
fails_tuple_parts a es scope here q w s s1 s2 s3 s' links vs v bad count0 p0 p1 p2 fails =
    turned_fails a TupleOf es scope here q w s s' links bad _ (children (child q 0) (length es)) refl (sym (length_children (child q 0) 0 (length es)))
    (stopped refl
    (past (In (Child Here 0) (Tops 0 (length vs))) refl (plain tt p0.walk)
    (past Nowhere refl (plain tt p1.walk)
    (past Nowhere refl (plain (refl, tt) p2)
    (ends (In (Child Here 0) (Deep 0 (length es))) fails)))))

pub fails_list : FailsList
fails_list a es scope here q w s s1 s2 s' links item v bad p0 p1 fails =
    turned_fails a ListOf es scope here q w s s' links bad _ (replicate (length es) (at (child q 1))) refl (sym (length_replicate (length es) (at (child q 1))))
    (stopped refl
    (past (In (Child Here 1) Itself) refl (plain tt p0)
    (past Nowhere refl (plain tt p1.walk)
    (stuck Nowhere _ fails))))

pub fails_list_parts : FailsListParts
fails_list_parts a es scope here q w s s1 s2 s3 s' links item v bad p0 p1 p2 fails =
    turned_fails a ListOf es scope here q w s s' links bad _ (replicate (length es) (at (child q 1))) refl (sym (length_replicate (length es) (at (child q 1))))
    (stopped refl
    (past (In (Child Here 1) Itself) refl (plain tt p0)
    (past Nowhere refl (plain tt p1.walk)
    (past Nowhere refl (plain (refl, tt) p2)
    (ends (In (Child Here 0) (Deep 0 (length es))) fails)))))

pub fails_build_shape : FailsBuildShape
fails_build_shape a pos u c es scope here q w s s1 s' links vs bad count0 p0 fails =
    turned_fails a (Build pos u c) es scope here q w s s' links bad _ (children (child q 0) (length es)) refl (sym (length_children (child q 0) 0 (length es)))
    (subst (λ l. Fails a s links (below q) l bad s')
    (sym (append_assoc (shape_items u c scope.known pos (child q 1)) _ (each_items (exprs_of es) scope here (child q 0) 0 (children (child q 0) (length es)))))
    (stopped refl
    (past (In (Child Here 0) (Tops 0 (length vs))) refl (plain tt p0.walk)
    (stuck (In (Child Here 1) Below) _ fails))))

pub fails_build : FailsBuild
fails_build a pos u c es scope here q w s s1 s2 s3 s4 s' links vs parts result is wanted bad count0 p0 p1 p2 p3 fails =
    turned_fails a (Build pos u c) es scope here q w s s' links bad _ (children (child q 0) (length es)) refl (sym (length_children (child q 0) 0 (length es)))
    (subst (λ l. Fails a s links (below q) l bad s')
    (sym (append_assoc (shape_items u c scope.known pos (child q 1)) _ (each_items (exprs_of es) scope here (child q 0) 0 (children (child q 0) (length es)))))
    (stopped refl
    (past (In (Child Here 0) (Tops 0 (length vs))) refl (plain tt p0.walk)
    (past (In (Child Here 1) Below) refl (plain (shape_sizes u c scope.known pos (child q 1)) p1.walk)
    (past Nowhere refl (plain tt p2.walk)
    (past Nowhere refl (plain tt p3.walk)
    (stuck Nowhere _ fails)))))))

pub fails_build_parts : FailsBuildParts
fails_build_parts a pos u c es scope here q w s s1 s2 s3 s4 s5 s' links vs parts result is wanted bad count0 p0 p1 p2 p3 p4 fails =
    turned_fails a (Build pos u c) es scope here q w s s' links bad _ (children (child q 0) (length es)) refl (sym (length_children (child q 0) 0 (length es)))
    (subst (λ l. Fails a s links (below q) l bad s')
    (sym (append_assoc (shape_items u c scope.known pos (child q 1)) _ (each_items (exprs_of es) scope here (child q 0) 0 (children (child q 0) (length es)))))
    (stopped refl
    (past (In (Child Here 0) (Tops 0 (length vs))) refl (plain tt p0.walk)
    (past (In (Child Here 1) Below) refl (plain (shape_sizes u c scope.known pos (child q 1)) p1.walk)
    (past Nowhere refl (plain tt p2.walk)
    (past Nowhere refl (plain tt p3.walk)
    (past Nowhere refl (plain (refl, tt) p4)
    (ends (In (Child Here 0) (Deep 0 (length es))) fails))))))))

pub fails_record : FailsRecord
fails_record a xs es scope here q w s s1 s2 s' links vs v bad fields count1 p0 p1 fails =
    turned_fails a (RecordOf xs) es scope here q w s s' links bad _ (children (child q 0) (length xs)) refl (fields ∙ sym (length_children (child q 0) 0 (length xs)))
    (stopped refl
    (past (In (Child Here 0) (Tops 0 (length vs))) refl (plain tt p0.walk)
    (past Nowhere refl (plain tt p1.walk)
    (stuck Nowhere _ fails))))

pub fails_record_parts : FailsRecordParts
fails_record_parts a xs es scope here q w s s1 s2 s3 s' links vs v bad fields count1 p0 p1 p2 fails =
    turned_fails a (RecordOf xs) es scope here q w s s' links bad _ (children (child q 0) (length xs)) refl (fields ∙ sym (length_children (child q 0) 0 (length xs)))
    (stopped refl
    (past (In (Child Here 0) (Tops 0 (length vs))) refl (plain tt p0.walk)
    (past Nowhere refl (plain tt p1.walk)
    (past Nowhere refl (plain (refl, tt) p2)
    (ends (In (Child Here 0) (Deep 0 (length es))) fails)))))

pub fails_access_lack : FailsAccessLack
fails_access_lack a x e scope here q w s s1 s' links rest bad p0 fails =
    stopped refl
    (past (In (Child Here 1) Itself) refl (plain tt p0)
    (stuck Nowhere _ fails))

pub fails_accessed : FailsAccessed
fails_accessed a x e scope here q w s s1 s2 s3 s4 s' links rest field v bad p0 p1 p2 p3 fails =
    stopped refl
    (past (In (Child Here 1) Itself) refl (plain tt p0)
    (past Nowhere refl (plain (refl, tt) p1)
    (past (In (Child (Child Here 2) 0) Itself) refl (plain tt p2)
    (past Nowhere refl (plain tt p3.walk)
    (stuck (In (Child (Child Here 0) 0) Below) _ fails)))))

pub fails_access : FailsAccess
fails_access a x e scope here q w s s1 s2 s3 s4 s5 s' links rest field v bad p0 p1 p2 p3 p4 fails =
    stopped refl
    (past (In (Child Here 1) Itself) refl (plain tt p0)
    (past Nowhere refl (plain (refl, tt) p1)
    (past (In (Child (Child Here 2) 0) Itself) refl (plain tt p2)
    (past Nowhere refl (plain tt p3.walk)
    (past (In (Child (Child Here 0) 0) Below) refl p4
    (ends Nowhere fails))))))

pub fails_updated : FailsUpdated
fails_updated a xs e es scope here q w s s' links vs bad fields count1 fails =
    subst (λ l. Fails a s links (below q) l bad s')
    (ap (λ l. items e scope here (child (child q 0) 0) w ++ l)
    (sym (append_assoc (lack_items here (at (child q 1)) xs) (Same here (open_record xs (child q 2) (at (child q 1))) w ∷ [])
    (each_items (exprs_of es) scope here (child q 0) 1 (children (child q 2) (length xs)) ++ []))))
    (stopped refl
    (stuck (In (Child (Child Here 0) 0) Below) _ fails))

pub fails_update_lack : FailsUpdateLack
fails_update_lack a xs e es scope here q w s s1 s2 s' links rest vs bad fields count1 p0 p1 fails =
    subst (λ l. Fails a s links (below q) l bad s')
    (ap (λ l. items e scope here (child (child q 0) 0) w ++ l)
    (sym (append_assoc (lack_items here (at (child q 1)) xs) (Same here (open_record xs (child q 2) (at (child q 1))) w ∷ [])
    (each_items (exprs_of es) scope here (child q 0) 1 (children (child q 2) (length xs)) ++ []))))
    (stopped refl
    (past (In (Child (Child Here 0) 0) Below) refl p0
    (past (In (Child Here 1) Itself) refl (plain tt p1)
    (stuck Nowhere _ fails))))

pub fails_update : FailsUpdate
fails_update a xs e es scope here q w s s1 s2 s3 s4 s5 s' links rest v vs bad fields count1 p0 p1 p2 p3 p4 fails =
    subst (λ l. Fails a s links (below q) l bad s')
    (ap (λ l. items e scope here (child (child q 0) 0) w ++ l)
    (sym (append_assoc (lack_items here (at (child q 1)) xs) (Same here (open_record xs (child q 2) (at (child q 1))) w ∷ [])
    (each_items (exprs_of es) scope here (child q 0) 1 (children (child q 2) (length xs)) ++ []))))
    (stopped refl
    (past (In (Child (Child Here 0) 0) Below) refl p0
    (past (In (Child Here 1) Itself) refl (plain tt p1)
    (past Nowhere refl (plain (lack_sizes here (at (child q 1)) xs) p2)
    (past (In (Child Here 2) (Tops 0 (length vs))) refl (plain tt p3.walk)
    (past Nowhere refl (plain tt p4.walk)
    (stuck Nowhere _ fails)))))))

pub fails_update_parts : FailsUpdateParts
fails_update_parts a xs e es scope here q w s s1 s2 s3 s4 s5 s6 s' links rest v vs bad fields count1 p0 p1 p2 p3 p4 p5 fails =
    subst (λ l. Fails a s links (below q) l bad s')
    (ap (λ l. items e scope here (child (child q 0) 0) w ++ l)
    (sym (append_assoc (lack_items here (at (child q 1)) xs) (Same here (open_record xs (child q 2) (at (child q 1))) w ∷ [])
    (each_items (exprs_of es) scope here (child q 0) 1 (children (child q 2) (length xs)) ++ []))))
    (stopped refl
    (past (In (Child (Child Here 0) 0) Below) refl p0
    (past (In (Child Here 1) Itself) refl (plain tt p1)
    (past Nowhere refl (plain (lack_sizes here (at (child q 1)) xs) p2)
    (past (In (Child Here 2) (Tops 0 (length vs))) refl (plain tt p3.walk)
    (past Nowhere refl (plain tt p4.walk)
    (past Nowhere refl (plain (refl, tt) p5)
    (stuck (In (Child Here 0) (Deep 1 (length es))) _ fails))))))))

pub fails_negate : FailsNegate
fails_negate a e scope here q w s s' links bad fails =
    turned_fails a Negate (e ∷ []) scope here q w s s' links bad _ (w ∷ []) refl refl
    (stopped refl
    (stuck Nowhere _ fails))

pub fails_negated : FailsNegated
fails_negated a e scope here q w s u s' links bad p0 fails =
    turned_fails a Negate (e ∷ []) scope here q w s s' links bad _ (w ∷ []) refl refl
    (stopped refl
    (past Nowhere refl (plain (refl, tt) p0)
    (stuck (In (Child (Child Here 0) 0) Below) _ fails)))

pub fails_binary_class : FailsBinaryClass
fails_binary_class a pos op x y scope here q w s s1 s2 s' links vs v bad count0 p0 p1 fails =
    turned_fails a (Binary pos op) (x ∷ y ∷ []) scope here q w s s' links bad _ (children (child q 0) 2) refl refl
    (subst (λ l. Fails a s links (below q) l bad s')
    (sym (append_assoc (class_items pos (at (child q 1)) (operator_class op)) _ (each_items (exprs_of (x ∷ y ∷ [])) scope here (child q 0) 0 (children (child q 0) 2))))
    (stopped refl
    (past (In (Child Here 0) (Tops 0 (length vs))) refl (plain tt p0.walk)
    (past (In (Child Here 1) Itself) refl (plain tt p1)
    (stuck Nowhere _ fails)))))

pub fails_binary : FailsBinary
fails_binary a pos op x y scope here q w s s1 s2 s3 s4 s5 s' links vs v is wanted bad count0 p0 p1 p2 p3 p4 fails =
    turned_fails a (Binary pos op) (x ∷ y ∷ []) scope here q w s s' links bad _ (children (child q 0) 2) refl refl
    (subst (λ l. Fails a s links (below q) l bad s')
    (sym (append_assoc (class_items pos (at (child q 1)) (operator_class op)) _ (each_items (exprs_of (x ∷ y ∷ [])) scope here (child q 0) 0 (children (child q 0) 2))))
    (stopped refl
    (past (In (Child Here 0) (Tops 0 (length vs))) refl (plain tt p0.walk)
    (past (In (Child Here 1) Itself) refl (plain tt p1)
    (past Nowhere refl (plain (class_sizes pos (at (child q 1)) (operator_class op)) p2)
    (past Nowhere refl (plain tt p3.walk)
    (past Nowhere refl (plain tt p4.walk)
    (stuck Nowhere _ fails))))))))

pub fails_binary_left : FailsBinaryLeft
fails_binary_left a pos op x y scope here q w s s1 s2 s3 s4 s5 s6 s' links vs v is wanted bad count0 p0 p1 p2 p3 p4 p5 fails =
    turned_fails a (Binary pos op) (x ∷ y ∷ []) scope here q w s s' links bad _ (children (child q 0) 2) refl refl
    (subst (λ l. Fails a s links (below q) l bad s')
    (sym (append_assoc (class_items pos (at (child q 1)) (operator_class op)) _ (each_items (exprs_of (x ∷ y ∷ [])) scope here (child q 0) 0 (children (child q 0) 2))))
    (stopped refl
    (past (In (Child Here 0) (Tops 0 (length vs))) refl (plain tt p0.walk)
    (past (In (Child Here 1) Itself) refl (plain tt p1)
    (past Nowhere refl (plain (class_sizes pos (at (child q 1)) (operator_class op)) p2)
    (past Nowhere refl (plain tt p3.walk)
    (past Nowhere refl (plain tt p4.walk)
    (past Nowhere refl (plain (refl, tt) p5)
    (stuck (In (Child (Child Here 0) 0) Below) _ fails)))))))))

pub fails_binary_right : FailsBinaryRight
fails_binary_right a pos op x y scope here q w s s1 s2 s3 s4 s5 s6 s7 s' links vs v is wanted bad count0 p0 p1 p2 p3 p4 p5 p6 fails =
    turned_fails a (Binary pos op) (x ∷ y ∷ []) scope here q w s s' links bad _ (children (child q 0) 2) refl refl
    (subst (λ l. Fails a s links (below q) l bad s')
    (sym (append_assoc (class_items pos (at (child q 1)) (operator_class op)) _ (each_items (exprs_of (x ∷ y ∷ [])) scope here (child q 0) 0 (children (child q 0) 2))))
    (stopped refl
    (past (In (Child Here 0) (Tops 0 (length vs))) refl (plain tt p0.walk)
    (past (In (Child Here 1) Itself) refl (plain tt p1)
    (past Nowhere refl (plain (class_sizes pos (at (child q 1)) (operator_class op)) p2)
    (past Nowhere refl (plain tt p3.walk)
    (past Nowhere refl (plain tt p4.walk)
    (past Nowhere refl (plain (refl, tt) p5)
    (past (In (Child (Child Here 0) 0) Below) refl p6
    (stuck (In (Child (Child Here 0) 1) Below) _ fails))))))))))
