use Rattle.std.proofs.Common.{sym}
use Rattle.infer_order.proofs.Standing.{function_titled, functions_titled, no_function, constant_titled}
use Rattle.infer_order.proofs.Standing.{constant_has_title, pattern_annotation, pattern_has_none}
use Rattle.infer_order.proofs.order.title_of.Goals as goal

pub returns-in-Some-clause-title : goal.returns-in-Some-clause-title
returns-in-Some-clause-title c d found =
    function_titled c.args.group.now c.in-Together.functions c.args.function c.in-Together.is c.deref.result.now
    c.deref.ensures.value c.in-Some.each.now
    c.in-Some.ensures.lookup.0 c.in-Some.ensures.lookup.1 d found

pub returns-in-Some-clause-kind : goal.returns-in-Some-clause-kind
returns-in-Some-clause-kind c d found =
    sym (functions_titled c.args.group.now c.in-Together.functions c.args.function c.in-Together.is c.deref.result.now
    c.deref.ensures.value)

pub returns-in-None-clause-title : goal.returns-in-None-clause-title
returns-in-None-clause-title c d found =
    absurd (no_function c.args.group.now c.in-Together.functions c.args.function c.in-Together.is c.deref.result.now
    c.deref.ensures.value
    c.in-None.ensures.lookup.0 d found)

pub returns-in-None-clause-kind : goal.returns-in-None-clause-kind
returns-in-None-clause-kind c d found =
    absurd (no_function c.args.group.now c.in-Together.functions c.args.function c.in-Together.is c.deref.result.now
    c.deref.ensures.value
    c.in-None.ensures.lookup.0 d found)

pub returns-in-Constant-clause-title : goal.returns-in-Constant-clause-title
returns-in-Constant-clause-title c d found =
    constant_titled c.args.group.now c.in-Constant.title c.in-Constant.field-1 c.args.function c.in-Constant.is d found

pub returns-in-Constant-clause-kind : goal.returns-in-Constant-clause-kind
returns-in-Constant-clause-kind c d found =
    sym (constant_has_title c.args.group.now c.in-Constant.title c.in-Constant.field-1 c.args.function c.in-Constant.is)

pub returns-in-Destructure-clause-title : goal.returns-in-Destructure-clause-title
returns-in-Destructure-clause-title c d found =
    pattern_annotation c.args.group.now c.in-Destructure.field-0 c.in-Destructure.field-1 c.args.function
    c.in-Destructure.is d found

pub returns-in-Destructure-clause-kind : goal.returns-in-Destructure-clause-kind
returns-in-Destructure-clause-kind c d found =
    sym (pattern_has_none c.args.group.now c.in-Destructure.field-0 c.in-Destructure.field-1 c.args.function
    c.in-Destructure.is)
