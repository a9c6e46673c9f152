use native.Mathlib.Omega.{arith}
use mathlib.Core.Path.{refl, sym, ◌∙◌}
use Rattle.records.proofs.ContextsRead.{context_within}
use Rattle.order.proofs.Judging.{left_alone, leaves_as, missing, wrong_kind, too_often, no_position, all_judged}
use Rattle.order.proofs.order.judge.Goals as goal

pub returns-then-not-present : goal.returns-then-not-present
returns-then-not-present c = left_alone (missing _ _ _ _ _ _ (sym (c.present.ensures _ _) ∙ c.if-not-present.true)) refl

pub kinds_ok-requires : goal.kinds_ok-requires
kinds_ok-requires c =
    let x = context_within _ _ c.requires.0 in
    (x.1, x.0, λ b. sym (c.present.ensures _ b) ∙ c.if-not-present.false)

pub returns-then-not-kinds_ok : goal.returns-then-not-kinds_ok
returns-then-not-kinds_ok c = left_alone (wrong_kind _ _ _ _ _ _ (sym (c.present.ensures _ _) ∙ c.if-not-present.false) (sym (c.kinds_ok.ensures _) ∙ c.if-not-kinds_ok.true)) refl

pub returns-then-not-count_ok : goal.returns-then-not-count_ok
returns-then-not-count_ok c = left_alone (too_often _ _ _ _ _ _ (sym (c.present.ensures _ _) ∙ c.if-not-present.false) (sym (c.kinds_ok.ensures _) ∙ c.if-not-kinds_ok.false) (sym c.count_ok.ensures ∙ c.if-not-count_ok.true)) refl

pub asked-requires : goal.asked-requires
asked-requires c =
    let x = context_within _ _ c.requires.0 in
    (x.1, x.0, λ b. sym (c.present.ensures _ b) ∙ c.if-not-present.false)

pub returns-then-positions-asked : goal.returns-then-positions-asked
returns-then-positions-asked c =
    let e = c.asked.ensures c.args.bindings.now in
    left_alone (no_position _ _ _ _ _ _ (sym (c.present.ensures _ _) ∙ c.if-not-present.false) (sym (c.kinds_ok.ensures _) ∙ c.if-not-kinds_ok.false) (sym c.count_ok.ensures ∙ c.if-not-count_ok.false) (omega (arith, c.if-positions-asked.true))) refl

pub write_order-requires : goal.write_order-requires
write_order-requires c =
    let e = c.asked.ensures c.args.bindings.now in
    record {
      context_good = c.requires.0;
      bindings_good = c.requires.1;
      there = sym (c.present.ensures _ _) ∙ c.if-not-present.false;
      placed = omega (arith, c.if-positions-asked.false);
      supported = c.requires.2;
    }

pub returns : goal.returns
returns c =
    let e = c.asked.ensures c.args.bindings.now in
    leaves_as (all_judged _ _ _ _ _ _ (sym (c.present.ensures _ _) ∙ c.if-not-present.false) (sym (c.kinds_ok.ensures _) ∙ c.if-not-kinds_ok.false) (sym c.count_ok.ensures ∙ c.if-not-count_ok.false) (omega (arith, c.if-positions-asked.false))) c.write_order.ensures
