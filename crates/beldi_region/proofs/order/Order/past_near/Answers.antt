use Rattle.std.proofs.Common.{ap, sym, ◌∙◌}
use Rattle.std.specs.Ordering.{is_lt}
use Rattle.beldi_region.proofs.Near.{past_at_end, past_before_slot, gap_behind, behind_next}
use Rattle.beldi_region.proofs.order.Order.past_near.Goals as goal

pub returns-in_default-clause-past : goal.returns-in_default-clause-past
returns-in_default-clause-past c =
    past_at_end c.args.region.now _ c.args.key.now c.loop-left.spot c.loop-left.before c.loop-left.invariant.behind (sym c.in_default.ensures.slot)

pub returns-in_default-clause-gap : goal.returns-in_default-clause-gap
returns-in_default-clause-gap c =
    λ other.
    gap_behind c.args.region.now _ c.args.key.now c.loop-left.spot c.loop-left.before c.loop-left.invariant.behind (returns-in_default-clause-past c) (sym c.is_eq.ensures ∙ other)

pub returns-then-is_lt-2-clause-past : goal.returns-then-is_lt-2-clause-past
returns-then-is_lt-2-clause-past c =
    past_before_slot c.args.region.now _ c.args.key.now c.loop-left.spot c.loop-left.before c.loop-left.invariant.behind c.in-Some.id (sym c.in-Some.ensures.slot)
    (ap is_lt (sym c.side-behind.ensures) ∙ sym c.is_lt-in-loop-left.ensures ∙ c.if-is_lt-2.true)

pub returns-then-is_lt-2-clause-gap : goal.returns-then-is_lt-2-clause-gap
returns-then-is_lt-2-clause-gap c =
    λ other.
    gap_behind c.args.region.now _ c.args.key.now c.loop-left.spot c.loop-left.before c.loop-left.invariant.behind (returns-then-is_lt-2-clause-past c) (sym c.is_eq-then-is_lt-2.ensures ∙ other)

pub loop-left-preserved : goal.loop-left-preserved
loop-left-preserved c =
    record {
      behind =
          behind_next c.args.region.now _ c.args.key.now c.loop-left.spot c.loop-left.before c.loop-left.invariant.behind c.in-Some.next c.in-Some.id c.side-behind.result
          (sym c.in-Some.ensures.slot) (sym c.side-behind.ensures) (sym c.is_lt-in-loop-left.ensures ∙ c.if-is_lt-2.false) c.in-Some.ensures.spot c.in-Some.ensures.place;
    }
