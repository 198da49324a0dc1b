use Rattle.std.proofs.Common.{arith, Some, ◌∙◌, refl, ap, sym}
use Rattle.beldi_table.specs.{MapTable.rows_of, FailingTable.counted}
use Rattle.beldi_table.proofs.failing_table.FailingTableTable.act.Goals as goal

pub returns-then-fails : goal.returns-then-fails
returns-then-fails c =
    let old = c.args.self.now in
    let fails = sym c.fails.ensures.told ∙ c.if-fails.true in
    let rose = c.fails.ensures.counts.faults ∙ ap (λ b. counted b old.faults) fails in (
      (
        refl,
        λ _. tt,
        record {
          rows = ap rows_of c.fails.ensures.table;
          cause = record { later = c.fails.ensures.later; failed = λ _. omega (arith, rose) };
          room = ap (λ t. t.room) c.fails.ensures.table;
          calls = ap (λ n. Some n) c.fails.ensures.counts.calls;
        },
      ),
      record { acts = tt; told = (λ _. fails, λ _. refl) },
    )
