use Rattle.std.proofs.Common.{rules, arith, refl, sym, ◌∙◌, ap}
use Rattle.beldi_row.{specs.KeyOrder.key_total, specs.KeyOrder.key_exact, specs.Table.first_above, proofs.TableRows.entries_rows}
use Rattle.beldi_table.proofs.Next.{next_is}
use Rattle.beldi_table.proofs.map_table.MapTableTable.next.Goals as goal

pub returns : goal.returns
returns c =
    let es = c.args.self.now.rows.entries in
    let b = c.range.ensures.between tt in
    let s = c.next.ensures.steps in (
      (
        refl,
        λ _. tt,
        record {
          rows = (refl, next_is c.args.after.now es c.range.result c.next.new.self c.next.result b s ∙ ap (first_above c.args.after.now) (sym (entries_rows key_total key_exact es c.range.ensures.ordered)));
          fits = tt;
          cause = record { later = omega arith; failed = search rules };
          room = refl;
          calls = refl;
        },
      ),
      record { went = tt },
    )
