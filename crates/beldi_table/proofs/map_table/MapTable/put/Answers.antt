use Rattle.std.proofs.Common.{false, ◌&&◌, subst, sym, ◌∙◌, ap}
use Rattle.beldi_row.{specs.KeyOrder.key_total, specs.KeyOrder.key_exact, specs.Table.is_open, proofs.TableRows.get_rows, proofs.TableRows.one_set}
use Rattle.beldi_table.{specs.Opened.Sets, proofs.Indexes.added, proofs.Indexes.not_added}
use Rattle.beldi_table.proofs.map_table.MapTable.put.Goals as goal

pub invariant_of-self-in-Ok-1 : goal.invariant_of-self-in-Ok-1
invariant_of-self-in-Ok-1 c =
    let old = c.args.self.now in record {
      indexed = added c.args.key c.args.row c.is_open-opens.result old.rows c.insert.new.self old.open_keys c.note_if.new.keys
          (c.is_open-opens.ensures ∙ ap (λ k. is_open k c.args.row) c.kind.ensures) (sym (get_rows key_total key_exact old.rows.entries c.args.key) ∙ c.requires)
          old.indexed c.in-Ok.ensures.updates.0 c.if-not-note_if.ensures;
    }

pub invariant_of-self-in-Err : goal.invariant_of-self-in-Err
invariant_of-self-in-Err c =
    let old = c.args.self.now in record {
      indexed = not_added c.args.key c.is_open-opens.result old.rows c.insert.new.self old.open_keys c.note_if.new.keys c.forget_if.new.keys
          c.in-Err.ensures.absent c.in-Err.ensures.err old.indexed c.if-not-note_if.ensures
          (subst (λ p. Sets p.0 (λ b. false && b) c.note_if.new.keys c.forget_if.new.keys) c.in-Err.ensures.value_returned c.forget_if.ensures);
    }

pub returns-in-Ok-clause-rows : goal.returns-in-Ok-clause-rows
returns-in-Ok-clause-rows c =
    one_set key_total key_exact c.args.self.now.rows.entries c.insert.new.self.entries c.args.key c.args.row c.in-Ok.ensures.updates.0
