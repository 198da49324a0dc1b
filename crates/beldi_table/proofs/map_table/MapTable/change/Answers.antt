use Rattle.std.specs.Option.{option_copied_mut}
use Rattle.std.specs.FinMap as map
use Rattle.std.proofs.Common.{rules, refl, sym, ◌∙◌, ap}
use Rattle.beldi_row.{specs.KeyOrder.key_total, specs.KeyOrder.key_exact, proofs.TableRows.get_rows}
use Rattle.beldi_table.{specs.MapTable.rows_of, proofs.Changes.applied, proofs.Changes.unapplied, proofs.Changes.looks, proofs.Indexes.row_there, proofs.Indexes.not_acted}
use Rattle.beldi_table.proofs.map_table.MapTable.change.Goals as goal

pub invariant_of-self-in-Some : goal.invariant_of-self-in-Some
invariant_of-self-in-Some c =
    let old = c.args.self.now in
    let row = c.apply-change.new.row in record {
      indexed = row_there c.args.act c.args.now c.args.key.now c.in-Some.row.now row c.apply-change.result c.binds.result c.switches-switched.result old.rows (c.get_mut.follows.lender row) old.open_keys c.note_if.new.keys c.follow.new.keys
          c.binds.ensures c.switches-switched.ensures c.apply-change.ensures (sym c.get_mut.ensures.value ∙ ap option_copied_mut c.in-Some.is)
          old.indexed ((c.get_mut.follows.holds row).3 (search rules)).0 c.if-not-note_if.ensures c.follow.ensures;
    }

pub invariant_of-self : goal.invariant_of-self
invariant_of-self c =
    let old = c.args.self.now in
    let row = c.in-Some.row.now in record {
      indexed = not_acted c.args.key.now row old.rows (c.get_mut.follows.lender row) old.open_keys c.note_if.new.keys
          (sym c.get_mut.ensures.value ∙ ap option_copied_mut c.in-Some.is) old.indexed ((c.get_mut.follows.holds row).3 (search rules)).0 c.if-not-note_if.ensures;
    }

pub returns-then-not-note_if : goal.returns-then-not-note_if
returns-then-not-note_if c =
    let row = c.in-Some.row.now in record {
      tries = (
        unapplied c.args.key.now c.args.self.now.rows (c.get_mut.follows.lender row) row (sym c.get_mut.ensures.value ∙ ap option_copied_mut c.in-Some.is) ((c.get_mut.follows.holds row).3 (search rules)).0,
        refl,
      );
      room = refl;
    }

pub returns-else-not-note_if : goal.returns-else-not-note_if
returns-else-not-note_if c =
    let row = c.apply-change.new.row in record {
      tries = applied c.args.act c.args.now c.args.key.now c.args.self.now.room c.args.self.now.rows (c.get_mut.follows.lender row) c.in-Some.row.now row c.apply-change.result c.requires
          (sym c.get_mut.ensures.value ∙ ap option_copied_mut c.in-Some.is) ((c.get_mut.follows.holds row).3 (search rules)).0 c.apply-change.ensures;
      room = refl;
    }

pub returns-in-None-clause-tries : goal.returns-in-None-clause-tries
returns-in-None-clause-tries c = (
  refl,
  ap (λ rows. map.from_entries rows.entries) c.get_mut.follows.holds-at-none,
  get_rows key_total key_exact c.args.self.now.rows.entries c.args.key.now ∙ sym c.get_mut.ensures.value ∙ ap option_copied_mut c.in-None.is,
)

pub returns-in-Look-clause-tries : goal.returns-in-Look-clause-tries
returns-in-Look-clause-tries c = looks c.args.act c.args.now c.args.key.now c.args.self.now.room (rows_of c.args.self.now) c.in-Look.is
