use Rattle.beldi_value.proofs.Names.{IsRecord, datum_of, fields_view, subst, sym}
use Rattle.beldi_value.proofs.Fields.{set_record, one_changed, one_more}
use Rattle.beldi_value.proofs.parts.set_in.Goals as goal

pub returns-in-Ok-clause-ok : goal.returns-in-Ok-clause-ok
returns-in-Ok-clause-ok c =
    one_changed c.as_slice.result.now c.args.fields.now.items c.args.key c.args.value c.in-Ok.place c.as_slice.ensures.value c.in-Ok.ensures

pub returns-in-Ok-clause-record : goal.returns-in-Ok-clause-record
returns-in-Ok-clause-record c =
    let fs = c.args.fields.now.items in
    let changed = one_changed c.as_slice.result.now fs c.args.key c.args.value c.in-Ok.place c.as_slice.ensures.value c.in-Ok.ensures in
    subst IsRecord (sym changed) (set_record c.args.key (datum_of c.args.value) (fields_view fs) c.requires)

pub returns-in_ok-insert-in-Err-clause-ok : goal.returns-in_ok-insert-in-Err-clause-ok
returns-in_ok-insert-in-Err-clause-ok c =
    one_more c.as_slice.result.now c.args.fields.now.items c.insert.new.self.items c.args.key c.args.value c.in-Err.place c.as_slice.ensures.value c.in_ok-insert-in-Err.ensures.items c.in-Err.ensures

pub returns-in_ok-insert-in-Err-clause-record : goal.returns-in_ok-insert-in-Err-clause-record
returns-in_ok-insert-in-Err-clause-record c =
    let fs = c.args.fields.now.items in
    let more = one_more c.as_slice.result.now fs c.insert.new.self.items c.args.key c.args.value c.in-Err.place c.as_slice.ensures.value c.in_ok-insert-in-Err.ensures.items c.in-Err.ensures in
    subst IsRecord (sym more) (set_record c.args.key (datum_of c.args.value) (fields_view fs) c.requires)
