use Rattle.beldi_book.proofs.Names.{ap, ap₂, into_iter_items, into_iter_len, length, option_to_list, sym, woven, ◌++◌, ◌∙◌}
use Rattle.beldi_book.proofs.ReadPlaces.{at_end, one_place, one_less}
use Rattle.beldi_book.proofs.order.woven.Goals as goal

pub loop-reads-init : goal.loop-reads-init
loop-reads-init c =
    let places = c.into_iter-reads-iterator.ensures.into_iter_gives in
    let changes = c.into_iter-changes.ensures in
    record {
      all = ap₂ (λ xs r. xs ++ r) c.new-entries.ensures.items (ap₂ woven changes.rest places.0);
      changes = changes.len ∙ c.args.changes.ok.0 ∙ ap length (sym changes.rest);
      places = places.1 ∙ c.args.places.ok.0 ∙ ap length (sym places.0);
    }

pub returns : goal.returns
returns c = at_end _ _ _ _ _ c.loop-reads.invariant.all c.loop-reads.invariant.places c.in-None.ensures.steps.0

pub loop-reads-preserved : goal.loop-reads-preserved
loop-reads-preserved c =
    let so_far = c.loop-reads.invariant in
    let place = c.in-Some.ensures.steps in
    let next = c.next-in-loop-reads.ensures in
    let change = c.next-in-loop-reads.result in
    let old = into_iter_items c.loop-reads.changes in
    let new = into_iter_items c.next-in-loop-reads.new.self in
    let put = c.in_ok-push_next.ensures ∙ ap (λ xs. xs ++ option_to_list change) c.in_ok-move_to.ensures in
    let done = one_place c.loop-reads.entries.items c.in-Some.reads c.push_next.new.entries.items old new change (into_iter_len c.loop-reads.changes) (into_iter_len c.next-in-loop-reads.new.self)
    (into_iter_items c.loop-reads.reads-iterator) (into_iter_items c.next.new.self) (woven c.args.changes.items c.args.places.items) so_far.all place.0 so_far.changes next.items next.cases put in
    record {
      all = done.0;
      changes = done.1;
      places = one_less _ _ _ _ _ so_far.places place.0 place.1;
    }
