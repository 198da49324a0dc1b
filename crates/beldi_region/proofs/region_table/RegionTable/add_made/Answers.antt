use Rattle.std.proofs.Common.{arith, sym, ◌∙◌, refl}
use Rattle.beldi_table.{proofs.Changes.none_added, proofs.Changes.one_added, proofs.Changes.would_add}
use Rattle.beldi_region.{specs.RegionTable.rows_of, specs.Ids.ids_of, specs.Ids.place_of, proofs.Held.no_row, proofs.Held.len_is}
use Rattle.beldi_region.proofs.region_table.RegionTable.add_made.Goals as goal

pub returns-in-None-clause-rows : goal.returns-in-None-clause-rows
returns-in-None-clause-rows c =
    let t = c.args.self.now in
    none_added c.args.act c.args.now c.args.key t.room (rows_of t) (rows_of t) c.args.said
    refl (no_row t.region (ids_of t.index) c.args.key (place_of t.index c.args.spot) t.held c.requires.gap) (sym c.made.ensures ∙ c.in-None.is) c.requires.said

pub returns-then-live-self-clause-rows : goal.returns-then-live-self-clause-rows
returns-then-live-self-clause-rows c =
    let t = c.args.self.now in
    let long = len_is t.region (ids_of t.index) t.held.ordered in
    let real = c.len-live.ensures in (
      refl,
      record {
        more = would_add c.args.act c.args.now c.args.key (rows_of t) c.in-Some.row (no_row t.region (ids_of t.index) c.args.key (place_of t.index c.args.spot) t.held c.requires.gap) (sym c.made.ensures ∙ c.in-Some.is);
        filled = omega (arith, long, real);
        count = omega (arith, long, real);
        limit = refl;
      },
    )

pub returns-else-live-self-clause-rows : goal.returns-else-live-self-clause-rows
returns-else-live-self-clause-rows c =
    let t = c.args.self.now in
    let long = len_is t.region (ids_of t.index) t.held.ordered in
    let real = c.len-live.ensures in
    one_added c.args.act c.args.now c.args.key t.room (rows_of t) (rows_of c.put.new.self) c.in-Some.row c.args.said
    (no_row t.region (ids_of t.index) c.args.key (place_of t.index c.args.spot) t.held c.requires.gap) (sym c.made.ensures ∙ c.in-Some.is) c.requires.said
    c.put.ensures.rows
    (omega (arith, long, real))
